-- The last n digits of a list, with zeros before them where there are fewer. Assumes nothing.
use Rattle.std.specs.Prelude.{ℕ, Bool, false, not, ◌||◌, List, [], ◌∷◌, ◌++◌, length, take, drop, replicate, ◌==◌}

-- ds with n zeros before it is what falls out, and then the last n digits
abbrev pub fallen : ℕ → List ℕ → List ℕ
fallen n ds = take (length ds) (replicate n 0 ++ ds)

abbrev pub last_digits : ℕ → List ℕ → List ℕ
last_digits n ds = drop (length ds) (replicate n 0 ++ ds)

-- whether some digit is not 0
abbrev pub nonzero : List ℕ → Bool
nonzero [] = false
nonzero (d ∷ ds) = not (d == 0) || nonzero ds
