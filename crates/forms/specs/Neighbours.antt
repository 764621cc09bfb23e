-- A relation between each digit of a form and the digit above it. Assumes nothing.
use Rattle.std.specs.Prelude.{List, [], ◌∷◌, ℤ, pos}

-- x stands above the top digit
abbrev pub Chain : (ℤ → ℤ → Type 0) → ℤ → List ℤ → Type 0
Chain R x [] = Unit {0}
Chain R x (y ∷ ys) = R x y × Chain R y ys

-- above the top digit stand zeros
abbrev pub Neighbours : (ℤ → ℤ → Type 0) → List ℤ → Type 0
Neighbours R ds = Chain R (pos 0) ds
