-- Plain digits with a sign, as digits of a form. Assumes nothing.
use Rattle.std.specs.Prelude.{ℕ, Bool, List, [], ◌∷◌, ℤ}
use Rattle.lowerings.specs.Tally.{signed_by}

-- plain digits, each with the sign
abbrev pub signed_digits : Bool → List ℕ → List ℤ
signed_digits m [] = []
signed_digits m (r ∷ rs) = signed_by m r ∷ signed_digits m rs
