-- Adding a digit to a form that has room for it. Assumes nothing.
use Rattle.std.specs.Prelude.{◌≡◌, ℕ, ◌<◌, ◌≤◌, Bool, List, length, ℤ, pos, slice_index_or, unsigned_abs}
use Rattle.std.specs.Int.Digits.{AllBelowBase}
use Rattle.forms.specs.Form.{InRange}
use Rattle.digits.specs.Signed.{sided_number}

-- a form with a 0 in front, a digit for another place, and an area of just its places
pub record Addable (B : ℕ) (f : List ℤ) (index : ℕ) (d : ℤ) (area : List ℕ) : Type 0 where
  pub few : length f ≤ 121
  pub some : 1 ≤ index
  pub inside : index < length f
  pub range : InRange B f
  pub top : slice_index_or f 0 (pos 0) ≡ pos 0
  pub digit : unsigned_abs d < B
  pub places : length area ≡ length f

-- z in plain digits with a sign, in n places
pub record Written (B : ℕ) (z : ℤ) (n : ℕ) (negative : Bool) (wide : List ℕ) : Type 0 where
  pub places : length wide ≡ n
  pub plain : AllBelowBase B wide
  pub worth : sided_number B negative wide ≡ z
