-- The three letters: the measure that each weighs by, and the form that it gives a number. Assumes nothing.
use Rattle.std.specs.Prelude.{◌≡◌, ℕ, List, ℤ, unsigned_abs}
use Rattle.std.specs.Int.Digits.{number_from_digits, AllBelowBase}
use Rattle.forms.specs.declared.Letter.{Letter}
use Rattle.forms.specs.declared.Letter.TheVariants as letter
use Rattle.forms.specs.declared.Measure.{Measure}
use Rattle.forms.specs.declared.Measure.TheVariants.{Count, Square}
use Rattle.forms.specs.Form.{Represents, signed}
use Rattle.forms.specs.Weight.{cost}
use Rattle.forms.specs.Nonadjacent.{Nonadjacent}
use Rattle.forms.specs.Balanced.{Balanced}
use Rattle.forms.specs.Recoded.{rule_g, rule_b, recoded}
use Rattle.forms.specs.Star.{star}

abbrev pub measure : Letter → Measure
measure letter.G = Count
measure letter.B = Square
measure letter.L = Count

-- what a digit costs under a letter
abbrev pub cost_of : Letter → ℕ → ℕ
cost_of l = cost (measure l)

-- f is the star form of z: made of plain digits of |z|, every digit negated below 0
pub record StarForm (B : ℕ) (z : ℤ) (f : List ℤ) : Type 0 where
  pub digits : List ℕ
  pub plain : AllBelowBase B digits
  pub writes : number_from_digits B digits ≡ unsigned_abs z
  pub made : f ≡ signed z (star B digits)

-- f is the form that the letter gives z
abbrev pub Given : Letter → ℕ → ℤ → List ℤ → Type 0
Given letter.G B z f = Represents B z f × Nonadjacent B f
Given letter.B B z f = Represents B z f × Balanced B f
Given letter.L B z f = StarForm B z f

-- the form that the letter makes of plain digits
abbrev pub form_of : Letter → ℕ → List ℕ → List ℤ
form_of letter.G B rs = recoded rule_g B rs
form_of letter.B B rs = recoded rule_b B rs
form_of letter.L B rs = star B rs
