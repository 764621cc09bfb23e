-- Plain digits with a sign. Assumes nothing.
use Rattle.std.specs.Prelude.{ℕ, Bool, true, false, List, ℤ, pos, neg_ℤ}
use Rattle.std.specs.Int.Digits.{number_from_digits}
use Rattle.forms.specs.declared.Letter.{Letter}
use Rattle.forms.specs.Form.{negated}
use Rattle.forms.specs.Letters.{form_of}

-- the number that they write
abbrev pub sided_number : ℕ → Bool → List ℕ → ℤ
sided_number B true rs = neg_ℤ (pos (number_from_digits B rs))
sided_number B false rs = pos (number_from_digits B rs)

-- the form that the letter gives it
abbrev pub sided_form : Letter → ℕ → Bool → List ℕ → List ℤ
sided_form l B true rs = negated (form_of l B rs)
sided_form l B false rs = form_of l B rs
