-- What an accepted recoding leaves in its area. Assumes nothing.
use Rattle.std.specs.Prelude.{◌≡◌, ℕ, suc, Bool, List, ◌++◌, length, drop, ℤ, pos, Ok, Err, Result}
use Rattle.std.specs.Int.Digits.{number_from_digits}
use Rattle.forms.specs.declared.Letter.{Letter}
use Rattle.forms.specs.Letters.{Given, form_of}
use Rattle.forms.specs.Theorems.{Good}
use Rattle.digits.specs.declared.refusal.Fault.{Fault}
use Rattle.digits.specs.Signed.{sided_number, sided_form}

-- the area's front is the letter's form of the number that rs write; it is lightest; the rest of the area stays
pub record Recoded (l : Letter) (B : ℕ) (rs : List ℕ) (before after : List ℤ) : Type 0 where
  pub area : after ≡ form_of l B rs ++ drop (suc (length rs)) before
  pub places : length (form_of l B rs) ≡ suc (length rs)
  pub given : Given l B (pos (number_from_digits B rs)) (form_of l B rs)
  pub good : Good l B (pos (number_from_digits B rs)) (form_of l B rs)

-- a refused call leaves the area as it was
abbrev pub Recodes : Letter → ℕ → List ℕ → List ℤ → List ℤ → Result (Unit {0}) Fault → Type 0
Recodes l B rs before after (Ok _) = Recoded l B rs before after
Recodes l B rs before after (Err _) = after ≡ before

-- the same of plain digits with a sign
pub record RecodedSigned (l : Letter) (B : ℕ) (negative : Bool) (rs : List ℕ) (before after : List ℤ) : Type 0 where
  pub area : after ≡ sided_form l B negative rs ++ drop (suc (length rs)) before
  pub places : length (sided_form l B negative rs) ≡ suc (length rs)
  pub given : Given l B (sided_number B negative rs) (sided_form l B negative rs)
  pub good : Good l B (sided_number B negative rs) (sided_form l B negative rs)

abbrev pub RecodesSigned : Letter → ℕ → Bool → List ℕ → List ℤ → List ℤ → Result (Unit {0}) Fault → Type 0
RecodesSigned l B negative rs before after (Ok _) = RecodedSigned l B negative rs before after
RecodesSigned l B negative rs before after (Err _) = after ≡ before
