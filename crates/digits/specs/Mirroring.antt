-- What the mirror image of a form is. Assumes nothing.
use Rattle.std.specs.Prelude.{◌≡◌, ℕ, List, ℤ, neg_ℤ, Ok, Err, Result}
use Rattle.forms.specs.Form.{value, negated, Represents}
use Rattle.digits.specs.declared.refusal.Fault.{Fault}

-- every digit is negated, so it is a form of the opposite number
pub record Mirrored (B : ℕ) (before after : List ℤ) : Type 0 where
  pub area : after ≡ negated before
  pub represents : Represents B (neg_ℤ (value B before)) after

-- a refused call leaves the form as it was
abbrev pub Mirrors : ℕ → List ℤ → List ℤ → Result (Unit {0}) Fault → Type 0
Mirrors B before after (Ok _) = Mirrored B before after
Mirrors B before after (Err _) = after ≡ before
