-- What settling a form leaves: its plain digits, and whether its value is negative. Assumes nothing.
use Rattle.std.specs.Prelude.{◌≡◌, ℕ, Bool, cond, List, ◌++◌, length, drop, ℤ, pos, Some, None, Ok, Err, Option, Result, int_lt, unsigned_abs}
use Rattle.std.specs.Int.Digits.{number_from_digits, AllBelowBase}
use Rattle.forms.specs.Form.{value, negated}
use Rattle.digits.specs.declared.refusal.Fault.{Fault}
use Rattle.digits.specs.Refusals.{then, form_check, area_check}

abbrev pub settle_check : ℕ → List ℤ → ℕ → Option Fault
settle_check B f room = then (form_check B f) (area_check (length f) room)

-- the plain digits of the value, in as many places as the form has, and no other; the rest of the area stays
pub record Settled (B : ℕ) (f : List ℤ) (before after : List ℕ) (negative : Bool) : Type 0 where
  pub digits : List ℕ
  pub area : after ≡ digits ++ drop (length f) before
  pub places : length digits ≡ length f
  pub plain : AllBelowBase B digits
  pub sign : negative ≡ int_lt (value B f) (pos 0)
  pub writes : number_from_digits B digits ≡ unsigned_abs (value B f)
  pub only : (qs : List ℕ) → length qs ≡ length f → AllBelowBase B qs → number_from_digits B qs ≡ unsigned_abs (value B f) → digits ≡ qs

-- a refused call leaves the area as it was
abbrev pub Settles : ℕ → List ℤ → List ℕ → List ℕ → Result Bool Fault → Type 0
Settles B f before after (Ok negative) = (settle_check B f (length before) ≡ None) × Settled B f before after negative
Settles B f before after (Err fault) = (settle_check B f (length before) ≡ Some fault) × (after ≡ before)

-- a form, or its opposite
abbrev pub sided : Bool → List ℤ → List ℤ
sided opposite f = cond opposite (negated f) f
