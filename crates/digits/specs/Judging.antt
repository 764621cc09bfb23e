-- What a judgement tells of a form. Assumes nothing.
use Rattle.std.specs.Prelude.{◌≡◌, ℕ, ◌<◌, ◌≤◌, List, length, ℤ, Some, None, Ok, Err, Decides, Result, unsigned_abs}
use Rattle.std.specs.Int.Digits.{number_from_digits}
use Rattle.forms.specs.Form.{value, InRange}
use Rattle.forms.specs.Weight.{count_cost, square_cost, weight, LeastWeight}
use Rattle.forms.specs.Nonadjacent.{Nonadjacent}
use Rattle.forms.specs.Balanced.{Balanced}
use Rattle.digits.specs.declared.judging.Verdict.{Verdict}
use Rattle.digits.specs.declared.refusal.Fault.{Fault}
use Rattle.digits.specs.Numerals.{Numeral}
use Rattle.digits.specs.Refusals.{form_check}

-- a form that passed the checks
pub record Readable (B : ℕ) (f : List ℤ) : Type 0 where
  pub low : 1 < B
  pub high : B ≤ 16
  pub few : length f ≤ 121
  pub range : InRange B f

-- the same value, in plain digits with the same radix
pub record PlainOf (form : Numeral ℤ) (plain : Numeral ℕ) : Type 0 where
  pub radix : plain.radix ≡ form.radix
  pub places : length plain.digits ≡ length form.digits
  pub writes : number_from_digits plain.radix plain.digits ≡ unsigned_abs (value form.radix form.digits)

-- whether the form meets G and B, its weights, and the least weights among all forms of its value
pub record Judged (B : ℕ) (f : List ℤ) (v : Verdict) : Type 0 where
  pub meets_g : Decides v.nonadjacent (Nonadjacent B f)
  pub meets_b : Decides v.balanced (Balanced B f)
  pub counts : v.count ≡ weight count_cost f
  pub squares : v.square ≡ weight square_cost f
  pub least_counts : LeastWeight count_cost B (value B f) v.least_count
  pub least_squares : LeastWeight square_cost B (value B f) v.least_square

abbrev pub Judges : ℕ → List ℤ → Result Verdict Fault → Type 0
Judges B f (Ok v) = (form_check B f ≡ None) × Judged B f v
Judges B f (Err fault) = form_check B f ≡ Some fault
