-- What is true of the three letters' forms, at every radix and of every number. Assumes nothing.
use Rattle.std.specs.Prelude.{◌≡◌, ℕ, suc, ◌<◌, List, length, ℤ, pos, neg_ℤ}
use Rattle.std.specs.Int.Digits.{number_from_digits, AllBelowBase}
use Rattle.forms.specs.declared.Letter.{Letter}
use Rattle.forms.specs.declared.Measure.{Measure}
use Rattle.forms.specs.Form.{InRange, Represents, Same, negated}
use Rattle.forms.specs.Weight.{cost, count_cost, square_cost, Lightest, LeastWeight}
use Rattle.forms.specs.Nonadjacent.{Nonadjacent}
use Rattle.forms.specs.Balanced.{Balanced}
use Rattle.forms.specs.Letters.{cost_of, Given, form_of}
use Rattle.forms.specs.Least.{least}

-- a property of forms that every integer has one form of, and but for zeros in front no other; it is lightest
pub record Canonical (c : ℕ → ℕ) (B : ℕ) (Meets : List ℤ → Type 0) : Type 0 where
  pub exists : (z : ℤ) → (f : List ℤ) × Represents B z f × Meets f
  pub unique : (z : ℤ) (f g : List ℤ) → Represents B z f → Represents B z g → Meets f → Meets g → Same f g
  pub lightest : (z : ℤ) (f : List ℤ) → Represents B z f → Meets f → Lightest c B z f
  pub ranged : (f : List ℤ) → Meets f → InRange B f
  pub mirrored : (f : List ℤ) → Meets f → Meets (negated f)

-- what a letter makes of plain digits
pub record Made (l : Letter) (B : ℕ) (rs : List ℕ) : Type 0 where
  pub given : Given l B (pos (number_from_digits B rs)) (form_of l B rs)
  pub below_zero : Given l B (neg_ℤ (pos (number_from_digits B rs))) (negated (form_of l B rs))
  pub places : length (form_of l B rs) ≡ suc (length rs)

-- what any form that a letter gives is
pub record Good (l : Letter) (B : ℕ) (z : ℤ) (f : List ℤ) : Type 0 where
  pub represents : Represents B z f
  pub lightest : Lightest (cost_of l) B z f

pub record LightestForms : Type 0 where
  pub nonadjacent : (B : ℕ) → 1 < B → Canonical count_cost B (Nonadjacent B)
  pub balanced : (B : ℕ) → 1 < B → Canonical square_cost B (Balanced B)
  pub made : (l : Letter) (B : ℕ) (rs : List ℕ) → 1 < B → AllBelowBase B rs → Made l B rs
  pub good : (l : Letter) (B : ℕ) (z : ℤ) (f : List ℤ) → 1 < B → Given l B z f → Good l B z f
  pub falling : (m : Measure) (B : ℕ) (rs : List ℕ) → 1 < B → AllBelowBase B rs → LeastWeight (cost m) B (pos (number_from_digits B rs)) (least (cost m) B rs)
