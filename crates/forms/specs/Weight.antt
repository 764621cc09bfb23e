-- What a form weighs, and what it is to be lightest. Assumes nothing.
use Rattle.std.specs.Prelude.{◌≡◌, ℕ, zero, suc, ◌+◌, ◌*◌, ◌≤◌, List, [], ◌∷◌, ℤ, unsigned_abs}
use Rattle.forms.specs.declared.Measure.{Measure}
use Rattle.forms.specs.declared.Measure.TheVariants.{Count, Square}
use Rattle.forms.specs.Form.{Represents}

-- what a digit of this size costs
abbrev pub count_cost : ℕ → ℕ
count_cost zero = 0
count_cost (suc m) = 1

abbrev pub square_cost : ℕ → ℕ
square_cost m = m * m

abbrev pub cost : Measure → ℕ → ℕ
cost Count = count_cost
cost Square = square_cost

abbrev pub weight : (ℕ → ℕ) → List ℤ → ℕ
weight c [] = 0
weight c (d ∷ ds) = c (unsigned_abs d) + weight c ds

-- no form of z, of any length, weighs less than f
abbrev pub Lightest : (ℕ → ℕ) → ℕ → ℤ → List ℤ → Type 0
Lightest c B z f = (g : List ℤ) → Represents B z g → weight c f ≤ weight c g

-- w is the least weight among all forms of z
pub record LeastWeight (c : ℕ → ℕ) (B : ℕ) (z : ℤ) (w : ℕ) : Type 0 where
  pub reached : (f : List ℤ) × Represents B z f × (weight c f ≡ w)
  pub least : (g : List ℤ) → Represents B z g → w ≤ weight c g
