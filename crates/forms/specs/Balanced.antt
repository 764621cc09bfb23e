-- Letter B, the balanced non-adjacent form. Assumes nothing.
use Rattle.std.specs.Prelude.{◌≡◌, ℕ, ◌*◌, ◌<◌, ◌≤◌, List, ℤ, pos, ◌*ℤ◌, ◌<ℤ◌, unsigned_abs}
use Rattle.forms.specs.Neighbours.{Neighbours}

-- the digit x above the digit y: y is at most half of B, and above an exact half x is smaller and not opposed
pub record Half (B : ℕ) (x y : ℤ) : Type 0 where
  pub size : 2 * unsigned_abs y ≤ B
  pub smaller : 2 * unsigned_abs y ≡ B → unsigned_abs x < unsigned_abs y
  pub alike : 2 * unsigned_abs y ≡ B → ¬ ((x *ℤ y) <ℤ pos 0)

abbrev pub Balanced : ℕ → List ℤ → Type 0
Balanced B f = Neighbours (Half B) f
