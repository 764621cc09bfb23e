-- Letter G, the generalized non-adjacent form. Assumes nothing.
use Rattle.std.specs.Prelude.{ℕ, ◌<◌, List, ℤ, pos, ◌+ℤ◌, ◌*ℤ◌, ◌<ℤ◌, unsigned_abs}
use Rattle.forms.specs.Neighbours.{Neighbours}

-- the digit x above the digit y: their sum is smaller than B, and of opposed digits the lower is the smaller
pub record Beside (B : ℕ) (x y : ℤ) : Type 0 where
  pub sum : unsigned_abs (x +ℤ y) < B
  pub opposed : (x *ℤ y) <ℤ pos 0 → unsigned_abs y < unsigned_abs x

abbrev pub Nonadjacent : ℕ → List ℤ → Type 0
Nonadjacent B f = Neighbours (Beside B) f
