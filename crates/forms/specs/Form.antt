-- Forms: signed digits of a number in a radix B, the top place first. Assumes nothing.
use Rattle.std.specs.Prelude.{◌≡◌, ℕ, zero, suc, ◌^◌, ◌<◌, List, [], ◌∷◌, length, ℤ, pos, negsuc, ◌+ℤ◌, ◌*ℤ◌, neg_ℤ, unsigned_abs}

-- each digit times B to its place; the lowest place is 0
abbrev pub value : ℕ → List ℤ → ℤ
value B [] = pos 0
value B (d ∷ ds) = d *ℤ pos (B ^ length ds) +ℤ value B ds

-- each digit from -(B - 1) to B - 1
abbrev pub InRange : ℕ → List ℤ → Type 0
InRange B [] = Unit {0}
InRange B (d ∷ ds) = (unsigned_abs d < B) × InRange B ds

-- f is a form of z
pub record Represents (B : ℕ) (z : ℤ) (f : List ℤ) : Type 0 where
  pub range : InRange B f
  pub worth : value B f ≡ z

-- k zeros in front: the same form
abbrev pub padded : ℕ → List ℤ → List ℤ
padded zero ds = ds
padded (suc k) ds = pos 0 ∷ padded k ds

-- equal but for zeros in front
abbrev pub Same : List ℤ → List ℤ → Type 0
Same f g = padded (length g) f ≡ padded (length f) g

abbrev pub negated : List ℤ → List ℤ
negated [] = []
negated (d ∷ ds) = neg_ℤ d ∷ negated ds

-- a form of |z|, turned into one of z
abbrev pub signed : ℤ → List ℤ → List ℤ
signed (pos n) f = f
signed (negsuc n) f = negated f
