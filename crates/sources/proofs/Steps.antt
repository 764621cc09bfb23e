-- What a step of a source says of each answer. Assumes nothing.
use Rattle.std.proofs.Common.{◌≡◌, ℕ, List, [], ◌∷◌, get_or, drop, Some, None, refl}
use Rattle.sources.specs.Source.{Step}

pub step_none : {S : Type 0} (ds : List ℕ) (s t : S) (es : List ℕ) → Step ds s t es None → (ds ≡ []) × (t ≡ s)
step_none [] s t es h = (refl, h.1)
step_none (d ∷ ds) s t es h = let e = h.0 in cc

pub step_some : {S : Type 0} (ds : List ℕ) (s t : S) (es : List ℕ) (x : ℕ) → Step ds s t es (Some x) → (x ≡ get_or ds 0 0) × (es ≡ drop 1 ds)
step_some [] s t es x h = let e = h.0 in cc
step_some (d ∷ ds) s t es x h = let e = h.0 in (cc, h.1)
