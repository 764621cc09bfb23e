-- The topmost digit that fails a test, by its index. Assumes nothing.
use Rattle.std.proofs.Common.{◌≡◌, ℕ, ◌+◌, ◌-◌, Bool, true, false, cond, List, [], ◌∷◌, length, Some, None, Option, refl, ap, ◌∙◌, arith}
use Rattle.std.specs.List.{position, position_from}
use Rattle.std.proofs.lemmas.Iterator.Adapters.{position_from-zero}
use Rattle.digits.specs.declared.refusal.Fault.{Fault}
use Rattle.digits.specs.declared.refusal.Fault.TheVariants.{Digit}
use Rattle.digits.specs.Refusals.{refused_if, then, topmost}

-- the fault of a digit that was found at an index, by its place from the low end
abbrev pub topmost_at : ℕ → Option ℕ → Option Fault
topmost_at places (Some i) = Some (Digit (places - 1 - i))
topmost_at places None = None

module _ {D : Type 0} (fails : D → Bool) where
  topmost_from : (i places : ℕ) (ds : List D) → places ≡ i + length ds → topmost fails ds ≡ topmost_at places (position_from fails i ds)
  topmost_from i places [] e = refl
  topmost_from i places (d ∷ ds) e = by (fails d) (topmost_from (i + 1) places ds (omega arith))
    where
      by : (b : Bool) → topmost fails ds ≡ topmost_at places (position_from fails (i + 1) ds) → then (refused_if b (Digit (length ds))) (topmost fails ds) ≡ topmost_at places (cond b (Some i) (position_from fails (i + 1) ds))
      by true rest = ap (λ n. Some (Digit n)) (let k : length ds ≡ places - 1 - i = omega arith in k)
      by false rest = rest

  pub topmost_found : (ds : List D) (p q : Option ℕ) → p ≡ position fails ds → p ≡ q → topmost fails ds ≡ topmost_at (length ds) q
  topmost_found ds p q found is = topmost_from 0 (length ds) ds (omega arith) ∙ cc (position_from-zero fails ds)
