-- The reading loop, word by word. Assumes nothing.
use Rattle.std.proofs.Common.{◌≡◌, ℕ, suc, ◌+◌, ◌-◌, ◌≤◌, List, drop, refl, add-one, arith}
use Rattle.std.proofs.lemmas.List.{drop-drop}
use Rattle.schedules.specs.declared.reading.Progress.{Progress}
use Rattle.schedules.specs.Reading.{step_in, and_on, judged}

-- one turn
pub turn : (B : ℕ) (p : Progress) (at k : ℕ) (ws : List ℕ) → at ≤ k → judged B p at (k + 1 - at) (drop at ws) ≡ and_on (step_in B p at (drop at ws)) (λ q. judged B q (at + 1) (k + 1 - (at + 1)) (drop (at + 1) ws))
turn B p at k ws h =
    let left : k + 1 - at ≡ suc (k + 1 - (at + 1)) = omega arith in
    rw (left, ← drop-drop 1 at ws, add-one at) refl
