use Rattle.std.proofs.Common.{ℕ, ◌<◌}
use Rattle.groups.specs.Lanes.{Misfit}
use Rattle.groups.proofs.lanes.LaneOrder.from_lanes.Given as goal

abbrev pub invariant-loop-index : goal.invariant-loop-index
invariant-loop-index l = (k : ℕ) → k < l.index → Misfit l.fn.lanes k → ⊥
