use Rattle.std.proofs.Common.{◌≡◌}
use Rattle.groups.specs.Lanes.{back}
use Rattle.groups.proofs.lanes.LaneOrderGroup.inverse.Given as goal

abbrev pub invariant-loop-place : goal.invariant-loop-place
invariant-loop-place l = l.lanes ≡ back l.fn.self.lanes l.place
