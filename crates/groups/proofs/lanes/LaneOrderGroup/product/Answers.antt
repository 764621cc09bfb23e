use Rattle.std.proofs.Common.{ap, arith}
use Rattle.groups.specs.Lanes.{of_lanes}
use Rattle.groups.proofs.LaneLoops.{after_more, after_all}
use Rattle.groups.proofs.lanes.LaneOrderGroup.product.Goals as goal

pub loop-place-preserved : goal.loop-place-preserved
loop-place-preserved c = rw c.from.ensures (after_more c.args.self.lanes c.args.other.lanes c.loop-place.lanes c.loop-place.place c.loop-place-test.true c.loop-place.invariant)

pub returns : goal.returns
returns c = ap of_lanes (after_all c.args.self.lanes c.args.other.lanes c.loop-place.lanes c.loop-place.invariant.0 (λ k h. c.loop-place.invariant.1 k (omega arith)))
