use Rattle.std.proofs.Common.{refl, arith, rules}
use Rattle.groups.specs.Arrangements.{fits-arranged}
use Rattle.groups.proofs.lanes.LaneOrder.from_lanes.Goals as goal

pub returns : goal.returns
returns c = (refl, fits-arranged c.args.lanes (search rules) (λ k h. c.loop-index.invariant k (omega arith)), λ k h. c.loop-index.invariant k (omega arith))
