use Rattle.std.proofs.Common.{refl}
use Rattle.groups.specs.Lanes.{back}
use Rattle.groups.proofs.LaneLoops.{back_more}
use Rattle.groups.proofs.lanes.LaneOrderGroup.inverse.Goals as goal

pub loop-place-init : goal.loop-place-init
unfolding back
loop-place-init c = refl

pub loop-place-preserved : goal.loop-place-preserved
loop-place-preserved c = rw c.from.ensures (back_more c.args.self.lanes c.loop-place.lanes c.loop-place.place c.loop-place.invariant)
