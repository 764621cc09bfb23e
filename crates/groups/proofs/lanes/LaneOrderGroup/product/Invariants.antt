use Rattle.std.proofs.Common.{◌≡◌, ℕ, ◌<◌, length, get_or}
use lib.Bits.{bit_and}
use Rattle.groups.proofs.lanes.LaneOrderGroup.product.Given as goal

abbrev pub invariant-loop-place : goal.invariant-loop-place
invariant-loop-place l = (length l.lanes ≡ 16) × ((k : ℕ) → k < l.place → get_or l.lanes k 0 ≡ get_or l.fn.self.lanes (bit_and (get_or l.fn.other.lanes k 0) 15) 0)
