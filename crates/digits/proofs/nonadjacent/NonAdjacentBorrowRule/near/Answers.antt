use Rattle.std.proofs.Common.{arith, w8}
use Rattle.std.proofs.lemmas.Int.{ints, to_z-of_z}
use Rattle.digits.proofs.Deciding.{beside_opposed}
use Rattle.digits.proofs.nonadjacent.NonAdjacentBorrowRule.near.Goals as goal

pub returns-else-not-opposed : goal.returns-else-not-opposed
returns-else-not-opposed c =
    let x = c.args.above in let y = c.args.digit in let o = c.opposed.result in
    let told = rw (to_z-of_z w8 x c.ranges.above, to_z-of_z w8 y c.ranges.digit) at c.opposed.ensures in
    beside_opposed c.args.radix x y o told c.size-else-not-opposed-2.result c.size-else-not-opposed.result (omega (arith, ints)) (omega (arith, ints)) c.if-not-opposed.false (omega (arith, ints))
