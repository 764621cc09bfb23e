use Rattle.std.proofs.Common.{◌≡◌, ◌-◌, ◌<◌, get_or, set, pos, ◌+ℤ◌, ◌*ℤ◌, nat_abs, arith, w8, to_z, of_z, rules}
use Rattle.std.proofs.lemmas.Int.{to_z-of_z}
use Rattle.lowerings.proofs.Carries.{carry_again, carried_range}
use Rattle.lowerings.proofs.carrying.carry_up.Goals as goal

pub loop-i-preserved : goal.loop-i-preserved
loop-i-preserved c =
    let B = c.get-radix.result in let g = c.loop-i.form in
    let m = c.loop-i.i - 1 in let k = m - 1 in
    let split = c.split-stays.ensures in
    let d = get_or g m (pos 0) in let over = c.split-stays.result.carry in
    let x = to_z w8 (of_z w8 c.split-stays.result.stays) in let y = to_z w8 (of_z w8 c.sum.result) in
    let a = get_or (set g m x) k (pos 0) in
    let x-is = to_z-of_z w8 c.split-stays.result.stays (search rules) in
    let d-is = to_z-of_z w8 d (search rules) in
    let parts : d ≡ x +ℤ over *ℤ pos B = cc (x-is, d-is, split.parts) in
    let small : nat_abs x < B = rw x-is split.stays in
    let is : y ≡ a +ℤ over = cc (to_z-of_z w8 c.sum.result (search rules), c.sum.ensures, to_z-of_z w8 a (search rules), to_z-of_z w8 over (search rules)) in
    carry_again B m k c.args.form.now g x over y (omega arith) c.get-radix.ensures.low (omega arith) c.loop-i.invariant parts small split.carry is

pub returns-clause-range : goal.returns-clause-range
returns-clause-range c =
    let end : c.loop-i.i - 1 ≡ 0 = omega arith in
    rw c.get-radix.ensures.value at (carried_range c.get-radix.result c.args.form.now c.loop-i.form c.get-radix.ensures.low (rw end at c.loop-i.invariant))
