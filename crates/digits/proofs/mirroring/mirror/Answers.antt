use Rattle.std.proofs.Common.{refl, arith}
use Rattle.std.proofs.lemmas.Int.{ints}
use Rattle.digits.proofs.Accepted.{readable}
use Rattle.digits.proofs.Negating.{digit_in_range, turned_at, turned_more, mirrored}
use Rattle.digits.proofs.mirroring.mirror.Goals as goal

pub loop-digit-init : goal.loop-digit-init
loop-digit-init c = ((readable c.args.radix c.args.form.now c.in_ok-checked_form.ensures.answered).range, refl)

pub loop-digit-preserved : goal.loop-digit-preserved
loop-digit-preserved c =
    let f = c.args.form.now in let i = c.loop-digit.digit-index in
    let k = readable c.args.radix f c.in_ok-checked_form.ensures.answered in
    let at = rw (← c.loop-digit.invariant.1) at (turned_at f i (omega arith)) in
    let small = digit_in_range c.args.radix f i (omega (arith, k.low)) k.range in
    (c.loop-digit.invariant.0, turned_more f _ i _ (omega arith) c.loop-digit.invariant.1 (omega (arith, ints, at, small, k.high)))

pub returns-clause-written : goal.returns-clause-written
returns-clause-written c = mirrored _ _ _ c.loop-digit.digit-index (omega arith) c.loop-digit.invariant.0 c.loop-digit.invariant.1
