use Rattle.digits.proofs.PlainDigits.{settles_up, settles_below}
use Rattle.digits.proofs.settling.settle_form.Goals as goal

pub returns-then-negative : goal.returns-then-negative
returns-then-negative c =
    let first = c.settle_pass-negative.ensures in
    settles_below _ _ _ _ _ _ first.range first.borrow first.area c.settle_pass.ensures.area c.if-negative.true

pub returns-else-negative : goal.returns-else-negative
returns-else-negative c =
    let first = c.settle_pass-negative.ensures in
    settles_up _ _ _ _ _ first.range first.borrow first.area c.if-negative.false
