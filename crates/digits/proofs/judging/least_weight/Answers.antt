use Rattle.std.proofs.Common.{length, ap, arith}
use Rattle.forms.proofs.Whole.{falling}
use Rattle.std.proofs.lemmas.List.{drop_all}
use Rattle.digits.proofs.Numerals.{digits_are, lawful}
use Rattle.digits.proofs.judging.least_weight.Goals as goal

pub returns : goal.returns
returns c =
    let n = c.args.plain.now in let l = c.loop-digit in
    let digits = digits_are c.plain.view_is in
    let plain = lawful (λ d. d) _ _ n c.plain.view_is c.plain.invariant in
    let low = rw (drop_all l.digit-index n.digits (omega (arith, ap length digits))) at l.invariant.2 in
    rw low (falling c.args.measure n.radix n.digits plain.low plain.below)
