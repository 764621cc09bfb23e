use Rattle.std.proofs.Common.{get_or, set, ap, ◌∙◌, arith}
use Rattle.std.specs.Option.{unwrap_or}
use Rattle.jobs.specs.Entries.{spelled_digits}
use Rattle.jobs.proofs.Forming.{digit_or_none, digits_more}
use Rattle.jobs.proofs.listing.read_digits.Goals as goal

pub loop-i-preserved : goal.loop-i-preserved
loop-i-preserved c =
    let spelled = spelled_digits c.args.shape.now c.args.line.now in
    ap (set c.loop-i.plain c.loop-i.i) (c.unwrap_or.ensures ∙ ap (λ o. unwrap_or o 16) c.digit_of.ensures ∙ digit_or_none (get_or spelled c.loop-i.i 0))
    ∙ digits_more spelled c.loop-i.plain c.args.plain.now c.loop-i.i (omega arith) (omega (arith, c.requires.line.size, c.requires.room)) c.loop-i.invariant
