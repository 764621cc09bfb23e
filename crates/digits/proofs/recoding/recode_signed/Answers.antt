use Rattle.std.proofs.Common.{is_ok, sym, ap, ◌∙◌}
use Rattle.digits.proofs.Signed.{mirror_passes, mirrored_below}
use Rattle.digits.proofs.recoding.recode_signed.Goals as goal

pub unwrap-requires : goal.unwrap-requires
unwrap-requires c =
    ap is_ok (c.mirror.ensures.answered ∙ mirror_passes _ _ _ _ _ (sym c.in_ok-recode.ensures.answered) c.in_ok-recode.ensures.written)

pub returns-then-negative-clause-written : goal.returns-then-negative-clause-written
returns-then-negative-clause-written c =
    let turned = rw c.unwrap.ensures at c.mirror.ensures.written in
    mirrored_below _ _ _ _ _ (sym c.in_ok-recode.ensures.answered) c.in_ok-recode.ensures.written _ _ c.if-negative.true turned
