use Rattle.std.proofs.Common.{arith, rules}
use Rattle.std.proofs.Output.{has_written_append, has_written_of_eq}
use Rattle.jobs.proofs.Texts.{commas_more}
use Rattle.jobs.proofs.printing.FormTextDisplay.fmt.Goals as goal

pub loop-digit-preserved : goal.loop-digit-preserved
loop-digit-preserved g c = λ p. has_written_of_eq _ _ _ _ _ (commas_more c.in-Some.rest.now c.loop-digit.digit-index (omega arith)) (has_written_append _ _ _ _ _ _ (c.loop-digit.invariant p) (search rules))
