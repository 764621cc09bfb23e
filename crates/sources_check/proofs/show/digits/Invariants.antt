use Rattle.std.proofs.Common.{length}
use Rattle.sources_check.proofs.show.digits.Given as goal

abbrev pub decreases-loop-digit : goal.decreases-loop-digit
decreases-loop-digit g l = length (g.S.Source.coming l.source)
