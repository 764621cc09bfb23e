use Rattle.std.proofs.Common.{◌≡◌, ◌+◌, length}
use Rattle.sources_check.proofs.show.count.Given as goal

abbrev pub invariant-loop-come : goal.invariant-loop-come
invariant-loop-come g l = l.come + length (g.S.Source.coming l.source) ≡ length (g.S.Source.coming l.initial.source)

abbrev pub decreases-loop-come : goal.decreases-loop-come
decreases-loop-come g l = length (g.S.Source.coming l.source)
