use Rattle.std.proofs.Common.{◌≡◌}
use Rattle.groups.specs.Powers.{power}
use Rattle.groups.proofs.runner.Going.raise.Given as goal

abbrev pub invariant-loop : goal.invariant-loop
invariant-loop g l = let m = g.G.Group in l.raised ≡ power m.one m.times l.value l.counter
