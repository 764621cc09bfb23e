use Rattle.std.proofs.Common.{◌≡◌, ◌+◌, drop}
use Rattle.jobs.specs.declared.reading.Stage.TheVariants.{Start}
use Rattle.jobs.specs.Reading.{read_from}
use Rattle.jobs.proofs.reading.read_line.Given as goal

-- reading on from here tells what reading the whole line tells
abbrev pub invariant-loop-i : goal.invariant-loop-i
invariant-loop-i l = read_from Start 1 l.line ≡ read_from l.stage (l.i + 1) (drop l.i l.line)
