use Rattle.std.proofs.Common.{◌≡◌, ◌++◌, map, take, drop}
use Rattle.jobs.specs.Reading.{digit_of}
use Rattle.jobs.proofs.listing.read_digits.Given as goal

abbrev pub invariant-loop-i : goal.invariant-loop-i
invariant-loop-i l = l.plain ≡ map digit_of (take l.i l.spelled) ++ drop l.i l.initial.plain
