use Rattle.std.proofs.Common.{◌≡◌, ◌+◌, ◌-◌, drop}
use Rattle.schedules.specs.Reading.{judged, start}
use Rattle.schedules.proofs.reading.inspect.Given as goal

-- what is left tells what the whole tells
abbrev pub invariant-loop-place : goal.invariant-loop-place
invariant-loop-place l = judged l.heading.radix start 1 l.heading.count (drop 1 l.words) ≡ judged l.heading.radix l.progress l.place (l.heading.count + 1 - l.place) (drop l.place l.words)
