use Rattle.std.proofs.Common.{◌≡◌, take, drop}
use Rattle.std.specs.Int.Digits.{number_from_digits}
use Rattle.sources.proofs.grouping.joined.Given as goal

abbrev pub invariant-loop : goal.invariant-loop
invariant-loop g l =
    let m = g.S.Source in
    (m.base l.source ≡ m.base l.initial.source)
    × (m.coming l.source ≡ drop l.counter (m.coming l.initial.source))
    × (l.value ≡ number_from_digits (m.base l.initial.source) (take l.counter (m.coming l.initial.source)))
