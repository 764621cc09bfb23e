use Rattle.std.proofs.Common.{◌≡◌, ◌||◌, length}
use Rattle.sources.proofs.Windows.{kept, lost}
use Rattle.sources.proofs.window.last_digits.Given as goal

abbrev pub invariant-loop-digit : goal.invariant-loop-digit
invariant-loop-digit g l =
    let m = g.S.Source in
    (kept l.window (m.coming l.source) ≡ kept l.initial.window (m.coming l.initial.source))
    × ((l.fell || lost l.window (m.coming l.source)) ≡ lost l.initial.window (m.coming l.initial.source))
    × (m.base l.source ≡ m.base l.initial.source)

abbrev pub decreases-loop-digit : goal.decreases-loop-digit
decreases-loop-digit g l = length (g.S.Source.coming l.source)
