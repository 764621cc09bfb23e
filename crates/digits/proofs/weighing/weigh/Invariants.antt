use Rattle.std.proofs.Common.{◌≡◌, ◌+◌, ◌*◌, ◌≤◌, drop}
use Rattle.forms.specs.Weight.{cost, weight}
use Rattle.digits.proofs.weighing.weigh.Given as goal

abbrev pub invariant-loop-digit : goal.invariant-loop-digit
invariant-loop-digit l = (l.total ≤ 65025 * l.digit-index) × (l.total + weight (cost l.measure) (drop l.digit-index l.form) ≡ weight (cost l.measure) l.form)
