use Rattle.std.proofs.Common.{◌≡◌}
use Rattle.forms.specs.Form.{InRange}
use Rattle.digits.proofs.Negating.{turned}
use Rattle.digits.proofs.mirroring.mirror.Given as goal

-- the digits before the index are negated, the others as they were
abbrev pub invariant-loop-digit : goal.invariant-loop-digit
invariant-loop-digit l = (InRange l.radix l.initial.form) × (l.form ≡ turned l.initial.form l.digit-index)
