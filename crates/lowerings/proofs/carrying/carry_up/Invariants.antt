use Rattle.std.proofs.Common.{◌-◌}
use Rattle.lowerings.proofs.Carries.{Carried}
use Rattle.lowerings.proofs.carrying.carry_up.Given as goal

-- only the digit before index i may be as large as the radix; the top digit is 0 until the carry reaches it
abbrev pub invariant-loop-i : goal.invariant-loop-i
invariant-loop-i l = Carried l.radix (l.i - 1) l.initial.form l.form
