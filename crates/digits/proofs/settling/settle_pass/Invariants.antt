use Rattle.std.proofs.Common.{◌≡◌, ◌++◌, length, drop}
use Rattle.forms.specs.Borrow.{borrow_if}
use Rattle.forms.specs.Settled.{taken, settled}
use Rattle.digits.specs.Settling.{sided}
use Rattle.digits.proofs.settling.settle_pass.Given as goal

-- the digits from index i on are settled, and what they borrow is at hand
abbrev pub invariant-loop-i : goal.invariant-loop-i
invariant-loop-i l =
    (borrow_if l.borrowed ≡ taken (drop l.i (sided l.opposite l.form.digits)))
    × (drop l.i l.plain ≡ settled l.form.radix (drop l.i (sided l.opposite l.form.digits)) ++ drop (length l.form.digits) l.initial.plain)
