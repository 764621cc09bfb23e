use Rattle.std.proofs.Common.{◌<◌, ◌↔◌, drop, nat_abs}
use Rattle.forms.specs.Neighbours.{Chain, Neighbours}
use Rattle.digits.proofs.judging.meets.Given as goal

-- the neighbours so far are as they should: the rest decides
abbrev pub invariant-loop-digit : goal.invariant-loop-digit
invariant-loop-digit g l =
    (nat_abs l.above < l.form.radix)
    × (Neighbours (g.R.BorrowRule.neighbours l.form.radix) l.form.digits ↔ Chain (g.R.BorrowRule.neighbours l.form.radix) l.above (drop l.digit-index l.form.digits))
