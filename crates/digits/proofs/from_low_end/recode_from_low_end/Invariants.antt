use Rattle.std.proofs.Common.{◌≡◌, suc, ◌+◌, ◌++◌, length, drop}
use Rattle.forms.specs.Borrow.{borrow_if}
use Rattle.forms.specs.Recoded.{borrowed, recoded_under}
use Rattle.digits.specs.Steps.{above}
use Rattle.digits.proofs.from_low_end.recode_from_low_end.Given as goal

-- the digits from index i on are written, and what they borrow is at hand
abbrev pub invariant-loop-i : goal.invariant-loop-i
invariant-loop-i g l =
    (borrow_if l.borrowed ≡ borrowed g.R.BorrowRule.borrow l.plain.radix (above l.plain.digits l.i) (drop l.i l.plain.digits))
    × (drop (l.i + 1) l.form ≡ recoded_under g.R.BorrowRule.borrow l.plain.radix (above l.plain.digits l.i) (drop l.i l.plain.digits) ++ drop (suc (length l.plain.digits)) l.initial.form)
