use Rattle.std.proofs.Common.{◌≡◌, suc, ◌<◌, ◌∷◌, ◌++◌, length, take, drop}
use Rattle.forms.specs.Borrow.{borrow_if}
use Rattle.forms.specs.Star.{star_from, star}
use Rattle.digits.proofs.from_top.recode_from_top.Given as goal

-- what is written and what the walk goes on to write are the star form
abbrev pub invariant-loop-i : goal.invariant-loop-i
invariant-loop-i l =
    (l.memory < l.plain.radix)
    × (take l.i l.form ++ star_from l.plain.radix (borrow_if l.borrowed) l.memory (drop l.i (0 ∷ l.plain.digits)) ≡ star l.plain.radix l.plain.digits)
    × (drop (suc (length l.plain.digits)) l.form ≡ drop (suc (length l.plain.digits)) l.initial.form)
