use Rattle.std.proofs.Common.{◌≡◌, ◌+◌, ◌*◌, ◌≤◌, drop}
use Rattle.forms.specs.Least.{least_from, least}
use Rattle.forms.specs.Weight.{cost}
use Rattle.digits.proofs.judging.least_weight.Given as goal

-- the two least weights so far, carried on over the rest, give the least weight
abbrev pub invariant-loop-digit : goal.invariant-loop-digit
invariant-loop-digit l =
    (l.low ≤ 65025 * l.digit-index)
    × (l.high ≤ 65025 * l.digit-index + 1)
    × ((least_from (cost l.measure) l.plain.radix (record { low = l.low; high = l.high }) (drop l.digit-index l.plain.digits)).low ≡ least (cost l.measure) l.plain.radix l.plain.digits)
