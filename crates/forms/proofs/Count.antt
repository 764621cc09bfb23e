-- The pair of least weights by count: how close its two parts stay. Assumes nothing.
use Rattle.std.proofs.Common.{◌≡◌, ℕ, zero, suc, ◌+◌, ◌<◌, ◌≤◌, min, arith}
use Rattle.forms.specs.Weight.{count_cost}
use Rattle.forms.specs.Least.{Pair, fall}

-- the two parts differ by at most k
pub record Close (k : ℕ) (p : Pair) : Type 0 where
  pub up : p.high ≤ p.low + k
  pub down : p.low ≤ p.high + k

pub count_pos : (m : ℕ) → 0 < m → count_cost m ≡ 1
count_pos zero h = absurd (omega arith)
count_pos (suc m) h = omega arith

pub count_small : (m : ℕ) → count_cost m ≤ min m 1
count_small zero = omega arith
count_small (suc m) = omega arith

pub ruleset counts = (count_pos, count_small)

-- a carried pair stays close: the two least weights differ by at most one
pub count_close : (B : ℕ) (p : Pair) (r : ℕ) → 1 < B → r < B → Close 1 p → Close 1 (fall count_cost B p r)
count_close B p r two lt h = record { up = omega (arith, counts); down = omega (arith, counts) }

-- after a digit other than B - 1 no borrow is as light, and after one other than 0 a borrow is
pub after_small : (B : ℕ) (p : Pair) (r : ℕ) → r + 1 < B → Close 1 p → (fall count_cost B p r).low ≤ (fall count_cost B p r).high
after_small B p r lt h = omega (arith, counts)

pub after_nonzero : (B : ℕ) (p : Pair) (r : ℕ) → 0 < r → r < B → Close 1 p → (fall count_cost B p r).high ≤ (fall count_cost B p r).low
after_nonzero B p r some lt h = omega (arith, counts)
