-- The pair of least weights by square: how close its two parts stay. Assumes nothing.
use Rattle.std.proofs.Common.{◌≡◌, ℕ, suc, ◌+◌, ◌-◌, ◌*◌, ◌<◌, ◌≤◌, min, sym, subst, arith}
use native.Mathlib.Decide.{dec_lt}
use Rattle.forms.specs.Weight.{square_cost}
use Rattle.forms.specs.Least.{Pair, fall}
use Rattle.forms.proofs.Count.{Close}

-- With b = B - 1, the two least weights differ by at most b.
-- r is the digit and s what it lacks to b; writing the greater of the two as the less plus j lets omega multiply out.
up_any : (r s a h : ℕ) → h ≤ a + (r + s) → Dec (r < s) → min (a + (r + 1) * (r + 1)) (h + s * s) ≤ min (a + r * r) (h + (s + 1) * (s + 1)) + (r + s)
up_any r s a h c (yes k) = let j : ℕ = s - suc r in let e : s ≡ r + suc j = omega arith in rw e (omega arith)
up_any r s a h c (no k) = let j : ℕ = r - s in let e : r ≡ s + j = omega arith in rw e (omega arith)

down_any : (r s a h : ℕ) → a ≤ h + (r + s) → Dec (s < r) → min (a + r * r) (h + (s + 1) * (s + 1)) ≤ min (a + (r + 1) * (r + 1)) (h + s * s) + (r + s)
down_any r s a h c (yes k) = let j : ℕ = r - suc s in let e : r ≡ s + suc j = omega arith in rw e (omega arith)
down_any r s a h c (no k) = let j : ℕ = s - r in let e : s ≡ r + j = omega arith in rw e (omega arith)

-- B is r + s + 1
close_at : (B r s : ℕ) (p : Pair) → B - r ≡ s + 1 → B - (r + 1) ≡ s → Close (r + s) p → Close (r + s) (fall square_cost B p r)
close_at B r s p m n h = record {
  up = rw (m, n) (up_any r s p.low p.high h.up (dec_lt r s));
  down = rw (m, n) (down_any r s p.low p.high h.down (dec_lt s r));
}

small_at : (B r k : ℕ) (p : Pair) → B - r ≡ r + suc k + 1 → B - (r + 1) ≡ r + suc k → p.low ≤ p.high + (r + (r + suc k)) → (fall square_cost B p r).low ≤ (fall square_cost B p r).high
small_at B r k p m n h = rw (m, n) (omega arith)

large_at : (B r s k : ℕ) (p : Pair) → r ≡ s + suc k → B - r ≡ s + 1 → B - (r + 1) ≡ s → p.high ≤ p.low + (s + suc k + s) → (fall square_cost B p r).high ≤ (fall square_cost B p r).low
large_at B r s k p e m n h = rw (m, n, e) (omega arith)

pub square_close : (B : ℕ) (p : Pair) (r : ℕ) → r < B → Close (B - 1) p → Close (B - 1) (fall square_cost B p r)
square_close B p r lt h =
    let b : B - 1 ≡ r + (B - 1 - r) = omega arith in
    subst (λ k. Close k (fall square_cost B p r)) (sym b) (close_at B r (B - 1 - r) p (omega arith) (omega arith) (subst (λ k. Close k p) b h))

pub square_after_small : (B : ℕ) (p : Pair) (r : ℕ) → 2 * r + 2 ≤ B → Close (B - 1) p → (fall square_cost B p r).low ≤ (fall square_cost B p r).high
square_after_small B p r lt h = small_at B r (B - 2 - 2 * r) p (omega arith) (omega arith) (omega (arith, h.down))

pub square_after_large : (B : ℕ) (p : Pair) (r : ℕ) → r < B → B ≤ 2 * r → Close (B - 1) p → (fall square_cost B p r).high ≤ (fall square_cost B p r).low
square_after_large B p r lt le h = large_at B r (B - 1 - r) (r - (B - 1 - r) - 1) p (omega arith) (omega arith) (omega arith) (omega (arith, h.up))
