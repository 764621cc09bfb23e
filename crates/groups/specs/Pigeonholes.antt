-- A function that takes the numbers below n to numbers below n, no two to the same, reaches each of them.
use Rattle.std.specs.Prelude.{◌≡◌, ℕ, zero, suc, ◌-◌, ◌<◌, ◌≤◌, cond, ◌≢◌, ◌⊎◌, nat_lt}
use Rattle.std.proofs.Common.{inl, inr, arith}
use Rattle.std.proofs.lemmas.Bool.{cases_eq, cases_lt}
use Rattle.std.proofs.lemmas.Bool.Decides.{nat_tests}

-- the numbers other than v, closed up
skip : ℕ → ℕ → ℕ
skip v w = cond (nat_lt v w) (w - 1) w

skip_above : (v w : ℕ) → v < w → skip v w ≡ w - 1
unfolding skip
skip_above v w h = grind (arith, nat_tests)

skip_under : (v w : ℕ) → w ≤ v → skip v w ≡ w
unfolding skip
skip_under v w h = grind (arith, nat_tests)

skip_below : (n v w : ℕ) → v < suc n → w < suc n → w ≢ v → skip v w < n
unfolding skip
skip_below n v w hv hw ne = grind (arith, nat_tests)

skip_apart : (v w x : ℕ) → w ≢ v → x ≢ v → skip v w ≡ skip v x → w ≡ x
unfolding skip
skip_apart v w x nw nx e = grind (arith, nat_tests)

-- no two of the numbers below n are taken to the same
abbrev pub Apart : (ℕ → ℕ) → ℕ → Type 0
Apart f n = (i k : ℕ) → i < n → k < n → f i ≡ f k → i ≡ k

-- n + 1 numbers do not fit into n places
pub too_many : (n : ℕ) (f : ℕ → ℕ) → ((i : ℕ) → i < suc n → f i < n) → Apart f (suc n) → ⊥
too_many zero f below apart = let h : f 0 < 0 = below 0 (omega arith) in omega arith
too_many (suc n) f below apart =
    let top : suc n < suc (suc n) = omega arith in
    let other : (i : ℕ) → i < suc n → f i ≢ f (suc n) =
    λ i h e. let same : i ≡ suc n = apart i (suc n) (omega arith) top e in omega arith in
    too_many n (λ i. skip (f (suc n)) (f i))
    (λ i h. skip_below n (f (suc n)) (f i) (below (suc n) top) (below i (omega arith)) (other i h))
    (λ i k h l e. apart i k (omega arith) (omega arith) (skip_apart (f (suc n)) (f i) (f k) (other i h) (other k l) e))

-- j is reached from below n, or it is not
reached : (f : ℕ → ℕ) (j n : ℕ) → ((i : ℕ) × (i < n) × (f i ≡ j)) ⊎ ((i : ℕ) → i < n → f i ≢ j)
reached f j zero = inr (λ i h. absurd (omega arith))
reached f j (suc n) =
    elim (cases_eq (f n) j) [
      | inl here ↦ inl (n, omega arith, here)
      | inr apart ↦
          elim (reached f j n) [
            | inl found ↦ inl (found.0, omega (arith, found.1), found.2)
            | inr none ↦
                inr (λ i h.
                elim (cases_lt i n) [
                  | inl lt ↦ none i lt
                  | inr ge ↦ let top : i ≡ n = omega arith in rw top apart
                ])
          ]
    ]

pub all_reached : (n : ℕ) (f : ℕ → ℕ) → ((i : ℕ) → i < n → f i < n) → Apart f n → (j : ℕ) → j < n → ((i : ℕ) × (i < n) × (f i ≡ j))
all_reached zero f below apart j h = absurd (omega arith)
all_reached (suc n) f below apart j h =
    elim (reached f j (suc n)) [
      | inl found ↦ found
      | inr none ↦
          absurd (too_many n (λ i. skip j (f i))
          (λ i l. skip_below n j (f i) h (below i l) (none i l))
          (λ i k l m e. apart i k l m (skip_apart j (f i) (f k) (none i l) (none k m) e)))
    ]
