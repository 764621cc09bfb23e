-- Letter L is tight by count: the states of its walk, and that each turn keeps them. Assumes nothing.
use Rattle.std.proofs.Common.{◌≡◌, ℕ, ◌+◌, ◌-◌, ◌<◌, ◌≤◌, ◌⊎◌, List, [], ◌∷◌, refl, inl, inr, arith, le-ltb, lt-ltb, eq-eqb, ne_eqb, le-leb}
use native.Mathlib.Decide.{dec_le, dec_lt, ℕ_discrete}
use borrow.Author.Tests.{lt-leb}
use Rattle.forms.specs.Weight.{count_cost}
use Rattle.forms.specs.Least.{Pair, fall, start}
use Rattle.std.specs.Int.Digits.{AllBelowBase}
use Rattle.forms.specs.Borrow.{Borrow, none, one, num, digit}
use Rattle.forms.specs.Star.{first, second, ahead, turn, memory, star_from, star}
use Rattle.forms.proofs.Count.{Close, count_close, counts, after_small, after_nonzero}
use Rattle.forms.proofs.Tight.{Tight, tight_end, Counts, counts_step, digit_takes}

-- what a turn does, b to u and t to m, by the sum of two plain digits
data Turns (B t p e e2 : ℕ) : Borrow → Borrow → ℕ → Type 0 where
  under : {b : Borrow} → p + e + 1 < B → Turns B t p e e2 b none e
  over : {b : Borrow} → B ≤ p + e → Turns B t p e e2 b one e
  keep : {b : Borrow} → p + e + 1 ≡ B → ¬ (e ≡ B - 1 - t) → Turns B t p e e2 b b t
  drop : p + e + 1 ≡ B → e ≡ B - 1 - t → e + e2 + 1 < B → Turns B t p e e2 one none t
  stay : p + e + 1 ≡ B → e ≡ B - 1 - t → B ≤ e + e2 + 1 → Turns B t p e e2 one one t
  lift : p + e + 1 ≡ B → e ≡ B - 1 - t → B ≤ e + e2 → Turns B t p e e2 none one t
  rest : p + e + 1 ≡ B → e ≡ B - 1 - t → e + e2 < B → Turns B t p e e2 none none t

turns_ahead : (B t p e e2 : ℕ) (b : Borrow) → p + e + 1 ≡ B → e ≡ B - 1 - t → Dec (e + e2 < B - 1) → Dec (B ≤ e + e2) → Turns B t p e e2 b (ahead B b (e + e2)) t
turns_ahead B t p e e2 one s m (yes k) l = rw (lt-ltb (e + e2) (B - 1) k) (drop s m (omega arith))
turns_ahead B t p e e2 one s m (no k) l = rw (le-ltb (e + e2) (B - 1) (omega arith)) (stay s m (omega arith))
turns_ahead B t p e e2 none s m k (yes l) = rw (le-leb B (e + e2) l) (lift s m l)
turns_ahead B t p e e2 none s m k (no l) = rw (lt-leb B (e + e2) (omega arith)) (rest s m (omega arith))

turns_by : (B t p e e2 : ℕ) (b : Borrow) → 1 < B → Dec (p + e ≡ B - 1) → Dec (e ≡ B - 1 - t) → Dec (B ≤ p + e) → Turns B t p e e2 b (turn B b t p e e2) (memory B t p e)
unfolding turn memory
turns_by B t p e e2 b two (yes s) (yes m) k = rw (eq-eqb (p + e) (B - 1) s, eq-eqb e (B - 1 - t) m) (turns_ahead B t p e e2 b (omega arith) m (dec_lt (e + e2) (B - 1)) (dec_le B (e + e2)))
turns_by B t p e e2 b two (yes s) (no m) k = rw (eq-eqb (p + e) (B - 1) s, ne_eqb e (B - 1 - t) m) (keep (omega arith) m)
turns_by B t p e e2 b two (no s) m (yes k) = rw (ne_eqb (p + e) (B - 1) s, le-leb B (p + e) k) (over k)
turns_by B t p e e2 b two (no s) m (no k) = rw (ne_eqb (p + e) (B - 1) s, lt-leb B (p + e) (omega arith)) (under (omega arith))

turns : (B t p e e2 : ℕ) (b : Borrow) → 1 < B → Turns B t p e e2 b (turn B b t p e e2) (memory B t p e)
turns B t p e e2 b two = turns_by B t p e e2 b two (ℕ_discrete (p + e) (B - 1)) (ℕ_discrete e (B - 1 - t)) (dec_le B (p + e))

-- the states between the plain digits x and p, with the memory t and the pair q after x
record Below (B : ℕ) (q : Pair) (x p t : ℕ) : Type 0 where
  sum : x + p + 1 < B
  memo : t ≡ p
  lighter : q.low ≤ q.high

record Beyond (B : ℕ) (q : Pair) (x p t : ℕ) : Type 0 where
  sum : B ≤ x + p
  memo : t ≡ p
  lighter : q.high ≤ q.low

record Middle (B : ℕ) (q : Pair) (x p : ℕ) : Type 0 where
  sum : x + p + 1 ≡ B
  upper : 0 < x
  lower : 0 < p
  even : q.low ≡ q.high

-- 0 and B - 1 in turn, from a 0 (Rise, Sink) or from a B - 1 (Dive, Climb)
record Rise (B : ℕ) (q : Pair) (x p t : ℕ) : Type 0 where
  upper : x ≡ 0
  lower : p + 1 ≡ B
  memo : t ≡ 0
  gap : q.high ≡ q.low + 1

record Sink (B : ℕ) (q : Pair) (x p t : ℕ) : Type 0 where
  upper : x + 1 ≡ B
  lower : p ≡ 0
  memo : t ≡ 0
  even : q.low ≡ q.high

record Dive (B : ℕ) (q : Pair) (x p t : ℕ) : Type 0 where
  upper : x + 1 ≡ B
  lower : p ≡ 0
  memo : t + 1 ≡ B
  gap : q.low ≡ q.high + 1

record Climb (B : ℕ) (q : Pair) (x p t : ℕ) : Type 0 where
  upper : x ≡ 0
  lower : p + 1 ≡ B
  memo : t + 1 ≡ B
  even : q.low ≡ q.high

-- the states of each borrow; e is the plain digit after p
abbrev State : ℕ → Pair → ℕ → ℕ → ℕ → ℕ → Borrow → Type 0
State B q x p e t none = Below B q x p t ⊎ Middle B q x p ⊎ (Rise B q x p t × (e ≡ 0)) ⊎ Sink B q x p t ⊎ (Dive B q x p t × (e + 1 < B))
State B q x p e t one = Beyond B q x p t ⊎ Middle B q x p ⊎ (Rise B q x p t × (0 < e)) ⊎ (Dive B q x p t × (e + 1 ≡ B)) ⊎ Climb B q x p t

-- each turn pays the least
pays : (B : ℕ) (q : Pair) (x p e e2 t m : ℕ) (b u : Borrow) → 1 < B → x < B → p < B → e < B → State B q x p e t b → Turns B t p e e2 b u m → Counts B q (p + num u) b
pays B q x p e e2 t m none none two lx lp le s (under h) = (omega arith, omega arith)
pays B q x p e e2 t m one none two lx lp le s (under h) = (omega arith, omega arith)
pays B q x p e e2 t m none one two lx lp le s (over h) = (omega arith, omega arith)
pays B q x p e e2 t m one one two lx lp le s (over h) = (omega arith, omega arith)
pays B q x p e e2 t m none none two lx lp le s (keep h k) = (omega arith, omega arith)
pays B q x p e e2 t m one one two lx lp le s (keep h k) = (omega arith, omega arith)
pays B q x p e e2 t m one none two lx lp le s (drop h k l) = (omega arith, omega arith)
pays B q x p e e2 t m one one two lx lp le s (stay h k l) = (omega arith, omega arith)
pays B q x p e e2 t m none one two lx lp le s (lift h k l) = (omega arith, omega arith)
pays B q x p e e2 t m none none two lx lp le s (rest h k l) = (omega arith, omega arith)

-- each turn leads from a state to a state
module _ (B : ℕ) (q : Pair) (x p e e2 t : ℕ) (two : 1 < B) (close : Close 1 q) (lx : x < B) (lp : p < B) (le : e < B) (le2 : e2 < B) where
  middle : (u : Borrow) → 0 < p → 0 < e → p + e + 1 ≡ B → State B (fall count_cost B q p) p e e2 t u
  middle u i j s = in_each u (record { sum = s; upper = i; lower = j; even = omega (arith, after_small B q p (omega arith) close, after_nonzero B q p i lp close) })
    where
      in_each : (v : Borrow) → Middle B (fall count_cost B q p) p e → State B (fall count_cost B q p) p e e2 t v
      in_each none m = inr (inl m)
      in_each one m = inr (inl m)

  keeps : (m : ℕ) (b u : Borrow) → State B q x p e t b → Turns B t p e e2 b u m → Dec (0 < p) → Dec (0 < e) → State B (fall count_cost B q p) p e e2 m u
  keeps m b none s (under h) i j = inl (record { sum = h; memo = refl; lighter = after_small B q p (omega arith) close })
  keeps m b one s (over h) i j = inl (record { sum = h; memo = refl; lighter = after_nonzero B q p (omega arith) lp close })
  keeps m b u s (keep h k) (yes i) (yes j) = middle u i j h
  keeps m none none s (keep h k) (no i) j = absurd (omega arith)
  keeps m one one s (keep h k) (no i) j = inr (inr (inr (inr (record { upper = omega arith; lower = omega arith; memo = omega arith; even = omega (arith, counts) }))))
  keeps m none none s (keep h k) (yes i) (no j) = inr (inr (inr (inl (record { upper = omega arith; lower = omega arith; memo = omega arith; even = omega (arith, counts) }))))
  keeps m one one s (keep h k) (yes i) (no j) = absurd (omega arith)
  keeps m one none s (drop h k l) (yes i) (yes j) = middle none i j h
  keeps m one none s (drop h k l) (no i) j = absurd (omega arith)
  keeps m one none s (drop h k l) (yes i) (no j) = inr (inr (inr (inr (record { upper = omega arith; lower = omega arith; memo = omega arith; gap = omega (arith, counts) }, omega arith))))
  keeps m one one s (stay h k l) (yes i) (yes j) = middle one i j h
  keeps m one one s (stay h k l) (no i) j = absurd (omega arith)
  keeps m one one s (stay h k l) (yes i) (no j) = inr (inr (inr (inl (record { upper = omega arith; lower = omega arith; memo = omega arith; gap = omega (arith, counts) }, omega arith))))
  keeps m none one s (lift h k l) (yes i) (yes j) = middle one i j h
  keeps m none one s (lift h k l) (no i) j = inr (inr (inl (record { upper = omega arith; lower = omega arith; memo = omega arith; gap = omega (arith, counts) }, omega arith)))
  keeps m none one s (lift h k l) (yes i) (no j) = absurd (omega arith)
  keeps m none none s (rest h k l) (yes i) (yes j) = middle none i j h
  keeps m none none s (rest h k l) (no i) j = inr (inr (inl (record { upper = omega arith; lower = omega arith; memo = omega arith; gap = omega (arith, counts) }, omega arith)))
  keeps m none none s (rest h k l) (yes i) (no j) = absurd (omega arith)

-- the walk ends with no borrow
ends : (B : ℕ) (q : Pair) (x t : ℕ) (b : Borrow) → 1 < B → x < B → State B q x 0 0 t b → b ≡ none
ends B q x t none two lx s = refl
ends B q x t one two lx s = absurd (omega arith)

first_plain : (B : ℕ) (rs : List ℕ) → 0 < B → AllBelowBase B rs → first rs < B
first_plain B [] h p = h
first_plain B (r ∷ rs) h p = p.0

second_plain : (B : ℕ) (rs : List ℕ) → 0 < B → AllBelowBase B rs → second rs < B
second_plain B [] h p = h
second_plain B (r ∷ rs) h p = first_plain B rs h p.1

star_tight : (B : ℕ) (q : Pair) (x t : ℕ) (b : Borrow) (rs : List ℕ) → 1 < B → Close 1 q → x < B → AllBelowBase B rs → State B q x (first rs) (second rs) t b → Tight count_cost B q b (star_from B b t rs) rs none
star_tight B q x t b [] two close lx plain s = rw (ends B q x t b two lx s) (tight_end count_cost B q none)
star_tight B q x t b (p ∷ rs) two close lx plain s =
    let e = first rs in
    let e2 = second rs in
    let u = turn B b t p e e2 in
    let m = memory B t p e in
    let le = first_plain B rs (omega arith) plain.1 in
    let le2 = second_plain B rs (omega arith) plain.1 in
    let w = turns B t p e e2 b two in
    let below = star_tight B (fall count_cost B q p) p m u rs two (count_close B q p two plain.0 close) plain.0 plain.1 (keeps B q x p e e2 t two close lx plain.0 le le2 m b u s w (dec_lt 0 p) (dec_lt 0 e)) in
    counts_step B q b u (digit B b (p + num u)) p plain.0 close (digit_takes b B (p + num u)) (pays B q x p e e2 t m b u two lx plain.0 le s w) below

pub star_is_tight : (B : ℕ) (rs : List ℕ) → 1 < B → AllBelowBase B rs → Tight count_cost B start none (star B rs) (0 ∷ rs) none
star_is_tight B rs two plain = star_tight B start 0 0 none (0 ∷ rs) two (record { up = omega arith; down = omega arith }) (omega arith) (omega arith, plain) (inl (record { sum = omega arith; memo = refl; lighter = omega arith }))
