-- A path that pays the least weight at every place. Assumes nothing.
use Rattle.std.proofs.Common.{◌≡◌, ℕ, ◌+◌, ◌-◌, ◌*◌, ◌<◌, ◌≤◌, min, List, [], ◌∷◌, ℤ, pos, ◌+ℤ◌, nat_abs, sym, refl, ap, ◌∙◌, arith}
use Rattle.std.proofs.lemmas.Int.{ints}
use Rattle.forms.specs.Weight.{count_cost, weight}
use Rattle.forms.specs.Least.{Pair, fall, least_from}
use Rattle.forms.specs.Borrow.{Borrow, none, one, num, digit}
use Rattle.forms.proofs.Count.{Close, counts}
use Rattle.forms.proofs.Path.{of, Runs, end, step, size_none, size_one}
use Rattle.forms.proofs.Value.{num_small}

-- the size of the digit between the borrow t and the plain digit with its borrow, m
abbrev pub size : Borrow → ℕ → ℕ → ℕ
size none B m = m
size one B m = B - m

pub size_is : (t : Borrow) (B m : ℕ) (d : ℤ) → m ≤ B → d +ℤ pos (B * num t) ≡ pos m → nat_abs d ≡ size t B m
size_is none B m d h e = size_none d B m e
size_is one B m d h e = size_one d B m h e

pub digit_takes : (t : Borrow) (B m : ℕ) → digit B t m +ℤ pos (B * num t) ≡ pos m
digit_takes t B m = omega (arith, ints)

-- a path whose weight is the least from the pair p
pub record Tight (c : ℕ → ℕ) (B : ℕ) (p : Pair) (t : Borrow) (ds : List ℤ) (rs : List ℕ) (v : Borrow) : Type 0 where
  pub runs : Runs B t ds rs v
  pub paid : of v (least_from c B p rs) ≡ of t p + weight c ds

pub tight_end : (c : ℕ → ℕ) (B : ℕ) (p : Pair) (t : Borrow) → Tight c B p t [] [] t
tight_end c B p t = record { runs = end; paid = omega arith }

pub tight_step : (c : ℕ → ℕ) (B : ℕ) (p : Pair) {t u v : Borrow} {d : ℤ} {r : ℕ} {ds : List ℤ} {rs : List ℕ} → r < B → nat_abs d < B → d +ℤ pos (B * num t) ≡ pos (r + num u) → of u (fall c B p r) ≡ of t p + c (nat_abs d) → Tight c B (fall c B p r) u ds rs v → Tight c B p t (d ∷ ds) (r ∷ rs) v
tight_step c B p lt range e pays rest = record { runs = step lt range e rest.runs; paid = omega (arith, rest.paid, pays) }

pub best : (c : ℕ → ℕ) (B : ℕ) (p : Pair) (r : ℕ) (u : Borrow) → of u (fall c B p r) ≡ min (p.low + c (r + num u)) (p.high + c (B - (r + num u)))
best c B p r none = let e : r ≡ r + 0 = omega arith in ap (λ m. min (p.low + c m) (p.high + c (B - m))) e
best c B p r one = refl

-- a step pays if its borrow is the lighter one
pub lighter_step : (c : ℕ → ℕ) (B : ℕ) (p : Pair) (t u : Borrow) (d : ℤ) (r : ℕ) {v : Borrow} {ds : List ℤ} {rs : List ℕ} → r < B → nat_abs d < B → d +ℤ pos (B * num t) ≡ pos (r + num u) → min (p.low + c (r + num u)) (p.high + c (B - (r + num u))) ≡ of t p + c (size t B (r + num u)) → Tight c B (fall c B p r) u ds rs v → Tight c B p t (d ∷ ds) (r ∷ rs) v
lighter_step c B p t u d r lt range e lighter rest =
    let s = size_is t B (r + num u) d (omega (arith, num_small u)) e in
    tight_step c B p lt range e (best c B p r u ∙ lighter ∙ ap (λ n. of t p + c n) (sym s)) rest

-- the steps that are tight by count: the digit is in range, and if it is not 0 the borrow is the lighter one
abbrev pub Counts : ℕ → Pair → ℕ → Borrow → Type 0
Counts B p m none = (m < B) × (0 < m → p.low ≤ p.high)
Counts B p m one = (0 < m) × (m < B → p.high ≤ p.low)

counts_min : (B : ℕ) (p : Pair) (m : ℕ) (t : Borrow) → m ≤ B → Close 1 p → Counts B p m t → min (p.low + count_cost m) (p.high + count_cost (B - m)) ≡ of t p + count_cost (size t B m)
counts_min B p m none most h k = grind (arith, counts)
counts_min B p m one most h k = grind (arith, counts)

counts_range : (B : ℕ) (p : Pair) (m : ℕ) (t : Borrow) → m ≤ B → Counts B p m t → size t B m < B
counts_range B p m none most k = k.0
counts_range B p m one most k = omega arith

pub counts_step : (B : ℕ) (p : Pair) (t u : Borrow) (d : ℤ) (r : ℕ) {v : Borrow} {ds : List ℤ} {rs : List ℕ} → r < B → Close 1 p → d +ℤ pos (B * num t) ≡ pos (r + num u) → Counts B p (r + num u) t → Tight count_cost B (fall count_cost B p r) u ds rs v → Tight count_cost B p t (d ∷ ds) (r ∷ rs) v
counts_step B p t u d r lt close e how rest =
    let most : r + num u ≤ B = omega (arith, num_small u) in
    let s = size_is t B (r + num u) d most e in
    lighter_step count_cost B p t u d r lt (rw s (counts_range B p (r + num u) t most how)) e (counts_min B p (r + num u) t most close how) rest
