-- Settling a form: its plain digits write its absolute value, and the borrow above them tells its sign. Assumes nothing.
use Rattle.std.proofs.Common.{◌≡◌, ℕ, suc, ◌+◌, ◌*◌, ◌^◌, ◌<◌, Bool, true, false, List, [], ◌∷◌, length, ℤ, pos, ◌+ℤ◌, ◌-ℤ◌, ◌*ℤ◌, nat_abs, ◌<ℤ◌, sym, refl, ap, ◌∙◌, subst, arith}
use native.Mathlib.Nat.{mul-le-mul_right, pow-zero, pow-succ'}
use lib.Signed.{lt_z}
use Rattle.std.proofs.lemmas.Int.Digits.{number_lt}
use Rattle.std.proofs.lemmas.Int.{ints}
use Rattle.std.specs.Int.Digits.{number_from_digits_after, number_from_digits, AllBelowBase}
use Rattle.forms.specs.Form.{value, InRange, negated}
use Rattle.forms.specs.Borrow.{Borrow, none, one, num, borrow_if}
use Rattle.forms.specs.Settled.{taken, left_of, settled}
use Rattle.forms.proofs.Horner.{value_from, value_from_is}
use Rattle.forms.proofs.Negation.{negated-value, negated_range}
use Rattle.forms.proofs.Path.{Runs, end, step}
use Rattle.forms.proofs.Value.{num_small, path_value}

pub settled-length : (B : ℕ) (f : List ℤ) → length (settled B f) ≡ length f
settled-length B [] = refl
settled-length B (d ∷ ds) = ap suc (settled-length B ds)

-- one place
place : (B : ℕ) (d : ℤ) (u : Borrow) (b : Bool) → lt_z (d -ℤ pos (num u)) (pos 0) ≡ b → nat_abs d < B → (left_of B d u (borrow_if b) < B) × (d +ℤ pos (B * num (borrow_if b)) ≡ pos (left_of B d u (borrow_if b) + num u))
place B d u true e h = let k = num_small u in (omega (arith, ints), omega (arith, ints))
place B d u false e h = let k = num_small u in (omega (arith, ints), omega (arith, ints))

-- a form beside its settled digits
pub settled_runs : (B : ℕ) (f : List ℤ) → InRange B f → Runs B (taken f) f (settled B f) none
settled_runs B [] h = end
settled_runs B (d ∷ ds) h = let p = place B d (taken ds) (lt_z (d -ℤ pos (num (taken ds))) (pos 0)) refl h.0 in step p.0 h.0 p.1 (settled_runs B ds h.1)

runs_plain : (B : ℕ) {t v : Borrow} {f : List ℤ} {rs : List ℕ} → Runs B t f rs v → AllBelowBase B rs
runs_plain B end = tt
runs_plain B (step low range e rest) = (low, runs_plain B rest)

pub settled_plain : (B : ℕ) (f : List ℤ) → InRange B f → AllBelowBase B (settled B f)
settled_plain B f h = runs_plain B (settled_runs B f h)

-- the value, up to the borrow above
balance : (B : ℕ) (f : List ℤ) → InRange B f → pos (num (taken f)) *ℤ pos (B ^ length f) +ℤ value B f ≡ pos (number_from_digits B (settled B f))
balance B f h =
    let z : 0 + num (taken f) ≡ num (taken f) = omega arith in
    let e = path_value B 0 (settled_runs B f h) in
    sym (value_from_is B (pos (num (taken f))) f) ∙ ap (λ n. value_from B (pos n) f) (sym z) ∙ e ∙ ap pos (omega arith)

settled_small : (B : ℕ) (f : List ℤ) → InRange B f → number_from_digits B (settled B f) < B ^ length f
settled_small B f h = subst (λ n. number_from_digits B (settled B f) < B ^ n) (settled-length B f) (number_lt B (settled B f) (settled_plain B f h))

-- no borrow: the value is what the settled digits write
pub settled_up : (B : ℕ) (f : List ℤ) → InRange B f → taken f ≡ none → value B f ≡ pos (number_from_digits B (settled B f))
settled_up B f h e = omega (arith, ints, balance B f h, ap (λ t. pos (num t) *ℤ pos (B ^ length f)) e)

-- a borrow: the value is below 0
pub settled_down : (B : ℕ) (f : List ℤ) → InRange B f → taken f ≡ one → value B f <ℤ pos 0
settled_down B f h e = omega (arith, ints, balance B f h, ap (λ t. pos (num t) *ℤ pos (B ^ length f)) e, settled_small B f h)

-- below 0 the opposite form borrows nothing
pub opposite_none : (B : ℕ) (f : List ℤ) → InRange B f → value B f <ℤ pos 0 → taken (negated f) ≡ none
opposite_none B f h below = by (taken (negated f)) refl
  where
    by : (t : Borrow) → taken (negated f) ≡ t → t ≡ none
    by none e = refl
    by one e = let s = settled_down B (negated f) (negated_range B f h) e in absurd (omega (arith, ints, negated-value B f))

-- plain digits of one number, in as many places, are the same
after_is : (B x : ℕ) (rs : List ℕ) → number_from_digits_after B x rs ≡ x * B ^ length rs + number_from_digits B rs
after_is B x [] = let e = pow-zero B in omega (arith, ap (λ n. x * n) e)
after_is B x (r ∷ rs) =
    let p = B ^ length rs in
    let e : x * B ^ suc (length rs) ≡ x * (B * p) = ap (λ n. x * n) (pow-succ' B (length rs)) in
    omega (arith, e, after_is B (x * B + r) rs, after_is B (0 * B + r) rs)

pub top_digit : (B r : ℕ) (rs : List ℕ) → number_from_digits B (r ∷ rs) ≡ r * B ^ length rs + number_from_digits B rs
top_digit B r rs = omega (arith, after_is B (0 * B + r) rs)

top_same : (p r q a b : ℕ) → a < p → b < p → r * p + a ≡ q * p + b → r ≡ q
top_same p r q a b h k e =
    let less = λ (l : r < q). mul-le-mul_right p l in
    let more = λ (l : q < r). mul-le-mul_right p l in
    grind arith

pub same_digits : (B : ℕ) (rs qs : List ℕ) → length rs ≡ length qs → AllBelowBase B rs → AllBelowBase B qs → number_from_digits B rs ≡ number_from_digits B qs → rs ≡ qs
same_digits B [] [] len u v e = refl
same_digits B [] (q ∷ qs) len u v e = absurd (omega arith)
same_digits B (r ∷ rs) [] len u v e = absurd (omega arith)
same_digits B (r ∷ rs) (q ∷ qs) len u v e =
    let p = B ^ length rs in
    let level : B ^ length qs ≡ p = ap (λ n. B ^ n) (omega arith) in
    let lower = subst (λ n. number_from_digits B qs < n) level (number_lt B qs v.1) in
    let both = sym (top_digit B r rs) ∙ e ∙ top_digit B q qs ∙ ap (λ n. q * n + number_from_digits B qs) level in
    let s = top_same p r q _ _ (number_lt B rs u.1) lower both in
    let t = ap (λ n. n * p) s in
    cc (s, same_digits B rs qs (omega arith) u.1 v.1 (omega arith))
