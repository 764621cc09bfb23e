-- Every digit negated: the value is negated, and nothing else that matters changes. Assumes nothing.
use Rattle.std.proofs.Common.{◌≡◌, ℕ, suc, ◌*◌, List, [], ◌∷◌, length, ℤ, pos, ◌+ℤ◌, ◌*ℤ◌, neg_ℤ, nat_abs, ◌<ℤ◌, sym, refl, ap, ◌∙◌, arith}
use borrow.Author.Differences.{neg_is}
use lib.IntN.{neg_ℤ-neg_ℤ}
use Rattle.std.proofs.lemmas.Int.{ints}
use Rattle.forms.specs.Form.{value, InRange, Represents, negated}
use Rattle.forms.specs.Weight.{weight, Lightest}
use Rattle.forms.specs.Neighbours.{Chain}
use Rattle.forms.specs.Nonadjacent.{Beside}
use Rattle.forms.specs.Balanced.{Half}
use Rattle.forms.proofs.Horner.{value_from, value_horner}
use Rattle.forms.proofs.Signs.{opposed_in, opposed_out}

neg_abs : (d : ℤ) → nat_abs (neg_ℤ d) ≡ nat_abs d
neg_abs d = omega (arith, ints)

pub neg_step : (B : ℕ) (x d : ℤ) → neg_ℤ x *ℤ pos B +ℤ neg_ℤ d ≡ neg_ℤ (x *ℤ pos B +ℤ d)
neg_step B x d =
    let u = ap (λ n. n * B) (neg_is x).0 in
    let w = ap (λ n. n * B) (neg_is x).1 in
    omega (arith, ints)

negated_from : (B : ℕ) (x : ℤ) (ds : List ℤ) → value_from B (neg_ℤ x) (negated ds) ≡ neg_ℤ (value_from B x ds)
negated_from B x [] = refl
negated_from B x (d ∷ ds) = ap (λ z. value_from B z (negated ds)) (neg_step B x d) ∙ negated_from B (x *ℤ pos B +ℤ d) ds

pub negated-value : (B : ℕ) (ds : List ℤ) → value B (negated ds) ≡ neg_ℤ (value B ds)
negated-value B ds = value_horner B (negated ds) ∙ negated_from B (pos 0) ds ∙ ap neg_ℤ (sym (value_horner B ds))

pub negated-weight : (c : ℕ → ℕ) (ds : List ℤ) → weight c (negated ds) ≡ weight c ds
negated-weight c [] = refl
negated-weight c (d ∷ ds) = omega (arith, negated-weight c ds, ap c (neg_abs d))

pub negated_range : (B : ℕ) (ds : List ℤ) → InRange B ds → InRange B (negated ds)
negated_range B [] h = tt
negated_range B (d ∷ ds) h = (rw (neg_abs d) h.0, negated_range B ds h.1)

negated_opposed : (x y : ℤ) → (neg_ℤ x *ℤ neg_ℤ y) <ℤ pos 0 → (x *ℤ y) <ℤ pos 0
negated_opposed x y h = let o = opposed_out (neg_ℤ x) (neg_ℤ y) h in opposed_in x y (grind (arith, ints))

pub negated_beside : (B : ℕ) (x y : ℤ) → Beside B x y → Beside B (neg_ℤ x) (neg_ℤ y)
negated_beside B x y h = record { sum = omega (arith, ints, h.sum); opposed = λ k. rw (neg_abs x, neg_abs y) (h.opposed (negated_opposed x y k)) }

pub negated_chain : (R : ℤ → ℤ → Type 0) → ((x y : ℤ) → R x y → R (neg_ℤ x) (neg_ℤ y)) → (x : ℤ) (ds : List ℤ) → Chain R x ds → Chain R (neg_ℤ x) (negated ds)
negated_chain R m x [] h = tt
negated_chain R m x (y ∷ ys) h = (m x y h.0, negated_chain R m y ys h.1)

pub negated_half : (B : ℕ) (x y : ℤ) → Half B x y → Half B (neg_ℤ x) (neg_ℤ y)
negated_half B x y h =
    let same = neg_abs y in
    let e : 2 * nat_abs (neg_ℤ y) ≡ B → 2 * nat_abs y ≡ B = λ k. omega arith in
    record { size = omega (arith, h.size); smaller = λ k. rw (neg_abs x, neg_abs y) (h.smaller (e k)); alike = λ k o. h.alike (e k) (negated_opposed x y o) }

-- twice is not at all
pub negated_twice : (ds : List ℤ) → negated (negated ds) ≡ ds
negated_twice [] = refl
negated_twice (d ∷ ds) = cc (neg_ℤ-neg_ℤ d, negated_twice ds)

pub negated-length : (ds : List ℤ) → length (negated ds) ≡ length ds
negated-length [] = refl
negated-length (d ∷ ds) = ap suc (negated-length ds)

-- a form, and a lightest one
pub negated_represents : (B : ℕ) (z : ℤ) (f : List ℤ) → Represents B z f → Represents B (neg_ℤ z) (negated f)
negated_represents B z f h = record { range = negated_range B f h.range; worth = negated-value B f ∙ ap neg_ℤ h.worth }

pub negated_lightest : (c : ℕ → ℕ) (B : ℕ) (z : ℤ) (f : List ℤ) → Lightest c B z f → Lightest c B (neg_ℤ z) (negated f)
negated_lightest c B z f h g s =
    let r = negated_represents B (neg_ℤ z) g s in
    omega (arith, h (negated g) (record { range = r.range; worth = r.worth ∙ neg_ℤ-neg_ℤ z }), negated-weight c f, negated-weight c g)
