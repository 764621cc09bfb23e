-- A carry that runs up a form. Assumes nothing.
use Rattle.std.proofs.Common.{◌≡◌, ℕ, zero, suc, ◌+◌, ◌^◌, ◌<◌, ◌≤◌, List, [], ◌∷◌, length, get_or, set, ℤ, pos, ◌+ℤ◌, ◌*ℤ◌, nat_abs, refl, ap, ◌∙◌, arith, length-set, get_or-set_other, get_or-set_same}
use native.Mathlib.Nat.{pow-succ'}
use native.Mathlib.Decide.{ℕ_discrete}
use Rattle.std.proofs.lemmas.Int.{ints}
use Rattle.forms.specs.Form.{value, InRange}
use Rattle.forms.proofs.Ring.{add-mulℤ, mul-assocℤ}

-- the same value; every digit smaller than the radix but the one at k; the top one 0 until the carry reaches it
pub record Carried (B k : ℕ) (f g : List ℤ) : Type 0 where
  pub long : length g ≡ length f
  pub worth : value B g ≡ value B f
  pub here : nat_abs (get_or g k (pos 0)) < B + B
  pub others : (j : ℕ) → ¬ (j ≡ k) → nat_abs (get_or g j (pos 0)) < B
  pub below : 1 ≤ k → get_or g 0 (pos 0) ≡ pos 0
  pub above : k ≡ 0 → nat_abs (get_or g 0 (pos 0)) ≤ 1

-- a digit's carry into the place above
across : (a b x c P V R p : ℤ) → b ≡ x +ℤ c *ℤ R → P ≡ R *ℤ p → (a +ℤ c) *ℤ P +ℤ (x *ℤ p +ℤ V) ≡ a *ℤ P +ℤ (b *ℤ p +ℤ V)
across a b x c P V R p e up =
    let over : (c *ℤ R) *ℤ p ≡ c *ℤ P = rw up (mul-assocℤ c R p) in
    let lower : b *ℤ p ≡ x *ℤ p +ℤ c *ℤ P = rw (e, ← over) (add-mulℤ x (c *ℤ R) p) in
    omega (arith, ints, add-mulℤ a c P)

carry_worth : (B : ℕ) (g : List ℤ) (k : ℕ) (x c : ℤ) → suc k < length g → get_or g (suc k) (pos 0) ≡ x +ℤ c *ℤ pos B → value B (set (set g (suc k) x) k (get_or g k (pos 0) +ℤ c)) ≡ value B g
carry_worth B [] k x c h e = absurd (omega arith)
carry_worth B (a ∷ []) k x c h e = absurd (omega arith)
carry_worth B (a ∷ b ∷ g) zero x c h e = across a b x c (pos (B ^ suc (length g))) (value B g) (pos B) (pos (B ^ length g)) e (ap pos (pow-succ' B (length g)))
carry_worth B (a ∷ b ∷ g) (suc k) x c h e =
    let g' = set (set (b ∷ g) (suc k) x) k (get_or (b ∷ g) k (pos 0) +ℤ c) in
    let long : length g' ≡ length (b ∷ g) = length-set (set (b ∷ g) (suc k) x) k _ ∙ length-set (b ∷ g) (suc k) x in
    rw (long, carry_worth B (b ∷ g) k x c (omega arith) e)

-- one step of the loop, from index suc k to index k
carry_more : (B k : ℕ) (f g : List ℤ) (x c y : ℤ) → 1 < B → suc k < length f → Carried B (suc k) f g → get_or g (suc k) (pos 0) ≡ x +ℤ c *ℤ pos B → nat_abs x < B → nat_abs c ≤ 1 → y ≡ get_or g k (pos 0) +ℤ c → Carried B k f (set (set g (suc k) x) k y)
carry_more B k f g x c y two h inv e small one is =
    let g' = set g (suc k) x in
    let long' : length g' ≡ length f = length-set g (suc k) x ∙ inv.long in
    let at : get_or (set g' k y) k (pos 0) ≡ y = get_or-set_same g' k y (pos 0) (omega arith) in
    let was = inv.others k (λ q. omega arith) in
    record {
      long = length-set g' k y ∙ long';
      worth = ap (λ z. value B (set g' k z)) is ∙ carry_worth B g k x c (omega (arith, inv.long)) e ∙ inv.worth;
      here = omega (arith, ints, ap nat_abs at, ap nat_abs is, was, one);
      others = elsewhere;
      below = λ l. get_or-set_other g' k 0 y (pos 0) (omega arith) ∙ get_or-set_other g (suc k) 0 x (pos 0) (omega arith) ∙ inv.below (omega arith);
      above = topmost;
    }
  where
    others_small : (j : ℕ) → ¬ (j ≡ k) → Dec (j ≡ suc k) → nat_abs (get_or (set g (suc k) x) j (pos 0)) < B
    others_small j n (yes q) = rw (q, get_or-set_same g (suc k) x (pos 0) (omega (arith, inv.long))) small
    others_small j n (no q) = rw (get_or-set_other g (suc k) j x (pos 0) q) (inv.others j q)

    elsewhere : (j : ℕ) → ¬ (j ≡ k) → nat_abs (get_or (set (set g (suc k) x) k y) j (pos 0)) < B
    elsewhere j n = rw (get_or-set_other (set g (suc k) x) k j y (pos 0) n) (others_small j n (ℕ_discrete j (suc k)))

    topmost : k ≡ 0 → nat_abs (get_or (set (set g (suc k) x) k y) 0 (pos 0)) ≤ 1
    topmost z =
        let at = get_or-set_same (set g (suc k) x) k y (pos 0) (omega (arith, length-set g (suc k) x, inv.long)) in
        let carried : get_or (set (set g (suc k) x) k y) 0 (pos 0) ≡ pos 0 +ℤ c = cc (z, at, is, inv.below (omega arith)) in
        omega (arith, ints, ap nat_abs carried, one)

-- at the top every digit is in range
each_in_range : (B : ℕ) (g : List ℤ) → ((j : ℕ) → nat_abs (get_or g j (pos 0)) < B) → InRange B g
each_in_range B [] h = tt
each_in_range B (d ∷ g) h = (h 0, each_in_range B g (λ j. h (suc j)))

pub carried_range : (B : ℕ) (f g : List ℤ) → 1 < B → Carried B 0 f g → InRange B g
carried_range B f g two inv = each_in_range B g each
  where
    each : (j : ℕ) → nat_abs (get_or g j (pos 0)) < B
    each zero = omega (arith, inv.above refl)
    each (suc j) = inv.others (suc j) (λ q. omega arith)

pub carry_again : (B m k : ℕ) (f g : List ℤ) (x c y : ℤ) → m ≡ suc k → 1 < B → m < length f → Carried B m f g → get_or g m (pos 0) ≡ x +ℤ c *ℤ pos B → nat_abs x < B → nat_abs c ≤ 1 → y ≡ get_or (set g m x) k (pos 0) +ℤ c → Carried B k f (set (set g m x) k y)
carry_again B m k f g x c y e two h inv parts small one is =
    rw e (carry_more B k f g x c y two (omega arith) (rw e at inv) (rw e at parts) small one (is ∙ ap (λ z. z +ℤ c) (get_or-set_other g m k x (pos 0) (omega arith))))
