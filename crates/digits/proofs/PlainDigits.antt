-- Settling a form place by place, and what the whole pass gives. Assumes nothing.
use Rattle.std.proofs.Common.{◌≡◌, ℕ, zero, suc, ◌+◌, ◌<◌, Bool, true, false, cond, List, [], ◌∷◌, ◌++◌, length, get_or, drop, set, ℤ, pos, negsuc, ◌-ℤ◌, neg_ℤ, nat_abs, ◌<ℤ◌, sym, refl, ap, ◌∙◌, arith, le-ltb}
use lib.Signed.{lt_z}
use Rattle.std.proofs.lemmas.List.{drop_more, drop-set, drop_at}
use Rattle.std.proofs.lemmas.Int.{ints}
use Rattle.std.specs.Int.Digits.{number_from_digits}
use Rattle.forms.specs.Borrow.{borrow_if, num}
use Rattle.forms.specs.Form.{value, InRange, negated}
use Rattle.forms.specs.Settled.{taken, left_of, settled}
use Rattle.forms.proofs.Negation.{negated-value, negated_range, negated-length}
use Rattle.forms.proofs.Settling.{settled-length, settled_plain, settled_up, settled_down, opposite_none, same_digits}
use Rattle.digits.specs.Settling.{Settled, sided}

-- a form or its opposite
pub sided-length : (o : Bool) (f : List ℤ) → length (sided o f) ≡ length f
sided-length true f = negated-length f
sided-length false f = refl

negated_at : (f : List ℤ) (i : ℕ) → get_or (negated f) i (pos 0) ≡ neg_ℤ (get_or f i (pos 0))
negated_at [] i = refl
negated_at (d ∷ ds) zero = refl
negated_at (d ∷ ds) (suc i) = negated_at ds i

pub sided_at : (o : Bool) (f : List ℤ) (i : ℕ) → get_or (sided o f) i (pos 0) ≡ cond o (neg_ℤ (get_or f i (pos 0))) (get_or f i (pos 0))
sided_at true f i = negated_at f i
sided_at false f i = refl

-- a turn goes from index k to the index i below it
module _ (B : ℕ) (g : List ℤ) (i k r : ℕ) (d : ℤ) (t b : Bool) (next : k ≡ i + 1) (inside : i < length g) (here : d ≡ get_or g i (pos 0)) (carried : borrow_if t ≡ taken (drop k g)) (borrows : b ≡ lt_z (d -ℤ pos (num (borrow_if t))) (pos 0)) where
  cut : drop i g ≡ d ∷ drop k g
  cut = rw (here, next) (drop_more g i (pos 0) inside)

  pub taken_more : borrow_if b ≡ taken (drop i g)
  taken_more = rw (borrows, carried, cut)

  pub settled_more : (plain rest : List ℕ) → r ≡ left_of B d (borrow_if t) (borrow_if b) → i < length plain → drop k plain ≡ settled B (drop k g) ++ rest → drop i (set plain i r) ≡ settled B (drop i g) ++ rest
  settled_more plain rest e room inv = rw (drop-set plain i r room, ← next, inv, cut, e, borrows, carried)

below_test : (z : ℤ) → z <ℤ pos 0 → true ≡ lt_z z (pos 0)
below_test (pos n) h = absurd (omega (arith, ints))
below_test (negsuc n) h = refl

-- the whole, by its sign
pub settles_up : (B : ℕ) (f : List ℤ) (before after : List ℕ) (b : Bool) → InRange B f → borrow_if b ≡ taken f → after ≡ settled B f ++ drop (length f) before → b ≡ false → Settled B f before after b
settles_up B f before after b range t area e =
    let up = settled_up B f range (rw e at (sym t)) in
    let w : number_from_digits B (settled B f) ≡ nat_abs (value B f) = sym (ap nat_abs up) in
    record {
      digits = settled B f;
      area = area;
      places = settled-length B f;
      plain = settled_plain B f range;
      sign = rw (e, up, le-ltb (number_from_digits B (settled B f)) 0 (omega arith));
      writes = w;
      only = λ qs len u k. same_digits B (settled B f) qs (settled-length B f ∙ sym len) (settled_plain B f range) u (w ∙ sym k);
    }

pub settles_below : (B : ℕ) (f : List ℤ) (before middle after : List ℕ) (b : Bool) → InRange B f → borrow_if b ≡ taken f → middle ≡ settled B f ++ drop (length f) before → after ≡ settled B (negated f) ++ drop (length f) middle → b ≡ true → Settled B f before after b
settles_below B f before middle after b range t first area e =
    let g = negated f in
    let down = settled_down B f range (rw e at (sym t)) in
    let r = negated_range B f range in
    let up = settled_up B g r (opposite_none B f range down) in
    let n = negated-value B f in
    let w : number_from_digits B (settled B g) ≡ nat_abs (value B f) = omega (arith, ints) in
    let len = settled-length B g ∙ negated-length f in
    record {
      digits = settled B g;
      area = rw (area, first, drop_at (settled B f) (drop (length f) before) (length f) (settled-length B f));
      places = len;
      plain = settled_plain B g r;
      sign = e ∙ below_test (value B f) down;
      writes = w;
      only = λ qs l u k. same_digits B (settled B g) qs (len ∙ sym l) (settled_plain B g r) u (w ∙ sym k);
    }
