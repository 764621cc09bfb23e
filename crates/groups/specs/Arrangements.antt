-- The orders of sixteen lanes are a group.
use Rattle.std.proofs.lemmas.Grind.{common_steps}
use Rattle.std.proofs.lemmas.Bool.Decides.{nat_tests}
use Rattle.std.specs.Prelude.{◌≡◌, ℕ, zero, suc, ◌%◌, ◌<◌, ◌≤◌, ◌≢◌, List, length, slice_index, slice_index_or, slice_set, refl}
use Rattle.std.proofs.Common.{sym, ap, ◌∙◌, inl, inr, arith, mod-eq_of_lt, length-set, ext_get_or, get_or-set_same, get_or-set_other}
use Rattle.std.proofs.lemmas.List.{length-replicate}
use Rattle.std.proofs.lemmas.Bool.{cases_lt}
use Rattle.std.specs.List.{range_with_len}
use Rattle.std.proofs.lemmas.List.FromFn.{length-range_with_len, get_or-range_with_len, get_or-map-range_with_len}
use Rattle.groups.specs.Laws.{Laws}
use Rattle.groups.specs.Lanes.{of_lanes, LaneElement, lane_one, lane_times, lane_inv, Arranged, after, back, Misfit}
use Rattle.groups.specs.Pigeonholes.{Apart, all_reached}

pub after_size : (p q : List ℕ) → length (after p q) ≡ 16
unfolding after
after_size p q = grind (arith, common_steps, nat_tests)

pub after_at : (p q : List ℕ) (i : ℕ) → i < 16 → slice_index (after p q) i ≡ slice_index p (slice_index q i % 16)
unfolding after
after_at p q i h = get_or-map-range_with_len (λ i. slice_index p (slice_index q i % 16)) 0 16 i i 0 h (omega arith)

-- at an arrangement the mask does nothing
pub after_at_in : (p q : List ℕ) → Arranged q → (i : ℕ) → i < 16 → slice_index (after p q) i ≡ slice_index p (slice_index q i)
after_at_in p q a i h = after_at p q i h ∙ ap (λ k. slice_index p k) (mod-eq_of_lt (a.below i h))

pub after_assoc : (p q r : List ℕ) → after (after p q) r ≡ after p (after q r)
after_assoc p q r =
    ext_get_or 0 _ _ (after_size (after p q) r ∙ sym (after_size p (after q r)))
    (λ i h.
    let k : i < 16 = omega (arith, after_size (after p q) r) in
    let m : slice_index_or r i 0 % 16 < 16 = omega arith in
    after_at (after p q) r i k ∙ after_at p q (slice_index r i % 16) m ∙ ap (λ n. slice_index p (n % 16)) (sym (after_at q r i k)) ∙ sym (after_at p (after q r) i k))

pub one_at : (i : ℕ) → i < 16 → slice_index (range_with_len 0 16) i ≡ i
one_at i h = get_or-range_with_len 0 16 i 0 h ∙ omega arith

pub one_arranged : Arranged (range_with_len 0 16)
one_arranged = record {
  size = length-range_with_len 0 16;
  below = λ i h. omega (arith, one_at i h);
  once = λ j h. (j, record { within = h; here = one_at j h; alone = λ k l e. sym (one_at k l) ∙ e });
}

pub after_left : (p : List ℕ) → Arranged p → after (range_with_len 0 16) p ≡ p
after_left p a =
    ext_get_or 0 _ _ (after_size (range_with_len 0 16) p ∙ sym a.size)
    (λ i h.
    let k : i < 16 = omega (arith, after_size (range_with_len 0 16) p) in
    after_at_in (range_with_len 0 16) p a i k ∙ one_at (slice_index p i) (a.below i k))

pub after_right : (p : List ℕ) → Arranged p → after p (range_with_len 0 16) ≡ p
after_right p a =
    ext_get_or 0 _ _ (after_size p (range_with_len 0 16) ∙ sym a.size)
    (λ i h.
    let k : i < 16 = omega (arith, after_size p (range_with_len 0 16)) in
    after_at_in p (range_with_len 0 16) one_arranged i k ∙ ap (λ n. slice_index p n) (one_at i k))

pub after_arranged : (p q : List ℕ) → Arranged p → Arranged q → Arranged (after p q)
after_arranged p q a b = record {
  size = after_size p q;
  below = λ i h. omega (arith, after_at_in p q b i h, a.below (slice_index q i) (b.below i h));
  once = λ j h.
      let s = a.once j h in
      let t = b.once s.0 s.1.within in (
        t.0,
        record {
          within = t.1.within;
          here = after_at_in p q b t.0 t.1.within ∙ ap (λ n. slice_index p n) t.1.here ∙ s.1.here;
          alone = λ k l e. t.1.alone k l (s.1.alone (slice_index q k) (b.below k l) (sym (after_at_in p q b k l) ∙ e));
        },
      );
}

-- no two lanes of an arrangement are the same
pub apart : (p : List ℕ) → Arranged p → Apart (λ i. slice_index p i) 16
apart p a i k h l e =
    let s = a.once (slice_index p k) (a.below k l) in
    s.1.alone i h e ∙ sym (s.1.alone k l refl)

pub back_size : (p : List ℕ) (n : ℕ) → length (back p n) ≡ 16
unfolding back
back_size p zero = length-replicate {A = ℕ} 16 0
back_size p (suc n) = length-set (back p n) (slice_index p n % 16) n ∙ back_size p n

back_at : (p : List ℕ) → Arranged p → (n : ℕ) → n ≤ 16 → (i : ℕ) → i < n → slice_index (back p n) (slice_index p i) ≡ i
unfolding back
back_at p a zero m i h = absurd (omega arith)
back_at p a (suc n) m i h =
    let small : i < 16 = omega arith in
    let top : n < 16 = omega arith in
    let same : slice_index_or p n 0 % 16 ≡ slice_index_or p n 0 = mod-eq_of_lt (a.below n top) in
    elim (cases_lt i n) [
      | inl lt ↦
          let ne : slice_index_or p i 0 ≢ slice_index p n % 16 = λ e. let z : i ≡ n = apart p a i n small top (e ∙ same) in omega arith in
          get_or-set_other (back p n) (slice_index p n % 16) (slice_index p i) n 0 ne ∙ back_at p a n (omega arith) i lt
      | inr ge ↦
          let eq : i ≡ n = omega arith in
          let wide : slice_index_or p n 0 % 16 < length (back p n) = omega (arith, back_size p n) in
          ap (λ k. slice_index (slice_set (back p n) (slice_index p n % 16) n) (slice_index p k)) eq ∙ ap (λ k. slice_index (slice_set (back p n) (slice_index p n % 16) n) k) (sym same) ∙ get_or-set_same (back p n) (slice_index p n % 16) n 0 wide ∙ sym eq
    ]

-- the inverse takes p(i) to i
pub back_of : (p : List ℕ) → Arranged p → (i : ℕ) → i < 16 → slice_index (back p 16) (slice_index p i) ≡ i
back_of p a i h = back_at p a 16 (omega arith) i h

-- and j to where j stands in p
back_to : (p : List ℕ) (a : Arranged p) (j : ℕ) (h : j < 16) → slice_index (back p 16) j ≡ (a.once j h).0
back_to p a j h = let s = a.once j h in ap (λ n. slice_index (back p 16) n) (sym s.1.here) ∙ back_of p a s.0 s.1.within

pub back_arranged : (p : List ℕ) → Arranged p → Arranged (back p 16)
back_arranged p a = record {
  size = back_size p 16;
  below = λ j h. omega (arith, back_to p a j h, (a.once j h).1.within);
  once = λ i h. (
    slice_index p i,
    record {
      within = a.below i h;
      here = back_of p a i h;
      alone = λ k l e. sym (a.once k l).1.here ∙ ap (λ n. slice_index p n) (sym (back_to p a k l) ∙ e);
    },
  );
}

pub back_left : (p : List ℕ) → Arranged p → after (back p 16) p ≡ range_with_len 0 16
back_left p a =
    ext_get_or 0 _ _ (after_size (back p 16) p ∙ sym (length-range_with_len 0 16))
    (λ i h.
    let k : i < 16 = omega (arith, after_size (back p 16) p) in
    after_at_in (back p 16) p a i k ∙ back_of p a i k ∙ sym (one_at i k))

pub back_right : (p : List ℕ) → Arranged p → after p (back p 16) ≡ range_with_len 0 16
back_right p a =
    ext_get_or 0 _ _ (after_size p (back p 16) ∙ sym (length-range_with_len 0 16))
    (λ i h.
    let k : i < 16 = omega (arith, after_size p (back p 16)) in
    after_at_in p (back p 16) (back_arranged p a) i k ∙ ap (λ n. slice_index p n) (back_to p a i k) ∙ (a.once i k).1.here ∙ sym (one_at i k))

pub lane_laws : Laws LaneElement lane_one lane_times lane_inv
lane_laws = record {
  one_in = one_arranged;
  times_in = λ x y p q. after_arranged x.lanes y.lanes p q;
  inv_in = λ x p. back_arranged x.lanes p;
  assoc = λ x y z p q r. ap of_lanes (after_assoc x.lanes y.lanes z.lanes);
  one_left = λ x p. ap of_lanes (after_left x.lanes p);
  one_right = λ x p. ap of_lanes (after_right x.lanes p);
  inv_left = λ x p. ap of_lanes (back_left x.lanes p);
  inv_right = λ x p. ap of_lanes (back_right x.lanes p);
}

-- sixteen lanes without a misfit are an arrangement
fits-apart : (p : List ℕ) → ((i : ℕ) → i < 16 → Misfit p i → ⊥) → Apart (λ i. slice_index p i) 16
fits-apart p fits i k h l e = grind (arith, common_steps, nat_tests)

pub fits-arranged : (p : List ℕ) → length p ≡ 16 → ((i : ℕ) → i < 16 → Misfit p i → ⊥) → Arranged p
fits-arranged p size fits =
    let low : (i : ℕ) → i < 16 → slice_index p i < 16 =
    λ i h. elim (cases_lt 15 (slice_index p i)) [ inl above ↦ absurd (fits i h (inl above)) | inr fine ↦ omega arith ] in
    record {
      size = size;
      below = low;
      once = λ j h.
          let s = all_reached 16 (λ i. slice_index p i) low (fits-apart p fits) j h in (
            s.0,
            record {
              within = s.1;
              here = s.2;
              alone = λ k l e. fits-apart p fits k s.0 l s.1 (e ∙ sym s.2);
            },
          );
    }
