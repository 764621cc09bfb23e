-- The digits of some bytes, place by place. Assumes nothing.
use Rattle.std.proofs.lemmas.Grind.{common_steps}
use Rattle.std.proofs.Common.{◌≡◌, ℕ, ◌+◌, ◌<◌, ◌≤◌, true, cond, ltb, ◌⊎◌, List, [], ◌∷◌, length, get_or, take, drop, Some, sym, refl, ap, ◌∙◌, inl, inr, arith, length-take}
use Rattle.std.proofs.lemmas.List.{drop-drop, get_or-take, take-take}
use Rattle.std.proofs.lemmas.Bool.{cases_Bool, cond-true, ltb-false}
use Rattle.std.proofs.lemmas.Bool.Decides.{nat_tests}
use Rattle.std.specs.List.{take_while}
use Rattle.std.proofs.lemmas.List.Sums.{take_while-cons}
use Rattle.sources.specs.Bytes.{is_radix, fitted, room, front, digits_from, first, Longest}
use Rattle.sources.specs.BytesLaws.{front_below, front_few}

radix_holds : (r : ℕ) → 2 ≤ r → r ≤ 16 → is_radix r ≡ true
radix_holds r low high = grind (arith, nat_tests)

pub fitted_same : (r : ℕ) → 2 ≤ r → r ≤ 16 → fitted r ≡ r
fitted_same r low high = cond-true (is_radix r) r 2 (radix_holds r low high)

pub fitted_two : (r : ℕ) → (r < 2) ⊎ (16 < r) → fitted r ≡ 2
fitted_two r h = grind (arith, nat_tests)

room_full : (r : ℕ) → 2 ≤ r → r ≤ 16 → room r ≡ 4096
room_full r low high = cond-true (is_radix r) 4096 0 (radix_holds r low high)

-- at no radix there is no digit
pub none_unfit : (r i : ℕ) (xs : List ℕ) → (r < 2) ⊎ (16 < r) → digits_from r i xs ≡ []
none_unfit r i xs h = grind (arith, common_steps, nat_tests)

-- a first digit is followed by those from the next place on
front_some : (b d : ℕ) (xs : List ℕ) → Some d ≡ first (front b xs) → front b xs ≡ d ∷ front b (drop 1 xs)
front_some b d [] e = cc
front_some b d (x ∷ xs) e = grind (arith, common_steps, nat_tests)

pub digits_some : (r i d : ℕ) (xs : List ℕ) → Some d ≡ first (digits_from r i xs) → digits_from r i xs ≡ d ∷ digits_from r (i + 1) xs
digits_some r i d xs e = front_some (fitted r) d (drop i (take (room r) xs)) e ∙ ap (λ ys. d ∷ front (fitted r) ys) (drop-drop 1 i (take (room r) xs))

-- the front is the longest
front_fronts : (b : ℕ) (xs : List ℕ) → take (length (front b xs)) xs ≡ front b xs
front_fronts b [] = refl
front_fronts b (x ∷ xs) = elim (cases_Bool (ltb x b)) [ inl t ↦ rw t (ap (λ ys. x ∷ ys) (front_fronts b xs)) | inr t ↦ rw t refl ]

front_stops : (b : ℕ) (xs : List ℕ) → length (front b xs) < length xs → b ≤ get_or xs (length (front b xs)) 0
front_stops b [] h = absurd (omega arith)
front_stops b (x ∷ xs) h = elim (cases_Bool (ltb x b)) [ inl t ↦ let k = rw t at h in rw t (front_stops b xs (omega arith)) | inr t ↦ rw t (ltb-false x b t) ]

pub longest : (r : ℕ) (xs : List ℕ) → 2 ≤ r → r ≤ 16 → Longest r 4096 xs (digits_from r 0 xs)
longest r xs low high =
    let few = length-take 4096 xs in
    let short = front_few r (take 4096 xs) in
    let n = length (front r (take 4096 xs)) in
    let cut : n ≤ 4096 = omega arith in
    rw (fitted_same r low high, room_full r low high)
    (record {
      fronts = sym (take-take n 4096 xs cut) ∙ front_fronts r (take 4096 xs);
      below = front_below r (take 4096 xs);
      few = cut;
      stops = λ h k. rw (get_or-take 4096 xs n 0 h) at (front_stops r (take 4096 xs) (omega arith));
    })

-- the front is what is taken while below b
pub front_taken : (b : ℕ) (xs : List ℕ) → front b xs ≡ take_while (λ x. ltb x b) xs
front_taken b [] = refl
front_taken b (x ∷ xs) = ap (λ ys. cond (ltb x b) (x ∷ ys) []) (front_taken b xs) ∙ sym (take_while-cons (λ y. ltb y b) x xs)
