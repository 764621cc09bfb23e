-- Digits taken together, group by group, and the number that they write. Assumes nothing.
use Rattle.std.proofs.lemmas.Grind.{common_steps}
use Rattle.std.proofs.lemmas.Bool.Decides.{nat_tests}
use Rattle.std.proofs.Common.{◌≡◌, ℕ, zero, suc, ◌+◌, ◌-◌, ◌*◌, ◌/◌, ◌%◌, ◌^◌, ◌<◌, ◌≤◌, eqb, List, [], ◌∷◌, length, get_or, take, drop, Some, sym, refl, ap, ◌∙◌, mod-eq_of_lt, arith, length-drop}
use native.Mathlib.Nat.{pow-le-pow_left, pow-le-pow_right, mod-le}
use native.Mathlib.Decide.{dec_lt}
use Rattle.std.specs.Int.{div_ceil}
use Rattle.std.specs.Int.Digits.{number_from_digits, number_from_digits_after, AllBelowBase}
use Rattle.std.proofs.lemmas.Int.Digits.{number_more, number_after_append}
use Rattle.std.proofs.lemmas.List.{get_or-drop, drop-drop, take-append-drop, length-take-le}
use Rattle.std.proofs.lemmas.Bool.{cond_both, eqb-true}
use Rattle.sources.proofs.Numbers.{number_after_is, number_after_zero}
use Rattle.sources.specs.Source.{Step}
use Rattle.sources.proofs.Steps.{step_some}
use Rattle.sources.specs.Grouping.{used, odd, groups, grouped}
use Rattle.sources.specs.GroupingLaws.{used_ok, odd_le, number_below}

pub power_low : (b w : ℕ) → b ≤ 16 → w ≤ 4 → b ^ w < 4294967296
power_low b w h k = omega (arith, pow-le-pow_left h w, pow-le-pow_right {n = 16} (omega arith) {i = w} {j = 4} k)

-- a digit more of a number
pub joined_step : {S : Type 0} (b : ℕ) (ds cur : List ℕ) (i k acc : ℕ) (s t : S) (es : List ℕ) (x : ℕ) → 2 ≤ b → AllBelowBase b ds → i < k → k ≤ length ds → b ^ k ≤ 16 → cur ≡ drop i ds → acc ≡ number_from_digits b (take i ds) → Step cur s t es (Some x) → (acc * b + x ≡ number_from_digits b (take (i + 1) ds)) × (es ≡ drop (i + 1) ds) × (acc * b + x < 16)
joined_step b ds cur i k acc s t es x low below more there fits is so step =
    let p = step_some cur s t es x step in
    let e : i + 0 ≡ i = omega arith in
    let digit : x ≡ get_or ds i 0 = p.0 ∙ ap (λ ys. get_or ys 0 0) is ∙ get_or-drop i ds 0 0 ∙ ap (λ n. get_or ds n 0) e in
    let value : acc * b + x ≡ number_from_digits b (take (i + 1) ds) = ap (λ n. n * b + x) so ∙ ap (λ n. number_from_digits b (take i ds) * b + n) digit ∙ sym (number_more b ds i (omega arith)) in
    (value, p.1 ∙ ap (drop 1) is ∙ drop-drop 1 i ds, omega (arith, value, number_below b k (i + 1) ds low (omega arith) below))

pub odd_none : (w n : ℕ) → n % w ≡ 0 → odd w n ≡ w
odd_none w n h = grind (arith, common_steps, nat_tests)

pub odd_there : (w n : ℕ) → 0 < n → odd w n ≤ n
odd_there w n h =
    cond_both (eqb (n % w) 0) w (n % w) (λ u. u ≤ n)
    (λ e. elim (dec_lt n w) [ yes l ↦ let z = mod-eq_of_lt l in omega (arith, z, eqb-true (n % w) 0 e) | no l ↦ omega arith ])
    (λ e. mod-le n w)

pub odd_pos : (w n : ℕ) → 1 ≤ w → 1 ≤ odd w n
odd_pos w n h = grind (arith, common_steps, nat_tests)

-- a group is at most 16
pub group_fits : (b wide n : ℕ) → 2 ≤ b → b ≤ 16 → b ^ odd (used b wide) n ≤ 16
group_fits b wide n low high =
    let ok = used_ok b wide high in
    omega (arith, ok.2, pow-le-pow_right {n = b} (omega arith) {i = odd (used b wide) n} {j = used b wide} (odd_le (used b wide) n ok.0))

-- more room changes nothing
groups_room : (f g b w : ℕ) (ds : List ℕ) → 1 ≤ w → length ds ≤ f → length ds ≤ g → groups f b w ds ≡ groups g b w ds
groups_room zero zero b w ds o h k = refl
groups_room zero (suc g) b w [] o h k = refl
groups_room zero (suc g) b w (d ∷ ds) o h k = absurd (omega arith)
groups_room (suc f) zero b w [] o h k = refl
groups_room (suc f) zero b w (d ∷ ds) o h k = absurd (omega arith)
groups_room (suc f) (suc g) b w [] o h k = refl
groups_room (suc f) (suc g) b w (d ∷ ds) o h k =
    let n = odd w (length (d ∷ ds)) in
    let l = length-drop n (d ∷ ds) in
    let p = odd_pos w (length (d ∷ ds)) o in
    ap (λ ys. number_from_digits b (take n (d ∷ ds)) ∷ ys) (groups_room f g b w (drop n (d ∷ ds)) o (omega arith) (omega arith))

pub grouped_step : (b w : ℕ) (ds : List ℕ) → 1 ≤ w → 0 < length ds → grouped b w ds ≡ number_from_digits b (take (odd w (length ds)) ds) ∷ grouped b w (drop (odd w (length ds)) ds)
grouped_step b w [] o h = absurd (omega arith)
grouped_step b w (d ∷ ds) o h =
    let n = odd w (length (d ∷ ds)) in
    let l = length-drop n (d ∷ ds) in
    let p = odd_pos w (length (d ∷ ds)) o in
    ap (λ ys. number_from_digits b (take n (d ∷ ds)) ∷ ys) (groups_room (length ds) (length (drop n (d ∷ ds))) b w (drop n (d ∷ ds)) o (omega arith) (omega arith))

-- how many groups there are, a group less and a group more
ceil_step : (w n : ℕ) → 1 ≤ w → w ≤ 4 → 0 < n → suc ((n - odd w n + w - 1) / w) ≡ (n + w - 1) / w
ceil_step zero n h k l = absurd (omega arith)
ceil_step (suc zero) n h k l = grind (arith, common_steps, nat_tests)
ceil_step (suc (suc zero)) n h k l = grind (arith, common_steps, nat_tests)
ceil_step (suc (suc (suc zero))) n h k l = grind (arith, common_steps, nat_tests)
ceil_step (suc (suc (suc (suc zero)))) n h k l = grind (arith, common_steps, nat_tests)
ceil_step (suc (suc (suc (suc (suc w))))) n h k l = absurd (omega arith)

ceil_none : (w : ℕ) → 1 ≤ w → w ≤ 4 → (0 + w - 1) / w ≡ 0
ceil_none zero h k = absurd (omega arith)
ceil_none (suc zero) h k = refl
ceil_none (suc (suc zero)) h k = refl
ceil_none (suc (suc (suc zero))) h k = refl
ceil_none (suc (suc (suc (suc zero)))) h k = refl
ceil_none (suc (suc (suc (suc (suc w))))) h k = absurd (omega arith)

groups_count : (f b w : ℕ) (ds : List ℕ) → 1 ≤ w → w ≤ 4 → length ds ≤ f → (length ds + w - 1) / w ≡ length (groups f b w ds)
groups_count zero b w [] o h k = ceil_none w o h
groups_count zero b w (d ∷ ds) o h k = absurd (omega arith)
groups_count (suc f) b w [] o h k = ceil_none w o h
groups_count (suc f) b w (d ∷ ds) o h k =
    let n = odd w (length (d ∷ ds)) in
    let l = length-drop n (d ∷ ds) in
    let p = odd_pos w (length (d ∷ ds)) o in
    sym (ceil_step w (length (d ∷ ds)) o h (omega arith)) ∙ ap (λ m. suc ((m + w - 1) / w)) (sym l) ∙ ap suc (groups_count f b w (drop n (d ∷ ds)) o h (omega arith))

pub grouped_count : (b w : ℕ) (ds : List ℕ) → 1 ≤ w → w ≤ 4 → (length ds + w - 1) / w ≡ length (grouped b w ds)
grouped_count b w ds o h = groups_count (length ds) b w ds o h (omega arith)

-- a quotient that is rounded up
pub rounded_up : (w n : ℕ) → 1 ≤ w → w ≤ 4 → div_ceil n w ≡ (n + w - 1) / w
rounded_up zero n h k = absurd (omega arith)
rounded_up (suc zero) n h k = omega arith
rounded_up (suc (suc zero)) n h k = omega arith
rounded_up (suc (suc (suc zero))) n h k = omega arith
rounded_up (suc (suc (suc (suc zero)))) n h k = omega arith
rounded_up (suc (suc (suc (suc (suc w))))) n h k = absurd (omega arith)

odd_rest : (w n : ℕ) → 0 < n → (n - odd w n) % w ≡ 0
odd_rest w n h = grind (arith, common_steps, nat_tests)

-- groups of w digits each go on with a number as the digits themselves do
groups_value : (f b w n : ℕ) (ds : List ℕ) → 1 ≤ w → length ds ≤ f → length ds % w ≡ 0 → number_from_digits_after (b ^ w) n (groups f b w ds) ≡ number_from_digits_after b n ds
groups_value zero b w n [] o h e = refl
groups_value zero b w n (d ∷ ds) o h e = absurd (omega arith)
groups_value (suc f) b w n [] o h e = refl
groups_value (suc f) b w n (d ∷ ds) o h e =
    let xs = d ∷ ds in
    let k = odd w (length xs) in
    let is : k ≡ w = odd_none w (length xs) e in
    let some : 0 < length xs = omega arith in
    let there : k ≤ length xs = odd_there w (length xs) some in
    let rest : length (drop k xs) % w ≡ 0 = ap (λ m. m % w) (length-drop k xs) ∙ odd_rest w (length xs) some in
    let width : length (take k xs) ≡ w = length-take-le k xs there ∙ is in
    let first : n * b ^ w + number_from_digits b (take k xs) ≡ number_from_digits_after b n (take k xs) = ap (λ m. n * b ^ m + number_from_digits b (take k xs)) (sym width) ∙ sym (number_after_is b n (take k xs)) in
    groups_value f b w (n * b ^ w + number_from_digits b (take k xs)) (drop k xs) o (omega (arith, length-drop k xs)) rest
    ∙ ap (λ m. number_from_digits_after b m (drop k xs)) first
    ∙ sym (number_after_append b n (take k xs) (drop k xs))
    ∙ ap (number_from_digits_after b n) (take-append-drop k xs)

-- grouped digits write the same number
pub grouped_value : (b w : ℕ) (ds : List ℕ) → 1 ≤ w → number_from_digits (b ^ w) (grouped b w ds) ≡ number_from_digits b ds
grouped_value b w [] o = refl
grouped_value b w (d ∷ ds) o =
    let xs = d ∷ ds in
    let k = odd w (length xs) in
    let some : 0 < length xs = omega arith in
    let pos = odd_pos w (length xs) o in
    let rest : length (drop k xs) % w ≡ 0 = ap (λ m. m % w) (length-drop k xs) ∙ odd_rest w (length xs) some in
    groups_value (length ds) b w (0 * b ^ w + number_from_digits b (take k xs)) (drop k xs) o (omega (arith, length-drop k xs)) rest
    ∙ ap (λ m. number_from_digits_after b m (drop k xs)) (number_after_zero (b ^ w) (number_from_digits b (take k xs)))
    ∙ sym (number_after_append b 0 (take k xs) (drop k xs))
    ∙ ap (number_from_digits b) (take-append-drop k xs)
