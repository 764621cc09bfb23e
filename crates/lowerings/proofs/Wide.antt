-- A number written with one digit more than there is room for: too large exactly if the top digit is not 0. Assumes nothing.
use Rattle.std.proofs.Common.{◌≡◌, ℕ, zero, suc, ◌+◌, ◌-◌, ◌*◌, ◌^◌, ◌<◌, ◌≤◌, Bool, true, false, leb, List, [], ◌∷◌, ◌++◌, length, get_or, take, drop, replicate, pos, ◌*ℤ◌, neg_ℤ, nat_abs, Ok, Err, sym, refl, ap, ◌∙◌, mul-le-mul, arith, le-ltb, lt-ltb, leb-true}
use native.Mathlib.Nat.{pow-succ'}
use Rattle.std.proofs.lemmas.Int.Digits.{number_lt, number_push}
use Rattle.std.proofs.lemmas.List.{take_all}
use Rattle.std.proofs.lemmas.Int.{ints}
use Rattle.std.specs.Int.Digits.{number_from_digits, AllBelowBase}
use Rattle.forms.proofs.Negation.{neg_step}
use Rattle.forms.proofs.Settling.{top_digit}
use Rattle.lowerings.specs.declared.fault.Fault.TheVariants as fault
use Rattle.digits.specs.Signed.{sided_number}
use Rattle.lowerings.specs.Tally.{Tally, becomes, signed_by}

-- the size of a signed number
size_is : (B : ℕ) (m : Bool) (rs : List ℕ) → nat_abs (sided_number B m rs) ≡ number_from_digits B rs
size_is B true rs = omega (arith, ints)
size_is B false rs = refl

lower_long : (wide : List ℕ) (n : ℕ) → length wide ≡ suc n → length (drop 1 wide) ≡ n
lower_long [] n e = absurd (omega arith)
lower_long (r ∷ rs) n e = omega arith

sided_same : (B : ℕ) (m : Bool) (rs qs : List ℕ) → number_from_digits B rs ≡ number_from_digits B qs → sided_number B m rs ≡ sided_number B m qs
sided_same B true rs qs e = rw e
sided_same B false rs qs e = rw e

-- the top digit's part, and the rest
apart : (B n : ℕ) (wide : List ℕ) → length wide ≡ suc n → number_from_digits B wide ≡ get_or wide 0 0 * B ^ n + number_from_digits B (drop 1 wide)
apart B n [] e = absurd (omega arith)
apart B n (r ∷ rs) e = let k : n ≡ length rs = omega arith in rw k (top_digit B r rs)

rest_small : (B n : ℕ) (wide : List ℕ) → length wide ≡ suc n → AllBelowBase B wide → number_from_digits B (drop 1 wide) < B ^ n
rest_small B n [] e u = absurd (omega arith)
rest_small B n (r ∷ rs) e u = let k : n ≡ length rs = omega arith in rw k (number_lt B rs u.1)

module _ (t : Tally) (m : Bool) (wide : List ℕ) (places : length wide ≡ suc t.length) (digits : AllBelowBase t.radix wide) where
  whole : number_from_digits t.radix wide ≡ get_or wide 0 0 * t.radix ^ t.length + number_from_digits t.radix (drop 1 wide)
  whole = apart t.radix t.length wide places

  pub too_large : ¬ (get_or wide 0 0 ≡ 0) → becomes t (sided_number t.radix m wide) ≡ Err fault.Large
  too_large h =
      let p = t.radix ^ t.length in
      let some : 1 ≤ get_or wide 0 0 = omega arith in
      let q : 1 * p ≤ get_or wide 0 0 * p = mul-le-mul some (let r : p ≤ p = omega arith in r) in
      let s = size_is t.radix m wide in
      rw (le-ltb (nat_abs (sided_number t.radix m wide)) p (omega (arith, whole)))

  rest_is : get_or wide 0 0 ≡ 0 → number_from_digits t.radix wide ≡ number_from_digits t.radix (drop 1 wide)
  rest_is e = omega (arith, whole, ap (λ n. n * t.radix ^ t.length) e)

  pub not_large : get_or wide 0 0 ≡ 0 → becomes t (sided_number t.radix m wide) ≡ Ok (record { radix = t.radix; length = t.length; number = sided_number t.radix m wide; letter = t.letter })
  not_large e = rw (lt-ltb (nat_abs (sided_number t.radix m wide)) (t.radix ^ t.length) (omega (arith, size_is t.radix m wide, rest_is e, rest_small t.radix t.length wide places digits)))

  -- the digits below the top one
  behind : take (length wide - 1) (drop 1 wide) ≡ drop 1 wide
  behind = take_all (length wide - 1) (drop 1 wide) (omega (arith, lower_long wide t.length places))

  pub lower_places : length (take (length wide - 1) (drop 1 wide)) ≡ t.length
  lower_places = ap length behind ∙ lower_long wide t.length places

  pub lower_number : get_or wide 0 0 ≡ 0 → sided_number t.radix m (take (length wide - 1) (drop 1 wide)) ≡ sided_number t.radix m wide
  lower_number e = rw behind (sided_same t.radix m (drop 1 wide) wide (sym (rest_is e)))

-- digits with a 0 behind them
pub raised_front : (ds : List ℕ) (k : ℕ) → 0 < k → take (suc (length ds)) (ds ++ replicate k 0) ≡ ds ++ (0 ∷ [])
raised_front [] zero h = absurd (omega arith)
raised_front [] (suc k) h = refl
raised_front (d ∷ ds) k h = ap (λ l. d ∷ l) (raised_front ds k h)

pub shifted_number : (B : ℕ) (m : Bool) (rs : List ℕ) → sided_number B m (rs ++ (0 ∷ [])) ≡ sided_number B m rs *ℤ pos B
shifted_number B false rs = ap pos (number_push B rs 0 ∙ omega arith)
shifted_number B true rs = let n = number_from_digits B rs in ap (λ k. neg_ℤ (pos k)) (number_push B rs 0) ∙ sym (neg_step B (pos n) (pos 0)) ∙ omega (arith, ints)

pub under_push : (B : ℕ) (rs : List ℕ) (d : ℕ) → AllBelowBase B rs → d < B → AllBelowBase B (rs ++ (d ∷ []))
under_push B [] d u h = (h, tt)
under_push B (x ∷ xs) d u h = (u.0, under_push B xs d u.1 h)

-- a number that a source gives
signed_size : (m : Bool) (n : ℕ) → nat_abs (signed_by m n) ≡ n
signed_size true n = omega (arith, ints)
signed_size false n = refl

pub read_large : (t : Tally) (m : Bool) (b k n : ℕ) → b ≡ t.radix → k ≡ suc t.length → 1 ≤ t.radix → true ≡ leb (b ^ k) n → becomes t (signed_by m n) ≡ Err fault.Large
read_large t m b k n r e low h =
    let p = t.radix ^ t.length in
    let over : b ^ k ≤ n = leb-true (b ^ k) n (sym h) in
    let q : 1 * p ≤ t.radix * p = mul-le-mul low (let r : p ≤ p = omega arith in r) in
    let w : b ^ k ≡ t.radix * p = rw (r, e, pow-succ' t.radix t.length) in
    rw (le-ltb (nat_abs (signed_by m n)) p (omega (arith, signed_size m n)))
