-- What is known once a call's checks have passed. Assumes nothing.
use Rattle.std.proofs.Common.{◌≡◌, ℕ, suc, ◌<◌, ◌≤◌, Bool, true, false, cond, ltb, leb, List, [], ◌∷◌, length, ℤ, nat_abs, Some, None, Ok, Option, refl, arith, le-ltb, le-leb}
use Rattle.std.proofs.lemmas.Bool.{leb-false, ltb-false, lt-leb}
use Rattle.std.proofs.lemmas.Bool.Decides.{nat_tests}
use Rattle.std.specs.Int.Digits.{AllBelowBase}
use Rattle.std.specs.List.{AllByRecursion}
use Rattle.digits.specs.declared.refusal.Fault.{Fault}
use Rattle.digits.specs.declared.refusal.Fault.TheVariants.{Radix, Length, Digit, Area}
use Rattle.digits.specs.Judging.{Readable}
use Rattle.digits.specs.Refusals.{refused_if, then, answer, topmost, radix_check, length_check, plain_check, digit_check, area_check, form_check, recode_check}
use Rattle.digits.proofs.Numerals.{in_range, sizes_in_range}

pub none_refused : (p : Option Fault) → answer p ≡ Ok tt → p ≡ None
none_refused None e = refl
none_refused (Some f) e = cc

then_none : (p q : Option Fault) → then p q ≡ None → (p ≡ None) × (q ≡ None)
then_none None q e = (refl, e)
then_none (Some f) q e = (cc, cc)

passed : (b : Bool) (f : Fault) → refused_if b f ≡ None → b ≡ false
passed false f e = refl
passed true f e = cc

radix_within : (B : ℕ) → radix_check B ≡ None → (1 < B) × (B ≤ 16)
radix_within B e =
    let k = passed (cond (leb 2 B) (ltb 16 B) true) Radix e in
    (grind (arith, nat_tests), grind (arith, nat_tests))

-- digits pass if and only if their sizes are below the radix
module _ {D : Type 0} (size : D → ℕ) (B : ℕ) where
  pub sizes_below : (ds : List D) → topmost (λ d. leb B (size d)) ds ≡ None → AllByRecursion (λ d. size d < B) ds
  sizes_below [] e = tt
  sizes_below (d ∷ ds) e =
      let k = then_none (refused_if (leb B (size d)) (Digit (length ds))) (topmost (λ x. leb B (size x)) ds) e in
      (leb-false B (size d) (passed (leb B (size d)) (Digit (length ds)) k.0), sizes_below ds k.1)

  sizes_pass : (ds : List D) → AllByRecursion (λ d. size d < B) ds → topmost (λ d. leb B (size d)) ds ≡ None
  sizes_pass [] u = refl
  sizes_pass (d ∷ ds) u = rw (lt-leb B (size d) u.0) (sizes_pass ds u.1)

pub record Recodable (B : ℕ) (rs : List ℕ) (area : ℕ) : Type 0 where
  pub low : 1 < B
  pub high : B ≤ 16
  pub few : length rs ≤ 120
  pub plain : AllBelowBase B rs
  pub room : length rs < area

pub recodable : (B : ℕ) (rs : List ℕ) (room : ℕ) → recode_check B rs room ≡ None → Recodable B rs room
recodable B rs room e =
    let a = then_none (radix_check B) _ e in
    let b = then_none (length_check 120 (length rs)) _ a.1 in
    let c = then_none (plain_check B rs) (area_check (suc (length rs)) room) b.1 in
    let r = radix_within B a.0 in
    record {
      low = r.0;
      high = r.1;
      few = ltb-false 120 (length rs) (passed (ltb 120 (length rs)) Length b.0);
      plain = sizes_below (λ r. r) B rs c.0;
      room = ltb-false room (suc (length rs)) (passed (ltb room (suc (length rs))) Area c.1);
    }

pub readable : (B : ℕ) (f : List ℤ) → form_check B f ≡ None → Readable B f
readable B f e =
    let a = then_none (radix_check B) _ e in
    let b = then_none (length_check 121 (length f)) (digit_check B f) a.1 in
    let r = radix_within B a.0 in
    record {
      low = r.0;
      high = r.1;
      few = ltb-false 121 (length f) (passed (ltb 121 (length f)) Length b.0);
      range = in_range B f (sizes_below nat_abs B f b.1);
    }

-- and what it takes to pass them
pub recode_passes : (B : ℕ) (rs : List ℕ) (room : ℕ) → Recodable B rs room → answer (recode_check B rs room) ≡ Ok tt
recode_passes B rs room k = rw (le-leb 2 B k.low, le-ltb 16 B k.high, le-ltb 120 (length rs) k.few, sizes_pass (λ r. r) B rs k.plain, le-ltb room (suc (length rs)) k.room)

pub form_passes : (B : ℕ) (f : List ℤ) → Readable B f → answer (form_check B f) ≡ Ok tt
form_passes B f k = rw (le-leb 2 B k.low, le-ltb 16 B k.high, le-ltb 121 (length f) k.few, sizes_pass nat_abs B f (sizes_in_range B f k.range))

pub both_pass : (p q : Option Fault) → answer p ≡ Ok tt → answer q ≡ Ok tt → then p q ≡ None
both_pass p q e f = rw (none_refused p e) (none_refused q f)
