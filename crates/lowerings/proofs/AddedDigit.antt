-- A digit added to the form of a constant: the form has room for it, and what is settled writes the sum. Assumes nothing.
use Rattle.std.proofs.Common.{◌≡◌, ℕ, ◌<◌, ◌≤◌, Bool, true, List, length, ℤ, pos, negsuc, nat_abs, is_ok, None, Ok, Err, Result, refl, ap, ◌∙◌, append-nil, arith, le-ltb, add-one, zero, suc, ◌+◌, ◌-◌, ◌^◌, [], ◌∷◌, get_or, take, set, ◌+ℤ◌, ◌*ℤ◌, sym, length-set}
use lib.Signed.{lt_z}
use Rattle.std.proofs.lemmas.List.{drop_all}
use Rattle.std.specs.Int.Digits.{number_from_digits}
use Rattle.forms.specs.Form.{value, InRange}
use Rattle.digits.specs.declared.Fault.{Fault}
use Rattle.digits.specs.Refusals.{form_check, area_check}
use Rattle.digits.specs.Settling.{Settles, Settled, settle_check}
use Rattle.digits.proofs.Accepted.{form_passes, both_pass}
use Rattle.digits.specs.Signed.{sided_number}
use lib.IntN.{+ℤ_idl, zero-*ℤ}
use Rattle.std.proofs.lemmas.Int.{ints}
use Rattle.forms.proofs.Ring.{add-mulℤ}
use Rattle.lowerings.specs.declared.constant.Constant.{Constant}
use Rattle.lowerings.specs.Constants.{digits_of, number_of}
use Rattle.lowerings.specs.Held.{signed_digits}
use Rattle.lowerings.proofs.Holding.{digits_below, digits_places}
use Rattle.lowerings.proofs.SignedDigits.{signed-length, signed_range, signed_worth}
use Rattle.lowerings.specs.Sums.{Addable, Written}

-- adding to one digit
pub add_worth : (B : ℕ) (f : List ℤ) (j i : ℕ) (d : ℤ) → length f ≡ suc (j + i) → value B (set f j (get_or f j (pos 0) +ℤ d)) ≡ value B f +ℤ d *ℤ pos (B ^ i)
add_worth B [] j i d e = absurd (omega arith)
add_worth B (a ∷ f) zero i d e =
    let same : i ≡ length f = omega arith in
    rw same (omega (arith, ints, add-mulℤ a d (pos (B ^ length f))))
add_worth B (a ∷ f) (suc j) i d e = rw (length-set f j (get_or f j (pos 0) +ℤ d)) (omega (arith, ints, add_worth B f j i d (omega arith)))

zero_front : (B : ℕ) (f : List ℤ) → value B (pos 0 ∷ f) ≡ value B f
zero_front B f = ap (λ z. z +ℤ value B f) (zero-*ℤ (pos (B ^ length f))) ∙ +ℤ_idl (value B f)

-- a digit added to the form of a constant's digits
module _ (n : Constant) (long : length n.plain ≡ 120) (place : ℕ) (d e : ℤ) (form : List ℤ) (front : take (suc n.length) form ≡ pos 0 ∷ signed_digits n.negative (digits_of n)) (digit : e ≡ d) (small : nat_abs d < n.radix) (inside : place < n.length) where
  front_is : take (n.length + 1) form ≡ pos 0 ∷ signed_digits n.negative (digits_of n)
  front_is = rw (add-one n.length) front

  front-length : length (take (n.length + 1) form) ≡ suc n.length
  front-length = ap length front_is ∙ ap suc (signed-length n.negative (digits_of n) ∙ digits_places n long)

  pub addable : (area : List ℕ) → length area ≡ suc n.length → Addable n.radix (take (n.length + 1) form) (n.length - place) e area
  addable area room = record {
    few = omega (arith, front-length, n.few);
    some = omega arith;
    inside = omega (arith, front-length);
    range = rw front_is (omega arith, signed_range n.radix n.negative (digits_of n) (digits_below n long));
    top = ap (λ f. get_or f 0 (pos 0)) front_is;
    digit = omega (arith, ap nat_abs digit);
    places = room ∙ sym front-length;
  }

  pub summed : (m : Bool) (wide : List ℕ) → Written n.radix (value n.radix (take (n.length + 1) form) +ℤ e *ℤ pos (n.radix ^ (length (take (n.length + 1) form) - suc (n.length - place)))) (length (take (n.length + 1) form)) m wide → Written n.radix (number_of n +ℤ d *ℤ pos (n.radix ^ place)) (suc n.length) m wide
  summed m wide w =
      let power : length (take (n.length + 1) form) - suc (n.length - place) ≡ place = omega (arith, front-length) in
      rw (power, front-length, front_is, zero_front n.radix (signed_digits n.negative (digits_of n)), signed_worth n.radix n.negative (digits_of n), digit) at w

-- the sum, settled
signed_back : (B : ℕ) (m : Bool) (ds : List ℕ) (z : ℤ) → m ≡ lt_z z (pos 0) → number_from_digits B ds ≡ nat_abs z → sided_number B m ds ≡ z
signed_back B m ds (pos n) e w = rw (e, le-ltb n 0 (omega arith), w)
signed_back B m ds (negsuc n) e w = rw (e, w)

module _ (B : ℕ) (g : List ℤ) (area after : List ℕ) (low : 1 < B) (high : B ≤ 16) (few : length g ≤ 121) (range : InRange B g) (places : length area ≡ length g) where
  passes : settle_check B g (length area) ≡ None
  passes = both_pass (form_check B g) (area_check (length g) (length area)) (form_passes B g (record { low = low; high = high; few = few; range = range })) (rw (le-ltb (length area) (length g) (omega arith)))

  pub settle_accepted : (r : Result Bool Fault) → Settles B g area after r → is_ok r ≡ true
  settle_accepted (Ok m) h = refl
  settle_accepted (Err f) h = cc (passes, h.0)

  pub settle_writes : (r : Result Bool Fault) (m : Bool) → r ≡ Ok m → Settles B g area after r → Written B (value B g) (length g) m after
  settle_writes r m e h =
      let s : Settled B g area after m = (rw e at h).1 in
      let is = rw (drop_all (length g) area (omega arith), append-nil s.digits) at s.area in
      record {
        places = ap length is ∙ s.places;
        plain = rw is s.plain;
        worth = rw is (signed_back B m s.digits (value B g) s.sign s.writes);
      }
