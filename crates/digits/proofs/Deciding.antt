-- Tests of neighbours, and what is weighed. Assumes nothing.
use Rattle.std.proofs.Common.{◌≡◌, ℕ, suc, ◌<◌, ◌≤◌, Bool, true, ltb, List, length, ℤ, pos, negsuc, ◌+ℤ◌, ◌*ℤ◌, nat_abs, ◌<ℤ◌, Ok, Result, Decides, sym, ◌∙◌, arith, ltb-true, le-ltb, lt-ltb}
use Rattle.std.specs.Int.Digits.{number_from_digits}
use Rattle.forms.specs.declared.Measure.{Measure}
use Rattle.forms.specs.Form.{value, negated}
use Rattle.forms.specs.Weight.{cost, weight, LeastWeight}
use Rattle.forms.proofs.Negation.{negated_represents, negated-weight}
use Rattle.forms.specs.Nonadjacent.{Beside}
use Rattle.digits.specs.Judging.{PlainOf}
use Rattle.digits.specs.Numerals.{Numeral}
use Rattle.digits.specs.Weighing.{weighed}
use Rattle.digits.specs.declared.refusal.Fault.{Fault}

module _ (B : ℕ) (x y : ℤ) (o : Bool) (told : Decides o ((x *ℤ y) <ℤ pos 0)) where
  pub beside_opposed : (a b : ℕ) → a ≡ nat_abs x → b ≡ nat_abs y → o ≡ true → nat_abs (x +ℤ y) < B → Decides (ltb b a) (Beside B x y)
  beside_opposed a b p q e h =
      (λ k. record { sum = h; opposed = λ s. omega (arith, ltb-true b a k) }, λ k. lt-ltb b a (omega (arith, k.opposed (told.0 e))))

-- the least weight of a value of either sign, from the plain digits of its size
least_signed : (c : ℕ → ℕ) (B w n : ℕ) (z : ℤ) → nat_abs z ≡ n → LeastWeight c B (pos n) w → LeastWeight c B z w
least_signed c B w n (pos m) e h = rw e h
least_signed c B w n (negsuc m) e h =
    let k : LeastWeight c B (pos (suc m)) w = rw e h in
    let f = k.reached in
    record {
      reached = (negated f.0, negated_represents B (pos (suc m)) f.0 f.1, negated-weight c f.0 ∙ f.2);
      least = λ g r. omega (arith, k.least (negated g) (negated_represents B (negsuc m) g r), negated-weight c g);
    }

pub least_is : (c : ℕ → ℕ) (form : Numeral ℤ) (plain : Numeral ℕ) (w : ℕ) → PlainOf form plain → LeastWeight c plain.radix (pos (number_from_digits plain.radix plain.digits)) w → LeastWeight c form.radix (value form.radix form.digits) w
least_is c form plain w p least =
    rw p.radix at (least_signed c plain.radix w (number_from_digits plain.radix plain.digits) (value form.radix form.digits) (sym p.writes) least)

-- weighing a form that has few places
pub weighed_is : (m : Measure) (ds f : List ℤ) (w : ℕ) (r : Result ℕ Fault) → length f ≤ 121 → ds ≡ f → r ≡ weighed m ds → r ≡ Ok w → w ≡ weight (cost m) f
weighed_is m ds f w r few same told is = let k = rw (same, le-ltb 121 (length f) few) at told in cc
