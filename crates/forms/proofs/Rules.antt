-- The local rules of letters G and B. Assumes nothing.
use Rattle.std.proofs.Common.{◌≡◌, ℕ, ◌+◌, ◌*◌, ◌<◌, ◌≤◌, ℤ, pos, ◌+ℤ◌, nat_abs, refl, inl, inr, arith}
use borrow.Author.Differences.{up, down}
use Rattle.std.proofs.lemmas.Int.{ints}
use Rattle.std.proofs.lemmas.Bool.Decides.{nat_tests}
use Rattle.forms.specs.Borrow.{Borrow, none, one, num}
use Rattle.forms.specs.Recoded.{rule_g, rule_b}
use Rattle.forms.specs.Nonadjacent.{Beside}
use Rattle.forms.specs.Balanced.{Half}
use Rattle.forms.proofs.Signs.{opposed_in, opposed_out}
use Rattle.forms.proofs.Local.{Joint, Local}
use Rattle.forms.proofs.Negation.{negated_beside, negated_half}
use Rattle.forms.proofs.Padding.{beside_blank, half_blank}

-- letter G: a borrow exactly if the two reach the radix
abbrev pub SaysG : ℕ → ℕ → ℕ → Borrow → Type 0
SaysG B q m none = m + q < B
SaysG B q m one = B ≤ m + q

abbrev pub FitG : ℕ → ℤ → Type 0
FitG B y = nat_abs y < B

only_g : (B q m : ℕ) (t : Borrow) → SaysG B q m t → t ≡ rule_g B q m
unfolding rule_g
only_g B q m none h = grind (arith, nat_tests)
only_g B q m one h = grind (arith, nat_tests)

says_g : (B q m : ℕ) → SaysG B q m (rule_g B q m)
unfolding rule_g
says_g B q m = by (rule_g B q m) refl
  where
    by : (t : Borrow) → rule_g B q m ≡ t → SaysG B q m t
    by none e = grind (arith, nat_tests)
    by one e = grind (arith, nat_tests)

fits-G : (B q m : ℕ) (t : Borrow) (y : ℤ) → q < B → m ≤ B → y +ℤ pos (B * num t) ≡ pos m → SaysG B q m t → FitG B y
fits-G B q m none y lt most e h = omega (arith, ints)
fits-G B q m one y lt most e h = omega (arith, ints)

near_g : (B q m : ℕ) (s t : Borrow) (x y : ℤ) → Joint B q m s t x y → FitG B x → SaysG B q m t → Beside B x y
near_g B q m none none x y j fit h = record { sum = omega (arith, ints); opposed = λ k. omega (arith, ints, opposed_out x y k) }
near_g B q m one none x y j fit h = record { sum = omega (arith, ints); opposed = λ k. omega (arith, ints, opposed_out x y k) }
near_g B q m none one x y j fit h = record { sum = omega (arith, ints); opposed = λ k. omega (arith, ints, opposed_out x y k) }
near_g B q m one one x y j fit h = record { sum = omega (arith, ints); opposed = λ k. omega (arith, ints, opposed_out x y k) }

pub told_g : (B q m : ℕ) (s t : Borrow) (x y : ℤ) → Joint B q m s t x y → Beside B x y → SaysG B q m t
told_g B q m none none x y j h = omega (arith, ints)
told_g B q m one none x y j h = let o = λ (a : up x < down x) (b : down y < up y). h.opposed (opposed_in x y (inr (a, b))) in grind (arith, ints)
told_g B q m none one x y j h = let o = λ (a : down x < up x) (b : up y < down y). h.opposed (opposed_in x y (inl (a, b))) in grind (arith, ints)
told_g B q m one one x y j h = omega (arith, ints)

pub local_g : (B : ℕ) → 1 < B → Local B rule_g (Beside B) (FitG B) (SaysG B)
local_g B two = record {
  says = says_g B;
  only = only_g B;
  fits = fits-G B;
  range = λ y h. h;
  near = near_g B;
  told = λ q m s t x y j rx ry h. told_g B q m s t x y j h;
  top = λ m h. omega arith;
  blank_fits = omega arith;
  blank = beside_blank B (omega arith);
  mirror = negated_beside B;
}

-- letter B: a borrow above a half, and at a half below an upper half
abbrev pub SaysB : ℕ → ℕ → ℕ → Borrow → Type 0
SaysB B q m none = (2 * m ≤ B) × (2 * m ≡ B → 2 * q < B)
SaysB B q m one = (B ≤ 2 * m) × (2 * m ≡ B → B ≤ 2 * q)

abbrev pub FitB : ℕ → ℤ → Type 0
FitB B y = 2 * nat_abs y ≤ B

only_b : (B q m : ℕ) (t : Borrow) → SaysB B q m t → t ≡ rule_b B q m
unfolding rule_b
only_b B q m none h = grind (arith, nat_tests)
only_b B q m one h = grind (arith, nat_tests)

says_b : (B q m : ℕ) → SaysB B q m (rule_b B q m)
unfolding rule_b
says_b B q m = by (rule_b B q m) refl
  where
    by : (t : Borrow) → rule_b B q m ≡ t → SaysB B q m t
    by none e = (grind (arith, nat_tests), λ h. grind (arith, nat_tests))
    by one e = (grind (arith, nat_tests), λ h. grind (arith, nat_tests))

fits-B : (B q m : ℕ) (t : Borrow) (y : ℤ) → q < B → m ≤ B → y +ℤ pos (B * num t) ≡ pos m → SaysB B q m t → FitB B y
fits-B B q m none y lt most e h = omega (arith, ints, h.0)
fits-B B q m one y lt most e h = omega (arith, ints, h.0)

near_b : (B q m : ℕ) (s t : Borrow) (x y : ℤ) → 1 < B → Joint B q m s t x y → FitB B x → SaysB B q m t → Half B x y
near_b B q m none none x y two j fit h = record { size = omega (arith, ints, h.0); smaller = λ e. grind (arith, ints); alike = λ e o. omega (arith, ints, opposed_out x y o) }
near_b B q m one none x y two j fit h = record { size = omega (arith, ints, h.0); smaller = λ e. grind (arith, ints); alike = λ e o. grind (arith, ints) }
near_b B q m none one x y two j fit h = record { size = omega (arith, ints, h.0); smaller = λ e. grind (arith, ints); alike = λ e o. grind (arith, ints) }
near_b B q m one one x y two j fit h = record { size = omega (arith, ints, h.0); smaller = λ e. grind (arith, ints); alike = λ e o. omega (arith, ints, opposed_out x y o) }

pub told_b : (B q m : ℕ) (s t : Borrow) (x y : ℤ) → 1 < B → Joint B q m s t x y → Half B x y → SaysB B q m t
told_b B q m none none x y two j h = (omega (arith, ints, h.size), λ e. grind (arith, ints, h.smaller))
told_b B q m one none x y two j h = (omega (arith, ints, h.size), λ e. absurd (h.alike (omega (arith, ints)) (opposed_in x y (inr (omega (arith, ints), omega (arith, ints))))))
told_b B q m none one x y two j h = (omega (arith, ints, h.size), λ e. absurd (h.alike (omega (arith, ints)) (opposed_in x y (inl (omega (arith, ints), omega (arith, ints))))))
told_b B q m one one x y two j h = (omega (arith, ints, h.size), λ e. grind (arith, ints, h.smaller))

pub local_b : (B : ℕ) → 1 < B → Local B rule_b (Half B) (FitB B) (SaysB B)
local_b B two = record {
  says = says_b B;
  only = only_b B;
  fits = fits-B B;
  range = λ y h. omega arith;
  near = λ q m s t x y. near_b B q m s t x y two;
  told = λ q m s t x y j rx ry h. told_b B q m s t x y two j h;
  top = λ m h. (omega arith, λ e. omega arith);
  blank_fits = omega arith;
  blank = half_blank B (omega arith);
  mirror = negated_half B;
}
