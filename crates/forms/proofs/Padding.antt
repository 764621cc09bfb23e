-- Zeros in front change nothing, so lengths play no part. Assumes nothing.
use Rattle.std.proofs.Common.{◌≡◌, ℕ, zero, suc, ◌+◌, ◌-◌, ◌*◌, ◌^◌, ◌<◌, ◌≤◌, min, List, ◌∷◌, length, ℤ, pos, sym, refl, ap, ◌∙◌, arith}
use lib.IntN.{zero-*ℤ}
use Rattle.std.proofs.lemmas.Int.{ints}
use Rattle.std.specs.Int.Digits.{number_from_digits, AllBelowBase}
use Rattle.forms.specs.Weight.{weight}
use Rattle.forms.specs.Least.{fall, least_from, least, start}
use Rattle.forms.specs.Form.{value, InRange, padded}
use Rattle.forms.specs.Borrow.{Borrow, none, one, num}
use Rattle.forms.specs.Neighbours.{Neighbours}
use Rattle.forms.specs.Nonadjacent.{Beside}
use Rattle.forms.specs.Balanced.{Half}
use Rattle.forms.proofs.Horner.{value_horner}
use Rattle.forms.proofs.Path.{Runs, lower}
use Rattle.forms.proofs.Signs.{opposed_out}
use Rattle.forms.proofs.Value.{value_path}

-- a form
pub padded-length : (k : ℕ) (ds : List ℤ) → length (padded k ds) ≡ k + length ds
padded-length zero ds = omega arith
padded-length (suc k) ds = omega (arith, padded-length k ds)

pub padded-value : (B k : ℕ) (ds : List ℤ) → value B (padded k ds) ≡ value B ds
padded-value B zero ds = refl
padded-value B (suc k) ds = omega (arith, ints, zero-*ℤ (pos (B ^ length (padded k ds))), padded-value B k ds)

pub padded-weight : (c : ℕ → ℕ) (k : ℕ) (ds : List ℤ) → c 0 ≡ 0 → weight c (padded k ds) ≡ weight c ds
padded-weight c zero ds z = refl
padded-weight c (suc k) ds z = omega (arith, padded-weight c k ds z)

pub padded_range : (B k : ℕ) (ds : List ℤ) → 0 < B → InRange B ds → InRange B (padded k ds)
padded_range B zero ds h r = r
padded_range B (suc k) ds h r = (h, padded_range B k ds h r)

pub padded_chain : (R : ℤ → ℤ → Type 0) (k : ℕ) (ds : List ℤ) → R (pos 0) (pos 0) → Neighbours R ds → Neighbours R (padded k ds)
padded_chain R zero ds blank h = h
padded_chain R (suc k) ds blank h = (blank, padded_chain R k ds blank h)

pub beside_blank : (B : ℕ) → 0 < B → Beside B (pos 0) (pos 0)
beside_blank B h = record { sum = omega (arith, ints); opposed = λ k. absurd (omega (arith, opposed_out (pos 0) (pos 0) k)) }

pub half_blank : (B : ℕ) → 0 < B → Half B (pos 0) (pos 0)
half_blank B h = record { size = omega arith; smaller = λ e. absurd (omega arith); alike = λ e. absurd (omega arith) }

-- plain digits
pub zeros : ℕ → List ℕ → List ℕ
zeros zero rs = rs
zeros (suc k) rs = 0 ∷ zeros k rs

pub zeros-length : (k : ℕ) (rs : List ℕ) → length (zeros k rs) ≡ k + length rs
unfolding zeros
zeros-length zero rs = omega arith
zeros-length (suc k) rs = omega (arith, zeros-length k rs)

pub zero_number : (B : ℕ) (rs : List ℕ) → number_from_digits B (0 ∷ rs) ≡ number_from_digits B rs
zero_number B rs = let e : 0 * B + 0 ≡ 0 = omega arith in rw e

pub zeros-number : (B k : ℕ) (rs : List ℕ) → number_from_digits B (zeros k rs) ≡ number_from_digits B rs
unfolding zeros
zeros-number B zero rs = refl
zeros-number B (suc k) rs = zero_number B (zeros k rs) ∙ zeros-number B k rs

pub zeros_plain : (B k : ℕ) (rs : List ℕ) → 0 < B → AllBelowBase B rs → AllBelowBase B (zeros k rs)
unfolding zeros
zeros_plain B zero rs h r = r
zeros_plain B (suc k) rs h r = (h, zeros_plain B k rs h r)

fall_zero : (c : ℕ → ℕ) (B : ℕ) → c 0 ≡ 0 → c 1 ≡ 1 → fall c B start 0 ≡ start
fall_zero c B z o =
    let l : min (0 + c 0) (1 + c (B - 0)) ≡ 0 = omega arith in
    let h : min (0 + c 1) (1 + c (B - 1)) ≡ 1 = omega arith in
    cc

pub zero_least : (c : ℕ → ℕ) (B : ℕ) (rs : List ℕ) → c 0 ≡ 0 → c 1 ≡ 1 → least_from c B start (0 ∷ rs) ≡ least_from c B start rs
zero_least c B rs z o = ap (λ p. least_from c B p rs) (fall_zero c B z o)

pub zeros-least : (c : ℕ → ℕ) (B k : ℕ) (rs : List ℕ) → c 0 ≡ 0 → c 1 ≡ 1 → least_from c B start (zeros k rs) ≡ least_from c B start rs
unfolding zeros
zeros-least c B zero rs z o = refl
zeros-least c B (suc k) rs z o = zero_least c B (zeros k rs) z o ∙ zeros-least c B k rs z o

-- a form beside the plain digits of its number
starts_none : (B : ℕ) (t : Borrow) {ds : List ℤ} {rs : List ℕ} {v : Borrow} → pos 0 ≡ pos (0 + num t) → Runs B t ds rs v → Runs B none ds rs v
starts_none B none e p = p
starts_none B one e p = absurd (omega (arith, ints))

pub path_of : (B : ℕ) (ds : List ℤ) (rs : List ℕ) → 0 < B → InRange B ds → AllBelowBase B rs → value B ds ≡ pos (number_from_digits B rs) → Runs B none (padded (length rs) ds) (zeros (length ds) rs) none
path_of B ds rs h range plain e =
    let k = length rs in
    let l = length ds in
    let f : pos (number_from_digits B rs) ≡ pos (number_from_digits B (zeros l rs) + 0) = ap pos (omega (arith, zeros-number B l rs)) in
    let len : length (padded k ds) ≡ length (zeros l rs) = omega (arith, padded-length k ds, zeros-length l rs) in
    let p = value_path B (pos 0) 0 (padded k ds) (zeros l rs) none len (padded_range B k ds h range) (zeros_plain B l rs h plain) (sym (value_horner B (padded k ds)) ∙ padded-value B k ds ∙ e ∙ f) in
    starts_none B p.from p.prefix p.runs

-- no form of a number is lighter than the least weight of its plain digits
pub at_least : (c : ℕ → ℕ) (B : ℕ) (ds : List ℤ) (rs : List ℕ) → c 0 ≡ 0 → c 1 ≡ 1 → 0 < B → InRange B ds → AllBelowBase B rs → value B ds ≡ pos (number_from_digits B rs) → least c B rs ≤ weight c ds
at_least c B ds rs z o h range plain e =
    let l = lower c B start 0 (omega arith) (path_of B ds rs h range plain e) in
    let s = ap (λ p. p.low) (zeros-least c B (length ds) rs z o) in
    let w = padded-weight c (length rs) ds z in
    omega arith
