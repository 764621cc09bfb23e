-- The borrow path of a form and the form's value: each gives the other. Assumes nothing.
use Rattle.std.proofs.Common.{◌≡◌, ℕ, ◌+◌, ◌*◌, ◌<◌, ◌≤◌, List, [], ◌∷◌, length, ℤ, pos, negsuc, ◌+ℤ◌, ◌*ℤ◌, nat_abs, refl, ap, ◌∙◌, arith}
use native.Mathlib.Decide.{dec_le}
use native.Mathlib.Nat.{mul-le-mul_right}
use Rattle.std.proofs.lemmas.Int.{ints}
use Rattle.std.specs.Int.Digits.{number_from_digits_after, AllBelowBase}
use Rattle.forms.specs.Form.{InRange}
use Rattle.forms.proofs.Horner.{value_from}
use Rattle.forms.specs.Borrow.{Borrow, none, one, num}
use Rattle.forms.proofs.Path.{Runs, end, step}

horner : (B x r m k : ℕ) (d : ℤ) → d +ℤ pos (B * k) ≡ pos (r + m) → pos (x + k) *ℤ pos B +ℤ d ≡ pos (x * B + r + m)
horner B x r m k d e = omega (arith, ints)

-- a path gives the value
pub path_value : (B : ℕ) {t v : Borrow} {ds : List ℤ} {rs : List ℕ} (x : ℕ) → Runs B t ds rs v → value_from B (pos (x + num t)) ds ≡ pos (number_from_digits_after B x rs + num v)
path_value B x end = refl
path_value B {t} x (step {u = u} {d = d} {r = r} {ds = ds} lt range e rest) =
    ap (λ z. value_from B z ds) (horner B x r (num u) (num t) d e) ∙ path_value B (x * B + r) rest

-- the borrow above a digit: the prefix of the form is the plain prefix, or one more
pub record Step (B y : ℕ) (x d : ℤ) (r m : ℕ) : Type 0 where
  pub above : Borrow
  pub prefix : x ≡ pos (y + num above)
  pub takes : d +ℤ pos (B * num above) ≡ pos (r + m)

above_is : (B y k r m : ℕ) (d : ℤ) → r < B → m ≤ 1 → nat_abs d < B → pos k *ℤ pos B +ℤ d ≡ pos (y * B + r + m) → Dec (k ≤ y) → Step B y (pos k) d r m
above_is B y k r m d lt small range e (yes a) =
    let far = λ (l : k + 1 ≤ y). mul-le-mul_right B l in
    let same : k ≡ y = grind (arith, ints) in
    let times = ap (λ n. n * B) same in
    record { above = none; prefix = omega (arith, ints); takes = omega (arith, ints) }
above_is B y k r m d lt small range e (no a) =
    let far = λ (l : y + 2 ≤ k). mul-le-mul_right B l in
    let same : k ≡ y + 1 = grind (arith, ints) in
    let times = ap (λ n. n * B) same in
    record { above = one; prefix = omega (arith, ints); takes = omega (arith, ints) }

step_is : (B y r m : ℕ) (x d : ℤ) → r < B → m ≤ 1 → nat_abs d < B → x *ℤ pos B +ℤ d ≡ pos (y * B + r + m) → Step B y x d r m
step_is B y r m (pos k) d lt small range e = above_is B y k r m d lt small range e (dec_le k y)
step_is B y r m (negsuc k) d lt small range e = absurd (omega (arith, ints))

pub num_small : (t : Borrow) → num t ≤ 1
num_small none = omega arith
num_small one = omega arith

-- the value gives a path
pub record Path (B : ℕ) (x : ℤ) (y : ℕ) (ds : List ℤ) (rs : List ℕ) (v : Borrow) : Type 0 where
  pub from : Borrow
  pub prefix : x ≡ pos (y + num from)
  pub runs : Runs B from ds rs v

pub value_path : (B : ℕ) (x : ℤ) (y : ℕ) (ds : List ℤ) (rs : List ℕ) (v : Borrow) → length ds ≡ length rs → InRange B ds → AllBelowBase B rs → value_from B x ds ≡ pos (number_from_digits_after B y rs + num v) → Path B x y ds rs v
value_path B x y [] [] v len range plain e = record { from = v; prefix = e; runs = end }
value_path B x y [] (r ∷ rs) v len range plain e = absurd (omega arith)
value_path B x y (d ∷ ds) [] v len range plain e = absurd (omega arith)
value_path B x y (d ∷ ds) (r ∷ rs) v len range plain e =
    let p = value_path B (x *ℤ pos B +ℤ d) (y * B + r) ds rs v (omega arith) range.1 plain.1 e in
    let s = step_is B y r (num p.from) x d plain.0 (num_small p.from) range.0 p.prefix in
    record { from = s.above; prefix = s.prefix; runs = step plain.0 range.0 s.takes p.runs }
