-- A form beside the plain digits of its number, as a path of borrows; no path is lighter than the least weight. Assumes nothing.
use Rattle.std.proofs.Common.{◌≡◌, ℕ, ◌+◌, ◌-◌, ◌*◌, ◌<◌, ◌≤◌, List, [], ◌∷◌, ℤ, pos, ◌+ℤ◌, nat_abs, arith}
use Rattle.std.proofs.lemmas.Int.{ints}
use Rattle.forms.specs.Least.{Pair, fall, least_from}
use Rattle.forms.specs.Weight.{weight}
use Rattle.forms.specs.Borrow.{Borrow, none, one, num}

abbrev pub of : Borrow → Pair → ℕ
of none p = p.low
of one p = p.high

-- a form beside the plain digits of its number: each digit takes the borrow from above times B and leaves one below
pub data Runs (B : ℕ) : Borrow → List ℤ → List ℕ → Borrow → Type 0 where
  end : {t : Borrow} → Runs B t [] [] t
  step : {t u v : Borrow} {d : ℤ} {r : ℕ} {ds : List ℤ} {rs : List ℕ} → r < B → nat_abs d < B → d +ℤ pos (B * num t) ≡ pos (r + num u) → Runs B u ds rs v → Runs B t (d ∷ ds) (r ∷ rs) v

pub size_none : (d : ℤ) (B m : ℕ) → d +ℤ pos (B * 0) ≡ pos m → nat_abs d ≡ m
size_none d B m e = omega (arith, ints)

pub size_one : (d : ℤ) (B m : ℕ) → m ≤ B → d +ℤ pos (B * 1) ≡ pos m → nat_abs d ≡ B - m
size_one d B m h e = omega (arith, ints)

-- one place costs at least what the least weights rise by
place : (c : ℕ → ℕ) (B : ℕ) (p : Pair) (t u : Borrow) (d : ℤ) (r : ℕ) → r < B → d +ℤ pos (B * num t) ≡ pos (r + num u) → of u (fall c B p r) ≤ c (nat_abs d) + of t p
place c B p none none d r lt e = let s : nat_abs d ≡ r = omega (arith, ints) in rw s (omega arith)
place c B p none one d r lt e = let s : nat_abs d ≡ r + 1 = omega (arith, ints) in rw s (omega arith)
place c B p one none d r lt e = let s : nat_abs d ≡ B - r = omega (arith, ints) in rw s (omega arith)
place c B p one one d r lt e = let s : nat_abs d ≡ B - (r + 1) = omega (arith, ints) in rw s (omega arith)

-- no form of the number is lighter than the least weight by falling place
pub lower : (c : ℕ → ℕ) (B : ℕ) {t v : Borrow} {ds : List ℤ} {rs : List ℕ} (p : Pair) (w : ℕ) → of t p ≤ w → Runs B t ds rs v → of v (least_from c B p rs) ≤ w + weight c ds
lower c B p w h end = omega arith
lower c B {t} p w h (step {u = u} {d = d} {r = r} lt range e rest) =
    let k = place c B p t u d r lt e in
    let i = lower c B (fall c B p r) (w + c (nat_abs d)) (omega arith) rest in
    omega arith
