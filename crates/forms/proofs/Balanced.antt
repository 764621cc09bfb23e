-- Letter B is tight by square: along its path the weight is the least at every place. Assumes nothing.
use Rattle.std.proofs.Common.{◌≡◌, ℕ, suc, ◌+◌, ◌-◌, ◌*◌, ◌<◌, ◌≤◌, min, List, ℤ, pos, ◌+ℤ◌, refl, arith}
use native.Mathlib.Decide.{ℕ_discrete}
use Rattle.forms.specs.Weight.{square_cost}
use Rattle.forms.specs.Least.{Pair, fall, start}
use Rattle.forms.specs.Borrow.{Borrow, none, one, num}
use Rattle.forms.specs.Neighbours.{Chain}
use Rattle.forms.specs.Balanced.{Half}
use Rattle.forms.proofs.Count.{Close}
use Rattle.forms.proofs.Square.{square_close, square_after_small, square_after_large}
use Rattle.forms.proofs.Path.{of, Runs, end, step}
use Rattle.forms.proofs.Local.{Joint}
use Rattle.forms.proofs.Rules.{told_b}
use Rattle.forms.proofs.Tight.{Tight, tight_end, lighter_step, size}
use Rattle.forms.proofs.Value.{num_small}

-- the steps that are tight by square: the smaller digit, and at a half the lighter borrow
abbrev pub Squares : ℕ → Pair → ℕ → Borrow → Type 0
Squares B p m none = (2 * m ≤ B) × (2 * m ≡ B → p.low ≤ p.high)
Squares B p m one = (B ≤ 2 * m) × (2 * m ≡ B → p.high ≤ p.low)

one_at : (B m n k a h : ℕ) → B - m ≡ n → m ≡ n + suc k → h ≤ a + (n + n + k) → min (a + m * m) (h + (B - m) * (B - m)) ≡ h + (B - m) * (B - m)
one_at B m n k a h e f c = rw (e, f) (omega arith)

squares_min : (B : ℕ) (p : Pair) (m : ℕ) (t : Borrow) → m ≤ B → Close (B - 1) p → Squares B p m t → Dec (2 * m ≡ B) → min (p.low + m * m) (p.high + (B - m) * (B - m)) ≡ of t p + square_cost (size t B m)
squares_min B p m none most h k (yes e) = let f : B - m ≡ m = omega arith in let l = k.1 e in rw f (omega arith)
squares_min B p m one most h k (yes e) = let f : B - m ≡ m = omega arith in let l = k.1 e in rw f (omega arith)
squares_min B p m none most h k (no e) =
    let j : ℕ = B - m - m - 1 in
    let f : B - m ≡ m + suc j = omega arith in rw f (omega (arith, h.down))
squares_min B p m one most h k (no e) = one_at B m (B - m) (m - (B - m) - 1) p.low p.high refl (omega arith) (omega (arith, h.up))

-- what is known of the pair after the plain digit q
pub record After (B q : ℕ) (p : Pair) : Type 0 where
  pub close : Close (B - 1) p
  pub small : 2 * q + 2 ≤ B → p.low ≤ p.high
  pub large : B ≤ 2 * q → p.high ≤ p.low

pub after_fall : (B q : ℕ) (p : Pair) → q < B → Close (B - 1) p → After B q (fall square_cost B p q)
after_fall B q p lt h = record { close = square_close B p q lt h; small = λ k. square_after_small B p q k h; large = λ k. square_after_large B p q lt k h }

pub after_start : (B : ℕ) → 1 < B → After B 0 start
after_start B two = record { close = record { up = omega arith; down = omega arith }; small = λ k. omega arith; large = λ k. omega arith }

pays : (B q : ℕ) (p : Pair) (s t : Borrow) (x y : ℤ) (m : ℕ) → 1 < B → After B q p → Joint B q m s t x y → Half B x y → Squares B p m t
pays B q p s none x y m two a j h = let k = told_b B q m s none x y two j h in (k.0, λ e. a.small (grind arith))
pays B q p s one x y m two a j h = let k = told_b B q m s one x y two j h in (k.0, λ e. a.large (k.1 e))

pub balanced_tight : (B : ℕ) {t v : Borrow} {ys : List ℤ} {rs : List ℕ} (q : ℕ) (p : Pair) (s : Borrow) (x : ℤ) → 1 < B → q < B → After B q p → x +ℤ pos (B * num s) ≡ pos (q + num t) → Runs B t ys rs v → Chain (Half B) x ys → Tight square_cost B p t ys rs v
balanced_tight B {t} q p s x two lt a e end g = tight_end square_cost B p t
balanced_tight B {t} q p s x two lt a e (step {u = u} {d = d} {r = r} low range f rest) g =
    let most : r + num u ≤ B = omega (arith, num_small u) in
    let how = pays B q p s t x d (r + num u) two a (record { plain = lt; most = most; upper = e; lower = f }) g.0 in
    let below = balanced_tight B r (fall square_cost B p r) t d two low (after_fall B r p low a.close) f rest g.1 in
    lighter_step square_cost B p t u d r low range f (squares_min B p (r + num u) t most a.close how (ℕ_discrete (2 * (r + num u)) B)) below
