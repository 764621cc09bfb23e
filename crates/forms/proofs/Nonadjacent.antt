-- Letter G is tight: along its path the weight is the least at every place. Assumes nothing.
use Rattle.std.proofs.Common.{◌≡◌, ℕ, ◌+◌, ◌*◌, ◌<◌, ◌≤◌, List, ℤ, pos, ◌+ℤ◌, nat_abs, arith}
use Rattle.std.proofs.lemmas.Int.{ints}
use Rattle.forms.specs.Weight.{count_cost}
use Rattle.forms.specs.Least.{Pair, fall, start}
use Rattle.forms.specs.Borrow.{Borrow, none, one, num}
use Rattle.forms.specs.Neighbours.{Chain}
use Rattle.forms.specs.Nonadjacent.{Beside}
use Rattle.forms.proofs.Count.{Close, count_close, after_small, after_nonzero}
use Rattle.forms.proofs.Path.{Runs, end, step}
use Rattle.forms.proofs.Local.{Joint}
use Rattle.forms.proofs.Rules.{told_g}
use Rattle.forms.proofs.Value.{num_small}
use Rattle.forms.proofs.Tight.{Tight, tight_end, Counts, counts_step}

-- what is known of the pair after the plain digit q
pub record After (B q : ℕ) (p : Pair) : Type 0 where
  pub close : Close 1 p
  pub small : q + 1 < B → p.low ≤ p.high
  pub large : 0 < q → p.high ≤ p.low

pub after_fall : (B q : ℕ) (p : Pair) → 1 < B → q < B → Close 1 p → After B q (fall count_cost B p q)
after_fall B q p two lt h = record { close = count_close B p q two lt h; small = λ k. after_small B p q k h; large = λ k. after_nonzero B p q k lt h }

pub after_start : (B : ℕ) → After B 0 start
after_start B = record { close = record { up = omega arith; down = omega arith }; small = λ k. omega arith; large = λ k. omega arith }

-- how a digit of a nonadjacent form pays
pays : (B q : ℕ) (p : Pair) (s t : Borrow) (x y : ℤ) (m : ℕ) → After B q p → nat_abs y < B → Joint B q m s t x y → Beside B x y → Counts B p m t
pays B q p s none x y m a range j h = (omega (arith, ints), λ k. a.small (omega (arith, told_g B q m s none x y j h)))
pays B q p s one x y m a range j h = (omega (arith, ints), λ k. a.large (omega (arith, told_g B q m s one x y j h)))

pub nonadjacent_tight : (B : ℕ) {t v : Borrow} {ys : List ℤ} {rs : List ℕ} (q : ℕ) (p : Pair) (s : Borrow) (x : ℤ) → 1 < B → q < B → After B q p → x +ℤ pos (B * num s) ≡ pos (q + num t) → Runs B t ys rs v → Chain (Beside B) x ys → Tight count_cost B p t ys rs v
nonadjacent_tight B {t} q p s x two lt a e end g = tight_end count_cost B p t
nonadjacent_tight B {t} q p s x two lt a e (step {u = u} {d = d} {r = r} low range f rest) g =
    let most : r + num u ≤ B = omega (arith, num_small u) in
    let how = pays B q p s t x d (r + num u) a range (record { plain = lt; most = most; upper = e; lower = f }) g.0 in
    let below = nonadjacent_tight B r (fall count_cost B p r) t d two low (after_fall B r p two low a.close) f rest g.1 in
    counts_step B p t u d r low a.close f how below
