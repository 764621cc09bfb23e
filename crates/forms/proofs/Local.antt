-- A form that a local rule tells: it is there, and it is the only one. Assumes nothing.
use Rattle.std.proofs.Common.{◌≡◌, ℕ, ◌+◌, ◌*◌, ◌<◌, ◌≤◌, List, [], ◌∷◌, ℤ, pos, ◌+ℤ◌, neg_ℤ, nat_abs, refl, arith}
use Rattle.std.proofs.lemmas.Int.{ints}
use Rattle.std.specs.Int.Digits.{AllBelowBase}
use Rattle.forms.specs.Borrow.{Borrow, none, num, digit}
use Rattle.forms.specs.Neighbours.{Chain}
use Rattle.forms.specs.Recoded.{Rule, borrowed, recoded_under}
use Rattle.forms.proofs.Path.{Runs, end, step}
use Rattle.forms.proofs.Value.{num_small}
use Rattle.forms.proofs.Tight.{digit_takes}

-- x above y are made of the plain digits q and m, the borrow below with it, and the borrows s and t above them
pub record Joint (B q m : ℕ) (s t : Borrow) (x y : ℤ) : Type 0 where
  pub plain : q < B
  pub most : m ≤ B
  pub upper : x +ℤ pos (B * num s) ≡ pos (q + num t)
  pub lower : y +ℤ pos (B * num t) ≡ pos m

-- neighbours are as they should exactly if the borrow between them is the rule's
pub record Local (B : ℕ) (f : Rule) (Near : ℤ → ℤ → Type 0) (Fit : ℤ → Type 0) (Says : ℕ → ℕ → Borrow → Type 0) : Type 0 where
  pub says : (q m : ℕ) → Says q m (f B q m)
  pub only : (q m : ℕ) (t : Borrow) → Says q m t → t ≡ f B q m
  pub fits : (q m : ℕ) (t : Borrow) (y : ℤ) → q < B → m ≤ B → y +ℤ pos (B * num t) ≡ pos m → Says q m t → Fit y
  pub range : (y : ℤ) → Fit y → nat_abs y < B
  pub near : (q m : ℕ) (s t : Borrow) (x y : ℤ) → Joint B q m s t x y → Fit x → Says q m t → Near x y
  pub told : (q m : ℕ) (s t : Borrow) (x y : ℤ) → Joint B q m s t x y → nat_abs x < B → nat_abs y < B → Near x y → Says q m t
  pub top : (m : ℕ) → m ≤ 1 → Says 0 m none
  pub blank_fits : Fit (pos 0)
  pub blank : Near (pos 0) (pos 0)
  pub mirror : (x y : ℤ) → Near x y → Near (neg_ℤ x) (neg_ℤ y)

module _ (B : ℕ) {f : Rule} {Near : ℤ → ℤ → Type 0} {Fit : ℤ → Type 0} {Says : ℕ → ℕ → Borrow → Type 0} (local : Local B f Near Fit Says) where
  -- the rule's form stands beside the plain digits
  pub recoded_runs : (q : ℕ) (rs : List ℕ) → q < B → AllBelowBase B rs → Runs B (borrowed f B q rs) (recoded_under f B q rs) rs none
  recoded_runs q [] lt plain = end
  recoded_runs q (r ∷ rs) lt plain =
      let u = borrowed f B r rs in
      let t = f B q (r + num u) in
      let e = digit_takes t B (r + num u) in
      let most : r + num u ≤ B = omega (arith, num_small u, plain.0) in
      step plain.0 (local.range (digit B t (r + num u)) (local.fits q (r + num u) t (digit B t (r + num u)) lt most e (local.says q (r + num u)))) e (recoded_runs r rs plain.0 plain.1)

  -- its neighbours are as they should
  pub recoded_near : (q : ℕ) (rs : List ℕ) (s : Borrow) (x : ℤ) → q < B → AllBelowBase B rs → Fit x → x +ℤ pos (B * num s) ≡ pos (q + num (borrowed f B q rs)) → Chain Near x (recoded_under f B q rs)
  recoded_near q [] s x lt plain fit up = tt
  recoded_near q (r ∷ rs) s x lt plain fit up =
      let u = borrowed f B r rs in
      let m = r + num u in
      let t = f B q m in
      let y = digit B t m in
      let e = digit_takes t B m in
      let most : m ≤ B = omega (arith, num_small u, plain.0) in
      let says = local.says q m in
      (local.near q m s t x y (record { plain = lt; most = most; upper = up; lower = e }) fit says, recoded_near r rs t y plain.0 plain.1 (local.fits q m t y lt most e says) e)

  -- it is the only one
  pub record Same (q : ℕ) (t : Borrow) (ds : List ℤ) (rs : List ℕ) : Type 0 where
    pub borrow : t ≡ borrowed f B q rs
    pub digits : ds ≡ recoded_under f B q rs

  pub recoded_only : {t : Borrow} {ds : List ℤ} {rs : List ℕ} (q : ℕ) (s : Borrow) (x : ℤ) → q < B → nat_abs x < B → Runs B t ds rs none → x +ℤ pos (B * num s) ≡ pos (q + num t) → Chain Near x ds → Same q t ds rs
  recoded_only q s x lt rx end up near = record { borrow = refl; digits = refl }
  recoded_only {t} q s x lt rx (step {u = u} {d = d} {r = r} {ds = ds} {rs = rs} low range e rest) up near =
      let below = recoded_only r t d low range rest e near.1 in
      let most : r + num u ≤ B = omega (arith, num_small u) in
      let says = local.told q (r + num u) s t x d (record { plain = lt; most = most; upper = up; lower = e }) rx range near.0 in
      let borrow = local.only q (r + num u) t says in
      let same : d ≡ digit B t (r + num u) = omega (arith, ints) in
      record { borrow = cc (borrow, below.borrow); digits = cc (same, borrow, below.borrow, below.digits) }
