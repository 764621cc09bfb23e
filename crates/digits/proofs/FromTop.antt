-- The star form, turn by turn from the top. Assumes nothing.
use Rattle.std.proofs.Common.{◌≡◌, ℕ, zero, suc, ◌+◌, ◌<◌, List, [], ◌∷◌, ◌++◌, length, get_or, take, drop, set, ℤ, sym, refl, ◌∙◌, append_assoc, append-nil, add-one, arith, take-append-drop, drop-cons}
use Rattle.std.proofs.lemmas.List.{drop_all, take_more_set}
use Rattle.forms.specs.Borrow.{Borrow, num, digit}
use Rattle.forms.specs.Star.{first, second, turn, memory, star_from, star}
use Rattle.digits.specs.Steps.{above}

-- what stands at an index and below it
first-drop : (rs : List ℕ) (i : ℕ) → first (drop i rs) ≡ get_or rs i 0
first-drop [] zero = refl
first-drop [] (suc i) = refl
first-drop (r ∷ rs) zero = refl
first-drop (r ∷ rs) (suc i) = first-drop rs i

second-drop : (rs : List ℕ) (i : ℕ) → second (drop i rs) ≡ get_or rs (suc i) 0
second-drop [] zero = refl
second-drop [] (suc i) = refl
second-drop (r ∷ rs) zero = first-drop rs 0
second-drop (r ∷ rs) (suc i) = second-drop rs i

walk_cut : (rs : List ℕ) (i : ℕ) → i < length rs + 1 → drop i (0 ∷ rs) ≡ above rs i ∷ drop i rs
walk_cut rs zero h = refl
walk_cut rs (suc i) h = drop-cons rs i 0 (omega arith)

-- one turn: the walk from index i writes a digit and goes on from the next
module _ (B : ℕ) (rs : List ℕ) (i : ℕ) (b u : Borrow) (t m p e e2 : ℕ) (d : ℤ) (inside : i < length rs + 1)
    (here : p ≡ above rs i) (next : e ≡ get_or rs i 0) (after : e2 ≡ get_or rs (i + 1) 0)
    (turns : u ≡ turn B b t p e e2) (keeps : m ≡ memory B t p e) (made : d ≡ digit B b (p + num u)) where
  turn_is : turn B b t (above rs i) (first (drop i rs)) (second (drop i rs)) ≡ u
  turn_is = cc (first-drop rs i, second-drop rs i, add-one i)

  memory_is : memory B t (above rs i) (first (drop i rs)) ≡ m
  memory_is = cc (first-drop rs i)

  goes_on : star_from B b t (drop i (0 ∷ rs)) ≡ d ∷ star_from B u m (drop (i + 1) (0 ∷ rs))
  goes_on = rw (walk_cut rs i inside, turn_is, memory_is, made, here, add-one i)

  pub star_more : (form : List ℤ) → i < length form → take i form ++ star_from B b t (drop i (0 ∷ rs)) ≡ star B rs → take (i + 1) (set form i d) ++ star_from B u m (drop (i + 1) (0 ∷ rs)) ≡ star B rs
  star_more form room inv = rw (take_more_set form i d room, append_assoc, ← goes_on) inv

-- after the last turn
pub star_all : (B : ℕ) (rs : List ℕ) (i : ℕ) (b : Borrow) (t : ℕ) (form before : List ℤ) → i ≡ suc (length rs) → take i form ++ star_from B b t (drop i (0 ∷ rs)) ≡ star B rs → drop (suc (length rs)) form ≡ drop (suc (length rs)) before → form ≡ star B rs ++ drop (suc (length rs)) before
star_all B rs i b t form before last inv rest =
    let front = rw (drop_all i (0 ∷ rs) (omega arith), append-nil (take i form), last) at inv in
    sym (take-append-drop (suc (length rs)) form) ∙ rw (front, rest)
