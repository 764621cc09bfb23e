-- What the letters' forms are, all together. Assumes nothing.
use Rattle.std.proofs.Common.{◌≡◌, ℕ, zero, suc, ◌<◌, List, [], ◌∷◌, length, ℤ, pos, negsuc, neg_ℤ, nat_abs, sym, refl, ap, subst, inl, inr, arith}
use borrow.Author.Differences.{up, down}
use Rattle.std.proofs.lemmas.Int.{ints}
use Rattle.std.specs.Int.Digits.{number_from_digits, AllBelowBase}
use Rattle.forms.specs.declared.Letter.{Letter}
use Rattle.forms.specs.declared.Letter.TheVariants as letter
use Rattle.forms.specs.declared.Measure.{Measure}
use Rattle.forms.specs.declared.Measure.TheVariants.{Count, Square}
use Rattle.forms.specs.Form.{InRange, Represents, negated}
use Rattle.forms.specs.Weight.{count_cost, square_cost, cost, weight, Lightest, LeastWeight}
use Rattle.forms.specs.Neighbours.{Chain, Neighbours}
use Rattle.forms.specs.Nonadjacent.{Beside, Nonadjacent}
use Rattle.forms.specs.Balanced.{Half, Balanced}
use Rattle.forms.specs.Borrow.{Borrow}
use Rattle.forms.specs.Recoded.{Rule, rule_g, rule_b, recoded, recoded_under}
use Rattle.forms.specs.Star.{star, star_from, turn, memory, first, second}
use Rattle.forms.specs.Letters.{StarForm, Given, form_of}
use Rattle.forms.specs.Least.{least}
use Rattle.forms.specs.Theorems.{Canonical, Made, Good, LightestForms}
use Rattle.forms.proofs.Padding.{at_least, zero_least}
use Rattle.forms.proofs.Signs.{opposed_in}
use Rattle.forms.proofs.Negation.{negated_represents, negated_lightest}
use Rattle.forms.proofs.Lightest.{TightLetter, lightest, nonadjacent_letter, balanced_letter}
use Rattle.forms.proofs.Local.{Local}
use Rattle.forms.proofs.Rules.{local_g, local_b}
use Rattle.forms.proofs.Unique.{recoded_represents, recoded_meets, exists, unique, runs_represent}
use Rattle.forms.proofs.Star.{star_is_tight}

-- neighbours keep each other in range
beside_range : (B : ℕ) (x y : ℤ) → nat_abs x < B → Beside B x y → nat_abs y < B
beside_range B x y lt h =
    let a = λ (k : down x < up x) (l : up y < down y). h.opposed (opposed_in x y (inl (k, l))) in
    let b = λ (k : up x < down x) (l : down y < up y). h.opposed (opposed_in x y (inr (k, l))) in
    grind (arith, ints, h.sum)

nonadjacent_range : (B : ℕ) (x : ℤ) (f : List ℤ) → nat_abs x < B → Chain (Beside B) x f → InRange B f
nonadjacent_range B x [] lt h = tt
nonadjacent_range B x (y ∷ ys) lt h = let k = beside_range B x y lt h.0 in (k, nonadjacent_range B y ys k h.1)

balanced_range : (B : ℕ) (x : ℤ) (f : List ℤ) → 1 < B → Chain (Half B) x f → InRange B f
balanced_range B x [] two h = tt
balanced_range B x (y ∷ ys) two h = (omega (arith, h.0.size), balanced_range B y ys two h.1)

-- a form without weight is the same below 0
weightless : (f : List ℤ) → weight count_cost f ≡ 0 → negated f ≡ f
weightless [] e = refl
weightless (pos zero ∷ ds) e = ap (λ t. pos 0 ∷ t) (weightless ds (omega arith))
weightless (pos (suc n) ∷ ds) e = absurd (omega arith)
weightless (negsuc n ∷ ds) e = absurd (omega arith)

-- places
recoded-length : (f : Rule) (B q : ℕ) (rs : List ℕ) → length (recoded_under f B q rs) ≡ length rs
recoded-length f B q [] = refl
recoded-length f B q (r ∷ rs) = ap suc (recoded-length f B r rs)

star-length : (B : ℕ) (b : Borrow) (t : ℕ) (rs : List ℕ) → length (star_from B b t rs) ≡ length rs
star-length B b t [] = refl
star-length B b t (p ∷ rs) = ap suc (star-length B (turn B b t p (first rs) (second rs)) (memory B t p (first rs)) rs)

pub places : (l : Letter) (B : ℕ) (rs : List ℕ) → length (form_of l B rs) ≡ suc (length rs)
places letter.G B rs = recoded-length rule_g B 0 (0 ∷ rs)
places letter.B B rs = recoded-length rule_b B 0 (0 ∷ rs)
places letter.L B rs = star-length B _ 0 (0 ∷ rs)

-- what a local rule tells and what is tight
canonical : (c : ℕ → ℕ) (B : ℕ) {rule : Rule} {Near : ℤ → ℤ → Type 0} {Fit : ℤ → Type 0} {Says : ℕ → ℕ → Borrow → Type 0} → 1 < B → Local B rule Near Fit Says → TightLetter c B (Neighbours Near) → ((f : List ℤ) → Neighbours Near f → InRange B f) → Canonical c B (Neighbours Near)
canonical c B {Near = Near} two local letter ranged = record { exists = exists B two local; unique = unique B two local; lightest = lightest c B (Neighbours Near) letter two; ranged = ranged; mirrored = letter.mirror }

module _ (B : ℕ) (two : 1 < B) where
  pub nonadjacent_canonical : Canonical count_cost B (Nonadjacent B)
  nonadjacent_canonical = canonical count_cost B two (local_g B two) (nonadjacent_letter B two) (λ f. nonadjacent_range B (pos 0) f (omega arith))

  pub balanced_canonical : Canonical square_cost B (Balanced B)
  balanced_canonical = canonical square_cost B two (local_b B two) (balanced_letter B two) (λ f. balanced_range B (pos 0) f two)

  -- letter L
  module _ (rs : List ℕ) (plain : AllBelowBase B rs) where
    star_represents : Represents B (pos (number_from_digits B rs)) (star B rs)
    star_represents = runs_represent B (star_is_tight B rs two plain).runs

    star-least : weight count_cost (star B rs) ≡ least count_cost B rs
    star-least =
        let t = star_is_tight B rs two plain in
        let z = ap (λ p. p.low) (zero_least count_cost B rs refl refl) in
        omega (arith, t.paid)

    star_lightest : Lightest count_cost B (pos (number_from_digits B rs)) (star B rs)
    star_lightest g r = omega (arith, star-least, at_least count_cost B g rs refl refl (omega arith) r.range plain r.worth)

    star_at_zero : number_from_digits B rs ≡ 0 → negated (star B rs) ≡ star B rs
    star_at_zero e = weightless (star B rs) (omega (arith, star_lightest [] (record { range = tt; worth = ap pos (sym e) })))

    star_up : (n : ℕ) → number_from_digits B rs ≡ n → Good letter.L B (pos n) (star B rs)
    star_up n e = subst (λ n. Good letter.L B (pos n) (star B rs)) e (record { represents = star_represents; lightest = star_lightest })

    star_below : (n : ℕ) → number_from_digits B rs ≡ n → StarForm B (neg_ℤ (pos n)) (negated (star B rs))
    star_below zero e = record { digits = rs; plain = plain; writes = e; made = star_at_zero e }
    star_below (suc n) e = record { digits = rs; plain = plain; writes = e; made = refl }

  star_good : (z : ℤ) (f : List ℤ) → StarForm B z f → Good letter.L B z f
  star_good (pos n) f s = rw s.made (star_up s.digits s.plain n s.writes)
  star_good (negsuc n) f s =
      let g = star_up s.digits s.plain (suc n) s.writes in
      rw s.made (record { represents = negated_represents B _ _ g.represents; lightest = negated_lightest count_cost B (pos (suc n)) (star B s.digits) g.lightest })

-- every letter
pub good : (l : Letter) (B : ℕ) (z : ℤ) (f : List ℤ) → 1 < B → Given l B z f → Good l B z f
good letter.G B z f two h = record { represents = h.0; lightest = (nonadjacent_canonical B two).lightest z f h.0 h.1 }
good letter.B B z f two h = record { represents = h.0; lightest = (balanced_canonical B two).lightest z f h.0 h.1 }
good letter.L B z f two h = star_good B two z f h

given : (l : Letter) (B : ℕ) (rs : List ℕ) → 1 < B → AllBelowBase B rs → Given l B (pos (number_from_digits B rs)) (form_of l B rs)
given letter.G B rs two plain = (recoded_represents B two (local_g B two) rs plain, recoded_meets B two (local_g B two) rs plain)
given letter.B B rs two plain = (recoded_represents B two (local_b B two) rs plain, recoded_meets B two (local_b B two) rs plain)
given letter.L B rs two plain = record { digits = rs; plain = plain; writes = refl; made = refl }

below_zero : (l : Letter) (B : ℕ) (rs : List ℕ) → 1 < B → AllBelowBase B rs → Given l B (neg_ℤ (pos (number_from_digits B rs))) (negated (form_of l B rs))
below_zero letter.G B rs two plain =
    let h = given letter.G B rs two plain in
    (negated_represents B _ _ h.0, (nonadjacent_canonical B two).mirrored (form_of letter.G B rs) h.1)
below_zero letter.B B rs two plain =
    let h = given letter.B B rs two plain in
    (negated_represents B _ _ h.0, (balanced_canonical B two).mirrored (form_of letter.B B rs) h.1)
below_zero letter.L B rs two plain = star_below B two rs plain (number_from_digits B rs) refl

pub made : (l : Letter) (B : ℕ) (rs : List ℕ) → 1 < B → AllBelowBase B rs → Made l B rs
made l B rs two plain = record { given = given l B rs two plain; below_zero = below_zero l B rs two plain; places = places l B rs }

-- the least weight by falling place
falls : (c : ℕ → ℕ) (B : ℕ) (rs : List ℕ) (f : List ℤ) {Meets : List ℤ → Type 0} → 1 < B → AllBelowBase B rs → TightLetter c B Meets → Represents B (pos (number_from_digits B rs)) f → Meets f → LeastWeight c B (pos (number_from_digits B rs)) (least c B rs)
falls c B rs f two plain letter s m = record { reached = (f, s, letter.pays f rs plain s m); least = λ g r. at_least c B g rs letter.free letter.unit (omega arith) r.range plain r.worth }

pub falling : (m : Measure) (B : ℕ) (rs : List ℕ) → 1 < B → AllBelowBase B rs → LeastWeight (cost m) B (pos (number_from_digits B rs)) (least (cost m) B rs)
falling Count B rs two plain = let h = given letter.G B rs two plain in falls count_cost B rs (recoded rule_g B rs) two plain (nonadjacent_letter B two) h.0 h.1
falling Square B rs two plain = let h = given letter.B B rs two plain in falls square_cost B rs (recoded rule_b B rs) two plain (balanced_letter B two) h.0 h.1

pub lightest_forms : LightestForms
lightest_forms = record {
  nonadjacent = nonadjacent_canonical;
  balanced = balanced_canonical;
  made = made;
  good = good;
  falling = falling;
}
