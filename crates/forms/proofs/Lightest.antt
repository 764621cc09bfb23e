-- A letter that is tight along plain digits is lightest among all forms of the same value, of any length and sign. Assumes nothing.
use Rattle.std.proofs.Common.{◌≡◌, ℕ, suc, ◌+◌, ◌*◌, ◌<◌, List, length, ℤ, pos, negsuc, ◌+ℤ◌, sym, refl, ap, ◌∙◌, arith}
use Rattle.std.proofs.lemmas.Int.Digits.{all_below_base_digits_of, number_digits_of}
use Rattle.std.proofs.lemmas.Int.{ints}
use Rattle.std.specs.Int.Digits.{digits_of, number_from_digits, AllBelowBase}
use Rattle.forms.specs.Form.{Represents, negated}
use Rattle.forms.specs.Weight.{count_cost, square_cost, weight, Lightest}
use Rattle.forms.specs.Least.{least, start}
use Rattle.forms.specs.Borrow.{Borrow, none}
use Rattle.forms.specs.Neighbours.{Neighbours}
use Rattle.forms.specs.Recoded.{Rule}
use Rattle.forms.specs.Nonadjacent.{Nonadjacent}
use Rattle.forms.specs.Balanced.{Balanced}
use Rattle.forms.proofs.Padding.{padded-weight, padded_chain, zeros-least, path_of, at_least}
use Rattle.forms.proofs.Negation.{negated_represents, negated-weight, negated_chain}
use Rattle.forms.proofs.Path.{Runs}
use Rattle.forms.proofs.Tight.{Tight}
use Rattle.forms.proofs.Local.{Local}
use Rattle.forms.proofs.Rules.{local_g, local_b}
use Rattle.forms.proofs.Nonadjacent.{nonadjacent_tight, after_start}
use Rattle.forms.proofs.Balanced.{balanced_tight, after_start as square_start}

-- what a property of forms has to be, so that they are lightest by a cost
pub record TightLetter (c : ℕ → ℕ) (B : ℕ) (Meets : List ℤ → Type 0) : Type 0 where
  pub free : c 0 ≡ 0
  pub unit : c 1 ≡ 1
  pub mirror : (f : List ℤ) → Meets f → Meets (negated f)
  pub pays : (f : List ℤ) (rs : List ℕ) → AllBelowBase B rs → Represents B (pos (number_from_digits B rs)) f → Meets f → weight c f ≡ least c B rs

module _ (c : ℕ → ℕ) (B : ℕ) (Meets : List ℤ → Type 0) (letter : TightLetter c B Meets) (two : 1 < B) where
  lightest_pos : (n : ℕ) (f : List ℤ) → Represents B (pos n) f → Meets f → Lightest c B (pos n) f
  lightest_pos n f s m g r =
      let rs = digits_of B n in
      let plain = all_below_base_digits_of B n two in
      let w = ap pos (sym (number_digits_of B n two)) in
      let a = letter.pays f rs plain (record { range = s.range; worth = s.worth ∙ w }) m in
      let b = at_least c B g rs letter.free letter.unit (omega arith) r.range plain (r.worth ∙ w) in
      omega arith

  pub lightest : (z : ℤ) (f : List ℤ) → Represents B z f → Meets f → Lightest c B z f
  lightest (pos n) f s m g r = lightest_pos n f s m g r
  lightest (negsuc n) f s m g r =
      let h = lightest_pos (suc n) (negated f) (negated_represents B (negsuc n) f s) (letter.mirror f m) (negated g) (negated_represents B (negsuc n) g r) in
      omega (arith, negated-weight c f, negated-weight c g)

-- a letter that a local rule tells, whose forms pay the least along their paths
letter_of : (c : ℕ → ℕ) (B : ℕ) {rule : Rule} {Near : ℤ → ℤ → Type 0} {Fit : ℤ → Type 0} {Says : ℕ → ℕ → Borrow → Type 0} → 1 < B → Local B rule Near Fit Says → c 0 ≡ 0 → c 1 ≡ 1 → ((ds : List ℤ) (rs : List ℕ) → Runs B none ds rs none → Neighbours Near ds → Tight c B start none ds rs none) → TightLetter c B (Neighbours Near)
letter_of c B {Near = Near} two local z o tight = record { free = z; unit = o; mirror = λ f. negated_chain Near local.mirror (pos 0) f; pays = pays' }
  where
    pays' : (f : List ℤ) (rs : List ℕ) → AllBelowBase B rs → Represents B (pos (number_from_digits B rs)) f → Neighbours Near f → weight c f ≡ least c B rs
    pays' f rs plain s g =
        let t = tight _ _ (path_of B f rs (omega arith) s.range plain s.worth) (padded_chain Near (length rs) f local.blank g) in
        let l = ap (λ p. p.low) (zeros-least c B (length f) rs z o) in
        let w = padded-weight c (length rs) f z in
        omega (arith, t.paid)

top : (B : ℕ) → pos 0 +ℤ pos (B * 0) ≡ pos (0 + 0)
top B = omega (arith, ints)

pub nonadjacent_letter : (B : ℕ) → 1 < B → TightLetter count_cost B (Nonadjacent B)
nonadjacent_letter B two = letter_of count_cost B two (local_g B two) refl refl (λ ds rs. nonadjacent_tight B 0 start none (pos 0) two (omega arith) (after_start B) (top B))

pub balanced_letter : (B : ℕ) → 1 < B → TightLetter square_cost B (Balanced B)
balanced_letter B two = letter_of square_cost B two (local_b B two) refl refl (λ ds rs. balanced_tight B 0 start none (pos 0) two (omega arith) (square_start B two) (top B))
