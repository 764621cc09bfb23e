-- A form that a local rule tells is there for every number, and two of one number are the same but for zeros in front. Assumes nothing.
use Rattle.std.proofs.Common.{◌≡◌, ℕ, zero, suc, ◌+◌, ◌*◌, ◌<◌, List, ◌∷◌, length, ℤ, pos, negsuc, ◌+ℤ◌, sym, ap, ◌∙◌, subst, arith}
use Rattle.std.proofs.lemmas.Int.Digits.{all_below_base_digits_of, number_digits_of}
use Rattle.std.proofs.lemmas.Int.{ints}
use Rattle.std.specs.Int.Digits.{digits_of, number_from_digits, AllBelowBase}
use Rattle.forms.specs.Form.{InRange, Represents, Same, padded, negated}
use Rattle.forms.specs.Borrow.{Borrow, none, num}
use Rattle.forms.specs.Neighbours.{Neighbours}
use Rattle.forms.specs.Recoded.{Rule, borrowed, recoded_under, recoded}
use Rattle.forms.proofs.Horner.{value_horner}
use Rattle.forms.proofs.Path.{Runs, end, step}
use Rattle.forms.proofs.Value.{num_small, path_value}
use Rattle.forms.proofs.Local.{Local, recoded_runs, recoded_near, recoded_only}
use Rattle.forms.proofs.Padding.{padded-length, padded-value, padded_range, padded_chain, zeros, zero_number, path_of}
use Rattle.forms.proofs.Negation.{negated_represents, negated_chain, negated_twice, negated-length}

pub runs_range : (B : ℕ) {t v : Borrow} {ds : List ℤ} {rs : List ℕ} → Runs B t ds rs v → InRange B ds
runs_range B end = tt
runs_range B (step low range e rest) = (range, runs_range B rest)

-- a path from no borrow to none is a form of the number, one zero in front of its plain digits
pub runs_represent : (B : ℕ) {ds : List ℤ} {rs : List ℕ} → Runs B none ds (0 ∷ rs) none → Represents B (pos (number_from_digits B rs)) ds
runs_represent B {ds} {rs} path = record { range = runs_range B path; worth = value_horner B ds ∙ path_value B 0 path ∙ ap pos (omega (arith, zero_number B rs)) }

padded_same : (k : ℕ) (f g : List ℤ) → padded k f ≡ padded k g → f ≡ g
padded_same zero f g e = e
padded_same (suc k) f g e = padded_same k f g (cc)

module _ (B : ℕ) (two : 1 < B) {f : Rule} {Near : ℤ → ℤ → Type 0} {Fit : ℤ → Type 0} {Says : ℕ → ℕ → Borrow → Type 0} (local : Local B f Near Fit Says) where
  -- the rule's form of plain digits
  starts : (rs : List ℕ) → none ≡ borrowed f B 0 (0 ∷ rs)
  starts rs =
      let u = borrowed f B 0 rs in
      local.only 0 (0 + num u) none (local.top (0 + num u) (omega (arith, num_small u)))

  pub recoded_represents : (rs : List ℕ) → AllBelowBase B rs → Represents B (pos (number_from_digits B rs)) (recoded f B rs)
  recoded_represents rs plain = runs_represent B (subst (λ t. Runs B t (recoded f B rs) (0 ∷ rs) none) (sym (starts rs)) (recoded_runs B local 0 (0 ∷ rs) (omega arith) (omega arith, plain)))

  pub recoded_meets : (rs : List ℕ) → AllBelowBase B rs → Neighbours Near (recoded f B rs)
  recoded_meets rs plain =
      let e : pos 0 +ℤ pos (B * 0) ≡ pos (0 + num (borrowed f B 0 (0 ∷ rs))) = omega (arith, ints, ap num (starts rs)) in
      recoded_near B local 0 (0 ∷ rs) none (pos 0) (omega arith) (omega arith, plain) local.blank_fits e

  exists_pos : (n : ℕ) → (ds : List ℤ) × Represents B (pos n) ds × Neighbours Near ds
  exists_pos n =
      let rs = digits_of B n in
      let plain = all_below_base_digits_of B n two in
      let s = recoded_represents rs plain in
      (recoded f B rs, record { range = s.range; worth = s.worth ∙ ap pos (number_digits_of B n two) }, recoded_meets rs plain)

  pub exists : (z : ℤ) → (ds : List ℤ) × Represents B z ds × Neighbours Near ds
  exists (pos n) = exists_pos n
  exists (negsuc n) =
      let p = exists_pos (suc n) in
      (negated p.0, negated_represents B (pos (suc n)) p.0 p.1, negated_chain Near local.mirror (pos 0) p.0 p.2)

  -- two forms of one number
  told : (ds : List ℤ) (rs : List ℕ) → AllBelowBase B rs → Represents B (pos (number_from_digits B rs)) ds → Neighbours Near ds → padded (length rs) ds ≡ recoded_under f B 0 (zeros (length ds) rs)
  told ds rs plain s h =
      let e : pos 0 +ℤ pos (B * 0) ≡ pos (0 + 0) = omega (arith, ints) in
      let path = path_of B ds rs (omega arith) s.range plain s.worth in
      (recoded_only B local 0 none (pos 0) (omega arith) (omega arith) path e (padded_chain Near (length rs) ds local.blank h)).digits

  same_pos : (n : ℕ) (ds es : List ℤ) → length ds ≡ length es → Represents B (pos n) ds → Represents B (pos n) es → Neighbours Near ds → Neighbours Near es → ds ≡ es
  same_pos n ds es len s r h k =
      let rs = digits_of B n in
      let plain = all_below_base_digits_of B n two in
      let w = ap pos (sym (number_digits_of B n two)) in
      let a = told ds rs plain (record { range = s.range; worth = s.worth ∙ w }) h in
      let b = told es rs plain (record { range = r.range; worth = r.worth ∙ w }) k in
      padded_same (length rs) ds es (a ∙ ap (λ l. recoded_under f B 0 (zeros l rs)) len ∙ sym b)

  same : (z : ℤ) (ds es : List ℤ) → length ds ≡ length es → Represents B z ds → Represents B z es → Neighbours Near ds → Neighbours Near es → ds ≡ es
  same (pos n) ds es len s r h k = same_pos n ds es len s r h k
  same (negsuc n) ds es len s r h k =
      let e = same_pos (suc n) (negated ds) (negated es) (negated-length ds ∙ len ∙ sym (negated-length es)) (negated_represents B (negsuc n) ds s) (negated_represents B (negsuc n) es r) (negated_chain Near local.mirror (pos 0) ds h) (negated_chain Near local.mirror (pos 0) es k) in
      sym (negated_twice ds) ∙ ap negated e ∙ negated_twice es

  pub unique : (z : ℤ) (ds es : List ℤ) → Represents B z ds → Represents B z es → Neighbours Near ds → Neighbours Near es → Same ds es
  unique z ds es s r h k =
      let len : length (padded (length es) ds) ≡ length (padded (length ds) es) = omega (arith, padded-length (length es) ds, padded-length (length ds) es) in
      same z (padded (length es) ds) (padded (length ds) es) len
      (record { range = padded_range B (length es) ds (omega arith) s.range; worth = padded-value B (length es) ds ∙ s.worth })
      (record { range = padded_range B (length ds) es (omega arith) r.range; worth = padded-value B (length ds) es ∙ r.worth })
      (padded_chain Near (length es) ds local.blank h) (padded_chain Near (length ds) es local.blank k)
