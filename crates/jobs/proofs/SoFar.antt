-- What has been read at each stage, and that some lawful line goes on from there. Assumes nothing.
use Rattle.std.proofs.Common.{◌≡◌, ℕ, ◌+◌, ◌-◌, ◌<◌, ◌≤◌, Bool, true, false, not, ◌&&◌, eqb, ltb, List, [], ◌∷◌, ◌++◌, map, length, Some, None, decimal, Option, sym, refl, ap, ◌∙◌, subst, append_assoc, append-nil, arith, ltb-true, le-ltb, lt-ltb, eq-eqb, ne_eqb, eqb-true}
use native.Mathlib.Decide.{dec_lt, ℕ_discrete}
use borrow.Author.Tests.{not-true}
use Rattle.std.proofs.lemmas.List.{map-append, length_push}
use Rattle.std.proofs.lemmas.Bool.{and_parts}
use Rattle.std.specs.Int.Digits.{AllBelowBase}
use Rattle.forms.specs.declared.Letter.{Letter}
use Rattle.forms.specs.declared.Letter.TheVariants as letter
use Rattle.jobs.specs.declared.reading.Shape.{Shape}
use Rattle.jobs.specs.declared.reading.Stage.{Stage}
use Rattle.jobs.specs.declared.reading.Stage.TheVariants.{Start, Lettered, Spaced, Teen, Based, Digits, Done}
use Rattle.jobs.specs.Grammar.{Job, Lawful, GoesOn, letter_byte, digit_byte, minus, space, spelled}
use Rattle.jobs.specs.Reading.{between, letter_of, digit_of, goes_if, after_letter, after_digits, step}
use Rattle.jobs.proofs.Spelling.{between_out, Told, letter_told, spelled_back, decimal_one, decimal_two}

-- the text of a line of this shape, with what is spelled behind its sign
abbrev pub head : Shape → List ℕ → List ℕ
head s rest = letter_byte s.letter ∷ space ∷ (decimal s.radix ++ (space ∷ (minus s.negative ++ rest)))

abbrev pub job_of : Shape → List ℕ → Job
job_of s ds = record { letter = s.letter; radix = s.radix; negative = s.negative; digits = ds }

pub record Counted (s : Shape) (text : List ℕ) : Type 0 where
  pub low : 2 ≤ s.radix
  pub high : s.radix ≤ 16
  pub digits : List ℕ
  pub count : length digits ≡ s.count
  pub few : s.count ≤ 120
  pub plain : AllBelowBase s.radix digits
  pub is : text ≡ head s (map digit_byte digits)

pub record Finished (s : Shape) (text : List ℕ) : Type 0 where
  pub digits : List ℕ
  pub count : length digits ≡ s.count
  pub lawful : Lawful (job_of s digits)
  pub is : spelled (job_of s digits) ≡ text

abbrev pub SoFar : Stage → List ℕ → Type 0
SoFar Start t = t ≡ []
SoFar (Lettered l) t = t ≡ letter_byte l ∷ []
SoFar (Spaced l) t = t ≡ letter_byte l ∷ space ∷ []
SoFar (Teen l) t = t ≡ letter_byte l ∷ space ∷ 49 ∷ []
SoFar (Based l r) t = (2 ≤ r) × (r ≤ 16) × (t ≡ letter_byte l ∷ space ∷ decimal r)
SoFar (Digits s) t = Counted s t
SoFar (Done s) t = Finished s t

-- what an accepted byte tells
goes : (b : Bool) (s t : Stage) → goes_if b s ≡ Some t → (b ≡ true) × (s ≡ t)
goes true s t e = (refl, cc)
goes false s t e = cc

arrives : (s t : Stage) (text : List ℕ) → s ≡ t → SoFar s text → SoFar t text
arrives s t text e h = subst (λ u. SoFar u text) e h

-- one byte more
letter_more : (b : ℕ) (o : Option Letter) (t : Stage) (text : List ℕ) → letter_of b ≡ o → text ≡ [] → after_letter o ≡ Some t → SoFar t (text ++ (b ∷ []))
letter_more b None t text e h k = cc
letter_more b (Some l) t text e h k =
    let told : b ≡ letter_byte l = subst (Told b) e (letter_told b) in
    let s : Lettered l ≡ t = cc in
    arrives (Lettered l) t (text ++ (b ∷ [])) s (ap (λ u. u ++ (b ∷ [])) h ∙ ap (λ c. c ∷ []) told)

based_one : (l : Letter) (b : ℕ) (text : List ℕ) → text ≡ letter_byte l ∷ space ∷ [] → 50 ≤ b → b ≤ 57 → SoFar (Based l (b - 48)) (text ++ (b ∷ []))
based_one l b text h p q =
    let back : 48 + (b - 48) ≡ b = omega arith in
    (omega arith, omega arith, ap (λ u. u ++ (b ∷ [])) h ∙ ap (λ c. letter_byte l ∷ space ∷ c ∷ []) (sym back) ∙ ap (λ u. letter_byte l ∷ space ∷ u) (sym (decimal_one (b - 48) (omega arith))))

based_two : (l : Letter) (b : ℕ) (text : List ℕ) → text ≡ letter_byte l ∷ space ∷ 49 ∷ [] → 48 ≤ b → b ≤ 54 → SoFar (Based l (b - 38)) (text ++ (b ∷ []))
based_two l b text h p q =
    let back : 38 + (b - 38) ≡ b = omega arith in
    (omega arith, omega arith, ap (λ u. u ++ (b ∷ [])) h ∙ ap (λ c. letter_byte l ∷ space ∷ 49 ∷ c ∷ []) (sym back) ∙ ap (λ u. letter_byte l ∷ space ∷ u) (sym (decimal_two (b - 38) (omega arith) (omega arith))))

spaced_more : (l : Letter) (b : ℕ) (t : Stage) (text : List ℕ) → text ≡ letter_byte l ∷ space ∷ [] → Dec (b ≡ 49) → step (Spaced l) b ≡ Some t → SoFar t (text ++ (b ∷ []))
spaced_more l b t text h (yes e) k =
    let k' = rw (eq-eqb b 49 e) at k in
    let s : Teen l ≡ t = cc in
    arrives (Teen l) t (text ++ (b ∷ [])) s (ap (λ u. u ++ (b ∷ [])) h ∙ ap (λ c. letter_byte l ∷ space ∷ c ∷ []) e)
spaced_more l b t text h (no e) k =
    let s = goes (between 50 57 b) (Based l (b - 48)) t (rw (ne_eqb b 49 e) at k) in
    let w = between_out 50 57 b s.0 in
    arrives (Based l (b - 48)) t (text ++ (b ∷ [])) s.1 (based_one l b text h w.0 w.1)

teen_more : (l : Letter) (b : ℕ) (t : Stage) (text : List ℕ) → text ≡ letter_byte l ∷ space ∷ 49 ∷ [] → step (Teen l) b ≡ Some t → SoFar t (text ++ (b ∷ []))
teen_more l b t text h k =
    let s = goes (between 48 54 b) (Based l (b - 38)) t k in
    let w = between_out 48 54 b s.0 in
    arrives (Based l (b - 38)) t (text ++ (b ∷ [])) s.1 (based_two l b text h w.0 w.1)

based_more : (l : Letter) (r b : ℕ) (t : Stage) (text : List ℕ) → SoFar (Based l r) text → step (Based l r) b ≡ Some t → SoFar t (text ++ (b ∷ []))
based_more l r b t text h k =
    let bare : Shape = record { letter = l; radix = r; negative = false; count = 0 } in
    let s = goes (eqb b 32) (Digits bare) t k in
    let e = eqb-true b 32 s.0 in
    arrives (Digits bare) t (text ++ (b ∷ [])) s.1 (record {
      low = h.0;
      high = h.1;
      digits = [];
      count = refl;
      few = omega arith;
      plain = tt;
      is = ap (λ u. u ++ (b ∷ [])) h.2 ∙ ap (λ c. letter_byte l ∷ space ∷ (decimal r ++ (c ∷ []))) e;
    })

under_push : (r : ℕ) (ds : List ℕ) (d : ℕ) → AllBelowBase r ds → d < r → AllBelowBase r (ds ++ (d ∷ []))
under_push r [] d u h = (h, tt)
under_push r (x ∷ xs) d u h = (u.0, under_push r xs d u.1 h)

head_push : (s : Shape) (xs ys : List ℕ) → head s xs ++ ys ≡ head s (xs ++ ys)
head_push s xs ys = simp append_assoc

module _ (s : Shape) (b : ℕ) (text : List ℕ) (h : Counted s text) where
  digit_more : digit_of b < s.radix → s.count < 120 → Counted (record s { count = s.count + 1 }) (text ++ (b ∷ []))
  digit_more lt few = record {
    low = h.low;
    high = h.high;
    digits = h.digits ++ (digit_of b ∷ []);
    count = length_push h.digits (digit_of b) ∙ ap (λ k. k + 1) h.count;
    few = omega arith;
    plain = under_push s.radix h.digits (digit_of b) h.plain lt;
    is = ap (λ u. u ++ (b ∷ [])) h.is ∙ head_push s (map digit_byte h.digits) (b ∷ [])
        ∙ ap (λ c. head s (map digit_byte h.digits ++ (c ∷ []))) (sym (spelled_back b (omega (arith, h.high))))
        ∙ ap (head s) (sym (map-append digit_byte h.digits (digit_of b ∷ [])));
  }

  done_more : b ≡ 10 → 0 < s.count → Finished s (text ++ (b ∷ []))
  done_more e some = record {
    digits = h.digits;
    count = h.count;
    lawful = record { low = h.low; high = h.high; some = omega (arith, h.count); few = omega (arith, h.count, h.few); plain = h.plain };
    is = sym (ap (λ u. u ++ (b ∷ [])) h.is ∙ ap (λ c. head s (map digit_byte h.digits) ++ (c ∷ [])) e ∙ head_push s (map digit_byte h.digits) (10 ∷ []));
  }

none_counted : (ds : List ℕ) (n : ℕ) → length ds ≡ n → n ≡ 0 → ds ≡ []
none_counted [] n e z = refl
none_counted (d ∷ ds) n e z = absurd (omega arith)

minus_more : (s : Shape) (b : ℕ) (text : List ℕ) → Counted s text → s.count ≡ 0 → s.negative ≡ false → b ≡ 45 → Counted (record s { negative = true }) (text ++ (b ∷ []))
minus_more s b text h z f e = record {
  low = h.low;
  high = h.high;
  digits = [];
  count = sym z;
  few = h.few;
  plain = tt;
  is = ap (λ u. u ++ (b ∷ [])) (h.is ∙ ap (λ ds. head s (map digit_byte ds)) (none_counted h.digits s.count h.count z) ∙ ap (λ m. head (record s { negative = m }) []) f) ∙ head_push (record s { negative = false }) [] (b ∷ []) ∙ ap (λ c. head (record s { negative = false }) (c ∷ [])) e;
}

module _ (s : Shape) (b : ℕ) (t : Stage) (text : List ℕ) (h : Counted s text) where
  digits_more : Dec (digit_of b < s.radix) → Dec (b ≡ 45) → after_digits s b ≡ Some t → SoFar t (text ++ (b ∷ []))
  digits_more (yes lt) q k =
      let more : Stage = Digits (record s { count = s.count + 1 }) in
      let g = goes (ltb s.count 120) more t (rw (lt-ltb (digit_of b) s.radix lt) at k) in
      arrives more t (text ++ (b ∷ [])) g.1 (digit_more s b text h lt (ltb-true s.count 120 g.0))
  digits_more (no ge) (yes e) k =
      let signed : Stage = Digits (record s { negative = true }) in
      let g = goes (eqb s.count 0 && not s.negative) signed t (rw (le-ltb (digit_of b) s.radix (omega arith), eq-eqb b 45 e) at k) in
      let w = and_parts (eqb s.count 0) (not s.negative) g.0 in
      arrives signed t (text ++ (b ∷ [])) g.1 (minus_more s b text h (eqb-true s.count 0 w.0) (not-true s.negative w.1) e)
  digits_more (no ge) (no e) k =
      let g = goes (eqb b 10 && ltb 0 s.count) (Done s) t (rw (le-ltb (digit_of b) s.radix (omega arith), ne_eqb b 45 e) at k) in
      let w = and_parts (eqb b 10) (ltb 0 s.count) g.0 in
      arrives (Done s) t (text ++ (b ∷ [])) g.1 (done_more s b text h (eqb-true b 10 w.0) (ltb-true 0 s.count w.1))

pub so_far_more : (s t : Stage) (b : ℕ) (text : List ℕ) → SoFar s text → step s b ≡ Some t → SoFar t (text ++ (b ∷ []))
so_far_more Start t b text h k = letter_more b (letter_of b) t text refl h k
so_far_more (Lettered l) t b text h k =
    let s = goes (eqb b 32) (Spaced l) t k in
    arrives (Spaced l) t (text ++ (b ∷ [])) s.1 (ap (λ u. u ++ (b ∷ [])) h ∙ ap (λ c. letter_byte l ∷ c ∷ []) (eqb-true b 32 s.0))
so_far_more (Spaced l) t b text h k = spaced_more l b t text h (ℕ_discrete b 49) k
so_far_more (Teen l) t b text h k = teen_more l b t text h k
so_far_more (Based l r) t b text h k = based_more l r b t text h k
so_far_more (Digits s) t b text h k = digits_more s b t text h (dec_lt (digit_of b) s.radix) (ℕ_discrete b 45) k
so_far_more (Done s) t b text h k = cc

-- some lawful line goes on from every stage
one_digit : (l : Letter) (r : ℕ) (m : Bool) → Job
one_digit l r m = record { letter = l; radix = r; negative = m; digits = 0 ∷ [] }

one_lawful : (l : Letter) (r : ℕ) (m : Bool) → 2 ≤ r → r ≤ 16 → Lawful (one_digit l r m)
unfolding one_digit
one_lawful l r m h k = record { low = h; high = k; some = omega arith; few = omega arith; plain = (omega arith, tt) }

pub goes_on : (s : Stage) (text : List ℕ) → SoFar s text → GoesOn text
unfolding one_digit
goes_on Start text h = (one_digit letter.G 2 false, spelled (one_digit letter.G 2 false), one_lawful letter.G 2 false (omega arith) (omega arith), ap (λ u. u ++ spelled (one_digit letter.G 2 false)) (sym h))
goes_on (Lettered l) text h =
    let rest : List ℕ = space ∷ (decimal 2 ++ (space ∷ 48 ∷ 10 ∷ [])) in
    (one_digit l 2 false, rest, one_lawful l 2 false (omega arith) (omega arith), ap (λ u. u ++ rest) (sym h))
goes_on (Spaced l) text h =
    let rest : List ℕ = decimal 2 ++ (space ∷ 48 ∷ 10 ∷ []) in
    (one_digit l 2 false, rest, one_lawful l 2 false (omega arith) (omega arith), ap (λ u. u ++ rest) (sym h))
goes_on (Teen l) text h =
    let rest : List ℕ = 48 ∷ space ∷ 48 ∷ 10 ∷ [] in
    (one_digit l 10 false, rest, one_lawful l 10 false (omega arith) (omega arith), ap (λ u. letter_byte l ∷ space ∷ (u ++ (space ∷ 48 ∷ 10 ∷ []))) (decimal_two 10 (omega arith) (omega arith)) ∙ ap (λ u. u ++ rest) (sym h))
goes_on (Based l r) text h =
    let rest : List ℕ = space ∷ 48 ∷ 10 ∷ [] in
    (one_digit l r false, rest, one_lawful l r false h.0 h.1, ap (λ u. u ++ rest) (sym h.2))
goes_on (Digits s) text h = by h.digits h.plain h.count h.is
  where
    by : (ds : List ℕ) → AllBelowBase s.radix ds → length ds ≡ s.count → text ≡ head s (map digit_byte ds) → GoesOn text
    by [] u c e =
        let rest : List ℕ = 48 ∷ 10 ∷ [] in
        (one_digit s.letter s.radix s.negative, rest, one_lawful s.letter s.radix s.negative h.low h.high, sym (ap (λ v. v ++ rest) e ∙ head_push s [] rest))
    by (d ∷ ds) u c e =
        let rest : List ℕ = 10 ∷ [] in
        (job_of s (d ∷ ds), rest, record { low = h.low; high = h.high; some = omega arith; few = omega (arith, h.few); plain = u }, sym (ap (λ v. v ++ rest) e ∙ head_push s (map digit_byte (d ∷ ds)) rest))
goes_on (Done s) text h = (job_of s h.digits, [], h.lawful, h.is ∙ sym (append-nil text))
