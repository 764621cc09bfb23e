-- The reader accepts every lawful line. Assumes nothing.
use Rattle.std.proofs.Common.{◌≡◌, ℕ, suc, ◌+◌, ◌-◌, ◌<◌, ◌≤◌, Bool, true, false, List, [], ◌∷◌, ◌++◌, map, length, Some, None, decimal, Option, refl, ap, ◌∙◌, arith, le-ltb, lt-ltb, ne_eqb}
use native.Mathlib.Decide.{dec_lt}
use Rattle.std.specs.Int.Digits.{AllBelowBase}
use Rattle.forms.specs.declared.Letter.{Letter}
use Rattle.forms.specs.declared.Letter.TheVariants as letter
use Rattle.jobs.specs.declared.reading.Shape.{Shape}
use Rattle.jobs.specs.declared.reading.Stage.{Stage}
use Rattle.jobs.specs.declared.reading.Stage.TheVariants.{Start, Spaced, Teen, Based, Digits, Done}
use Rattle.jobs.specs.Grammar.{Job, Lawful, letter_byte, digit_byte, minus, space, line_feed, spelled}
use Rattle.jobs.specs.Reading.{step}
use Rattle.jobs.proofs.Spelling.{between_in, digit_back, decimal_one, decimal_two}

-- the stage after some bytes
abbrev pub run_on : Option Stage → (Stage → Option Stage) → Option Stage
run_on (Some s) go = go s
run_on None go = None

abbrev pub run : Stage → List ℕ → Option Stage
run s [] = Some s
run s (b ∷ bs) = run_on (step s b) (λ t. run t bs)

pub run-append : (s : Stage) (xs ys : List ℕ) → run s (xs ++ ys) ≡ run_on (run s xs) (λ t. run t ys)
run-append s [] ys = refl
run-append s (b ∷ bs) ys = by (step s b) (λ t. run-append t bs ys)
  where
    by : (o : Option Stage) → ((t : Stage) → run t (bs ++ ys) ≡ run_on (run t bs) (λ u. run u ys)) → run_on o (λ t. run t (bs ++ ys)) ≡ run_on (run_on o (λ t. run t bs)) (λ t. run t ys)
    by None more = refl
    by (Some t) more = more t

after : (s t : Stage) (b : ℕ) (bs : List ℕ) → step s b ≡ Some t → run s (b ∷ bs) ≡ run t bs
after s t b bs e = ap (λ o. run_on o (λ u. run u bs)) e

reads_letter : (l : Letter) (bs : List ℕ) → run Start (letter_byte l ∷ space ∷ bs) ≡ run (Spaced l) bs
reads_letter letter.G bs = refl
reads_letter letter.B bs = refl
reads_letter letter.L bs = refl

step_one : (l : Letter) (r : ℕ) → 2 ≤ r → r < 10 → step (Spaced l) (48 + r) ≡ Some (Based l r)
step_one l r h k =
    let e : 48 + r - 48 ≡ r = omega arith in
    rw (ne_eqb (48 + r) 49 (λ z. omega arith), between_in 50 57 (48 + r) (omega arith) (omega arith)) (ap (λ n. Some (Based l n)) e)

step_two : (l : Letter) (r : ℕ) → 10 ≤ r → r ≤ 16 → step (Teen l) (38 + r) ≡ Some (Based l r)
step_two l r h k =
    let e : 38 + r - 38 ≡ r = omega arith in
    rw (between_in 48 54 (38 + r) (omega arith) (omega arith)) (ap (λ n. Some (Based l n)) e)

reads_radix : (l : Letter) (r : ℕ) (bs : List ℕ) → 2 ≤ r → r ≤ 16 → Dec (r < 10) → run (Spaced l) (decimal r ++ bs) ≡ run (Based l r) bs
reads_radix l r bs h k (yes j) = ap (λ t. run (Spaced l) (t ++ bs)) (decimal_one r j) ∙ after (Spaced l) (Based l r) (48 + r) bs (step_one l r h j)
reads_radix l r bs h k (no j) = ap (λ t. run (Spaced l) (t ++ bs)) (decimal_two r (omega arith) k) ∙ after (Teen l) (Based l r) (38 + r) bs (step_two l r (omega arith) k)

abbrev shape : Letter → ℕ → Bool → ℕ → Shape
shape l r m n = record { letter = l; radix = r; negative = m; count = n }

reads_sign : (l : Letter) (r : ℕ) (m : Bool) (bs : List ℕ) → r ≤ 16 → run (Based l r) (space ∷ (minus m ++ bs)) ≡ run (Digits (shape l r m 0)) bs
reads_sign l r false bs h = refl
reads_sign l r true bs h = after (Digits (shape l r false 0)) (Digits (shape l r true 0)) 45 bs (rw (le-ltb 16 r h))

step_digit : (s : Shape) (d : ℕ) → d < s.radix → s.radix ≤ 16 → s.count < 120 → step (Digits s) (digit_byte d) ≡ Some (Digits (record s { count = s.count + 1 }))
step_digit s d h k j = rw (digit_back d (omega arith), lt-ltb d s.radix h, lt-ltb s.count 120 j)

reads_digits : (s : Shape) (ds : List ℕ) → s.radix ≤ 16 → AllBelowBase s.radix ds → s.count + length ds ≤ 120 → 0 < s.count + length ds → run (Digits s) (map digit_byte ds ++ (line_feed ∷ [])) ≡ Some (Done (record s { count = s.count + length ds }))
reads_digits s [] k u few some =
    let e : s.count ≡ s.count + 0 = omega arith in
    after (Digits s) (Done s) 10 [] (rw (le-ltb 16 s.radix k, lt-ltb 0 s.count (omega arith))) ∙ ap (λ i. Some (Done (record s { count = i }))) e
reads_digits s (d ∷ ds) k u few some =
    let e : s.count + 1 + length ds ≡ s.count + suc (length ds) = omega arith in
    let next : Shape = record s { count = s.count + 1 } in
    after (Digits s) (Digits next) (digit_byte d) (map digit_byte ds ++ (line_feed ∷ [])) (step_digit s d u.0 k (omega arith))
    ∙ reads_digits next ds k u.1 (omega arith) (omega arith)
    ∙ ap (λ i. Some (Done (record s { count = i }))) e

-- the shape that the reader tells of a lawful line
abbrev pub shape_of : Job → Shape
shape_of j = shape j.letter j.radix j.negative (length j.digits)

pub accepts : (j : Job) → Lawful j → run Start (spelled j) ≡ Some (Done (shape_of j))
accepts j h =
    let l = j.letter in let r = j.radix in let m = j.negative in
    let tail = map digit_byte j.digits ++ (line_feed ∷ []) in
    let zero_more : 0 + length j.digits ≡ length j.digits = omega arith in
    reads_letter l (decimal r ++ (space ∷ (minus m ++ tail)))
    ∙ reads_radix l r (space ∷ (minus m ++ tail)) h.low h.high (dec_lt r 10)
    ∙ reads_sign l r m tail h.high
    ∙ reads_digits (shape l r m 0) j.digits h.high h.plain (omega (arith, h.few)) (omega (arith, h.some))
    ∙ ap (λ n. Some (Done (shape l r m n))) zero_more
