-- Bytes and what they spell: letters, radices and digits. Assumes nothing.
use Rattle.std.proofs.Common.{◌≡◌, ℕ, ◌+◌, ◌-◌, ◌/◌, ◌%◌, ◌<◌, ◌≤◌, true, false, ◌&&◌, leb, [], ◌∷◌, ◌++◌, Some, None, decimal, Option, ap, ◌∙◌, arith, le-ltb, lt-ltb, eq-eqb, ne_eqb, le-leb, leb-true}
use native.Mathlib.Decide.{dec_le, dec_lt, ℕ_discrete}
use borrow.Author.Tests.{lt-leb}
use Rattle.std.proofs.lemmas.Fmt.{decimal_digit, decimal_step}
use Rattle.std.proofs.lemmas.Bool.{and_parts}
use Rattle.forms.specs.declared.Letter.{Letter}
use Rattle.jobs.specs.Grammar.{letter_byte, digit_byte}
use Rattle.jobs.specs.Reading.{between, letter_of, digit_of}

pub between_in : (low high b : ℕ) → low ≤ b → b ≤ high → between low high b ≡ true
between_in low high b h k = rw (le-leb low b h, le-leb b high k)

pub between_out : (low high b : ℕ) → between low high b ≡ true → (low ≤ b) × (b ≤ high)
between_out low high b e = let p = and_parts (leb low b) (leb b high) e in (leb-true low b p.0, leb-true b high p.1)

between_below : (low high b : ℕ) → b < low → between low high b ≡ false
between_below low high b h = ap (λ t. t && leb b high) (lt-leb low b h)

between_above : (low high b : ℕ) → low ≤ b → high < b → between low high b ≡ false
between_above low high b h k = rw (le-leb low b h, lt-leb b high k)

-- a letter, or none
abbrev pub Told : ℕ → Option Letter → Type 0
Told b (Some l) = b ≡ letter_byte l
Told b None = Unit {0}

letter_by : (b : ℕ) → Dec (b ≡ 71) → Dec (b ≡ 66) → Dec (b ≡ 76) → Told b (letter_of b)
letter_by b (yes g) y z = rw (eq-eqb b 71 g) g
letter_by b (no g) (yes h) z = rw (ne_eqb b 71 g, eq-eqb b 66 h) h
letter_by b (no g) (no h) (yes k) = rw (ne_eqb b 71 g, ne_eqb b 66 h, eq-eqb b 76 k) k
letter_by b (no g) (no h) (no k) = rw (ne_eqb b 71 g, ne_eqb b 66 h, ne_eqb b 76 k) tt

pub letter_told : (b : ℕ) → Told b (letter_of b)
letter_told b = letter_by b (ℕ_discrete b 71) (ℕ_discrete b 66) (ℕ_discrete b 76)

no_digit : (b : ℕ) → between 48 57 b ≡ false → between 65 70 b ≡ false → digit_of b < 16 → ⊥
no_digit b e f h = let d : digit_of b ≡ 16 = rw (e, f) in omega (arith, d)

-- a digit below 16 is spelled by its own byte
spelled_by : (b : ℕ) → digit_of b < 16 → Dec (48 ≤ b) → Dec (b ≤ 57) → Dec (65 ≤ b) → Dec (b ≤ 70) → digit_byte (digit_of b) ≡ b
spelled_by b h (yes p) (yes q) r s =
    rw (between_in 48 57 b p q, lt-ltb (b - 48) 10 (omega arith)) (omega arith)
spelled_by b h (yes p) (no q) (yes r) (yes s) =
    rw (between_above 48 57 b p (omega arith), between_in 65 70 b r s, le-ltb (b - 55) 10 (omega arith)) (omega arith)
spelled_by b h (yes p) (no q) (no r) s = absurd (no_digit b (between_above 48 57 b p (omega arith)) (between_below 65 70 b (omega arith)) h)
spelled_by b h (yes p) (no q) (yes r) (no s) = absurd (no_digit b (between_above 48 57 b p (omega arith)) (between_above 65 70 b r (omega arith)) h)
spelled_by b h (no p) q r s = absurd (no_digit b (between_below 48 57 b (omega arith)) (between_below 65 70 b (omega arith)) h)

pub spelled_back : (b : ℕ) → digit_of b < 16 → digit_byte (digit_of b) ≡ b
spelled_back b h = spelled_by b h (dec_le 48 b) (dec_le b 57) (dec_le 65 b) (dec_le b 70)

digit_by : (d : ℕ) → d < 16 → Dec (d < 10) → digit_of (digit_byte d) ≡ d
digit_by d h (yes k) = rw (lt-ltb d 10 k, between_in 48 57 (48 + d) (omega arith) (omega arith)) (omega arith)
digit_by d h (no k) = rw (le-ltb d 10 (omega arith), between_above 48 57 (55 + d) (omega arith) (omega arith), between_in 65 70 (55 + d) (omega arith) (omega arith)) (omega arith)

pub digit_back : (d : ℕ) → d < 16 → digit_of (digit_byte d) ≡ d
digit_back d h = digit_by d h (dec_lt d 10)

-- the radix in one digit, or a 1 and another
pub decimal_one : (r : ℕ) → r < 10 → decimal r ≡ (48 + r) ∷ []
decimal_one r h = decimal_digit r h

pub decimal_two : (r : ℕ) → 10 ≤ r → r ≤ 16 → decimal r ≡ 49 ∷ (38 + r) ∷ []
decimal_two r h k =
    let q : r / 10 ≡ 1 = omega arith in
    let m : 48 + r % 10 ≡ 38 + r = omega arith in
    decimal_step r h (omega arith) ∙ ap (λ n. decimal n ++ ((48 + r % 10) ∷ [])) q ∙ ap (λ l. l ++ ((48 + r % 10) ∷ [])) (decimal_digit 1 (omega arith)) ∙ ap (λ b. 49 ∷ b ∷ []) m
