-- Job lines: how a lawful one is spelled, and where another goes wrong. Assumes nothing.
use Rattle.std.specs.Prelude.{◌≡◌, ℕ, suc, ◌+◌, ◌<◌, ◌≤◌, Bool, true, false, cond, List, [], ◌∷◌, ◌++◌, map, length, take, decimal, nat_lt}
use Rattle.std.specs.Int.Digits.{AllBelowBase}
use Rattle.forms.specs.declared.Letter.{Letter}
use Rattle.forms.specs.Characters.{character}

-- a number to recode: a letter, a radix, a sign, and plain digits, top first
pub record Job : Type 0 where
  pub letter : Letter
  pub radix : ℕ
  pub negative : Bool
  pub digits : List ℕ

pub record Lawful (j : Job) : Type 0 where
  pub low : 2 ≤ j.radix
  pub high : j.radix ≤ 16
  pub some : 0 < length j.digits
  pub few : length j.digits ≤ 120
  pub plain : AllBelowBase j.radix j.digits

abbrev pub space : ℕ
space = 32

abbrev pub line_feed : ℕ
line_feed = 10

abbrev pub letter_byte : Letter → ℕ
letter_byte = character

-- 0 to 9, then A to F
abbrev pub digit_byte : ℕ → ℕ
digit_byte d = cond (nat_lt d 10) (48 + d) (55 + d)

abbrev pub minus : Bool → List ℕ
minus true = 45 ∷ []
minus false = []

-- letter, space, radix, space, minus if any, digits, line feed
abbrev pub spelled : Job → List ℕ
spelled j = letter_byte j.letter ∷ space ∷ (decimal j.radix ++ (space ∷ (minus j.negative ++ (map digit_byte j.digits ++ (line_feed ∷ [])))))

-- the text is a lawful line
abbrev pub Spells : Job → List ℕ → Type 0
Spells j text = Lawful j × (spelled j ≡ text)

-- the text begins some lawful line
abbrev pub GoesOn : List ℕ → Type 0
GoesOn text = (j : Job) × (rest : List ℕ) × Lawful j × (spelled j ≡ text ++ rest)

-- the first column, from 1, at which no lawful line goes on: one past the end where the whole text still does
pub record FaultyAt (text : List ℕ) (column : ℕ) : Type 0 where
  pub before : ℕ
  pub next : column ≡ suc before
  pub inside : before ≤ length text
  pub goes_on : GoesOn (take before text)
  pub ends : before < length text → ¬ GoesOn (take (suc before) text)
  pub unlawful : (j : Job) → ¬ Spells j text
