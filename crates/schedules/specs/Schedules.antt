-- Lawful schedules, the number that one makes, and what it weighs. Assumes nothing.
use Rattle.std.specs.Prelude.{◌≡◌, ℕ, zero, suc, ◌+◌, ◌^◌, ◌<◌, ◌≤◌, Bool, true, false, List, [], ◌∷◌, ◌++◌, map, length, ℤ, pos, ◌+ℤ◌, ◌*ℤ◌, neg_ℤ, Ok, Err, Result}
use Rattle.schedules.specs.declared.word.Word.{Word}
use Rattle.schedules.specs.declared.word.Word.TheVariants.{Header, Take, Raise, Multiply}
use Rattle.schedules.specs.declared.word.Last.{Last}
use Rattle.schedules.specs.declared.word.Last.TheVariants as last
use Rattle.schedules.specs.declared.word.Misread.{Misread}
use Rattle.schedules.specs.Words.{spelled, read}

-- words that may follow a header, by what came last: one take, then raises and multiplies in turn, starting with a raise
pub data Follow (B : ℕ) : Last → List Word → Type 0 where
  end : {l : Last} → Follow B l []
  take : {size : ℕ} {negative : Bool} {xs : List Word} → 0 < size → size < B → Follow B last.Use xs → Follow B last.Nothing (Take size negative ∷ xs)
  raise : {times : ℕ} {xs : List Word} → 0 < times → times ≤ 120 → Follow B last.Raise xs → Follow B last.Use (Raise times ∷ xs)
  multiply : {size : ℕ} {negative : Bool} {xs : List Word} → 0 < size → size < B → Follow B last.Use xs → Follow B last.Raise (Multiply size negative ∷ xs)

abbrev pub raise_of : Word → ℕ
raise_of (Header count radix) = 0
raise_of (Take size negative) = 0
raise_of (Raise times) = times
raise_of (Multiply size negative) = 0

-- the sum of the raises
abbrev pub raised : List Word → ℕ
raised [] = 0
raised (x ∷ xs) = raise_of x + raised xs

-- a radix, and words that may stand after its header
pub record Stands (B : ℕ) (xs : List Word) : Type 0 where
  pub low : 2 ≤ B
  pub high : B ≤ 16
  pub follow : Follow B last.Nothing xs
  pub sum : raised xs ≤ 120

-- the words of a header that counts xs, and of xs
abbrev pub schedule : ℕ → List Word → List ℕ
schedule B xs = spelled (Header (length xs) B) ∷ map spelled xs

-- the first k words, as they are read
abbrev pub and_read : Result Word Misread → List Word → List Word
and_read (Ok x) xs = x ∷ xs
and_read (Err why) xs = xs

abbrev pub reads : ℕ → List ℕ → List Word
reads zero ws = []
reads (suc k) [] = []
reads (suc k) (w ∷ ws) = and_read (read w) (reads k ws)

abbrev pub count_in : Result Word Misread → ℕ
count_in (Ok (Header count radix)) = count
count_in (Ok (Take size negative)) = 0
count_in (Ok (Raise times)) = 0
count_in (Ok (Multiply size negative)) = 0
count_in (Err why) = 0

-- the counted words after the header; later ones are not read
abbrev pub steps : List ℕ → List Word
steps [] = []
steps (h ∷ ws) = reads (count_in (read h)) ws

pub record Lawful (B : ℕ) (ws : List ℕ) : Type 0 where
  pub later : List ℕ
  pub words : ws ≡ schedule B (steps ws) ++ later
  pub body : Stands B (steps ws)

abbrev pub signed_size : ℕ → Bool → ℤ
signed_size n false = pos n
signed_size n true = neg_ℤ (pos n)

-- a use adds its signed size, a raise multiplies by the radix that often
abbrev pub after : ℕ → ℤ → Word → ℤ
after B z (Header count radix) = z
after B z (Take size negative) = z +ℤ signed_size size negative
after B z (Raise times) = z *ℤ pos (B ^ times)
after B z (Multiply size negative) = z +ℤ signed_size size negative

abbrev pub made_from : ℕ → ℤ → List Word → ℤ
made_from B z [] = z
made_from B z (x ∷ xs) = made_from B (after B z x) xs

-- the number that stands after the last word, begun at 0
abbrev pub makes : ℕ → List ℕ → ℤ
makes B ws = made_from B (pos 0) (steps ws)

abbrev pub use_cost : (ℕ → ℕ) → Word → ℕ
use_cost c (Header count radix) = 0
use_cost c (Take size negative) = c size
use_cost c (Raise times) = 0
use_cost c (Multiply size negative) = c size

abbrev pub weighed : (ℕ → ℕ) → List Word → ℕ
weighed c [] = 0
weighed c (x ∷ xs) = use_cost c x + weighed c xs

-- what the uses cost together
abbrev pub weight : (ℕ → ℕ) → List ℕ → ℕ
weight c ws = weighed c (steps ws)
