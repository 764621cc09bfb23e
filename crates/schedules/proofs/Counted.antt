-- A schedule is lawful exactly if its words are those of steps that may stand, and these are then what it reads. Assumes nothing.
use Rattle.std.proofs.Common.{◌≡◌, ℕ, ◌+◌, ◌*◌, ◌^◌, ◌<◌, ◌≤◌, List, [], ◌∷◌, ◌++◌, map, length, sym, refl, ap, ◌∙◌, subst, arith}
use Rattle.schedules.specs.declared.word.Word.{Word}
use Rattle.schedules.specs.declared.word.Word.TheVariants.{Header}
use Rattle.schedules.specs.declared.word.Last.{Last}
use Rattle.schedules.specs.declared.word.Last.TheVariants as last
use Rattle.schedules.specs.Words.{spelled, EightBits}
use Rattle.schedules.specs.Schedules.{Follow, end, take, raise, multiply, raised, Stands, schedule, reads, and_read, count_in, steps, Lawful}
use Rattle.schedules.proofs.Spelling.{read_spelled}

-- every word has eight_bit fields
abbrev pub AllEight : List Word → Type 0
AllEight [] = Unit {0}
AllEight (x ∷ xs) = EightBits x × AllEight xs

pub follow_eight : (B : ℕ) {l : Last} {xs : List Word} → B ≤ 16 → Follow B l xs → AllEight xs
follow_eight B h end = tt
follow_eight B h (take p q f) = (omega arith, follow_eight B h f)
follow_eight B h (raise p q f) = (omega arith, follow_eight B h f)
follow_eight B h (multiply p q f) = (omega arith, follow_eight B h f)

pub reads_spelled : (xs : List Word) (later : List ℕ) → AllEight xs → reads (length xs) (map spelled xs ++ later) ≡ xs
reads_spelled [] later h = refl
reads_spelled (x ∷ xs) later h = ap (λ r. and_read r (reads (length xs) (map spelled xs ++ later))) (read_spelled x h.0) ∙ ap (λ l. x ∷ l) (reads_spelled xs later h.1)

pub steps_schedule : (B : ℕ) (xs : List Word) (later : List ℕ) → B < 2 ^ 8 → length xs < 2 ^ 8 → AllEight xs → steps (schedule B xs ++ later) ≡ xs
steps_schedule B xs later b n h =
    ap (λ r. reads (count_in r) (map spelled xs ++ later)) (read_spelled (Header (length xs) B) (n, b)) ∙ reads_spelled xs later h

-- raises that sum to little leave few words
abbrev pub words_after : Last → ℕ
words_after last.Nothing = 1
words_after last.Use = 0
words_after last.Raise = 1

pub follow_few : (B : ℕ) {l : Last} {xs : List Word} → Follow B l xs → length xs ≤ words_after l + 2 * raised xs
follow_few B {l} end = omega arith
follow_few B (take p q f) = omega (arith, follow_few B f)
follow_few B (raise p q f) = omega (arith, follow_few B f)
follow_few B (multiply p q f) = omega (arith, follow_few B f)

pub steps_few : (B : ℕ) (xs : List Word) → Stands B xs → length xs ≤ 241
steps_few B xs s = omega (arith, follow_few B s.follow, s.sum)

pub record Spells (B : ℕ) (xs : List Word) (ws : List ℕ) : Type 0 where
  pub reads_so : steps ws ≡ xs
  pub lawful : Lawful B ws

pub spells : (B : ℕ) (xs : List Word) (ws later : List ℕ) → Stands B xs → ws ≡ schedule B xs ++ later → Spells B xs ws
spells B xs ws later s e =
    let few = steps_few B xs s in
    let r : steps ws ≡ xs = ap steps e ∙ steps_schedule B xs later (omega (arith, s.high)) (omega arith) (follow_eight B s.high s.follow) in
    record { reads_so = r; lawful = record { later = later; words = e ∙ ap (λ l. schedule B l ++ later) (sym r); body = subst (Stands B) (sym r) s } }
