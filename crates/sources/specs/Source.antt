-- What a source means: its laws, and one step of it. Assumes nothing.
use Rattle.std.specs.Prelude.{◌≡◌, ℕ, ◌≤◌, List, [], ◌∷◌, length, Some, None, Option}
use Rattle.std.specs.Int.Digits.{AllBelowBase}

-- what holds of every source: a radix from 2 to 16, and at most 4096 digits, all below it
pub record Laws {S : Type 0} (base : S → ℕ) (coming : S → List ℕ) : Type 0 where
  pub low : (s : S) → 2 ≤ base s
  pub high : (s : S) → base s ≤ 16
  pub below : (s : S) → AllBelowBase (base s) (coming s)
  pub few : (s : S) → length (coming s) ≤ 4096

-- what `next` answers as s turns into t: at no digit None, and t is s; else the first digit, and t has the others
abbrev pub Step : {S : Type 0} → List ℕ → S → S → List ℕ → Option ℕ → Type 0
Step [] s t rest r = (r ≡ None) × (t ≡ s)
Step (d ∷ ds) s t rest r = (r ≡ Some d) × (rest ≡ ds)
