-- What the answer of a reading means: a lawful schedule, or the first word that cannot stand. Assumes nothing.
use Rattle.std.specs.Prelude.{◌≡◌, ℕ, suc, ◌<◌, ◌≤◌, List, ◌∷◌, length, Ok, Err, Result, ◌≢◌}
use Rattle.schedules.specs.declared.word.Word.TheVariants.{Header}
use Rattle.schedules.specs.declared.fault.ScheduleFault.{ScheduleFault}
use Rattle.schedules.specs.declared.reading.Heading.{Heading}
use Rattle.schedules.specs.Words.{spelled}
use Rattle.schedules.specs.Schedules.{steps, Lawful}
use Rattle.schedules.specs.Faults.{told_schedule}

-- number and place of the first word that cannot stand there or is missing
pub data Blamed (ws : List ℕ) : ℕ → ℕ → Type 0 where
  -- there is no header with a count other than 255
  no_header : ((k B : ℕ) (rest : List ℕ) → k < 255 → B < 256 → ws ≢ spelled (Header k B) ∷ rest) → Blamed ws 7 0
  -- there is, but of another radix than 2 to 16
  no_radix : (k B : ℕ) (rest : List ℕ) → k < 255 → B < 256 → ws ≡ spelled (Header k B) ∷ rest → (2 ≤ B → B ≤ 16 → ⊥) → Blamed ws 1 0
  -- the p words after the header would be lawful, were they all; p + 1 of them would not
  no_step : (k B p : ℕ) (rest : List ℕ) → k < 255 → p < k → ws ≡ spelled (Header k B) ∷ rest → Lawful B (spelled (Header p B) ∷ rest) → (Lawful B (spelled (Header (suc p) B) ∷ rest) → ⊥) → Blamed ws 7 (suc p)

-- a lawful schedule is accepted; any other is blamed at the first word that cannot stand
abbrev pub Inspects : List ℕ → Result Heading ScheduleFault → Type 0
Inspects ws (Ok h) = Lawful h.radix ws × (length (steps ws) ≡ h.count)
Inspects ws (Err f) = Blamed ws (told_schedule f).number (told_schedule f).place × ((B : ℕ) → Lawful B ws → ⊥)
