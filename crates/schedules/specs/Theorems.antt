-- What is true of schedules, at every radix: they are the forms, number by number and weight by weight. Assumes nothing.
use Rattle.std.specs.Prelude.{◌≡◌, ℕ, ◌≤◌, List, [], ◌∷◌, ◌++◌, length, ℤ, pos, negsuc}
use Rattle.forms.specs.declared.Letter.{Letter}
use Rattle.forms.specs.declared.Measure.{Measure}
use Rattle.forms.specs.Form.{value, InRange, Represents}
use Rattle.forms.specs.Weight.{cost}
use Rattle.forms.specs.Weight as form
use Rattle.forms.specs.Letters.{cost_of, Given}
use Rattle.schedules.specs.declared.word.Word.{Word}
use Rattle.schedules.specs.Schedules.{Stands, schedule, steps, Lawful, makes, weight}
use Rattle.schedules.specs.OfForm.{schedule_of}

-- the schedule of a form is lawful, makes the form's value and weighs what the form weighs
pub record Writes (B : ℕ) (f : List ℤ) : Type 0 where
  pub lawful : Lawful B (schedule_of B f)
  pub number : makes B (schedule_of B f) ≡ value B f
  pub weighs : (m : Measure) → weight (cost m) (schedule_of B f) ≡ form.weight (cost m) f
  pub few : length (schedule_of B f) ≤ 242

-- a schedule is that of some form of its number, of the same weight
pub record Written (B : ℕ) (ws : List ℕ) : Type 0 where
  pub digits : List ℤ
  pub later : List ℕ
  pub words : ws ≡ schedule_of B digits ++ later
  pub represents : Represents B (makes B ws) digits
  pub places : length digits ≤ 121
  pub weighs : (m : Measure) → form.weight (cost m) digits ≡ weight (cost m) ws

-- 0 and 93 at radix 4
pub record Examples : Type 0 where
  pub nothing : schedule_of 4 [] ≡ 0x0000_0004 ∷ []
  pub ninety_three : schedule_of 4 (pos 1 ∷ pos 2 ∷ negsuc 0 ∷ pos 1 ∷ []) ≡ 0x0000_0704 ∷ 0x4000_0001 ∷ 0x8000_0001 ∷ 0xC000_0002 ∷ 0x8000_0001 ∷ 0xC000_0101 ∷ 0x8000_0001 ∷ 0xC000_0001 ∷ []

pub record SchedulesStand : Type 0 where
  -- what is spelled is lawful and read back, whatever words come later
  pub spelled : (B : ℕ) (xs : List Word) (later : List ℕ) → Stands B xs → Lawful B (schedule B xs ++ later) × (steps (schedule B xs ++ later) ≡ xs)
  pub writes : (B : ℕ) (f : List ℤ) → 2 ≤ B → B ≤ 16 → InRange B f → length f ≤ 121 → Writes B f
  pub written : (B : ℕ) (ws : List ℕ) → Lawful B ws → Written B ws
  -- no lawful schedule of a number is lighter than the form that a letter gives it
  pub lightest : (l : Letter) (B : ℕ) (z : ℤ) (f : List ℤ) (ws : List ℕ) → Given l B z f → Lawful B ws → makes B ws ≡ z → form.weight (cost_of l) f ≤ weight (cost_of l) ws
  pub examples : Examples
