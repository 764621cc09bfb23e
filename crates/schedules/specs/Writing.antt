-- What each call of the writer answers, and what it leaves in area and token. Assumes nothing.
use Rattle.std.specs.Prelude.{◌≡◌, ℕ, suc, ◌+◌, Bool, true, cond, List, [], ◌∷◌, ◌++◌, map, length, pos, Some, None, Ok, Err, Option, Result, nat_le, nat_lt, slice_set}
use Rattle.schedules.specs.declared.word.Word.{Word}
use Rattle.schedules.specs.declared.word.Word.TheVariants.{Header, Take, Multiply}
use Rattle.schedules.specs.declared.word.Last.{Last}
use Rattle.schedules.specs.declared.word.Last.TheVariants as last
use Rattle.schedules.specs.declared.refusal.WriteFault.{WriteFault}
use Rattle.schedules.specs.declared.refusal.WriteFault.TheVariants as refused
use Rattle.schedules.specs.declared.token.Open.{Open}
use Rattle.schedules.specs.Words.{spelled}
use Rattle.schedules.specs.Schedules.{raised, Stands, steps, Lawful, made_from, makes}
use Rattle.schedules.specs.Turns.{last_of}
use Rattle.schedules.specs.Checks.{refused_if, then, outside}

-- the numbers of a token
pub record State : Type 0 where
  pub radix : ℕ
  pub written : ℕ
  pub raised : ℕ
  pub last : Last

abbrev pub state : Open → State
state o = record { radix = o.radix; written = o.written; raised = o.raised; last = o.last }

-- a word in its place, and the rest of the area as it was; a refused call leaves it all
abbrev pub Puts : ℕ → Word → List ℕ → List ℕ → Result (Unit {0}) WriteFault → Type 0
Puts at x before after (Ok _) = after ≡ slice_set before at (spelled x)
Puts at x before after (Err f) = after ≡ before

-- when a call is refused: the first check that fails tells
abbrev pub area_check : ℕ → ℕ → Option WriteFault
area_check at room = refused_if (nat_le room at) refused.Area

abbrev pub begin_check : ℕ → ℕ → Option WriteFault
begin_check B room = then (refused_if (outside 2 16 B) refused.Radix) (area_check 0 room)

abbrev pub use_turn : Last → Option WriteFault
use_turn last.Nothing = None
use_turn last.Use = Some refused.Turn
use_turn last.Raise = None

abbrev pub raise_turn : Last → Option WriteFault
raise_turn last.Nothing = Some refused.Turn
raise_turn last.Use = None
raise_turn last.Raise = Some refused.Turn

abbrev pub use_check : State → ℕ → ℕ → Option WriteFault
use_check s size room = then (use_turn s.last) (then (refused_if (cond (nat_le 1 size) (nat_le s.radix size) true) refused.Size) (area_check (suc s.written) room))

abbrev pub raise_check : State → ℕ → ℕ → Option WriteFault
raise_check s times room = then (raise_turn s.last) (then (refused_if (cond (nat_le 1 times) (nat_lt 120 (s.raised + times)) true) refused.Times) (area_check (suc s.written) room))

-- the first use is a take, later ones multiply
abbrev pub use_word : Last → ℕ → Bool → Word
use_word last.Nothing size negative = Take size negative
use_word last.Use size negative = Multiply size negative
use_word last.Raise size negative = Multiply size negative

abbrev pub begun : ℕ → State
begun B = record { radix = B; written = 0; raised = 0; last = last.Nothing }

abbrev pub used : State → State
used s = record { radix = s.radix; written = suc s.written; raised = s.raised; last = last.Use }

abbrev pub raised_by : ℕ → State → State
raised_by times s = record { radix = s.radix; written = suc s.written; raised = s.raised + times; last = last.Raise }

-- the area begins with the open schedule of the uses and raises xs, as the token has it
pub record Holds (s : State) (xs : List Word) (area : List ℕ) : Type 0 where
  pub body : Stands s.radix xs
  pub count : length xs ≡ s.written
  pub sum : raised xs ≡ s.raised
  pub latest : last_of xs ≡ s.last
  pub later : List ℕ
  pub words : area ≡ spelled (Header 255 s.radix) ∷ (map spelled xs ++ later)

-- a header of count 255 at the front, and the rest of the area as it was
pub record Begun (B : ℕ) (o : Open) (before after : List ℕ) : Type 0 where
  pub accepted : begin_check B (length before) ≡ None
  pub token : state o ≡ begun B
  pub area : after ≡ slice_set before 0 (spelled (Header 255 B))
  pub holds : Holds (begun B) [] after

abbrev pub Begins : ℕ → List ℕ → List ℕ → Result Open WriteFault → Type 0
Begins B before after (Ok o) = Begun B o before after
Begins B before after (Err f) = (begin_check B (length before) ≡ Some f) × (after ≡ before)

-- one word more in the area, and the rest as it was
pub record Added (x : Word) (s t : State) (before after : List ℕ) : Type 0 where
  pub area : after ≡ slice_set before (suc s.written) (spelled x)
  pub holds : (xs : List Word) → Holds s xs before → Holds t (xs ++ x ∷ []) after

-- x is added and the token goes from s to t; a refused call changes neither area nor token
pub record AddsWord (x : Word) (s t now : State) (before after : List ℕ) : Type 0 where
  pub token : now ≡ t
  pub added : Added x s t before after

abbrev pub Adds : Word → State → State → State → List ℕ → List ℕ → Result (Unit {0}) WriteFault → Type 0
Adds x s t now before after (Ok _) = AddsWord x s t now before after
Adds x s t now before after (Err f) = (now ≡ s) × (after ≡ before)

-- a schedule that is lawful and makes the number of the uses and raises xs
pub record Closed (B : ℕ) (xs : List Word) (ws : List ℕ) : Type 0 where
  pub lawful : Lawful B ws
  pub reads : steps ws ≡ xs
  pub number : makes B ws ≡ made_from B (pos 0) xs

-- the true count in the header, where there is one, and the rest of the area as it was
pub record Closes (s : State) (before after : List ℕ) : Type 0 where
  pub area : after ≡ slice_set before 0 (spelled (Header s.written s.radix))
  pub closed : (xs : List Word) → Holds s xs before → Closed s.radix xs after
