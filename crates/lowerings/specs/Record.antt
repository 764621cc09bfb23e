-- The tally of a lowering, and what an edit call does to it. Assumes nothing.
use Rattle.std.specs.Prelude.{◌≡◌, ℕ, ℤ, Ok, Err, Result}
use Rattle.lowerings.specs.declared.fault.Fault.{Fault}
use Rattle.lowerings.specs.declared.record.Lowering.{Lowering}
use Rattle.lowerings.specs.Constants.{number_of}
use Rattle.lowerings.specs.Tally.{Tally, Edit, opening, becomes, outcome, answered, after}

abbrev pub tally_of : Lowering → Tally
tally_of s = record { radix = s.constant.radix; length = s.constant.length; number = number_of s.constant; letter = s.letter }

-- opening answers as the tally does, and the record is the tally's
abbrev pub Opens : ℕ → ℕ → Result Lowering Fault → Type 0
Opens B N (Ok s) = opening B N ≡ Ok (tally_of s)
Opens B N (Err f) = opening B N ≡ Err f

-- the call answers as the tally does, the record goes where the tally goes, and a refusal leaves it as it was
pub record Done (e : Edit) (s t : Lowering) (r : Result (Unit {0}) Fault) : Type 0 where
  pub answer : r ≡ answered (outcome (tally_of s) e)
  pub next : tally_of t ≡ after (tally_of s) (outcome (tally_of s) e)
  pub kept : (f : Fault) → r ≡ Err f → t ≡ s

-- the number becomes z if it is not too large
pub record Becomes (z : ℤ) (s t : Lowering) (r : Result (Unit {0}) Fault) : Type 0 where
  pub answer : r ≡ answered (becomes (tally_of s) z)
  pub next : tally_of t ≡ after (tally_of s) (becomes (tally_of s) z)
  pub kept : (f : Fault) → r ≡ Err f → t ≡ s
