-- The reader of a job line: what each byte does to it, and what it tells in the end. Assumes nothing.
use Rattle.std.specs.Prelude.{ℕ, ◌+◌, ◌-◌, Bool, true, false, cond, not, ◌&&◌, List, [], ◌∷◌, Some, None, Ok, Err, Option, Result, ◌==◌, nat_le, nat_lt}
use Rattle.forms.specs.declared.Letter.{Letter}
use Rattle.forms.specs.Characters.{letter_of as letter_for}
use Rattle.jobs.specs.declared.reading.Shape.{Shape}
use Rattle.jobs.specs.declared.reading.Stage.{Stage}
use Rattle.jobs.specs.declared.reading.Stage.TheVariants.{Start, Lettered, Spaced, Teen, Based, Digits, Done}
use Rattle.jobs.specs.declared.reading.Unlawful.{Unlawful}

abbrev pub between : ℕ → ℕ → ℕ → Bool
between low high b = nat_le low b && nat_le b high

abbrev pub letter_of : ℕ → Option Letter
letter_of = letter_for

-- the digit that a byte spells: 16, which no radix has, for every other byte
abbrev pub digit_of : ℕ → ℕ
digit_of b = cond (between 48 57 b) (b - 48) (cond (between 65 70 b) (b - 55) 16)

-- the digit that a byte spells, if it spells one
abbrev pub digit : ℕ → Option ℕ
digit b = cond (nat_lt (digit_of b) 16) (Some (digit_of b)) None

abbrev pub goes_if : Bool → Stage → Option Stage
goes_if true s = Some s
goes_if false s = None

abbrev pub after_letter : Option Letter → Option Stage
after_letter (Some l) = Some (Lettered l)
after_letter None = None

-- a digit, a minus before all digits, or the line feed after at least one
abbrev pub after_digits : Shape → ℕ → Option Stage
after_digits s b =
    cond (nat_lt (digit_of b) s.radix) (goes_if (nat_lt s.count 120) (Digits (record s { count = s.count + 1 })))
    (cond (b == 45) (goes_if (s.count == 0 && not s.negative) (Digits (record s { negative = true })))
    (goes_if (b == 10 && nat_lt 0 s.count) (Done s)))

abbrev pub step : Stage → ℕ → Option Stage
step Start b = after_letter (letter_of b)
step (Lettered l) b = goes_if (b == 32) (Spaced l)
step (Spaced l) b = cond (b == 49) (Some (Teen l)) (goes_if (between 50 57 b) (Based l (b - 48)))
step (Teen l) b = goes_if (between 48 54 b) (Based l (b - 38))
step (Based l r) b = goes_if (b == 32) (Digits (record { letter = l; radix = r; negative = false; count = 0 }))
step (Digits s) b = after_digits s b
step (Done s) b = None

abbrev pub unlawful : ℕ → Unlawful
unlawful at = record { column = at }

-- the line ends at this stage, in this column
abbrev pub ended : Stage → ℕ → Result Shape Unlawful
ended Start at = Err (unlawful at)
ended (Lettered l) at = Err (unlawful at)
ended (Spaced l) at = Err (unlawful at)
ended (Teen l) at = Err (unlawful at)
ended (Based l r) at = Err (unlawful at)
ended (Digits s) at = Err (unlawful at)
ended (Done s) at = Ok s

abbrev pub read_on : Option Stage → ℕ → (Stage → Result Shape Unlawful) → Result Shape Unlawful
read_on (Some s) at go = go s
read_on None at go = Err (unlawful at)

-- the shape of a lawful line, or the column of its fault
abbrev pub read_from : Stage → ℕ → List ℕ → Result Shape Unlawful
read_from s at [] = ended s at
read_from s at (b ∷ bs) = read_on (step s b) at (λ t. read_from t (at + 1) bs)
