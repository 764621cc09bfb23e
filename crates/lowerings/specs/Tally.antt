-- The tally: a constant under edit, apart from any record. Assumes nothing.
use Rattle.std.specs.Prelude.{ℕ, ◌^◌, Bool, true, false, cond, ◌&&◌, List, ℤ, pos, ◌+ℤ◌, ◌*ℤ◌, neg_ℤ, Some, None, Ok, Err, Option, Result, ◌==◌, nat_le, nat_lt, unsigned_abs}
use Rattle.std.specs.Int.Digits.{number_from_digits as written}
use Rattle.forms.specs.declared.Letter.{Letter}
use Rattle.forms.specs.declared.Letter.TheVariants as letter
use Rattle.lowerings.specs.declared.fault.Fault.{Fault}
use Rattle.lowerings.specs.declared.fault.Fault.TheVariants as fault

-- radix and length as opened, the number, and the letter in force
pub record Tally : Type 0 where
  pub radix : ℕ
  pub length : ℕ
  pub number : ℤ
  pub letter : Letter

-- what a call is told: a load's source by its radix and the digits still to come
pub data Edit : Type 0 where
  load : ℕ → List ℕ → Bool → Edit
  bump : ℤ → ℕ → Edit
  negate : Edit
  shift : Edit
  choose : ℕ → Edit

abbrev pub opened : ℕ → ℕ → Tally
opened B N = record { radix = B; length = N; number = pos 0; letter = letter.G }

-- a radix from 2 to 16, then a length from 1 to 120
abbrev pub opening : ℕ → ℕ → Result Tally Fault
opening B N = cond (nat_le 2 B && nat_le B 16) (cond (nat_le 1 N && nat_le N 120) (Ok (opened B N)) (Err fault.Length)) (Err fault.Radix)

-- the number becomes z, if that is below B to the N in size
abbrev pub becomes : Tally → ℤ → Result Tally Fault
becomes t z = cond (nat_lt (unsigned_abs z) (t.radix ^ t.length)) (Ok (record { radix = t.radix; length = t.length; number = z; letter = t.letter })) (Err fault.Large)

abbrev pub letter_of : ℕ → Option Letter
letter_of c = cond (c == 71) (Some letter.G) (cond (c == 66) (Some letter.B) (cond (c == 76) (Some letter.L) None))

abbrev pub chosen : Tally → Option Letter → Result Tally Fault
chosen t (Some l) = Ok (record { radix = t.radix; length = t.length; number = t.number; letter = l })
chosen t None = Err fault.Letter

abbrev pub signed_by : Bool → ℕ → ℤ
signed_by true n = neg_ℤ (pos n)
signed_by false n = pos n

-- an accepted edit gives the tally after it, a refused one why
abbrev pub outcome : Tally → Edit → Result Tally Fault
outcome t (load b ds n) = cond (b == t.radix) (becomes t (signed_by n (written b ds))) (Err fault.Source)
outcome t (bump d i) = cond (nat_le t.length i) (Err fault.Place) (cond (nat_le t.radix (unsigned_abs d)) (Err (fault.Digit i)) (becomes t (t.number +ℤ d *ℤ pos (t.radix ^ i))))
outcome t negate = Ok (record { radix = t.radix; length = t.length; number = neg_ℤ t.number; letter = t.letter })
outcome t shift = becomes t (t.number *ℤ pos t.radix)
outcome t (choose c) = chosen t (letter_of c)

-- what the call answers, and the tally after it: a refused edit alters nothing
abbrev pub answered : Result Tally Fault → Result (Unit {0}) Fault
answered (Ok t) = Ok tt
answered (Err f) = Err f

abbrev pub after : Tally → Result Tally Fault → Tally
after t (Ok u) = u
after t (Err f) = t
