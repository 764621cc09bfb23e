-- Which number and place each refusal has, and when a call is refused. Assumes nothing.
use Rattle.std.specs.Prelude.{◌≡◌, ℕ, suc, Bool, true, false, cond, leb, List, [], ◌∷◌, length, ℤ, Some, None, Ok, Err, Option, Result, nat_le, nat_lt, unsigned_abs}
use Rattle.faults.specs.declared.Layer.TheVariants.{Digits}
use Rattle.faults.specs.declared.Report.{Report}
use Rattle.digits.specs.declared.refusal.Fault.{Fault}
use Rattle.digits.specs.declared.refusal.Fault.TheVariants.{Radix, Length, Digit, Area}

abbrev pub numbered : ℕ → ℕ → Report
numbered n at = record { layer = Digits; number = n; place = at }

abbrev pub told : Fault → Report
told Radix = numbered 1 0
told Length = numbered 2 0
told (Digit at) = numbered 5 at
told Area = numbered 21 0

abbrev pub refused_if : Bool → Fault → Option Fault
refused_if true f = Some f
refused_if false f = None

-- the first of two checks that refuses
abbrev pub then : Option Fault → Option Fault → Option Fault
then (Some f) g = Some f
then None g = g

abbrev pub answer : Option Fault → Result (Unit {0}) Fault
answer (Some f) = Err f
answer None = Ok tt

-- the same of a call that also hands out what it checked
abbrev pub Answers : {T : Type 0} → Option Fault → Result T Fault → Type 0
Answers check (Ok _) = check ≡ None
Answers check (Err fault) = check ≡ Some fault

abbrev pub radix_check : ℕ → Option Fault
radix_check B = refused_if (cond (nat_le 2 B) (nat_lt 16 B) true) Radix

abbrev pub length_check : ℕ → ℕ → Option Fault
length_check most n = refused_if (nat_lt most n) Length

-- the topmost digit that fails a test, by its place from the low end
abbrev pub topmost : {X : Type 0} → (X → Bool) → List X → Option Fault
topmost fails [] = None
topmost fails (x ∷ xs) = then (refused_if (fails x) (Digit (length xs))) (topmost fails xs)

-- a plain digit is below B
abbrev pub plain_check : ℕ → List ℕ → Option Fault
plain_check B rs = topmost (λ r. leb B r) rs

-- a signed digit has a size below B
abbrev pub digit_check : ℕ → List ℤ → Option Fault
digit_check B f = topmost (λ d. leb B (unsigned_abs d)) f

abbrev pub area_check : ℕ → ℕ → Option Fault
area_check wanted room = refused_if (nat_lt room wanted) Area

-- a form that is handed in has at most 121 places
abbrev pub form_check : ℕ → List ℤ → Option Fault
form_check B f = then (radix_check B) (then (length_check 121 (length f)) (digit_check B f))

-- a recoding takes at most 120 plain digits, and writes one place more
abbrev pub recode_check : ℕ → List ℕ → ℕ → Option Fault
recode_check B rs room = then (radix_check B) (then (length_check 120 (length rs)) (then (plain_check B rs) (area_check (suc (length rs)) room)))
