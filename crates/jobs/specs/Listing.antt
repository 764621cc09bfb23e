-- What a job file lists, byte for byte. Assumes nothing.
use Rattle.std.specs.Prelude.{◌≡◌, ℕ, suc, ◌<◌, ◌≤◌, cond, ◌⊎◌, List, [], ◌∷◌, ◌++◌, length, ℤ, pos, neg_ℤ, codes, decimal, ◌==◌, unsigned_abs}
use Rattle.std.specs.Int.Digits.{number_from_digits}
use Rattle.std.specs.Fmt.{signed_decimal as decimal_of}
use Rattle.forms.specs.declared.Letter.{Letter}
use Rattle.forms.specs.Weight.{weight}
use Rattle.forms.specs.Letters.{cost_of, Given}
use Rattle.jobs.specs.Grammar.{Job, Spells, FaultyAt, letter_byte, space, line_feed}

-- the file cut behind each line feed; what follows the last one is a line too
abbrev pub joined : ℕ → List (List ℕ) → List (List ℕ)
joined b [] = (b ∷ []) ∷ []
joined b (l ∷ ls) = (b ∷ l) ∷ ls

abbrev pub cut : List ℕ → List (List ℕ)
cut [] = []
cut (b ∷ bs) = cond (b == line_feed) ((b ∷ []) ∷ cut bs) (joined b (cut bs))

abbrev pub number_of : Job → ℤ
number_of j = cond j.negative (neg_ℤ (pos (number_from_digits j.radix j.digits))) (pos (number_from_digits j.radix j.digits))

-- a form from its top nonzero digit
abbrev pub from_top : List ℤ → List ℤ
from_top [] = []
from_top (d ∷ ds) = cond (unsigned_abs d == 0) (from_top ds) (d ∷ ds)

abbrev pub commas : List ℤ → List ℕ
commas [] = []
commas (d ∷ ds) = 44 ∷ (decimal_of d ++ commas ds)

-- in decimal with commas, or 0
abbrev pub form_text : List ℤ → List ℕ
form_text [] = 48 ∷ []
form_text (d ∷ ds) = decimal_of d ++ commas ds

-- letter, radix, weight and form
abbrev pub form_line : Letter → ℕ → List ℤ → List ℕ
form_line l B f = letter_byte l ∷ space ∷ (decimal B ++ (space ∷ (decimal (weight (cost_of l) f) ++ (space ∷ (form_text (from_top f) ++ (line_feed ∷ []))))))

-- line, column and number
abbrev pub fault_line : ℕ → ℕ → ℕ → List ℕ
fault_line line column n = codes "fault " ++ (decimal line ++ (space ∷ (decimal column ++ (space ∷ (decimal n ++ (line_feed ∷ []))))))

-- a lawful line lists the form that its letter gives its number
pub record FormListed (line out : List ℕ) : Type 0 where
  pub job : Job
  pub form : List ℤ
  pub spells : Spells job line
  pub given : Given job.letter job.radix (number_of job) form
  pub listed : out ≡ form_line job.letter job.radix form

-- any other lists the fault 8 with its line and column
pub record FaultListed (n : ℕ) (line out : List ℕ) : Type 0 where
  pub column : ℕ
  pub faulty : FaultyAt line column
  pub listed : out ≡ fault_line n column 8

-- the lines from the n-th on, what they list, and how many forms and faults that is
pub data Lists : ℕ → List (List ℕ) → List ℕ → ℕ → ℕ → Type 0 where
  end : {n : ℕ} → Lists n [] [] 0 0
  form : {n forms faults : ℕ} {line out : List ℕ} {lines : List (List ℕ)} {outs : List ℕ} → FormListed line out → Lists (suc n) lines outs forms faults → Lists n (line ∷ lines) (out ++ outs) (suc forms) faults
  fault : {n forms faults : ℕ} {line out : List ℕ} {lines : List (List ℕ)} {outs : List ℕ} → FaultListed n line out → Lists (suc n) lines outs forms faults → Lists n (line ∷ lines) (out ++ outs) forms (suc faults)

-- a file of more than 65,536 bytes lists only that it is too long
pub record TooLong (file out : List ℕ) (lines forms faults : ℕ) : Type 0 where
  pub long : 65536 < length file
  pub listed : out ≡ fault_line 0 0 2
  pub no_lines : lines ≡ 0
  pub no_forms : forms ≡ 0
  pub one_fault : faults ≡ 1

pub record Whole (file out : List ℕ) (lines forms faults : ℕ) : Type 0 where
  pub short : length file ≤ 65536
  pub lists : Lists 1 (cut file) out forms faults
  pub counted : lines ≡ length (cut file)

abbrev pub ListsFile : List ℕ → List ℕ → ℕ → ℕ → ℕ → Type 0
ListsFile file out lines forms faults = TooLong file out lines forms faults ⊎ Whole file out lines forms faults
