-- What reading a schedule answers: each word is judged where it stands. Assumes nothing.
use Rattle.std.specs.Prelude.{ℕ, zero, suc, ◌+◌, ◌-◌, true, cond, List, [], ◌∷◌, drop, Some, None, Ok, Err, Option, Result, ◌==◌, nat_le, nat_lt}
use Rattle.schedules.specs.declared.word.Word.{Word}
use Rattle.schedules.specs.declared.word.Word.TheVariants.{Header, Take, Raise, Multiply}
use Rattle.schedules.specs.declared.word.Misread.{Misread}
use Rattle.schedules.specs.declared.word.Misread.TheVariants.{Unclosed, Radix, Size, Times}
use Rattle.schedules.specs.declared.word.Last.{Last}
use Rattle.schedules.specs.declared.word.Last.TheVariants as last
use Rattle.schedules.specs.declared.fault.WordFault.{WordFault}
use Rattle.schedules.specs.declared.fault.ScheduleFault.{ScheduleFault}
use Rattle.schedules.specs.declared.fault.ScheduleFault.TheVariants as fault
use Rattle.schedules.specs.declared.fault.RunFault.{RunFault}
use Rattle.schedules.specs.declared.fault.RunFault.TheVariants as run
use Rattle.schedules.specs.declared.reading.Heading.{Heading}
use Rattle.schedules.specs.declared.reading.Progress.{Progress}
use Rattle.schedules.specs.Words.{read}
use Rattle.schedules.specs.Checks.{refused_if, then, unless, outside}

-- of counts only 255 cannot stand
abbrev pub header_check : ℕ → ℕ → Option Misread
header_check count B = then (refused_if (count == 255) Unclosed) (refused_if (outside 2 16 B) Radix)

abbrev pub size_check : ℕ → ℕ → Option Misread
size_check B size = refused_if (cond (nat_le 1 size) (nat_le B size) true) Size

abbrev pub range_check : ℕ → Word → Option Misread
range_check B (Header count radix) = None
range_check B (Take size negative) = size_check B size
range_check B (Raise times) = refused_if (outside 1 120 times) Times
range_check B (Multiply size negative) = size_check B size

-- a fault of the word at a place
abbrev pub misread : ℕ → Misread → WordFault
misread at why = record { why = why; place = at }

abbrev pub placed : ℕ → Result Word Misread → Result Word WordFault
placed at (Ok x) = Ok x
placed at (Err why) = Err (misread at why)

abbrev pub word_at : ℕ → ℕ → Result Word WordFault
word_at at w = placed at (read w)

-- a word after the header
abbrev pub ranged : ℕ → ℕ → Result Word WordFault → Result Word WordFault
ranged B at (Ok x) = placed at (unless (range_check B x) x)
ranged B at (Err f) = Err f

abbrev pub step_at : ℕ → ℕ → ℕ → Result Word WordFault
step_at B at w = ranged B at (word_at at w)

-- the first word
abbrev pub headed : Heading → Option Misread → Result Heading ScheduleFault
headed h (Some why) = Err (fault.Word (misread 0 why))
headed h None = Ok h

abbrev pub header_from : Result Word WordFault → Result Heading ScheduleFault
header_from (Ok (Header count B)) = headed (record { radix = B; count = count }) (header_check count B)
header_from (Ok (Take size negative)) = Err (fault.Turn 0)
header_from (Ok (Raise times)) = Err (fault.Turn 0)
header_from (Ok (Multiply size negative)) = Err (fault.Turn 0)
header_from (Err f) = Err (fault.Word f)

abbrev pub header_of : ℕ → Result Heading ScheduleFault
header_of w = header_from (word_at 0 w)

abbrev pub heading_of : List ℕ → Result Heading ScheduleFault
heading_of [] = Err (fault.Missing 0)
heading_of (w ∷ ws) = header_of w

abbrev pub now_at : Last → ℕ → Result Progress ScheduleFault
now_at l m = Ok (record { last = l; raised = m })

-- one word further, by what came last and what the raises sum to: a take first, then raises and multiplies in turn
abbrev pub going_on : Last → ℕ → ℕ → Word → Result Progress ScheduleFault
going_on last.Nothing m at (Header count radix) = Err (fault.Turn at)
going_on last.Nothing m at (Take size negative) = now_at last.Use m
going_on last.Nothing m at (Raise times) = Err (fault.Turn at)
going_on last.Nothing m at (Multiply size negative) = Err (fault.Turn at)
going_on last.Use m at (Header count radix) = Err (fault.Turn at)
going_on last.Use m at (Take size negative) = Err (fault.Turn at)
going_on last.Use m at (Raise times) = cond (nat_lt 120 (m + times)) (Err (fault.Sum at)) (now_at last.Raise (m + times))
going_on last.Use m at (Multiply size negative) = Err (fault.Turn at)
going_on last.Raise m at (Header count radix) = Err (fault.Turn at)
going_on last.Raise m at (Take size negative) = Err (fault.Turn at)
going_on last.Raise m at (Raise times) = Err (fault.Turn at)
going_on last.Raise m at (Multiply size negative) = now_at last.Use m

abbrev pub stepped : Progress → ℕ → Result Word WordFault → Result Progress ScheduleFault
stepped p at (Ok x) = going_on p.last p.raised at x
stepped p at (Err f) = Err (fault.Word f)

-- the first of the words that are left
abbrev pub step_in : ℕ → Progress → ℕ → List ℕ → Result Progress ScheduleFault
step_in B p at [] = Err (fault.Missing at)
step_in B p at (w ∷ ws) = stepped p at (step_at B at w)

abbrev pub and_on : Result Progress ScheduleFault → (Progress → Option ScheduleFault) → Option ScheduleFault
and_on (Ok p) rest = rest p
and_on (Err f) rest = Some f

-- k words more, from the place at on
abbrev pub judged : ℕ → Progress → ℕ → ℕ → List ℕ → Option ScheduleFault
judged B p at zero ws = None
judged B p at (suc k) ws = and_on (step_in B p at ws) (λ q. judged B q (suc at) k (drop 1 ws))

abbrev pub start : Progress
start = record { last = last.Nothing; raised = 0 }

abbrev pub inspected_from : List ℕ → Result Heading ScheduleFault → Result Heading ScheduleFault
inspected_from ws (Ok h) = unless (judged h.radix start 1 h.count (drop 1 ws)) h
inspected_from ws (Err f) = Err f

abbrev pub inspected : List ℕ → Result Heading ScheduleFault
inspected ws = inspected_from ws (heading_of ws)

-- a run needs a row for each size below the radix
abbrev pub for_rows : ℕ → Result Heading ScheduleFault → Result Heading RunFault
for_rows rows (Ok h) = cond (nat_lt rows (h.radix - 1)) (Err run.Rows) (Ok h)
for_rows rows (Err f) = Err (run.Schedule f)

abbrev pub inspected_for : List ℕ → ℕ → Result Heading RunFault
inspected_for ws rows = for_rows rows (inspected ws)
