-- The report of each fault of reading: layer, number and place. Assumes nothing.
use Rattle.std.specs.Prelude.{ℕ}
use Rattle.faults.specs.declared.Layer.TheVariants as layer
use Rattle.faults.specs.declared.Report.{Report}
use Rattle.schedules.specs.declared.word.Misread.{Misread}
use Rattle.schedules.specs.declared.word.Misread.TheVariants.{StrayBit, Unclosed, Radix, Size, Times}
use Rattle.schedules.specs.declared.fault.WordFault.{WordFault}
use Rattle.schedules.specs.declared.fault.ScheduleFault.{ScheduleFault}
use Rattle.schedules.specs.declared.fault.ScheduleFault.TheVariants.{Word, Missing, Turn, Sum}
use Rattle.schedules.specs.declared.fault.RunFault.{RunFault}
use Rattle.schedules.specs.declared.fault.RunFault.TheVariants.{Schedule, Rows}

-- 1 for a header's radix, 7 for all else that cannot stand
abbrev pub number_of : Misread → ℕ
number_of StrayBit = 7
number_of Unclosed = 7
number_of Radix = 1
number_of Size = 7
number_of Times = 7

abbrev pub told_word : WordFault → Report
told_word f = record { layer = layer.Word; number = number_of f.why; place = f.place }

abbrev pub told_schedule : ScheduleFault → Report
told_schedule (Word f) = told_word f
told_schedule (Missing place) = record { layer = layer.Schedule; number = 7; place = place }
told_schedule (Turn place) = record { layer = layer.Schedule; number = 7; place = place }
told_schedule (Sum place) = record { layer = layer.Schedule; number = 7; place = place }

abbrev pub told_run : RunFault → Report
told_run (Schedule f) = told_schedule f
told_run Rows = record { layer = layer.Run; number = 22; place = 0 }
