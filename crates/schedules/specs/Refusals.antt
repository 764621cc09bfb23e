-- The report of each refusal of the writer: layer, number and place. Assumes nothing.
use Rattle.std.specs.Prelude.{ℕ}
use Rattle.faults.specs.declared.Layer.TheVariants.{Schedule}
use Rattle.faults.specs.declared.Report.{Report}
use Rattle.schedules.specs.declared.refusal.WriteFault.{WriteFault}
use Rattle.schedules.specs.declared.refusal.WriteFault.TheVariants.{Radix, Times, Size, Turn, Area}

abbrev pub numbered : ℕ → Report
numbered n = record { layer = Schedule; number = n; place = 0 }

abbrev pub told_write : WriteFault → Report
told_write Radix = numbered 1
told_write Times = numbered 4
told_write Size = numbered 5
told_write Turn = numbered 9
told_write Area = numbered 21
