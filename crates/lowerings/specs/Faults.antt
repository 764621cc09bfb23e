-- Which number and place each refusal has. Assumes nothing.
use Rattle.std.specs.Prelude.{ℕ}
use Rattle.faults.specs.declared.Layer.TheVariants as layer
use Rattle.faults.specs.declared.Report.{Report}
use Rattle.lowerings.specs.declared.fault.Fault.{Fault}
use Rattle.lowerings.specs.declared.fault.Fault.TheVariants.{Radix, Length, Letter, Place, Digit, Source, Large, Area}

abbrev pub numbered : ℕ → ℕ → Report
numbered n at = record { layer = layer.Lowering; number = n; place = at }

abbrev pub told : Fault → Report
told Radix = numbered 1 0
told Length = numbered 2 0
told Letter = numbered 3 0
told Place = numbered 4 0
told (Digit at) = numbered 5 at
told Source = numbered 6 0
told Large = numbered 20 0
told Area = numbered 21 0
