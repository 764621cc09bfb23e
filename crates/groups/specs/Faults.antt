-- The report of each fault: a lane order is refused by 5, at the index of the lane at fault.
use Rattle.faults.specs.declared.Report.{Report}
use Rattle.faults.specs.declared.Layer.TheVariants.{Group}
use Rattle.groups.specs.declared.fault.Fault.{Fault}
use Rattle.groups.specs.declared.fault.Fault.TheVariants.{Lane}

abbrev pub report_of : Fault → Report
report_of (Lane index) = record { layer = Group; number = 5; place = index }
