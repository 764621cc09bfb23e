-- How a layer and a report are written out. Assumes nothing.
use Rattle.std.specs.Prelude.{ℕ, List, ◌++◌, codes, decimal}
use Rattle.faults.specs.declared.Layer.{Layer}
use Rattle.faults.specs.declared.Layer.TheVariants as layer
use Rattle.faults.specs.declared.Report.{Report}

abbrev pub name : Layer → List ℕ
name layer.Digits = codes "digits"
name layer.Group = codes "group"
name layer.Word = codes "word"
name layer.Schedule = codes "schedule"
name layer.Run = codes "run"
name layer.Lowering = codes "lowering"

-- layer, number and place
abbrev pub report_text : Report → List ℕ
report_text r = name r.layer ++ (codes " " ++ (decimal r.number ++ (codes " at " ++ decimal r.place)))
