-- What weighing a form answers. Assumes nothing.
use Rattle.std.specs.Prelude.{ℕ, cond, List, length, ℤ, Ok, Err, Result, nat_lt}
use Rattle.forms.specs.declared.Measure.{Measure}
use Rattle.forms.specs.Weight.{cost, weight}
use Rattle.digits.specs.declared.refusal.Fault.{Fault}
use Rattle.digits.specs.declared.refusal.Fault.TheVariants.{Length}

abbrev pub weighed : Measure → List ℤ → Result ℕ Fault
weighed m f = cond (nat_lt 121 (length f)) (Err Length) (Ok (weight (cost m) f))
