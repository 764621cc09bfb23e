-- The line that each fault lists. Assumes nothing.
use Rattle.std.specs.Prelude.{ℕ, List}
use Rattle.jobs.specs.declared.printing.FaultLine.{FaultLine}
use Rattle.jobs.specs.declared.printing.FaultLine.TheVariants.{TooLong, Unlawful}
use Rattle.jobs.specs.Listing.{fault_line}

abbrev pub fault_text : FaultLine → List ℕ
fault_text TooLong = fault_line 0 0 2
fault_text (Unlawful line column) = fault_line line column 8
