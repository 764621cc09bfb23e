use Rattle.std.specs.Slice.Iter.{split_inclusive_rest}
use Rattle.jobs.proofs.Lines.{Progress}
use Rattle.jobs.proofs.listing.list_lines.Given as goal

abbrev pub invariant-loop-line : goal.invariant-loop-line
invariant-loop-line l =
    (goal.iterator-loop-line).can_next l.line-iterator ×
    (goal.iterator-loop-line).is_finite l.line-iterator ×
    Progress l.file (split_inclusive_rest l.line-iterator) l.listing
