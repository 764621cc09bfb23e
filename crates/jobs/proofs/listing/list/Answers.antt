use Rattle.std.proofs.Common.{string_bytes, arith}
use Rattle.jobs.proofs.Listed.{whole_listed}
use Rattle.jobs.proofs.listing.list.Goals as goal

pub returns : goal.returns
returns c =
    let l = c.in_ok-list_lines.field-0 in
    whole_listed c.args.file.now (string_bytes l.text) l.lines l.forms l.faults (omega arith) c.in_ok-list_lines.ensures.0 c.in_ok-list_lines.ensures.1
