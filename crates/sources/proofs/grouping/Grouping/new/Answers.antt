use Rattle.std.proofs.Common.{sym, refl}
use Rattle.sources.specs.Grouping.{used}
use Rattle.sources.specs.GroupingLaws.{used_ok}
use Rattle.sources.proofs.Groups.{grouped_count, grouped_value}
use Rattle.sources.proofs.grouping.Grouping.new.Goals as goal

pub returns : goal.returns
returns g c =
    let m = g.S.Source in
    let s = c.args.source in
    let b = m.base s in
    let w = used b c.args.width in
    let ok = used_ok b c.args.width (m.laws.high s) in
    record { base = refl; digits = refl; count = sym (grouped_count b w (m.coming s) ok.0 ok.1); value = grouped_value b w (m.coming s) ok.0 }
