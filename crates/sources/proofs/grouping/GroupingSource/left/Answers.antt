use Rattle.std.proofs.Common.{length, ◌∙◌}
use Rattle.sources.specs.Grouping.{used}
use Rattle.sources.specs.GroupingLaws.{used_ok}
use Rattle.sources.proofs.Groups.{rounded_up, grouped_count}
use Rattle.sources.proofs.grouping.GroupingSource.left.Goals as goal

pub returns : goal.returns
returns g c =
    let m = g.S.Source in
    let s = c.args.self.now.source in
    let b = m.base s in
    let w = used b c.args.self.now.width in
    let ok = used_ok b c.args.self.now.width (m.laws.high s) in
    let e = rw (c.left.ensures, c.from.ensures, c.used_width.ensures) at c.div_ceil.ensures in
    e ∙ rounded_up w (length (m.coming s)) ok.0 ok.1 ∙ grouped_count b w (m.coming s) ok.0 ok.1
