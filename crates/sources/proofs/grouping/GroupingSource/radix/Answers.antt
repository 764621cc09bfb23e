use Rattle.std.proofs.Common.{arith}
use Rattle.sources.specs.GroupingLaws.{used_ok}
use Rattle.sources.proofs.grouping.GroupingSource.radix.Goals as goal

pub overflow_cast-result : goal.overflow_cast-result
overflow_cast-result g c =
    let m = g.S.Source in
    let self = c.args.self.now in
    let e = rw (c.used_width.ensures, c.radix.ensures) at c.power.ensures in
    omega (arith, e, (used_ok (m.base self.source) self.width (m.laws.high self.source)).2)
