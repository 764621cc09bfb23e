use Rattle.std.proofs.Common.{length, Some, ap, ◌∙◌, arith}
use Rattle.sources.specs.Grouping.{used, grouped}
use Rattle.sources.specs.GroupingLaws.{used_ok}
use Rattle.sources.proofs.Groups.{group_fits, grouped_step}
use Rattle.sources.proofs.grouping.GroupingSource.next.Goals as goal

pub joined-requires-clause-fits : goal.joined-requires-clause-fits
joined-requires-clause-fits g c =
    let m = g.S.Source in
    let s = c.args.self.now.source in
    rw (c.first_count-count.ensures, c.used_width.ensures, c.left-left.ensures) (group_fits (m.base s) c.args.self.now.width (length (m.coming s)) (m.laws.low s) (m.laws.high s))

pub returns-clause-step : goal.returns-clause-step
returns-clause-step g c =
    let m = g.S.Source in
    let s = c.args.self.now.source in
    let b = m.base s in
    let ds = m.coming s in
    let wide = c.args.self.now.width in
    let w = used b wide in
    let k = rw (c.used_width.ensures, c.left-left.ensures) at c.first_count-count.ensures in
    let first = rw k at c.joined.ensures.value in
    let rest = rw k at c.joined.ensures.rest in
    rw (grouped_step b w ds (used_ok b wide (m.laws.high s)).0 (omega (arith, c.left-left.ensures)))
    (ap Some first, ap (λ x. grouped x (used x wide) (m.coming c.joined.new.source)) c.joined.ensures.same ∙ ap (grouped b w) rest)
