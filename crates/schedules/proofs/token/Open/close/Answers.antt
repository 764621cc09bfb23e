use Rattle.std.proofs.Common.{set, ap, ◌∙◌}
use Rattle.schedules.specs.declared.word.Word.TheVariants.{Header}
use Rattle.schedules.specs.Words.{spelled}
use Rattle.schedules.specs.Writing.{state}
use Rattle.schedules.proofs.Growing.{closes}
use Rattle.schedules.proofs.token.Open.close.Goals as goal

pub returns : goal.returns
returns c =
    let s = state c.args.self in
    closes s c.args.area.now c.write_first.new.area
    (c.write_first.ensures ∙ ap (set c.args.area.now 0) c.from.ensures ∙ ap (λ B. set c.args.area.now 0 (spelled (Header s.written B))) c.get.ensures.value)
