use Rattle.forms.specs.declared.Measure.TheVariants.{Count, Square}
use Rattle.digits.proofs.Deciding.{weighed_is, least_is}
use Rattle.digits.proofs.Numerals.{digits_are}
use Rattle.digits.proofs.judging.judge_settled.Goals as goal

pub returns : goal.returns
returns c =
    let form = c.args.form.now in let plain = c.args.plain.now in
    let digits = digits_are c.form.view_is in
    let few = c.requires.few in
    record {
      meets_g = c.meets.ensures;
      meets_b = c.meets-2.ensures;
      counts = weighed_is Count _ _ _ _ few digits c.weigh.ensures c.unwrap.ensures;
      squares = weighed_is Square _ _ _ _ few digits c.weigh-2.ensures c.unwrap-2.ensures;
      least_counts = least_is _ _ _ _ c.requires.settled c.least_weight.ensures;
      least_squares = least_is _ _ _ _ c.requires.settled c.least_weight-2.ensures;
    }
