use Rattle.std.proofs.Common.{length, pos}
use Rattle.std.specs.Int.Digits.{number_from_digits}
use Rattle.forms.specs.Letters.{form_of}
use Rattle.forms.proofs.Whole.{made, good}
use Rattle.digits.proofs.Accepted.{recodable}
use Rattle.digits.proofs.recoding.recode.Goals as goal

pub returns-clause-written : goal.returns-clause-written
returns-clause-written c =
    let l = c.args.letter in let B = c.args.radix in let rs = c.args.plain.now in
    let k = recodable B rs (length c.args.form.now) c.in_ok-plain.ensures.answered in
    let m = made l B rs k.low k.plain in
    record {
      area = rw c.in_ok-plain.ensures.same at c.write_form.ensures;
      places = m.places;
      given = m.given;
      good = good l B (pos (number_from_digits B rs)) (form_of l B rs) k.low m.given;
    }
