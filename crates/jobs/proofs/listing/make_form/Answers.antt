use Rattle.std.proofs.Common.{suc, ◌++◌, length, drop, ap, ◌∙◌, append-nil, arith}
use Rattle.std.proofs.lemmas.List.{drop_all}
use Rattle.digits.specs.Signed.{sided_form}
use Rattle.digits.proofs.Signed.{signed_accepted, signed_written}
use Rattle.jobs.proofs.Forming.{fits}
use Rattle.jobs.proofs.listing.make_form.Goals as goal

pub unwrap-requires : goal.unwrap-requires
unwrap-requires c =
    let s = c.args.shape.now in let rs = c.args.plain.now in let form = c.args.form.now in
    let f = fits s rs form c.get-radix.result c.requires c.get-radix.ensures.value in
    signed_accepted s.letter c.get-radix.result s.negative rs form c.recode_signed.new.form c.recode_signed.result f c.recode_signed.ensures.answered

pub returns : goal.returns
returns c =
    let s = c.args.shape.now in let rs = c.args.plain.now in let form = c.args.form.now in
    let f = fits s rs form c.get-radix.result c.requires c.get-radix.ensures.value in
    signed_written s.letter c.get-radix.result s.negative rs form c.recode_signed.new.form c.recode_signed.result f c.recode_signed.ensures.answered c.recode_signed.ensures.written
    ∙ ap (λ b. sided_form s.letter b s.negative rs ++ drop (suc (length rs)) form) c.get-radix.ensures.value
    ∙ ap (λ l. sided_form s.letter s.radix s.negative rs ++ l) (drop_all (suc (length rs)) form (omega (arith, c.requires.places)))
    ∙ append-nil (sided_form s.letter s.radix s.negative rs)
