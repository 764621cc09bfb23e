use Rattle.std.proofs.Common.{suc, ◌+◌, ◌<◌, length, ap, ◌∙◌, arith, w8, to_z, of_z, rules}
use Rattle.std.proofs.lemmas.List.{drop-set-lt}
use Rattle.std.proofs.lemmas.Int.{to_z-of_z}
use Rattle.digits.proofs.FromTop.{star_more, star_all}
use Rattle.digits.proofs.Numerals.{radix_is, digits_are}
use Rattle.digits.proofs.from_top.recode_from_top.Goals as goal

pub loop-i-preserved : goal.loop-i-preserved
loop-i-preserved c =
    let n = c.args.plain.now in let rs = n.digits in let i = c.loop-i.i in
    let radix = radix_is c.plain.view_is in let digits = digits_are c.plain.view_is in
    let d = to_z w8 (of_z w8 c.digit.result) in
    let made = rw radix at (to_z-of_z w8 c.digit.result (search rules) ∙ c.digit.ensures) in
    let turns = rw radix at c.borrows-borrows.ensures in
    let keeps = rw radix at c.remembers-memory.ensures.told in
    let inside : i < length rs + 1 = omega (arith, ap length digits) in (
      omega (arith, radix, c.remembers-memory.ensures.small),
      star_more n.radix rs i _ _ _ _ _ _ _ d inside c.above.ensures c.at.ensures c.at-in-loop-i.ensures turns keeps made c.loop-i.form (omega arith) c.loop-i.invariant.1,
      drop-set-lt (suc (length rs)) c.loop-i.form i d (omega arith) ∙ c.loop-i.invariant.2,
    )

pub returns : goal.returns
returns c =
    let n = c.args.plain.now in
    let digits = digits_are c.plain.view_is in
    star_all n.radix n.digits c.loop-i.i _ _ _ _ (omega (arith, ap length digits)) c.loop-i.invariant.1 c.loop-i.invariant.2
