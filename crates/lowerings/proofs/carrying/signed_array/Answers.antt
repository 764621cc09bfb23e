use Rattle.std.proofs.Common.{◌+◌, ◌<◌, length, ap, ◌∙◌, arith, length-set, w8, to_z, of_z, rules}
use Rattle.std.proofs.lemmas.Int.{to_z-of_z}
use Rattle.lowerings.specs.Constants.{digits_of}
use Rattle.lowerings.proofs.SignedDigits.{signed_more}
use Rattle.lowerings.proofs.carrying.signed_array.Goals as goal

pub loop-i-preserved : goal.loop-i-preserved
loop-i-preserved c =
    let n = c.args.constant.now in let i = c.loop-i.i in let f = c.loop-i.form in let inv = c.loop-i.invariant in
    let value = c.digits-digit-items.ensures.value in let places = c.digits-digit-items.ensures.places in
    let x = c.signed_digit.result in
    let is = rw value at (to_z-of_z w8 x (search rules) ∙ c.signed_digit.ensures) in
    let inside : i < length (digits_of n) = omega (arith, ap length value) in (
      length-set f (i + 1) (to_z w8 (of_z w8 x)) ∙ inv.0,
      signed_more n.negative (digits_of n) f i (to_z w8 (of_z w8 x)) inside (omega (arith, inv.0, places, n.few)) is inv.1,
    )
