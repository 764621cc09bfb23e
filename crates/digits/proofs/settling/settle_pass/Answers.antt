use Rattle.std.proofs.Common.{◌≡◌, ◌+◌, ◌-◌, ◌<◌, length, get_or, drop, pos, nat_abs, refl, ap, arith, w8, to_z, of_z, rules}
use Rattle.std.proofs.lemmas.Int.{to_z-of_z}
use Rattle.std.proofs.lemmas.List.{drop_all}
use Rattle.digits.specs.Settling.{sided}
use Rattle.digits.proofs.Numerals.{radix_is, digits_are, lawful, in_range}
use Rattle.digits.proofs.PlainDigits.{sided-length, sided_at, taken_more, settled_more}
use Rattle.digits.proofs.settling.settle_pass.Goals as goal

pub loop-i-init : goal.loop-i-init
loop-i-init c =
    let n = c.args.form.now in let o = c.args.opposite in
    rw (digits_are c.form.view_is, drop_all (length n.digits) (sided o n.digits) (omega (arith, sided-length o n.digits))) (refl, refl)

pub loop-i-preserved : goal.loop-i-preserved
loop-i-preserved c =
    let n = c.args.form.now in let o = c.args.opposite in let g = sided o n.digits in
    let radix = radix_is c.form.view_is in let digits = digits_are c.form.view_is in
    let k = c.loop-i.i in let i = k - 1 in let x = c.sided_digit-digit.result in
    let d = to_z w8 (of_z w8 x) in
    let next : k ≡ i + 1 = omega arith in
    let inside : i < length g = omega (arith, sided-length o n.digits, ap length digits) in
    let here : d ≡ get_or g i (pos 0) = cc (to_z-of_z w8 x (search rules), c.sided_digit-digit.ensures, to_z-of_z w8 (get_or c.form.inside.digits.now i (pos 0)) (search rules), digits, sided_at o n.digits i) in
    let r = c.settle_digit-left.result in let e = c.settle_digit-left.ensures in
    let left = rw radix at e.left in (
      taken_more n.radix g i k r.digit d c.loop-i.borrowed r.borrows next inside here c.loop-i.invariant.0 e.borrows,
      settled_more n.radix g i k r.digit d c.loop-i.borrowed r.borrows next inside here c.loop-i.invariant.0 e.borrows c.loop-i.plain (drop (length n.digits) c.args.plain.now) left (omega (arith, c.requires, c.loop-i.auto.plain, sided-length o n.digits)) c.loop-i.invariant.1,
    )

pub returns-clause-range : goal.returns-clause-range
returns-clause-range c =
    let n = c.args.form.now in
    in_range n.radix n.digits (lawful nat_abs _ _ n c.form.view_is c.form.invariant).below
