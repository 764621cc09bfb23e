use Rattle.std.proofs.Common.{◌≡◌, suc, ◌+◌, ◌-◌, ◌<◌, length, get_or, pos, ◌+ℤ◌, nat_abs, sym, ap, ◌∙◌, arith, length-set, get_or-set_other, get_or-set_same, w8, to_z, of_z, rules}
use Rattle.std.proofs.lemmas.Int.{to_z-of_z, ints}
use Rattle.digits.proofs.Negating.{digit_in_range}
use Rattle.lowerings.proofs.AddedDigit.{add_worth, settle_accepted, settle_writes}
use Rattle.lowerings.proofs.carrying.settle_sum.Goals as goal

pub sum-requires-clause-digit : goal.sum-requires-clause-digit
sum-requires-clause-digit c =
    let a = get_or c.args.form.now c.args.index (pos 0) in
    let radix = c.get-base.ensures in
    let small = digit_in_range c.args.radix c.args.form.now c.args.index (omega (arith, radix.value, radix.low)) c.requires.range in
    omega (arith, ap nat_abs (to_z-of_z w8 a (search rules)), small, radix.value, radix.high)

pub carry_up-requires-clause-large : goal.carry_up-requires-clause-large
carry_up-requires-clause-large c =
    let f = c.args.form.now in let n = c.args.index in
    let a = get_or f n (pos 0) in let d = c.args.digit in let y = to_z w8 (of_z w8 c.sum.result) in
    let is : y ≡ a +ℤ d = cc (to_z-of_z w8 c.sum.result (search rules), c.sum.ensures, to_z-of_z w8 a (search rules), to_z-of_z w8 d (search rules)) in
    let small = digit_in_range c.args.radix f n (omega (arith, c.get-base.ensures.value, c.get-base.ensures.low)) c.requires.range in
    omega (arith, ints, ap nat_abs (get_or-set_same f n y (pos 0) c.requires.inside ∙ is), small, c.requires.digit)

pub carry_up-requires-clause-others : goal.carry_up-requires-clause-others
carry_up-requires-clause-others c =
    let f = c.args.form.now in
    let some : 0 < c.args.radix = omega (arith, c.get-base.ensures.value, c.get-base.ensures.low) in
    λ k o. rw (get_or-set_other f c.args.index k (to_z w8 (of_z w8 c.sum.result)) (pos 0) o) (digit_in_range c.args.radix f k some c.requires.range)

pub unwrap-requires : goal.unwrap-requires
unwrap-requires c =
    let g = c.carry_up.new.form in let radix = c.get-base.ensures in
    let long : length g ≡ length c.args.form.now = c.carry_up.ensures.long ∙ length-set c.args.form.now c.args.index _ in
    settle_accepted _ g _ _ radix.low radix.high (omega (arith, long, c.requires.few)) (rw radix.value c.carry_up.ensures.range) (c.requires.places ∙ sym long) _ c.settle.ensures

pub returns : goal.returns
returns c =
    let f = c.args.form.now in let g = c.carry_up.new.form in let n = c.args.index in
    let a = get_or f n (pos 0) in let d = c.args.digit in let y = to_z w8 (of_z w8 c.sum.result) in
    let is : y ≡ a +ℤ d = cc (to_z-of_z w8 c.sum.result (search rules), c.sum.ensures, to_z-of_z w8 a (search rules), to_z-of_z w8 d (search rules)) in
    let radix = c.get-base.ensures in
    let long : length g ≡ length f = c.carry_up.ensures.long ∙ length-set f n _ in
    let room : length f ≡ suc (n + (length f - suc n)) = omega (arith, c.requires.inside) in
    let w = rw (radix.value, long) at (settle_writes _ g _ _ radix.low radix.high (omega (arith, long, c.requires.few)) (rw radix.value c.carry_up.ensures.range) (c.requires.places ∙ sym long) _ _ c.unwrap.ensures c.settle.ensures) in
    record {
      places = w.places;
      plain = w.plain;
      worth = w.worth ∙ c.carry_up.ensures.worth ∙ rw is (add_worth c.args.radix f n (length f - suc n) d room);
    }
