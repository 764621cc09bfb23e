use Rattle.std.proofs.Common.{w8, rules}
use Rattle.std.proofs.lemmas.Int.{to_z-of_z}
use Rattle.lowerings.proofs.AddedDigit.{addable, summed}
use Rattle.lowerings.proofs.carrying.add_digit.Goals as goal

pub settle_sum-requires : goal.settle_sum-requires
settle_sum-requires c = addable c.args.constant.now (search rules) _ _ _ _ c.signed_array-form.ensures (to_z-of_z w8 c.args.digit c.ranges.digit) c.requires.digit c.requires.place _ c.requires.room

pub returns : goal.returns
returns c = summed c.args.constant.now (search rules) _ _ _ _ c.signed_array-form.ensures (to_z-of_z w8 c.args.digit c.ranges.digit) c.requires.digit c.requires.place _ _ c.settle_sum.ensures
