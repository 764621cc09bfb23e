use Rattle.std.proofs.Common.{length, refl}
use Rattle.std.proofs.lemmas.List.{take_at}
use Rattle.lowerings.proofs.Holding.{under_front, some_radix}
use Rattle.lowerings.proofs.Zeros.{signed_number, signed_some}
use Rattle.lowerings.proofs.constant.Constant.of.Goals as goal

pub invariant_of-result-clause-digits : goal.invariant_of-result-clause-digits
invariant_of-result-clause-digits c = λ k h. rw (c.array_of.ensures) (under_front c.args.radix c.args.digits.now _ c.requires.below k h)

pub invariant_of-result-clause-nonzero : goal.invariant_of-result-clause-nonzero
invariant_of-result-clause-nonzero c =
    let B = c.args.radix in let ds = c.args.digits.now in
    λ t. rw (c.array_of.ensures, take_at ds _ (length ds) refl) (signed_some B ds c.args.negative c.all_zero.result c.signed.result (some_radix B ds c.requires.some c.requires.below) c.signed.ensures c.all_zero.ensures t)

pub returns : goal.returns
returns c =
    let B = c.args.radix in let ds = c.args.digits.now in
    record {
      radix = refl;
      length = refl;
      number = rw (c.array_of.ensures, take_at ds _ (length ds) refl) (signed_number B ds c.args.negative c.all_zero.result c.signed.result c.signed.ensures c.all_zero.ensures);
    }
