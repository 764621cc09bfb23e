use Rattle.std.proofs.Common.{◌-◌, length, arith}
use Rattle.lowerings.proofs.Wide.{raised_front}
use Rattle.lowerings.proofs.constant.Constant.raised.Goals as goal

pub returns : goal.returns
returns c =
    let ds = c.digits.result.now in
    rw (c.array_of.ensures, ← c.digits.ensures.value, ← c.digits.ensures.places) (raised_front ds (121 - length ds) (omega (arith, c.digits.ensures.places, c.args.self.now.few)))
