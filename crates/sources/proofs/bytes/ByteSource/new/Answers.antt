use Rattle.std.proofs.Common.{refl}
use Rattle.sources.proofs.Fronts.{fitted_same, fitted_two, none_unfit, longest}
use Rattle.sources.proofs.bytes.ByteSource.new.Goals as goal

pub returns : goal.returns
returns c =
    let r = c.args.radix in
    let xs = c.args.bytes.now in
    record { base = refl; digits = refl; longest = λ low high. (fitted_same r low high, longest r xs low high); unfit = λ h. (fitted_two r h, none_unfit r 0 xs h) }
