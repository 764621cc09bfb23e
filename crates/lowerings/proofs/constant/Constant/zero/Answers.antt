use Rattle.std.proofs.Common.{ℕ, ◌<◌, pos, refl, ap, arith}
use Rattle.std.proofs.lemmas.List.{get_or-replicate, take-replicate}
use Rattle.lowerings.proofs.Zeros.{zeros_write}
use Rattle.lowerings.proofs.constant.Constant.zero.Goals as goal

pub invariant_of-result-clause-digits : goal.invariant_of-result-clause-digits
invariant_of-result-clause-digits c =
    let some : 0 < c.args.radix = omega (arith, c.get.ensures.value, c.get.ensures.low) in
    λ k h. rw (c.array_of.ensures, get_or-replicate {A = ℕ} 120 k 0 0 (omega (arith, c.requires.few))) some

pub returns : goal.returns
returns c = record { radix = refl; length = refl; number = ap pos (rw (c.array_of.ensures, take-replicate {X = ℕ} c.args.length 120 0 c.requires.few) (zeros_write c.args.radix c.args.length)) }
