use Rattle.std.proofs.Common.{◌≤◌, length, sym, refl, ◌∙◌, arith}
use Rattle.std.specs.Int.Digits.{number_from_digits}
use Rattle.lowerings.specs.Record.{tally_of}
use Rattle.lowerings.proofs.Wide.{read_large}
use Rattle.lowerings.proofs.record.Lowering.read_wide.Goals as goal

pub returns-then-last_digits-clause-done : goal.returns-then-last_digits-clause-done
returns-then-last_digits-clause-done g c =
    let s = c.args.self.now in let ds = g.S.Source.coming c.args.source.now in
    let b = g.S.Source.base c.args.source.now in
    let low : 1 ≤ s.constant.radix = omega (arith, s.constant.digits 0 (omega (arith, s.constant.some))) in
    let e = read_large (tally_of s) c.args.negate b (length c.args.wide.now) (number_from_digits b ds) c.requires.radix c.requires.places low (sym c.if-last_digits.true ∙ c.last_digits.ensures.large) in
    record { answer = rw e; next = rw e; kept = λ f q. refl }
