use Rattle.std.proofs.Common.{refl, ap, ◌∙◌, arith}
use Rattle.lowerings.specs.Record.{tally_of}
use Rattle.lowerings.specs.Tally.{after}
use Rattle.lowerings.proofs.Wide.{too_large, not_large, lower_places, lower_number}
use Rattle.lowerings.proofs.record.Lowering.accept.Goals as goal

pub returns-then-wide-ne0 : goal.returns-then-wide-ne0
returns-then-wide-ne0 c =
    let s = c.args.self.now in
    let e = too_large (tally_of s) c.args.negative c.args.wide.now c.requires.places c.requires.digits (λ z. omega arith) in
    record { answer = rw e; next = rw e; kept = λ f q. refl }

pub returns : goal.returns
returns c =
    let s = c.args.self.now in let w = c.args.wide.now in let m = c.args.negative in
    let t = tally_of s in let B = s.constant.radix in let n = s.constant.length in
    let e = not_large t m w c.requires.places c.requires.digits (omega arith) in
    let made = c.of-constant.ensures in
    let long = made.length ∙ lower_places t m w c.requires.places c.requires.digits in
    let number = made.number ∙ lower_number t m w c.requires.places c.requires.digits (omega arith) in
    record { answer = rw e; next = cc (c.of.ensures.constant, c.of.ensures.letter, made.radix, long, number, ap (after t) e); kept = λ f q. cc }
