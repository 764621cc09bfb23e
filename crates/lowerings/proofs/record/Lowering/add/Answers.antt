use Rattle.std.proofs.Common.{◌≡◌, leb, false, nat_abs, ap, arith, w8}
use Rattle.std.proofs.lemmas.Bool.{lt-leb}
use Rattle.std.proofs.lemmas.Int.{to_z-of_z}
use Rattle.lowerings.specs.Record.{tally_of}
use Rattle.lowerings.proofs.record.Lowering.add.Goals as goal

-- the digit and its place were checked, so the edit is the sum
pub returns : goal.returns
returns c =
    let t = tally_of c.args.self.now in let d = c.args.digit in let i = c.args.place in
    let is = to_z-of_z w8 d c.ranges.digit in
    let place : leb t.length i ≡ false = lt-leb t.length i (omega arith) in
    let digit : leb t.radix (nat_abs d) ≡ false = lt-leb t.radix (nat_abs d) (omega (arith, ap nat_abs is, c.unsigned_abs.ensures.value, c.get.ensures.value, c.if-unsigned_abs-get.false)) in
    let b = rw is at c.add_wide.ensures in
    record { answer = rw (place, digit) b.answer; next = rw (place, digit) b.next; kept = b.kept }
