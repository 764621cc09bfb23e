use Rattle.std.proofs.Common.{add-one, ◌≡◌, ◌<◌, length, arith, rules}
use Rattle.lowerings.specs.Constants.{digits_of}
use Rattle.lowerings.proofs.Holding.{digits_below}
use Rattle.lowerings.proofs.Wide.{shifted_number, under_push}
use Rattle.lowerings.proofs.record.Lowering.move_up.Goals as goal

pub accept-requires-clause-digits : goal.accept-requires-clause-digits
accept-requires-clause-digits c =
    let n = c.args.self.now.constant in
    let long : length n.plain ≡ 120 = search rules in
    let some : 0 < n.radix = omega (arith, n.digits 0 (omega (arith, n.some))) in
    rw (add-one n.length, c.raised-wide.ensures) (under_push n.radix (digits_of n) 0 (digits_below n long) some)

pub returns : goal.returns
returns c =
    let n = c.args.self.now.constant in
    let b = rw (add-one n.length, c.raised-wide.ensures, shifted_number n.radix n.negative (digits_of n)) at c.accept.ensures in
    record { answer = b.answer; next = b.next; kept = b.kept }
