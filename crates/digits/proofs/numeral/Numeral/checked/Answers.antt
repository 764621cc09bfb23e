use Rattle.std.proofs.Common.{leb, None, Some}
use Rattle.digits.proofs.Accepted.{sizes_below}
use Rattle.digits.proofs.Topmost.{topmost_found}
use Rattle.digits.proofs.numeral.Numeral.checked.Goals as goal

pub returns-in-Some-clause-answered : goal.returns-in-Some-clause-answered
returns-in-Some-clause-answered g c = rw (← c.get.ensures.value) (topmost_found (λ d. leb c.get.result (g.D.Digit.size d)) c.args.digits.now _ (Some c.in-Some.index) c.too_large.ensures c.in-Some.is)

pub returns-in-None-clause-answered : goal.returns-in-None-clause-answered
returns-in-None-clause-answered g c = rw (← c.get.ensures.value) (topmost_found (λ d. leb c.get.result (g.D.Digit.size d)) c.args.digits.now _ None c.too_large.ensures c.in-None.is)

pub invariant_of-result : goal.invariant_of-result
invariant_of-result g c =
    let passes = topmost_found (λ d. leb c.get.result (g.D.Digit.size d)) c.args.digits.now _ None c.too_large.ensures c.in-None.is in
    rw (← c.get.ensures.value) (record { low = c.get.ensures.low; high = c.get.ensures.high; below = sizes_below g.D.Digit.size _ _ passes })
