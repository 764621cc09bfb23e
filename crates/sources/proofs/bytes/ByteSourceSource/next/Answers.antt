use Rattle.std.proofs.Common.{refl}
use Rattle.sources.proofs.Fronts.{digits_some}
use Rattle.sources.proofs.bytes.ByteSourceSource.next.Goals as goal

pub returns-clause-step : goal.returns-clause-step
returns-clause-step c = let s = c.args.self.now in rw (digits_some s.radix s.given c.in_ok-digit.digit s.bytes.now c.in_ok-digit.ensures) (refl, refl)
