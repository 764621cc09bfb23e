use Rattle.groups.proofs.PowerLaws.{power_laws}
use Rattle.groups.proofs.powers.integer_power.Goals as goal

pub returns-then-exponent-lt0-clause-laws : goal.returns-then-exponent-lt0-clause-laws
returns-then-exponent-lt0-clause-laws g c = power_laws g.met.G.Group.laws

pub returns-else-exponent-lt0-clause-laws : goal.returns-else-exponent-lt0-clause-laws
returns-else-exponent-lt0-clause-laws g c = power_laws g.met.G.Group.laws
