use Rattle.sources.proofs.Groups.{power_low}
use Rattle.sources.proofs.grouping.power.Goals as goal

pub pow-requires : goal.pow-requires
pow-requires c = rw (c.from.ensures, c.from-2.ensures) (power_low c.args.radix c.args.width c.requires.radix c.requires.width)
