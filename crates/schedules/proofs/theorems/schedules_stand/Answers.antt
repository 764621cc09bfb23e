use Rattle.schedules.proofs.theorems.schedules_stand.Goals as goal
use Rattle.schedules.proofs.Whole.{schedules_stand}

pub returns : goal.returns
returns c = schedules_stand
