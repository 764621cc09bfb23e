use Rattle.std.proofs.Common.{sym}
use Rattle.jobs.proofs.Verdicts.{told_lawful, ready}
use Rattle.jobs.proofs.listing.Listing.add_line.Goals as goal

pub list_job-requires : goal.list_job-requires
list_job-requires c = ready c.in-Ok.shape c.args.line.now (told_lawful c.args.line.now c.in-Ok.shape (sym c.in-Ok.ensures))
