use Rattle.sources.proofs.Fronts.{front_taken}
use Rattle.sources.proofs.bytes.ByteSourceSource.left.Goals as goal

pub returns : goal.returns
returns c = rw front_taken (rw (c.radix.ensures, c.rest.ensures) at c.digit_count.ensures)
