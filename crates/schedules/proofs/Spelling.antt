-- A word is read exactly as it is spelled. Assumes nothing.
use Rattle.std.proofs.lemmas.Grind.{common_steps}
use Rattle.std.proofs.lemmas.Bool.Decides.{nat_tests}
use Rattle.std.proofs.Common.{◌≡◌, ℕ, Ok, Result, arith}
use Rattle.schedules.specs.declared.word.Word.{Word}
use Rattle.schedules.specs.declared.word.Word.TheVariants.{Header, Take, Raise, Multiply}
use Rattle.schedules.specs.declared.word.Misread.{Misread}
use Rattle.schedules.specs.Words.{spelled, EightBits, read, Reading}

pub read_spelled : (x : Word) → EightBits x → read (spelled x) ≡ Ok x
read_spelled (Header count radix) h = grind (arith, common_steps, nat_tests)
read_spelled (Take size negative) h = grind (arith, common_steps, nat_tests)
read_spelled (Raise times) h = grind (arith, common_steps, nat_tests)
read_spelled (Multiply size negative) h = grind (arith, common_steps, nat_tests)

pub reading : (w : ℕ) (r : Result Word Misread) → r ≡ read w → Reading w r
reading w r e = grind (arith, common_steps, nat_tests)
