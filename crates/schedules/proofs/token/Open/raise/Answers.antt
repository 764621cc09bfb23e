use Rattle.std.proofs.Common.{◌≡◌, suc, ◌+◌, length, set, Ok, rules, arith}
use Rattle.schedules.specs.declared.word.Word.TheVariants as words
use Rattle.schedules.specs.declared.word.Last.TheVariants as last
use Rattle.schedules.specs.Words.{spelled}
use Rattle.schedules.specs.Checks.{answer}
use Rattle.schedules.specs.Writing.{state, raise_check}
use Rattle.schedules.proofs.Passed.{none_refused}
use Rattle.schedules.proofs.Growing.{raise_adds}
use Rattle.schedules.proofs.token.Open.raise.Goals as goal

pub returns-clause-written : goal.returns-clause-written
returns-clause-written c =
    let s = state c.args.self.now in
    let area = c.args.area.now in
    let after = c.write_word.new.area in
    let times = c.args.times in
    let answered : Ok tt ≡ answer (raise_check s times (length area)) = search rules in
    let n : s.written + 1 ≡ suc s.written = omega arith in
    let put : after ≡ set area (suc s.written) (spelled (words.Raise times)) = search rules in
    record {
      token = λ i. record { radix = s.radix; written = n i; raised = s.raised + times; last = last.Raise };
      added = raise_adds s times area after (none_refused (raise_check s times (length area)) answered) put;
    }
