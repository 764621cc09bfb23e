use Rattle.std.proofs.Common.{◌≡◌, suc, ◌+◌, length, set, Ok, rules, arith}
use Rattle.schedules.specs.declared.word.Last.TheVariants as last
use Rattle.schedules.specs.Words.{spelled}
use Rattle.schedules.specs.Checks.{answer}
use Rattle.schedules.specs.Writing.{state, use_word, use_check}
use Rattle.schedules.proofs.Passed.{none_refused}
use Rattle.schedules.proofs.Growing.{use_adds}
use Rattle.schedules.proofs.token.Open.use_digit.Goals as goal

pub returns-clause-written : goal.returns-clause-written
returns-clause-written c =
    let s = state c.args.self.now in
    let area = c.args.area.now in
    let after = c.write_word.new.area in
    let answered : Ok tt ≡ answer (use_check s c.args.size (length area)) = search rules in
    let n : s.written + 1 ≡ suc s.written = omega arith in
    let put : after ≡ set area (suc s.written) (spelled (use_word s.last c.args.size c.args.negative)) = search rules in
    record {
      token = λ i. record { radix = s.radix; written = n i; raised = s.raised; last = last.Use };
      added = use_adds s c.args.size c.args.negative area after (none_refused (use_check s c.args.size (length area)) answered) c.args.self.now.little put;
    }
