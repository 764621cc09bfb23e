use Rattle.std.proofs.Common.{◌≡◌, Ok, refl, ◌∙◌, arith, rules}
use Rattle.schedules.specs.Reading.{inspected}
use Rattle.schedules.proofs.Judging.{inspects}
use Rattle.schedules.proofs.ReadingLoop.{turn}
use Rattle.schedules.proofs.reading.inspect.Goals as goal

pub returns-in_err-heading-clause-meant : goal.returns-in_err-heading-clause-meant
returns-in_err-heading-clause-meant c =
    let e : c.from_residual.result ≡ inspected c.args.words.now = search rules in
    inspects c.args.words.now _ e

pub returns-in_err-progress-clause-meant : goal.returns-in_err-progress-clause-meant
returns-in_err-progress-clause-meant c =
    let e : c.from_residual-in_err-progress.result ≡ inspected c.args.words.now = search rules in
    inspects c.args.words.now _ e

pub loop-place-preserved : goal.loop-place-preserved
loop-place-preserved c =
    let h = c.in_ok-heading.heading in
    let at = c.loop-place.place in
    let ws = c.args.words.now in
    c.loop-place.invariant ∙ turn h.radix c.loop-place.progress at h.count ws (omega arith) ∙ rw (← c.in_ok-progress.ensures) refl

pub returns-in_ok-heading-clause-meant : goal.returns-in_ok-heading-clause-meant
returns-in_ok-heading-clause-meant c =
    let e : Ok c.in_ok-heading.heading ≡ inspected c.args.words.now = search rules in
    inspects c.args.words.now _ e

pub returns-in_ok-progress-clause-meant : goal.returns-in_ok-progress-clause-meant
returns-in_ok-progress-clause-meant c =
    let e : Ok c.in_ok-heading.heading ≡ inspected c.args.words.now = search rules in
    inspects c.args.words.now _ e
