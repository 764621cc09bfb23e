use Rattle.std.proofs.Common.{◌≡◌, ◌||◌, length, replicate, sym, ap, ◌∙◌, subst}
use Rattle.std.specs.Int.Digits.{number_from_digits, AllBelowBase}
use Rattle.sources.specs.Window.{fallen, last_digits, nonzero}
use Rattle.sources.proofs.Steps.{step_none}
use Rattle.sources.proofs.Windows.{kept, lost, lost_none, kept_last, lost_nonzero, last_below, last_value, fallen_large}
use Rattle.sources.proofs.window.last_digits.Goals as goal

pub returns : goal.returns
returns g c =
    let m = g.S.Source in
    let s = c.args.source.now in
    let b = m.base s in
    let ds = m.coming s in
    let n = length c.args.window.now in
    let t = c.loop-digit.source in
    let u = c.next.new.self in
    let zeros : c.fill.new.self ≡ replicate n 0 = c.fill.ensures.after (λ y e. e) in
    let end = step_none (m.coming t) t u (m.coming u) c.in_default.ensures.step in
    let last : c.loop-digit.window ≡ last_digits n ds =
    ap (kept c.loop-digit.window) (sym end.0) ∙ c.loop-digit.invariant.0 ∙ ap (λ ws. kept ws ds) zeros ∙ kept_last ds (replicate n 0) in
    let fell : c.loop-digit.fell ≡ nonzero (fallen n ds) =
    lost_none c.loop-digit.fell
    ∙ ap (λ es. c.loop-digit.fell || lost c.loop-digit.window es) (sym end.0)
    ∙ c.loop-digit.invariant.1
    ∙ ap (λ ws. lost ws ds) zeros
    ∙ lost_nonzero ds (replicate n 0) in
    record {
      last = last;
      below = subst (AllBelowBase b) (sym last) (last_below b n ds (m.laws.low s) (m.laws.below s));
      fell = fell;
      large = fell ∙ fallen_large b n ds (m.laws.low s) (m.laws.below s);
      value = λ e. ap (number_from_digits b) last ∙ last_value b n ds (sym fell ∙ e);
      spent = ap m.coming end.1 ∙ end.0;
      same = c.in_default.ensures.same ∙ c.loop-digit.invariant.2;
    }
