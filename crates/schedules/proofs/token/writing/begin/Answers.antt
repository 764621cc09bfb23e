use Rattle.std.proofs.Common.{◌≡◌, ◌<◌, ◌≤◌, length, set, ap, ◌∙◌, arith, rules}
use Rattle.schedules.specs.declared.word.Last.TheVariants as last
use Rattle.schedules.specs.declared.word.Word.TheVariants.{Header}
use Rattle.schedules.specs.Words.{spelled}
use Rattle.schedules.proofs.Growing.{begin_holds}
use Rattle.schedules.proofs.token.writing.begin.Goals as goal

pub returns : goal.returns
returns c =
    let B = c.args.radix in
    let area = c.args.area.now in
    let known : c.in_ok-radix.radix ≡ B = search rules in
    let value : c.get.result ≡ B = c.get.ensures.value ∙ known in
    let put : c.write_word.new.area ≡ set area 0 (spelled (Header 255 B)) = c.in_ok-write_word.ensures.written ∙ ap (λ b. set area 0 (spelled (Header 255 b))) value in
    let low : 2 ≤ B = omega (arith, value, c.get.ensures.low) in
    let high : B ≤ 16 = omega (arith, value, c.get.ensures.high) in
    let room : 0 < length area = search rules in
    record {
      accepted = search rules;
      token = λ i. record { radix = known i; written = 0; raised = 0; last = last.Nothing };
      area = put;
      holds = begin_holds B area c.write_word.new.area low high room put;
    }
