use Rattle.std.proofs.Common.{◌<◌, arith, rules, tests}
use Rattle.std.specs.Slice.Iter.{split_inclusive_rest}
use Rattle.std.proofs.lemmas.List.Sorted.{answers_always}
use Rattle.jobs.proofs.Lines.{is_line_feed, cut_first, room, progress_more}
use Rattle.jobs.proofs.listing.list_lines.Goals as goal

pub add_line-requires : goal.add_line-requires
add_line-requires c =
    let p = c.loop-line.invariant.2 in
    let few : c.loop-line.listing.lines < 65536 = room c.args.file.now (split_inclusive_rest c.loop-line.line-iterator) c.loop-line.listing p c.in-Some.ensures.steps.2 c.requires in
    record { lines = few; forms = omega (arith, p.apart); faults = omega (arith, p.apart) }

pub loop-line-preserved : goal.loop-line-preserved
loop-line-preserved c =
    let all = split_inclusive_rest c.loop-line.line-iterator in
    let rest = split_inclusive_rest c.next.new.self in
    let s = c.in-Some.ensures.steps in
    let found = s.1.2 is_line_feed (answers_always _ _ _ (λ f a r g h. search (rules, tests))) in
    let first = cut_first all c.in-Some.line.now rest s.1.0 s.0 s.1.1 found.1 s.2 in
    (search rules, search rules, progress_more c.args.file.now all c.loop-line.listing c.loop-line.invariant.2 c.in-Some.line.now rest c.add_line.new.self first c.in_ok-add_line.ensures)
