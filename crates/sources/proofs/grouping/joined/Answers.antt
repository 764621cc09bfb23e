use Rattle.std.proofs.Common.{◌≡◌, ◌+◌, ◌*◌, ◌<◌, take, drop, ap, ◌∙◌, arith}
use Rattle.std.specs.Int.Digits.{number_from_digits}
use Rattle.sources.proofs.Groups.{joined_step}
use Rattle.sources.proofs.grouping.joined.Given as given
use Rattle.sources.proofs.grouping.joined.Goals as goal

-- a turn takes one digit more
turn : (g : given.Over) (c : goal.In-Some g) → let b = g.S.Source.base c.args.source.now in let ds = g.S.Source.coming c.args.source.now in (c.loop.value * b + c.in-Some.digit ≡ number_from_digits b (take (c.loop.counter + 1) ds)) × (g.S.Source.coming c.next.new.self ≡ drop (c.loop.counter + 1) ds) × (c.loop.value * b + c.in-Some.digit < 16)
turn g c =
    let m = g.S.Source in
    let s = c.args.source.now in
    let t = c.next.new.self in
    joined_step (m.base s) (m.coming s) (m.coming c.loop.source) c.loop.counter c.args.count c.loop.value c.loop.source t (m.coming t) c.in-Some.digit (m.laws.low s) (m.laws.below s) c.loop-test.true c.requires.there c.requires.fits c.loop.invariant.1 c.loop.invariant.2 c.in-Some.ensures.step

pub overflow_mul-value : goal.overflow_mul-value
overflow_mul-value g c = rw c.radix-radix.ensures (omega (arith, (turn g c).2))

pub overflow_add-value : goal.overflow_add-value
overflow_add-value g c = rw c.radix-radix.ensures (omega (arith, (turn g c).2))

pub loop-preserved : goal.loop-preserved
loop-preserved g c =
    let t = turn g c in
    (c.in-Some.ensures.same ∙ c.loop.invariant.0, t.1, ap (λ b. c.loop.value * b + c.in-Some.digit) c.radix-radix.ensures ∙ t.0)
