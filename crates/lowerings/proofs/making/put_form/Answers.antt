use Rattle.std.proofs.Common.{◌≡◌, ℕ, ◌<◌, ◌≤◌, List, length, arith}
use Rattle.std.specs.Int.Digits.{AllBelowBase}
use Rattle.digits.proofs.Accepted.{Recodable}
use Rattle.digits.proofs.Signed.{signed_accepted, signed_front}
use Rattle.lowerings.specs.declared.constant.Constant.{Constant}
use Rattle.lowerings.proofs.making.put_form.Goals as goal

-- the digits of a constant fit, and so does their form
fits : (n : Constant) (B : ℕ) (rs : List ℕ) (room : ℕ) → B ≡ n.radix → 1 < B → B ≤ 16 → AllBelowBase n.radix rs → length rs ≡ n.length → n.length < room → Recodable B rs room
fits n B rs room e low high below places inside = record {
  low = low;
  high = high;
  few = omega (arith, n.few);
  plain = rw e below;
  room = omega arith;
}

pub unwrap-requires : goal.unwrap-requires
unwrap-requires c =
    let n = c.args.constant.now in let B = c.get-radix.result in let rs = c.digits.result.now in let form = c.args.form.now in
    let f = fits n B rs (length form) c.get-radix.ensures.value c.get-radix.ensures.low c.get-radix.ensures.high c.digits.ensures.below c.digits.ensures.places c.requires in
    signed_accepted c.args.letter B n.negative rs form c.recode_signed.new.form c.recode_signed.result f c.recode_signed.ensures.answered

pub returns : goal.returns
returns c =
    let n = c.args.constant.now in let B = c.get-radix.result in let rs = c.digits.result.now in let form = c.args.form.now in
    let f = fits n B rs (length form) c.get-radix.ensures.value c.get-radix.ensures.low c.get-radix.ensures.high c.digits.ensures.below c.digits.ensures.places c.requires in
    rw (← c.get-radix.ensures.value, ← c.digits.ensures.value, ← c.digits.ensures.places)
    (signed_front c.args.letter B n.negative rs _ c.recode_signed.new.form _ f c.recode_signed.ensures.answered c.recode_signed.ensures.written)
