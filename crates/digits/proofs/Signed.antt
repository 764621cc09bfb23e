-- A form that was made, and then mirrored. Assumes nothing.
use Rattle.std.proofs.Common.{◌≡◌, ℕ, suc, ◌+◌, Bool, true, List, ◌++◌, length, take, drop, ℤ, is_ok, Ok, Result, ap, ◌∙◌, arith}
use Rattle.std.proofs.lemmas.List.{take_at, drop_at}
use Rattle.forms.specs.declared.Letter.{Letter}
use Rattle.forms.specs.Letters.{form_of}
use Rattle.forms.proofs.Negation.{negated-length}
use Rattle.forms.proofs.Whole.{made, good}
use Rattle.digits.specs.declared.refusal.Fault.{Fault}
use Rattle.digits.specs.Judging.{Readable}
use Rattle.digits.specs.Mirroring.{Mirrored}
use Rattle.digits.specs.Recoding.{Recoded, RecodedSigned, RecodesSigned}
use Rattle.digits.specs.Refusals.{answer, recode_check, form_check}
use Rattle.digits.specs.Signed.{sided_number, sided_form}
use Rattle.digits.proofs.Accepted.{Recodable, recodable, none_refused, recode_passes, form_passes}

module _ (l : Letter) (B : ℕ) (rs : List ℕ) (before after : List ℤ) (passed : answer (recode_check B rs (length before)) ≡ Ok tt) (h : Recoded l B rs before after) where
  known : Recodable B rs (length before)
  known = recodable B rs (length before) (none_refused _ passed)

  end : length (form_of l B rs) ≡ length rs + 1
  end = h.places ∙ omega arith

  front : take (length rs + 1) after ≡ form_of l B rs
  front = rw (h.area) (take_at _ _ _ end)

  rest : drop (length rs + 1) after ≡ drop (suc (length rs)) before
  rest = rw (h.area) (drop_at _ _ _ end)

  readable : Readable B (take (length rs + 1) after)
  readable = rw front (record { low = known.low; high = known.high; few = omega (arith, h.places, known.few); range = h.good.represents.range })

  pub mirror_passes : answer (form_check B (take (length rs + 1) after)) ≡ Ok tt
  mirror_passes = form_passes B (take (length rs + 1) after) readable

  pub mirrored_below : (m : Bool) (last : List ℤ) → m ≡ true → Mirrored B (take (length rs + 1) after) last → RecodedSigned l B m rs before (last ++ drop (length rs + 1) after)
  mirrored_below m last e turned =
      let below = (made l B rs known.low known.plain).below_zero in
      rw e (record {
        area = rw (turned.area, front, rest);
        places = negated-length (form_of l B rs) ∙ h.places;
        given = below;
        good = good l B (sided_number B true rs) (sided_form l B true rs) known.low below;
      })

-- what a call that fits answers and leaves
module _ (l : Letter) (B : ℕ) (m : Bool) (rs : List ℕ) (before after : List ℤ) (r : Result (Unit {0}) Fault) (fits : Recodable B rs (length before)) (answered : r ≡ answer (recode_check B rs (length before))) where
  accepted : r ≡ Ok tt
  accepted = answered ∙ recode_passes B rs (length before) fits

  pub signed_accepted : is_ok r ≡ true
  signed_accepted = ap is_ok accepted

  pub signed_written : RecodesSigned l B m rs before after r → after ≡ sided_form l B m rs ++ drop (suc (length rs)) before
  signed_written h = (rw accepted at h).area

  pub signed_front : RecodesSigned l B m rs before after r → take (suc (length rs)) after ≡ sided_form l B m rs
  signed_front h =
      let w = rw accepted at h in
      rw (w.area) (take_at _ _ _ w.places)
