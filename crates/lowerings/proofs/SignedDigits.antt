-- Plain digits, each with the sign: a form. Assumes nothing.
use Rattle.std.proofs.Common.{◌≡◌, ℕ, suc, ◌+◌, ◌^◌, ◌<◌, Bool, true, false, List, [], ◌∷◌, ◌++◌, length, get_or, take, set, ℤ, pos, ◌+ℤ◌, ◌*ℤ◌, neg_ℤ, refl, ap, ◌∙◌, arith}
use Rattle.std.proofs.lemmas.List.{take_more, take_more_set}
use Rattle.std.proofs.lemmas.Int.{ints}
use Rattle.std.specs.Int.Digits.{number_from_digits, AllBelowBase}
use Rattle.forms.specs.Form.{value, InRange}
use Rattle.forms.proofs.Negation.{neg_step}
use Rattle.forms.proofs.Settling.{top_digit}
use Rattle.digits.specs.Signed.{sided_number}
use Rattle.lowerings.specs.Held.{signed_digits}
use Rattle.lowerings.specs.Tally.{signed_by}

signed_push : (m : Bool) (rs : List ℕ) (r : ℕ) → signed_digits m rs ++ (signed_by m r ∷ []) ≡ signed_digits m (rs ++ (r ∷ []))
signed_push m [] r = refl
signed_push m (x ∷ rs) r = ap (λ l. signed_by m x ∷ l) (signed_push m rs r)

-- one more digit is there
pub signed_more : (m : Bool) (rs : List ℕ) (f : List ℤ) (i : ℕ) (x : ℤ) → i < length rs → i + 1 < length f → x ≡ signed_by m (get_or rs i 0) → take (i + 1) f ≡ pos 0 ∷ signed_digits m (take i rs) → take (i + 1 + 1) (set f (i + 1) x) ≡ pos 0 ∷ signed_digits m (take (i + 1) rs)
signed_more m rs f i x h room is inv =
    rw (take_more_set f (i + 1) x room, inv, is, take_more rs i 0 h, ← signed_push m (take i rs) (get_or rs i 0))

pub signed-length : (m : Bool) (rs : List ℕ) → length (signed_digits m rs) ≡ length rs
signed-length m [] = refl
signed-length m (r ∷ rs) = ap suc (signed-length m rs)

pub signed_range : (B : ℕ) (m : Bool) (rs : List ℕ) → AllBelowBase B rs → InRange B (signed_digits m rs)
signed_range B m [] u = tt
signed_range B true (r ∷ rs) u = (omega (arith, ints, u.0), signed_range B true rs u.1)
signed_range B false (r ∷ rs) u = (u.0, signed_range B false rs u.1)

pub signed_worth : (B : ℕ) (m : Bool) (rs : List ℕ) → value B (signed_digits m rs) ≡ sided_number B m rs
signed_worth B true [] = refl
signed_worth B false [] = refl
signed_worth B false (r ∷ rs) = ap (λ n. pos r *ℤ pos (B ^ n) +ℤ value B (signed_digits false rs)) (signed-length false rs) ∙ rw (signed_worth B false rs, top_digit B r rs)
signed_worth B true (r ∷ rs) =
    ap (λ n. neg_ℤ (pos r) *ℤ pos (B ^ n) +ℤ value B (signed_digits true rs)) (signed-length true rs)
    ∙ rw (signed_worth B true rs, top_digit B r rs) (neg_step (B ^ length rs) (pos r) (pos (number_from_digits B rs)))
