-- Digits that are all 0 write 0, and any others do not. Assumes nothing.
use Rattle.std.proofs.Common.{◌≡◌, ℕ, zero, suc, ◌+◌, ◌*◌, ◌<◌, Bool, true, false, not, ◌&&◌, eqb, eqb-true, replicate, List, [], ◌∷◌, sym, refl, ap, ◌∙◌, arith}
use borrow.Author.Tests.{not-true}
use Rattle.std.proofs.lemmas.Bool.{and_parts}
use Rattle.std.proofs.lemmas.Int.Digits.{number_after_ge}
use Rattle.std.specs.Int.Digits.{number_from_digits_after, number_from_digits}
use Rattle.digits.specs.Signed.{sided_number}
use Rattle.lowerings.specs.Zero.{zeros}

-- the number
pub zeros_write : (B n : ℕ) → number_from_digits B (replicate n 0) ≡ 0
zeros_write B zero = refl
zeros_write B (suc n) = let z : 0 * B + 0 ≡ 0 = omega arith in ap (λ k. number_from_digits_after B k (replicate n 0)) z ∙ zeros_write B n

zero_number : (B : ℕ) (rs : List ℕ) → zeros rs ≡ true → number_from_digits B rs ≡ 0
zero_number B [] e = refl
zero_number B (r ∷ rs) e =
    let p = and_parts (eqb r 0) (zeros rs) e in
    let z : 0 * B + r ≡ 0 = omega (arith, eqb-true r 0 p.0) in
    rw z (zero_number B rs p.1)

some_number : (B : ℕ) (rs : List ℕ) → 0 < B → zeros rs ≡ false → 0 < number_from_digits B rs
some_number B [] h e = absurd (cc)
some_number B (zero ∷ rs) h e = let z : 0 * B + 0 ≡ 0 = omega arith in rw z (some_number B rs h e)
some_number B (suc r ∷ rs) h e = omega (arith, number_after_ge B (0 * B + suc r) rs h)

-- the sign that is kept: zero has none
pub signed_number : (B : ℕ) (rs : List ℕ) (m z r : Bool) → r ≡ (m && not z) → z ≡ zeros rs → sided_number B r rs ≡ sided_number B m rs
signed_number B rs false z r e k = rw e
signed_number B rs true true r e k = rw (e, zero_number B rs (sym k))
signed_number B rs true false r e k = rw e

pub signed_some : (B : ℕ) (rs : List ℕ) (m z r : Bool) → 0 < B → r ≡ (m && not z) → z ≡ zeros rs → r ≡ true → 0 < number_from_digits B rs
signed_some B rs m z r h e k t =
    let p = and_parts m (not z) (sym e ∙ t) in
    some_number B rs h (sym k ∙ not-true z p.1)
