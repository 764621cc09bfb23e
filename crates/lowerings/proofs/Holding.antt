-- The digits that a constant holds. Assumes nothing.
use Rattle.std.proofs.Common.{◌≡◌, ℕ, zero, suc, ◌<◌, ◌≤◌, List, [], ◌∷◌, ◌++◌, length, get_or, take, ◌∙◌, arith, length-take}
use Rattle.std.specs.Int.Digits.{AllBelowBase}
use Rattle.lowerings.specs.declared.constant.Constant.{Constant}
use Rattle.lowerings.specs.Constants.{digits_of}

under_taken : (B n : ℕ) (rs : List ℕ) → n ≤ length rs → ((k : ℕ) → k < n → get_or rs k 0 < B) → AllBelowBase B (take n rs)
under_taken B zero rs h u = tt
under_taken B (suc n) [] h u = absurd (omega arith)
under_taken B (suc n) (r ∷ rs) h u = (u 0 (omega arith), under_taken B n rs (omega arith) (λ k l. u (suc k) (omega arith)))

-- digits at the front of an array
pub under_front : (B : ℕ) (ds rest : List ℕ) → AllBelowBase B ds → (k : ℕ) → k < length ds → get_or (ds ++ rest) k 0 < B
under_front B [] rest u k h = absurd (omega arith)
under_front B (d ∷ ds) rest u zero h = u.0
under_front B (d ∷ ds) rest u (suc k) h = under_front B ds rest u.1 k (omega arith)

pub some_radix : (B : ℕ) (ds : List ℕ) → 1 ≤ length ds → AllBelowBase B ds → 0 < B
some_radix B [] h u = absurd (omega arith)
some_radix B (d ∷ ds) h u = omega (arith, u.0)

-- the digits of a constant
pub digits_below : (c : Constant) → length c.plain ≡ 120 → AllBelowBase c.radix (digits_of c)
digits_below c long = under_taken c.radix c.length c.plain (omega (arith, c.few)) c.digits

pub digits_places : (c : Constant) → length c.plain ≡ 120 → length (digits_of c) ≡ c.length
digits_places c long = length-take c.length c.plain ∙ omega (arith, c.few)
