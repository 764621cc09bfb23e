-- The form of a lawful line's digits is made without a refusal. Assumes nothing.
use Rattle.std.proofs.Common.{◌≡◌, ℕ, zero, suc, ◌+◌, ◌<◌, ◌≤◌, List, [], ◌∷◌, ◌++◌, map, length, get_or, take, drop, set, ℤ, sym, refl, ap, ◌∙◌, subst, arith}
use Rattle.std.specs.Option.{unwrap_or}
use Rattle.std.proofs.lemmas.Bool.Decides.{nat_tests}
use Rattle.digits.proofs.Accepted.{Recodable}
use Rattle.jobs.specs.declared.reading.Shape.{Shape}
use Rattle.jobs.specs.Entries.{Makes}
use Rattle.jobs.specs.Reading.{digit_of, digit}

pub fits : (s : Shape) (rs : List ℕ) (area : List ℤ) (B : ℕ) → Makes s rs area → B ≡ s.radix → Recodable B rs (length area)
fits s rs area B h e = subst (λ b. Recodable b rs (length area)) (sym e) (record { low = h.low; high = h.high; few = h.few; plain = h.plain; room = omega (arith, h.places) })

-- 16 in place of no digit
pub digit_or_none : (b : ℕ) → unwrap_or (digit b) 16 ≡ digit_of b
digit_or_none b = grind (arith, nat_tests)

-- digits one by one
pub digits_more : (bytes plain before : List ℕ) (i : ℕ) → i < length bytes → length bytes ≤ length before → plain ≡ map digit_of (take i bytes) ++ drop i before → set plain i (digit_of (get_or bytes i 0)) ≡ map digit_of (take (i + 1) bytes) ++ drop (i + 1) before
digits_more bytes plain before i h k e = ap (λ l. set l i (digit_of (get_or bytes i 0))) e ∙ next bytes before i h k ∙ ap (λ n. map digit_of (take n bytes) ++ drop n before) (let s : suc i ≡ i + 1 = omega arith in s)
  where
    next : (xs ys : List ℕ) (j : ℕ) → j < length xs → length xs ≤ length ys → set (map digit_of (take j xs) ++ drop j ys) j (digit_of (get_or xs j 0)) ≡ map digit_of (take (suc j) xs) ++ drop (suc j) ys
    next [] ys j a b = absurd (omega arith)
    next (x ∷ xs) [] j a b = absurd (omega arith)
    next (x ∷ xs) (y ∷ ys) zero a b = refl
    next (x ∷ xs) (y ∷ ys) (suc j) a b = ap (λ l. digit_of x ∷ l) (next xs ys j (omega arith) (omega arith))
