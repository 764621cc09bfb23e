-- Laws of the number that digits write. Assumes nothing.
use Rattle.std.proofs.Common.{◌≡◌, ℕ, zero, suc, ◌+◌, ◌*◌, ◌^◌, ◌≤◌, List, [], ◌∷◌, ◌++◌, length, replicate, refl, ap, ◌∙◌, mul-le-mul_right, mul_assoc, add-mul, one-mul, zero-mul, arith}
use native.Mathlib.Nat.{pow-zero, pow-succ'}
use Rattle.std.specs.Int.Digits.{number_from_digits, number_from_digits_after}

pub number_after_zero : (b d : ℕ) → 0 * b + d ≡ d
number_after_zero b d = omega (arith, zero-mul b)

pub number_after_is : (b n : ℕ) (ds : List ℕ) → number_from_digits_after b n ds ≡ n * b ^ length ds + number_from_digits b ds
number_after_is b n [] = omega (arith, ap (λ x. n * x) (pow-zero b))
number_after_is b n (d ∷ ds) =
    let p = b ^ length ds in
    let one = number_after_is b (n * b + d) ds in
    let other : number_from_digits b (d ∷ ds) ≡ d * p + number_from_digits b ds = ap (λ m. number_from_digits_after b m ds) (number_after_zero b d) ∙ number_after_is b d ds in
    omega (arith, one, other, add-mul (n * b) d p, mul_assoc n b p, ap (λ x. n * x) (pow-succ' b (length ds)))

-- zeros at the front change nothing
pub number-zeros : (b n : ℕ) (ds : List ℕ) → number_from_digits b (replicate n 0 ++ ds) ≡ number_from_digits b ds
number-zeros b zero ds = refl
number-zeros b (suc n) ds = ap (λ m. number_from_digits_after b m (replicate n 0 ++ ds)) (number_after_zero b 0) ∙ number-zeros b n ds

-- with a number before them, digits write at least a power of the radix
pub number_after_large : (b n : ℕ) (ds : List ℕ) → 1 ≤ n → b ^ length ds ≤ number_from_digits_after b n ds
number_after_large b n ds h = omega (arith, number_after_is b n ds, mul-le-mul_right (b ^ length ds) h, one-mul (b ^ length ds))
