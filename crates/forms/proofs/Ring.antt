-- Laws of the product of integers that the library lacks. Assumes nothing.
use Rattle.std.proofs.Common.{◌≡◌, ℕ, ◌*◌, ℤ, ◌+ℤ◌, ◌*ℤ◌, ap, arith}
use borrow.Author.Differences.{up, down, sum_is_lem, product_is, ints}

pub add-mulℤ : (a b c : ℤ) → (a +ℤ b) *ℤ c ≡ a *ℤ c +ℤ b *ℤ c
add-mulℤ a b c =
    let s = sum_is_lem a b in
    omega (arith, ints, ap (λ n. n * up c) s, ap (λ n. n * down c) s)

pub mul-assocℤ : (a b c : ℤ) → (a *ℤ b) *ℤ c ≡ a *ℤ (b *ℤ c)
mul-assocℤ a b c =
    let p = product_is a b in
    let q = product_is b c in
    let by = λ (k m n : ℕ) (e : m ≡ n). ap (λ x. x * k) e in
    omega (arith, ints, by (up c) _ _ p.0, by (down c) _ _ p.1, by (down c) _ _ p.0, by (up c) _ _ p.1, by (up a) _ _ q.0, by (down a) _ _ q.1, by (up a) _ _ q.1, by (down a) _ _ q.0)
