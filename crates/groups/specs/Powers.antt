-- The powers of a value, by naturals and by integers, and their laws in a group.
use Rattle.std.specs.Prelude.{◌≡◌, ℕ, zero, suc, ℤ, pos, negsuc, ◌+ℤ◌, ◌*ℤ◌, neg_ℤ}

-- by 0 the unit, by n + 1 the power by n times the value
abbrev pub power : {G : Type 0} → G → (G → G → G) → G → ℕ → G
power one times x zero = one
power one times x (suc n) = times (power one times x n) x

-- by -n the inverse of the power by n
abbrev pub powerℤ : {G : Type 0} → G → (G → G → G) → (G → G) → G → ℤ → G
powerℤ one times inv x (pos n) = power one times x n
powerℤ one times inv x (negsuc n) = inv (power one times x (suc n))

-- what holds of the powers of every element, by all integers
pub record PowerLaws {G : Type 0} (element : G → Type 0) (one : G) (times : G → G → G) (inv : G → G) : Type 0 where
  pub inside : (x : G) → element x → (a : ℤ) → element (powerℤ one times inv x a)
  pub of_sum : (x : G) → element x → (a b : ℤ) → powerℤ one times inv x (a +ℤ b) ≡ times (powerℤ one times inv x a) (powerℤ one times inv x b)
  pub of_product : (x : G) → element x → (a b : ℤ) → powerℤ one times inv x (a *ℤ b) ≡ powerℤ one times inv (powerℤ one times inv x a) b
  pub of_negation : (x : G) → element x → (a : ℤ) → powerℤ one times inv x (neg_ℤ a) ≡ inv (powerℤ one times inv x a)
  pub commute : (x : G) → element x → (a b : ℤ) → times (powerℤ one times inv x a) (powerℤ one times inv x b) ≡ times (powerℤ one times inv x b) (powerℤ one times inv x a)
