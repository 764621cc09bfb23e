-- What is known once checks have passed. Assumes nothing.
use Rattle.std.proofs.lemmas.Grind.{common_steps}
use Rattle.std.proofs.lemmas.Bool.Decides.{nat_tests}
use Rattle.std.proofs.Common.{◌≡◌, ℕ, ◌<◌, ◌≤◌, Bool, true, false, cond, leb, Some, None, Ok, Option, refl, arith}
use Rattle.schedules.specs.Checks.{refused_if, then, answer, outside}
use Rattle.schedules.specs.Reading.{size_check}

pub passed : {F : Type 0} (b : Bool) (f : F) → refused_if b f ≡ None → b ≡ false
passed false f e = refl
passed true f e = cc

pub both : {F : Type 0} (p q : Option F) → then p q ≡ None → (p ≡ None) × (q ≡ None)
both None q e = (refl, e)
both (Some f) q e = cc

pub none_refused : {F : Type 0} (o : Option F) → Ok tt ≡ answer o → o ≡ None
none_refused None e = refl
none_refused (Some f) e = cc

pub at_least_one : (t : Bool) (n : ℕ) → cond (leb 1 n) t true ≡ false → (0 < n) × (t ≡ false)
at_least_one t n e = grind (arith, common_steps, nat_tests)

-- a number that is not outside
pub within : (a b n : ℕ) → outside a b n ≡ false → (a ≤ n) × (n ≤ b)
within a b n e = grind (arith, common_steps, nat_tests)

pub inside : (a b n : ℕ) → a ≤ n → n ≤ b → outside a b n ≡ false
inside a b n h k = grind (arith, common_steps, nat_tests)

pub size_within : (B n : ℕ) → size_check B n ≡ None → (0 < n) × (n < B)
size_within B n e = grind (arith, common_steps, nat_tests)

pub size_inside : (B n : ℕ) → 0 < n → n < B → size_check B n ≡ None
size_inside B n h k = grind (arith, common_steps, nat_tests)
