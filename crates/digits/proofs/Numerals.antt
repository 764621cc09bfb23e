-- What the type of a numeral says of it. Assumes nothing.
use Rattle.std.proofs.Common.{◌≡◌, ℕ, ◌<◌, List, [], ◌∷◌, ℤ, nat_abs, ap, subst}
use Rattle.std.specs.List.{AllByRecursion}
use Rattle.forms.specs.Form.{InRange}
use Rattle.digits.specs.Numerals.{Numeral, Lawful}

-- the fields are the parts of the value that they make
pub radix_is : {D : Type 0} {B : ℕ} {ds : List D} {n : Numeral D} → record { radix = B; digits = ds } ≡ n → B ≡ n.radix
radix_is e = ap (λ n. n.radix) e

pub digits_are : {D : Type 0} {B : ℕ} {ds : List D} {n : Numeral D} → record { radix = B; digits = ds } ≡ n → ds ≡ n.digits
digits_are e = ap (λ n. n.digits) e

-- what holds of the fields holds of that value
pub lawful : {D : Type 0} (size : D → ℕ) (B : ℕ) (ds : List D) (n : Numeral D) → record { radix = B; digits = ds } ≡ n → Lawful size B ds → Lawful size n.radix n.digits
lawful size B ds n e h = subst (λ m. Lawful size m.radix m.digits) e h

pub in_range : (B : ℕ) (ds : List ℤ) → AllByRecursion (λ d. nat_abs d < B) ds → InRange B ds
in_range B [] h = tt
in_range B (d ∷ ds) h = (h.0, in_range B ds h.1)

pub sizes_in_range : (B : ℕ) (ds : List ℤ) → InRange B ds → AllByRecursion (λ d. nat_abs d < B) ds
sizes_in_range B [] h = tt
sizes_in_range B (d ∷ ds) h = (h.0, sizes_in_range B ds h.1)
