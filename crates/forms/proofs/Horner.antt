-- The value of a form by Horner's rule. Assumes nothing.
use Rattle.std.proofs.Common.{◌≡◌, ℕ, ◌^◌, List, [], ◌∷◌, length, ℤ, pos, ◌+ℤ◌, ◌*ℤ◌, arith}
use native.Mathlib.Nat.{pow-zero, pow-succ'}
use borrow.Author.Differences.{ints}
use lib.IntN.{zero-*ℤ}
use Rattle.forms.specs.Form.{value}
use Rattle.forms.proofs.Ring.{add-mulℤ, mul-assocℤ}

-- behind what is there
abbrev pub value_from : ℕ → ℤ → List ℤ → ℤ
value_from B z [] = z
value_from B z (d ∷ ds) = value_from B (z *ℤ pos B +ℤ d) ds

-- what is there moves up by as many places as digits follow
pub value_from_is : (B : ℕ) (z : ℤ) (ds : List ℤ) → value_from B z ds ≡ z *ℤ pos (B ^ length ds) +ℤ value B ds
value_from_is B z [] = rw (pow-zero B) (omega (arith, ints))
value_from_is B z (d ∷ ds) =
    let p = pos (B ^ length ds) in
    rw (pow-succ' B (length ds)) (omega (arith, ints, mul-assocℤ z (pos B) p, add-mulℤ (z *ℤ pos B) d p, value_from_is B (z *ℤ pos B +ℤ d) ds))

pub value_horner : (B : ℕ) (ds : List ℤ) → value B ds ≡ value_from B (pos 0) ds
value_horner B ds = omega (arith, ints, zero-*ℤ (pos (B ^ length ds)), value_from_is B (pos 0) ds)
