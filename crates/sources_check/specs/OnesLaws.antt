-- A run of ones keeps the laws of a source. Assumes nothing.
use Rattle.std.specs.Prelude.{ℕ, zero, suc, min, replicate}
use Rattle.std.proofs.Common.{arith}
use Rattle.std.proofs.lemmas.List.{length-replicate}
use Rattle.std.specs.Int.Digits.{AllBelowBase}
use Rattle.sources.specs.Source.{Laws}
use Rattle.sources_check.specs.Ones.{ones}

ones_below : (n : ℕ) → AllBelowBase 2 (replicate n 1)
ones_below zero = tt
ones_below (suc n) = (omega arith, ones_below n)

pub ones_laws : {S : Type 0} (count : S → ℕ) → Laws (λ (s : S). 2) (λ (s : S). ones (count s))
ones_laws count = record {
  low = λ s. omega arith;
  high = λ s. omega arith;
  below = λ s. ones_below (min (count s) 4096);
  few = λ s. omega (arith, length-replicate {A = ℕ} (min (count s) 4096) 1);
}
