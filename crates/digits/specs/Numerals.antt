-- Digits that passed the checks. Assumes nothing.
use Rattle.std.specs.Prelude.{ℕ, ◌<◌, ◌≤◌, List}
use Rattle.std.specs.List.{AllByRecursion}

-- digits with their radix, the top digit first
pub record Numeral (D : Type 0) : Type 0 where
  pub radix : ℕ
  pub digits : List D

-- a radix of 2 to 16, and digits whose sizes are below it
pub record Lawful {D : Type 0} (size : D → ℕ) (B : ℕ) (ds : List D) : Type 0 where
  pub low : 1 < B
  pub high : B ≤ 16
  pub below : AllByRecursion (λ d. size d < B) ds
