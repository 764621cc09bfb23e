-- The least weight of a number's forms, by falling place. Assumes nothing.
use Rattle.std.specs.Prelude.{ℕ, ◌+◌, ◌-◌, min, List, [], ◌∷◌}

-- the least weights of the forms of a prefix, and of one more than the prefix
pub record Pair : Type 0 where
  pub low : ℕ
  pub high : ℕ

-- one plain digit further down
abbrev pub fall : (ℕ → ℕ) → ℕ → Pair → ℕ → Pair
fall c B p r = record {
  low = min (p.low + c r) (p.high + c (B - r));
  high = min (p.low + c (r + 1)) (p.high + c (B - (r + 1)));
}

abbrev pub least_from : (ℕ → ℕ) → ℕ → Pair → List ℕ → Pair
least_from c B p [] = p
least_from c B p (r ∷ rs) = least_from c B (fall c B p r) rs

-- before the first digit: no digit, and the digit 1
abbrev pub start : Pair
start = record { low = 0; high = 1 }

abbrev pub least : (ℕ → ℕ) → ℕ → List ℕ → ℕ
least c B rs = (least_from c B start rs).low
