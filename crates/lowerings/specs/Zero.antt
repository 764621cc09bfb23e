-- Digits that are all 0. Assumes nothing.
use Rattle.std.specs.Prelude.{ℕ, Bool, List, ◌==◌}
use Rattle.std.specs.List.{list_all}

abbrev pub zeros : List ℕ → Bool
zeros rs = list_all (λ r. r == 0) rs
