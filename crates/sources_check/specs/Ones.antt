-- A run of ones. Assumes nothing.
use Rattle.std.specs.Prelude.{ℕ, min, List, replicate}

-- n ones, 4096 at most
abbrev pub ones : ℕ → List ℕ
ones n = replicate (min n 4096) 1
