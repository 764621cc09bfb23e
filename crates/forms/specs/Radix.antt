-- Which numbers are a radix. Assumes nothing.
use Rattle.std.specs.Prelude.{ℕ, ◌&&◌, Option, Some, None, if◌then◌else◌, nat_le}

-- n, if it is 2 to 16
abbrev pub radix : ℕ → Option ℕ
radix n = if nat_le 2 n && nat_le n 16 then Some n else None
