-- The digits that stand in some bytes. Assumes nothing.
use Rattle.std.specs.Prelude.{◌≡◌, ℕ, ◌<◌, ◌≤◌, Bool, cond, ◌&&◌, List, [], ◌∷◌, length, take, drop, Some, None, Option, nat_le, nat_lt, slice_index}
use Rattle.std.specs.Int.Digits.{AllBelowBase}

-- a radix is 2 to 16
abbrev pub is_radix : ℕ → Bool
is_radix r = nat_le 2 r && nat_le r 16

-- any other number counts as 2, and leaves room for no digit
abbrev pub fitted : ℕ → ℕ
fitted r = cond (is_radix r) r 2

abbrev pub room : ℕ → ℕ
room r = cond (is_radix r) 4096 0

-- the longest front of xs whose elements are all below b
abbrev pub front : ℕ → List ℕ → List ℕ
front b [] = []
front b (x ∷ xs) = cond (nat_lt x b) (x ∷ front b xs) []

-- the digits of the bytes xs from the place i on
abbrev pub digits_from : ℕ → ℕ → List ℕ → List ℕ
digits_from r i xs = front (fitted r) (drop i (take (room r) xs))

abbrev pub first : List ℕ → Option ℕ
first [] = None
first (d ∷ ds) = Some d

-- ds is the longest front of xs whose elements are all below b, at most n of them
pub record Longest (b n : ℕ) (xs ds : List ℕ) : Type 0 where
  pub fronts : take (length ds) xs ≡ ds
  pub below : AllBelowBase b ds
  pub few : length ds ≤ n
  pub stops : length ds < n → length ds < length xs → b ≤ slice_index xs (length ds)
