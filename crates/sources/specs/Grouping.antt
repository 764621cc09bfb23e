-- Digits taken together: w digits of radix b as one digit of radix b ^ w. Assumes nothing.
use Rattle.std.specs.Prelude.{ℕ, zero, suc, ◌%◌, ◌^◌, cond, ◌&&◌, List, [], ◌∷◌, length, take, drop, ◌==◌, nat_le}
use Rattle.std.specs.Int.Digits.{number_from_digits}

-- the width in use where w is asked for: w if it is 2 to 4 and b ^ w is at most 16, else 1
abbrev pub used : ℕ → ℕ → ℕ
used b w = cond (nat_le 2 w && (nat_le w 4 && nat_le (b ^ w) 16)) w 1

-- how many of n digits the first group takes: n % w of them, or w where n is a multiple of w
abbrev pub odd : ℕ → ℕ → ℕ
odd w n = cond (n % w == 0) w (n % w)

-- group by group, f groups at most
abbrev pub groups : ℕ → ℕ → ℕ → List ℕ → List ℕ
groups zero b w ds = []
groups (suc f) b w [] = []
groups (suc f) b w (d ∷ ds) =
    let k = odd w (length (d ∷ ds)) in
    number_from_digits b (take k (d ∷ ds)) ∷ groups f b w (drop k (d ∷ ds))

abbrev pub grouped : ℕ → ℕ → List ℕ → List ℕ
grouped b w ds = groups (length ds) b w ds

-- the radix and the digits where w is asked for
abbrev pub group_base : ℕ → ℕ → ℕ
group_base b w = b ^ used b w

abbrev pub group_digits : ℕ → ℕ → List ℕ → List ℕ
group_digits b w ds = grouped b (used b w) ds
