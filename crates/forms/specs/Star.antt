-- Letter L, the left-to-right star form, made from the plain digits from the top. Assumes nothing.
use Rattle.std.specs.Prelude.{ℕ, ◌+◌, ◌-◌, cond, List, [], ◌∷◌, ℤ, ◌==◌, nat_le, nat_lt}
use Rattle.forms.specs.Borrow.{Borrow, none, one, num, borrow_if, digit}

-- the next two plain digits: 0 below the last place
abbrev pub first : List ℕ → ℕ
first [] = 0
first (r ∷ rs) = r

abbrev pub second : List ℕ → ℕ
second [] = 0
second (r ∷ rs) = first rs

-- At a place with the plain digit p, the two below it being e and e2, the walk holds a borrow b and a memory t.
-- At p + e = B - 1 and e = B - 1 - t the digits further down decide: s is e + e2.
abbrev pub ahead : ℕ → Borrow → ℕ → Borrow
ahead B one s = cond (nat_lt s (B - 1)) none one
ahead B none s = cond (nat_le B s) one none

-- the new borrow at p + e = B - 1
abbrev pub kept : ℕ → Borrow → ℕ → ℕ → ℕ → Borrow
kept B b t e e2 = cond (e == B - 1 - t) (ahead B b (e + e2)) b

unfoldable pub turn : ℕ → Borrow → ℕ → ℕ → ℕ → ℕ → Borrow
turn B b t p e e2 = cond (p + e == B - 1) (kept B b t e e2) (borrow_if (nat_le B (p + e)))

unfoldable pub memory : ℕ → ℕ → ℕ → ℕ → ℕ
memory B t p e = cond (p + e == B - 1) t e

abbrev pub star_from : ℕ → Borrow → ℕ → List ℕ → List ℤ
star_from B b t [] = []
star_from B b t (p ∷ rs) = digit B b (p + num (turn B b t p (first rs) (second rs))) ∷ star_from B (turn B b t p (first rs) (second rs)) (memory B t p (first rs)) rs

-- one place more than the plain digits have
abbrev pub star : ℕ → List ℕ → List ℤ
star B rs = star_from B none 0 (0 ∷ rs)
