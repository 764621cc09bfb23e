-- The plain digits of a form, from the low end: each place borrows where it would fall below 0. Assumes nothing.
use Rattle.std.specs.Prelude.{ℕ, ◌*◌, List, [], ◌∷◌, ℤ, pos, ◌+ℤ◌, ◌-ℤ◌, int_lt, unsigned_abs}
use Rattle.forms.specs.Borrow.{Borrow, none, num, borrow_if}

-- what the digits ds borrow from above
abbrev pub taken : List ℤ → Borrow
taken [] = none
taken (d ∷ ds) = borrow_if (int_lt (d -ℤ pos (num (taken ds))) (pos 0))

-- the digit that is left of d: u is borrowed below it, t above it
abbrev pub left_of : ℕ → ℤ → Borrow → Borrow → ℕ
left_of B d u t = unsigned_abs (d -ℤ pos (num u) +ℤ pos (B * num t))

abbrev pub settled : ℕ → List ℤ → List ℕ
settled B [] = []
settled B (d ∷ ds) = left_of B d (taken ds) (taken (d ∷ ds)) ∷ settled B ds
