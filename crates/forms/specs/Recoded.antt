-- The form that a local rule makes of plain digits, from the low end. Assumes nothing.
use Rattle.std.specs.Prelude.{ℕ, ◌+◌, ◌*◌, true, false, cond, List, [], ◌∷◌, ℤ, nat_le, nat_lt}
use Rattle.forms.specs.Borrow.{Borrow, none, num, borrow_if, digit}

-- whether a digit borrows: by B, the plain digit above it, and the plain digit with the borrow that it leaves below
abbrev pub Rule : Type 0
Rule = ℕ → ℕ → ℕ → Borrow

-- letter G: if the two reach the radix
unfoldable pub rule_g : Rule
rule_g B q m = borrow_if (nat_le B (m + q))

-- letter B: above a half, and at a half under an upper half
unfoldable pub rule_b : Rule
rule_b B q m = borrow_if (cond (nat_lt B (2 * m)) true (cond (nat_lt (2 * m) B) false (nat_le B (2 * q))))

-- what the plain digits rs borrow from the plain digit q above them
abbrev pub borrowed : Rule → ℕ → ℕ → List ℕ → Borrow
borrowed f B q [] = none
borrowed f B q (r ∷ rs) = f B q (r + num (borrowed f B r rs))

abbrev pub recoded_under : Rule → ℕ → ℕ → List ℕ → List ℤ
recoded_under f B q [] = []
recoded_under f B q (r ∷ rs) = digit B (borrowed f B q (r ∷ rs)) (r + num (borrowed f B r rs)) ∷ recoded_under f B r rs

-- one place more than the plain digits have
abbrev pub recoded : Rule → ℕ → List ℕ → List ℤ
recoded f B rs = recoded_under f B 0 (0 ∷ rs)
