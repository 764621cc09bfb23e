-- One digit of a recoding from the low end. Assumes nothing.
use Rattle.std.specs.Prelude.{◌≡◌, ℕ, zero, suc, ◌+◌, ◌/◌, ◌%◌, List, ℤ, slice_index}
use Rattle.forms.specs.Borrow.{Borrow, borrow_if, digit}
use Rattle.forms.specs.Recoded.{Rule, rule_g}
use Rattle.digits.specs.declared.borrow_rule.Placed.{Placed}

-- the plain digit above index i, and 0 above the top
abbrev pub above : List ℕ → ℕ → ℕ
above rs zero = 0
above rs (suc i) = slice_index rs i

-- the digit that the rule makes under the plain digit q, and its borrow; m is the plain digit with the borrow below it
pub record Step (f : Rule) (B q m : ℕ) (p : Placed) : Type 0 where
  pub made : p.digit ≡ digit B (f B q m) m
  pub carry : borrow_if p.borrows ≡ f B q m

-- the borrow in row i at radix 2: i is 4 times the next bit plus 2 times the bit plus the carry
abbrev pub row_borrow : ℕ → Borrow
row_borrow i = rule_g 2 (i / 4) ((i / 2) % 2 + i % 2)

abbrev pub row_digit : ℕ → ℤ
row_digit i = digit 2 (row_borrow i) ((i / 2) % 2 + i % 2)
