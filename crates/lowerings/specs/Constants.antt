-- What the record of a constant means. Assumes nothing.
use Rattle.std.specs.Prelude.{◌≡◌, ℕ, List, take, ℤ}
use Rattle.lowerings.specs.declared.constant.Constant.{Constant}
use Rattle.digits.specs.Signed.{sided_number}

abbrev pub digits_of : Constant → List ℕ
digits_of c = take c.length c.plain

abbrev pub number_of : Constant → ℤ
number_of c = sided_number c.radix c.negative (digits_of c)

-- the constant is z, in this radix and so many digits
pub record Writes (B n : ℕ) (z : ℤ) (c : Constant) : Type 0 where
  pub radix : c.radix ≡ B
  pub length : c.length ≡ n
  pub number : number_of c ≡ z
