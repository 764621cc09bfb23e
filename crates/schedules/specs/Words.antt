-- Words: how each kind is spelled in 32 bits, and what 32 bits read. Assumes nothing.
use Rattle.std.specs.Prelude.{◌≡◌, ℕ, zero, suc, ◌+◌, ◌*◌, ◌/◌, ◌%◌, ◌^◌, ◌<◌, Bool, true, false, cond, Ok, Err, Result, ◌≢◌, nat_le, nat_lt}
use Rattle.schedules.specs.declared.word.Word.{Word}
use Rattle.schedules.specs.declared.word.Word.TheVariants.{Header, Take, Raise, Multiply}
use Rattle.schedules.specs.declared.word.Misread.{Misread}
use Rattle.schedules.specs.declared.word.Misread.TheVariants.{StrayBit}

-- bit 8 of a use
abbrev pub sign_bit : Bool → ℕ
sign_bit true = 2 ^ 8
sign_bit false = 0

-- the kind in bits 31 and 30, the fields below, and every other bit zero
abbrev pub spelled : Word → ℕ
spelled (Header count radix) = count * 2 ^ 8 + radix
spelled (Take size negative) = 1 * 2 ^ 30 + (sign_bit negative + size)
spelled (Raise times) = 2 * 2 ^ 30 + times
spelled (Multiply size negative) = 3 * 2 ^ 30 + (sign_bit negative + size)

-- each number has eight bits
abbrev pub EightBits : Word → Type 0
EightBits (Header count radix) = (count < 2 ^ 8) × (radix < 2 ^ 8)
EightBits (Take size negative) = size < 2 ^ 8
EightBits (Raise times) = times < 2 ^ 8
EightBits (Multiply size negative) = size < 2 ^ 8

-- x if the fields have no bit from the limit on
abbrev pub unless_stray : ℕ → ℕ → Word → Result Word Misread
unless_stray limit fields x = cond (nat_lt fields limit) (Ok x) (Err StrayBit)

abbrev pub read_fields : ℕ → ℕ → Result Word Misread
read_fields zero n = unless_stray (2 ^ 16) n (Header (n / 2 ^ 8) (n % 2 ^ 8))
read_fields (suc zero) n = unless_stray (2 ^ 9) n (Take (n % 2 ^ 8) (nat_le (2 ^ 8) n))
read_fields (suc (suc zero)) n = unless_stray (2 ^ 8) n (Raise n)
read_fields (suc (suc (suc zero))) n = unless_stray (2 ^ 9) n (Multiply (n % 2 ^ 8) (nat_le (2 ^ 8) n))
read_fields (suc (suc (suc (suc k)))) n = Err StrayBit

-- the kind, and the fields below it
abbrev pub read : ℕ → Result Word Misread
read w = read_fields (w / 2 ^ 30) (w % 2 ^ 30)

-- the word that is spelled so; where there is none, a bit is astray
abbrev pub Reading : ℕ → Result Word Misread → Type 0
Reading w (Ok x) = EightBits x × (w ≡ spelled x)
Reading w (Err why) = (why ≡ StrayBit) × ((x : Word) → EightBits x → w ≢ spelled x)
