-- The 32-bit numbers as a group: sums and differences from 0, modulo 2 ^ 32.
use Rattle.std.specs.Prelude.{ℕ, ◌+◌, ◌-◌, ◌%◌, ◌^◌, ◌<◌}
use Rattle.std.proofs.Common.{rules}
use Rattle.groups.specs.Laws.{Laws}
use Rattle.groups.specs.declared.words.WrappedWord.{WrappedWord}

abbrev of_value : ℕ → WrappedWord
of_value n = record { value = n }

-- every number that fits 32 bits
abbrev pub WordElement : WrappedWord → Type 0
WordElement x = x.value < 2 ^ 32

abbrev pub word_one : WrappedWord
word_one = of_value 0

abbrev pub word_times : WrappedWord → WrappedWord → WrappedWord
word_times x y = of_value ((x.value + y.value) % 2 ^ 32)

abbrev pub word_inv : WrappedWord → WrappedWord
word_inv x = of_value ((2 ^ 32 - x.value) % 2 ^ 32)

pub word_laws : Laws WordElement word_one word_times word_inv
word_laws = search rules
