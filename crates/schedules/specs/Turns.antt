-- What the last word of a schedule was. Assumes nothing.
use Rattle.std.specs.Prelude.{ℕ, List, [], ◌∷◌}
use Rattle.schedules.specs.declared.word.Word.{Word}
use Rattle.schedules.specs.declared.word.Word.TheVariants.{Header, Take, Raise, Multiply}
use Rattle.schedules.specs.declared.word.Last.{Last}
use Rattle.schedules.specs.declared.word.Last.TheVariants as last

-- 1 for a use
abbrev pub last_use : Last → ℕ
last_use last.Nothing = 0
last_use last.Use = 1
last_use last.Raise = 0

abbrev pub last_from : Last → List Word → Last
last_from l [] = l
last_from l (Header count radix ∷ xs) = last_from l xs
last_from l (Take size negative ∷ xs) = last_from last.Use xs
last_from l (Raise times ∷ xs) = last_from last.Raise xs
last_from l (Multiply size negative ∷ xs) = last_from last.Use xs

abbrev pub last_of : List Word → Last
last_of xs = last_from last.Nothing xs
