-- How the letters are written. Assumes nothing.
use Rattle.std.specs.Prelude.{ℕ, cond, Option, Some, None, ◌==◌}
use Rattle.forms.specs.declared.Letter.{Letter}
use Rattle.forms.specs.declared.Letter.TheVariants as letter

abbrev pub character : Letter → ℕ
character letter.G = 71
character letter.B = 66
character letter.L = 76

-- the letter that a character stands for
abbrev pub letter_of : ℕ → Option Letter
letter_of c = cond (c == 71) (Some letter.G) (cond (c == 66) (Some letter.B) (cond (c == 76) (Some letter.L) None))
