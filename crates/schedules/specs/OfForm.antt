-- The schedule of a form: its nonzero digits as uses, top first, with raises between them and down to place 0. Assumes nothing.
use Rattle.std.specs.Prelude.{ℕ, zero, suc, true, false, List, [], ◌∷◌, ℤ, pos, negsuc}
use Rattle.schedules.specs.declared.word.Word.{Word}
use Rattle.schedules.specs.declared.word.Word.TheVariants.{Take, Raise, Multiply}
use Rattle.schedules.specs.Schedules.{schedule}

-- after a use, and gap places further down
abbrev pub steps_below : ℕ → List ℤ → List Word
steps_below zero [] = []
steps_below (suc gap) [] = Raise (suc gap) ∷ []
steps_below gap (pos zero ∷ ds) = steps_below (suc gap) ds
steps_below gap (pos (suc n) ∷ ds) = Raise (suc gap) ∷ Multiply (suc n) false ∷ steps_below 0 ds
steps_below gap (negsuc n ∷ ds) = Raise (suc gap) ∷ Multiply (suc n) true ∷ steps_below 0 ds

abbrev pub steps_of : List ℤ → List Word
steps_of [] = []
steps_of (pos zero ∷ ds) = steps_of ds
steps_of (pos (suc n) ∷ ds) = Take (suc n) false ∷ steps_below 0 ds
steps_of (negsuc n ∷ ds) = Take (suc n) true ∷ steps_below 0 ds

-- for the zero form the header alone
abbrev pub schedule_of : ℕ → List ℤ → List ℕ
schedule_of B f = schedule B (steps_of f)
