-- What one of two makes means. Assumes nothing.
use Rattle.sources.specs.declared.either.Either.{Either}
use Rattle.sources.specs.declared.either.Either.TheVariants.{One, Other}

abbrev pub either : {A B C : Type 0} → (A → C) → (B → C) → Either A B → C
either f g (One a) = f a
either f g (Other b) = g b
