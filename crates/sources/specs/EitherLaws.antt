-- One of two makes keeps the laws of a source. Assumes nothing.
use Rattle.std.specs.Prelude.{ℕ, List}
use Rattle.sources.specs.Source.{Laws}
use Rattle.sources.specs.declared.either.Either.TheVariants.{One, Other}
use Rattle.sources.specs.Either.{either}

pub either_laws : {A B : Type 0} {f : A → ℕ} {g : B → ℕ} {h : A → List ℕ} {k : B → List ℕ} → Laws f h → Laws g k → Laws (either f g) (either h k)
either_laws p q = record {
  low = elim [ One a ↦ p.low a | Other b ↦ q.low b ];
  high = elim [ One a ↦ p.high a | Other b ↦ q.high b ];
  below = elim [ One a ↦ p.below a | Other b ↦ q.below b ];
  few = elim [ One a ↦ p.few a | Other b ↦ q.few b ];
}
