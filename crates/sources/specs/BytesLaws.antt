-- Bytes keep the laws of a source. Assumes nothing.
use Rattle.std.proofs.lemmas.Grind.{common_steps}
use Rattle.std.proofs.lemmas.Bool.Decides.{nat_tests}
use Rattle.std.specs.Prelude.{ℕ, ◌≤◌, List, [], ◌∷◌, length, take, drop, nat_lt}
use Rattle.std.proofs.Common.{arith, length-take, length-drop}
use Rattle.std.specs.Int.Digits.{AllBelowBase}
use Rattle.std.proofs.lemmas.Bool.{cond_both, ltb-true}
use Rattle.sources.specs.Source.{Laws}
use Rattle.sources.specs.Bytes.{fitted, room, front, digits_from}

pub fitted_in : (r : ℕ) → (2 ≤ fitted r) × (fitted r ≤ 16)
fitted_in r = grind (arith, common_steps, nat_tests)

pub room_in : (r : ℕ) → room r ≤ 4096
room_in r = grind (arith, common_steps, nat_tests)

pub front_below : (b : ℕ) (xs : List ℕ) → AllBelowBase b (front b xs)
front_below b [] = tt
front_below b (x ∷ xs) = cond_both (nat_lt x b) (x ∷ front b xs) [] (AllBelowBase b) (λ e. (ltb-true x b e, front_below b xs)) (λ e. tt)

pub front_few : (b : ℕ) (xs : List ℕ) → length (front b xs) ≤ length xs
front_few b [] = omega arith
front_few b (x ∷ xs) = cond_both (nat_lt x b) (x ∷ front b xs) [] (λ ds. length ds ≤ length (x ∷ xs)) (λ e. omega (arith, front_few b xs)) (λ e. omega arith)

pub digits_few : (r i : ℕ) (xs : List ℕ) → length (digits_from r i xs) ≤ 4096
digits_few r i xs = omega (arith, front_few (fitted r) (drop i (take (room r) xs)), length-drop i (take (room r) xs), length-take (room r) xs, room_in r)

pub bytes_laws : {S : Type 0} (radix given : S → ℕ) (bytes : S → List ℕ) → Laws (λ s. fitted (radix s)) (λ s. digits_from (radix s) (given s) (bytes s))
bytes_laws radix given bytes = record {
  low = λ s. (fitted_in (radix s)).0;
  high = λ s. (fitted_in (radix s)).1;
  below = λ s. front_below (fitted (radix s)) (drop (given s) (take (room (radix s)) (bytes s)));
  few = λ s. digits_few (radix s) (given s) (bytes s);
}
