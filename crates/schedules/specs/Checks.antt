-- Checks in the order in which they refuse. Assumes nothing.
use Rattle.std.specs.Prelude.{ℕ, Bool, true, false, cond, Some, None, Ok, Err, Option, Result, nat_le, nat_lt}

abbrev pub refused_if : {F : Type 0} → Bool → F → Option F
refused_if true f = Some f
refused_if false f = None

-- the first of two checks that refuses
abbrev pub then : {F : Type 0} → Option F → Option F → Option F
then (Some f) g = Some f
then None g = g

abbrev pub answer : {F : Type 0} → Option F → Result (Unit {0}) F
answer (Some f) = Err f
answer None = Ok tt

-- n is outside a to b
abbrev pub outside : ℕ → ℕ → ℕ → Bool
outside a b n = cond (nat_le a n) (nat_lt b n) true

-- x, unless a check refuses
abbrev pub unless : {X F : Type 0} → Option F → X → Result X F
unless (Some f) x = Err f
unless None x = Ok x
