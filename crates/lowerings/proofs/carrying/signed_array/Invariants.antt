use Rattle.std.proofs.Common.{◌≡◌, ◌+◌, ◌∷◌, length, take, pos}
use Rattle.lowerings.specs.Constants.{digits_of}
use Rattle.lowerings.specs.Held.{signed_digits}
use Rattle.lowerings.proofs.carrying.signed_array.Given as goal

-- the digits up to the index are there with their sign
abbrev pub invariant-loop-i : goal.invariant-loop-i
invariant-loop-i l = (length l.form ≡ 121) × (take (l.i + 1) l.form ≡ pos 0 ∷ signed_digits l.constant.negative (take l.i (digits_of l.constant)))
