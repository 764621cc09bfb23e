-- The definitions at written digits, where they compute. Assumes nothing.
use Rattle.std.proofs.Common.{◌≡◌, [], ◌∷◌, pos, negsuc, refl}
use Rattle.forms.specs.Recoded.{rule_g, rule_b, recoded}
use Rattle.forms.specs.Star.{turn, memory, star}

star_ten : star 10 (9 ∷ 0 ∷ 9 ∷ 0 ∷ 9 ∷ 8 ∷ 7 ∷ []) ≡ (pos 0 ∷ pos 9 ∷ pos 0 ∷ pos 9 ∷ pos 1 ∷ pos 0 ∷ negsuc 0 ∷ negsuc 2 ∷ [])
unfolding turn memory
star_ten = refl

star_sixteen : star 16 (15 ∷ 0 ∷ 15 ∷ 15 ∷ 8 ∷ 7 ∷ []) ≡ (pos 0 ∷ pos 15 ∷ pos 1 ∷ pos 0 ∷ pos 0 ∷ negsuc 7 ∷ pos 7 ∷ [])
unfolding turn memory
star_sixteen = refl

nonadjacent_ten : recoded rule_g 10 (5 ∷ 4 ∷ 5 ∷ 5 ∷ 0 ∷ 9 ∷ []) ≡ (pos 0 ∷ pos 6 ∷ negsuc 4 ∷ negsuc 3 ∷ negsuc 4 ∷ pos 0 ∷ pos 9 ∷ [])
unfolding rule_g
nonadjacent_ten = refl

balanced_ten : recoded rule_b 10 (5 ∷ 4 ∷ 5 ∷ 5 ∷ 0 ∷ 9 ∷ []) ≡ (pos 1 ∷ negsuc 3 ∷ negsuc 4 ∷ negsuc 3 ∷ negsuc 4 ∷ pos 1 ∷ negsuc 0 ∷ [])
unfolding rule_b
balanced_ten = refl

-- the memory tells which lightest form it is, here where 1 and 8 alternate: without it the form were 0 1 9 -8 -1
star_memory : star 10 (1 ∷ 8 ∷ 1 ∷ 9 ∷ []) ≡ (pos 0 ∷ pos 1 ∷ pos 8 ∷ pos 2 ∷ negsuc 0 ∷ [])
unfolding turn memory
star_memory = refl
