-- Products and inverses of orders, lane by lane; the code masks an index by `& 15`.
use Rattle.std.proofs.Common.{◌≡◌, ℕ, ◌+◌, ◌%◌, ◌<◌, List, length, get_or, set, add-one, arith, length-set}
use lib.Bits.{bit_and}
use Rattle.std.proofs.lemmas.Nat.{and_mask}
use Rattle.std.proofs.lemmas.List.Edits.{fill_by_more}
use Rattle.std.proofs.lemmas.List.FromFn.{fill_by_all}
use Rattle.groups.specs.Lanes.{after, back}

masked : (n : ℕ) → bit_and n 15 ≡ n % 16
masked n = and_mask n 4

pub back_more : (p s : List ℕ) (i : ℕ) → s ≡ back p i → set s (bit_and (get_or p i 0) 15) i ≡ back p (i + 1)
unfolding back
back_more p s i e = rw (add-one, masked, e)

pub after_more : (p q s : List ℕ) (i : ℕ) → i < 16 → (length s ≡ 16) × ((k : ℕ) → k < i → get_or s k 0 ≡ get_or p (bit_and (get_or q k 0) 15) 0) → (length (set s i (get_or p (bit_and (get_or q i 0) 15) 0)) ≡ 16) × ((k : ℕ) → k < i + 1 → get_or (set s i (get_or p (bit_and (get_or q i 0) 15) 0)) k 0 ≡ get_or p (bit_and (get_or q k 0) 15) 0)
after_more p q s i h was = (
  simp length-set was.0,
  fill_by_more (λ k. get_or p (bit_and (get_or q k 0) 15) 0) s i 0 (omega (arith, was.0)) was.1,
)

pub after_all : (p q s : List ℕ) → length s ≡ 16 → ((k : ℕ) → k < 16 → get_or s k 0 ≡ get_or p (bit_and (get_or q k 0) 15) 0) → s ≡ after p q
unfolding after
after_all p q s e h = fill_by_all (λ i. get_or p (get_or q i 0 % 16) 0) s 16 0 e (λ k l. rw masked at (h k l))
