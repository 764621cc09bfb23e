-- A grouping keeps the laws of a source. Assumes nothing.
use Rattle.std.proofs.lemmas.Grind.{common_steps}
use Rattle.std.proofs.lemmas.Bool.Decides.{nat_tests}
use Rattle.std.specs.Prelude.{◌≡◌, ℕ, zero, suc, ◌*◌, ◌^◌, ◌<◌, ◌≤◌, ◌&&◌, List, [], ◌∷◌, length, take, drop, nat_le}
use Rattle.std.proofs.Common.{◌∙◌, arith, length-take}
use Rattle.std.proofs.Math.Nat.{pow-zero, pow-succ', pow-le-pow_right}
use Rattle.std.specs.List.{AllByRecursion}
use Rattle.std.specs.Int.Digits.{number_from_digits, AllBelowBase}
use Rattle.std.proofs.lemmas.Int.Digits.{number_lt}
use Rattle.std.proofs.ByRecursion.{All-take, All-drop}
use Rattle.std.proofs.lemmas.Bool.{and_parts, leb-true, cond_both}
use Rattle.sources.specs.Source.{Laws}
use Rattle.sources.specs.Grouping.{used, odd, groups, group_base, group_digits}

pow_one : (b : ℕ) → b ^ 1 ≡ b
pow_one b = let e : b ^ suc 0 ≡ b * b ^ 0 = pow-succ' b 0 in e ∙ rw (pow-zero b) (omega arith)

pub used_ok : (b w : ℕ) → b ≤ 16 → (1 ≤ used b w) × (used b w ≤ 4) × (b ^ used b w ≤ 16)
used_ok b w h =
    cond_both (nat_le 2 w && (nat_le w 4 && nat_le (b ^ w) 16)) w 1 (λ u. (1 ≤ u) × (u ≤ 4) × (b ^ u ≤ 16))
    (λ e.
    let p = and_parts (nat_le 2 w) (nat_le w 4 && nat_le (b ^ w) 16) e in
    let q = and_parts (nat_le w 4) (nat_le (b ^ w) 16) p.1 in
    (omega (arith, leb-true 2 w p.0), leb-true w 4 q.0, leb-true (b ^ w) 16 q.1))
    (λ e. (omega arith, omega arith, omega (arith, pow_one b)))

pub pow_low : (b u : ℕ) → 2 ≤ b → 1 ≤ u → 2 ≤ b ^ u
pow_low b u h k = let z : 0 < b = omega arith in omega (arith, pow_one b, pow-le-pow_right {n = b} z {i = 1} {j = u} k)

pub odd_le : (w n : ℕ) → 1 ≤ w → odd w n ≤ w
odd_le w n h = grind (arith, common_steps, nat_tests)

pub number_below : (b w k : ℕ) (ds : List ℕ) → 2 ≤ b → k ≤ w → AllBelowBase b ds → number_from_digits b (take k ds) < b ^ w
number_below b w k ds h l u =
    let z : 0 < b = omega arith in
    let small = number_lt b (take k ds) (All-take (λ d. d < b) k ds u) in
    let short : length (take k ds) ≤ w = simp length-take (omega arith) in
    omega (arith, small, pow-le-pow_right {n = b} z {i = length (take k ds)} {j = w} short)

groups_below : (f b w : ℕ) (ds : List ℕ) → 2 ≤ b → 1 ≤ w → AllBelowBase b ds → AllByRecursion (λ d. d < b ^ w) (groups f b w ds)
groups_below zero b w ds h l u = tt
groups_below (suc f) b w [] h l u = tt
groups_below (suc f) b w (d ∷ ds) h l u =
    let k = odd w (length (d ∷ ds)) in
    (number_below b w k (d ∷ ds) h (odd_le w (length (d ∷ ds)) l) u, groups_below f b w (drop k (d ∷ ds)) h l (All-drop (λ x. x < b) k (d ∷ ds) u))

groups_few : (f b w : ℕ) (ds : List ℕ) → length (groups f b w ds) ≤ f
groups_few zero b w ds = omega arith
groups_few (suc f) b w [] = omega arith
groups_few (suc f) b w (d ∷ ds) = omega (arith, groups_few f b w (drop (odd w (length (d ∷ ds))) (d ∷ ds)))

pub grouping_laws : {G S : Type 0} {base : S → ℕ} {coming : S → List ℕ} (source : G → S) (width : G → ℕ) → Laws base coming → Laws (λ g. group_base (base (source g)) (width g)) (λ g. group_digits (base (source g)) (width g) (coming (source g)))
grouping_laws {G} {S} {base} {coming} source width laws = record {
  low = λ g. let s = source g in pow_low (base s) (used (base s) (width g)) (laws.low s) (used_ok (base s) (width g) (laws.high s)).0;
  high = λ g. let s = source g in (used_ok (base s) (width g) (laws.high s)).2;
  below = λ g.
      let s = source g in
      let b = base s in
      let w = used b (width g) in
      groups_below (length (coming s)) b w (coming s) (laws.low s) (used_ok b (width g) (laws.high s)).0 (laws.below s);
  few = λ g. let s = source g in omega (arith, groups_few (length (coming s)) (base s) (used (base s) (width g)) (coming s), laws.few s);
}
