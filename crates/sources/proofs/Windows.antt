-- A window that digits run through, and the number that stands in it. Assumes nothing.
use Rattle.std.proofs.lemmas.Grind.{common_steps}
use Rattle.std.proofs.lemmas.Bool.Decides.{nat_tests}
use Rattle.std.proofs.Common.{◌≡◌, ℕ, zero, suc, ◌^◌, ◌<◌, ◌≤◌, Bool, true, false, not, ◌||◌, eqb, leb, List, [], ◌∷◌, ◌++◌, length, get_or, take, drop, replicate, sym, refl, ap, ◌∙◌, inl, inr, append_assoc, append-nil, arith}
use Rattle.std.specs.Int.Digits.{number_from_digits, number_from_digits_after, AllBelowBase}
use Rattle.std.proofs.lemmas.Int.Digits.{number_after_append, number_after_ge, number_lt}
use Rattle.std.proofs.ByRecursion.{All-append, All-drop}
use Rattle.std.proofs.lemmas.List.{take-append-drop}
use Rattle.std.proofs.lemmas.Bool.{cases_Bool, le-leb, lt-leb, eqb-true, eqb-false, both_ways, or_parts, not-false}
use Rattle.sources.specs.Window.{fallen, last_digits, nonzero}
use Rattle.sources.proofs.Numbers.{number_after_zero, number-zeros, number_after_large}

-- all digits into a window: what it then holds, and whether another than 0 fell out
abbrev pub kept : List ℕ → List ℕ → List ℕ
kept ws [] = ws
kept ws (d ∷ ds) = kept (drop 1 (ws ++ (d ∷ []))) ds

abbrev pub lost : List ℕ → List ℕ → Bool
lost ws [] = false
lost ws (d ∷ ds) = not (eqb (get_or (ws ++ (d ∷ [])) 0 0) 0) || lost (drop 1 (ws ++ (d ∷ []))) ds

pub lost_none : (t : Bool) → t ≡ (t || false)
lost_none true = refl
lost_none false = refl

pub kept_last : (ds ws : List ℕ) → kept ws ds ≡ drop (length ds) (ws ++ ds)
kept_last [] ws = sym (append-nil ws)
kept_last (d ∷ ds) [] = kept_last ds []
kept_last (d ∷ ds) (w ∷ ws) = kept_last ds (ws ++ (d ∷ [])) ∙ ap (drop (length ds)) (append_assoc ws (d ∷ []) ds)

pub lost_nonzero : (ds ws : List ℕ) → lost ws ds ≡ nonzero (take (length ds) (ws ++ ds))
lost_nonzero [] ws = refl
lost_nonzero (d ∷ ds) [] = ap (λ t. not (eqb d 0) || t) (lost_nonzero ds [])
lost_nonzero (d ∷ ds) (w ∷ ws) = ap (λ t. not (eqb w 0) || t) (lost_nonzero ds (ws ++ (d ∷ [])) ∙ ap (λ ys. nonzero (take (length ds) ys)) (append_assoc ws (d ∷ []) ds))

-- a number is 0 just where all its digits are
nonzero_false : (b : ℕ) (ds : List ℕ) → nonzero ds ≡ false → number_from_digits b ds ≡ 0
nonzero_false b [] h = refl
nonzero_false b (d ∷ ds) h =
    let p = or_parts (not (eqb d 0)) (nonzero ds) h in
    let e = eqb-true d 0 (not-false (eqb d 0) p.0) in
    ap (λ m. number_from_digits_after b m ds) (number_after_zero b d ∙ e) ∙ nonzero_false b ds p.1

nonzero_true : (b : ℕ) (ds : List ℕ) → 2 ≤ b → nonzero ds ≡ true → 1 ≤ number_from_digits b ds
nonzero_true b [] low h = absurd (both_ways false refl h)
nonzero_true b (d ∷ ds) low h =
    let z : 0 < b = omega arith in
    let is : number_from_digits b (d ∷ ds) ≡ number_from_digits_after b d ds = ap (λ m. number_from_digits_after b m ds) (number_after_zero b d) in
    elim (cases_Bool (eqb d 0)) [
      | inl t ↦ let e = eqb-true d 0 t in let k : nonzero ds ≡ true = rw t at h in omega (arith, is, ap (λ m. number_from_digits_after b m ds) e, nonzero_true b ds low k)
      | inr t ↦ let e = eqb-false d 0 t in omega (arith, is, number_after_ge b d ds z)
    ]

-- the number in the window
cut : (b n : ℕ) (ds : List ℕ) → number_from_digits b ds ≡ number_from_digits_after b (number_from_digits b (fallen n ds)) (last_digits n ds)
cut b n ds =
    let xs = replicate n 0 ++ ds in
    sym (number-zeros b n ds) ∙ ap (number_from_digits b) (sym (take-append-drop (length ds) xs)) ∙ number_after_append b 0 (take (length ds) xs) (drop (length ds) xs)

pub length_last : (n : ℕ) (ds : List ℕ) → length (last_digits n ds) ≡ n
length_last n ds = grind (arith, common_steps, nat_tests)

under_zeros : (b n : ℕ) → 2 ≤ b → AllBelowBase b (replicate n 0)
under_zeros b zero low = tt
under_zeros b (suc n) low = (omega arith, under_zeros b n low)

pub last_below : (b n : ℕ) (ds : List ℕ) → 2 ≤ b → AllBelowBase b ds → AllBelowBase b (last_digits n ds)
last_below b n ds low below = All-drop (λ d. d < b) (length ds) (replicate n 0 ++ ds) (All-append (λ d. d < b) (replicate n 0) ds (under_zeros b n low) below)

pub last_value : (b n : ℕ) (ds : List ℕ) → nonzero (fallen n ds) ≡ false → number_from_digits b (last_digits n ds) ≡ number_from_digits b ds
last_value b n ds h = sym (cut b n ds ∙ ap (λ m. number_from_digits_after b m (last_digits n ds)) (nonzero_false b (fallen n ds) h))

pub fallen_large : (b n : ℕ) (ds : List ℕ) → 2 ≤ b → AllBelowBase b ds → nonzero (fallen n ds) ≡ leb (b ^ n) (number_from_digits b ds)
fallen_large b n ds low below = elim (cases_Bool (nonzero (fallen n ds))) [
  | inl t ↦
      let large = number_after_large b (number_from_digits b (fallen n ds)) (last_digits n ds) (nonzero_true b (fallen n ds) low t) in
      t ∙ sym (le-leb (b ^ n) (number_from_digits b ds) (omega (arith, large, cut b n ds, ap (λ m. b ^ m) (length_last n ds))))
  | inr t ↦
      let small = number_lt b (last_digits n ds) (last_below b n ds low below) in
      t ∙ sym (lt-leb (b ^ n) (number_from_digits b ds) (omega (arith, small, last_value b n ds t, ap (λ m. b ^ m) (length_last n ds))))
]
