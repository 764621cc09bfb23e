-- The schedule of a form and the form of a schedule. Assumes nothing.
use Rattle.std.proofs.lemmas.Grind.{common_steps}
use Rattle.std.proofs.lemmas.Bool.Decides.{nat_tests}
use Rattle.std.proofs.Common.{◌≡◌, ℕ, zero, suc, pred, ◌+◌, ◌^◌, ◌<◌, ◌≤◌, Bool, true, false, List, [], ◌∷◌, length, ℤ, pos, negsuc, ◌+ℤ◌, ◌*ℤ◌, nat_abs, sym, refl, ap, ◌∙◌, mul_comm, arith}
use native.Mathlib.Nat.{pow-zero, pow-succ'}
use Rattle.std.proofs.lemmas.Int.{ints}
use Rattle.forms.specs.Form.{value, InRange, padded}
use Rattle.forms.specs.Weight.{weight}
use Rattle.forms.proofs.Horner.{value_from, value_horner}
use Rattle.forms.proofs.Ring.{mul-assocℤ}
use Rattle.forms.proofs.Padding.{padded-length, padded_range}
use Rattle.schedules.specs.declared.word.Word.{Word}
use Rattle.schedules.specs.declared.word.Word.TheVariants.{Header, Take, Raise, Multiply}
use Rattle.schedules.specs.declared.word.Last.{Last}
use Rattle.schedules.specs.declared.word.Last.TheVariants as last
use Rattle.schedules.specs.Schedules.{Follow, end, take, raise, multiply, raised, signed_size, made_from, weighed}
use Rattle.schedules.specs.OfForm.{steps_below, steps_of}

-- the raises step from the last use down to place 0
pub below_raised : (gap : ℕ) (ds : List ℤ) → raised (steps_below gap ds) ≡ gap + length ds
below_raised zero [] = refl
below_raised (suc gap) [] = omega arith
below_raised gap (pos zero ∷ ds) = omega (arith, below_raised (suc gap) ds)
below_raised gap (pos (suc n) ∷ ds) = omega (arith, below_raised 0 ds)
below_raised gap (negsuc n ∷ ds) = omega (arith, below_raised 0 ds)

pub raised_few : (f : List ℤ) (n : ℕ) → length f ≤ suc n → raised (steps_of f) ≤ n
raised_few [] n h = omega arith
raised_few (pos zero ∷ ds) n h = raised_few ds n (omega arith)
raised_few (pos (suc m) ∷ ds) n h = omega (arith, below_raised 0 ds)
raised_few (negsuc m ∷ ds) n h = omega (arith, below_raised 0 ds)

pub below_follow : (B gap : ℕ) (ds : List ℤ) → gap + length ds ≤ 120 → InRange B ds → Follow B last.Use (steps_below gap ds)
below_follow B zero [] h r = end
below_follow B (suc gap) [] h r = raise (omega arith) (omega arith) end
below_follow B gap (pos zero ∷ ds) h r = below_follow B (suc gap) ds (omega arith) r.1
below_follow B gap (pos (suc n) ∷ ds) h r = raise (omega arith) (omega arith) (multiply (omega arith) r.0 (below_follow B 0 ds (omega arith) r.1))
below_follow B gap (negsuc n ∷ ds) h r = raise (omega arith) (omega arith) (multiply (omega arith) r.0 (below_follow B 0 ds (omega arith) r.1))

pub of_follow : (B : ℕ) (f : List ℤ) → length f ≤ 121 → InRange B f → Follow B last.Nothing (steps_of f)
of_follow B [] h r = end
of_follow B (pos zero ∷ ds) h r = of_follow B ds (omega arith) r.1
of_follow B (pos (suc n) ∷ ds) h r = take (omega arith) r.0 (below_follow B 0 ds (omega arith) r.1)
of_follow B (negsuc n ∷ ds) h r = take (omega arith) r.0 (below_follow B 0 ds (omega arith) r.1)

-- the number
raise_none : (B : ℕ) (z : ℤ) → z *ℤ pos (B ^ 0) ≡ z
raise_none B z = rw (pow-zero B) (omega (arith, ints))

raise_more : (B gap : ℕ) (z d : ℤ) → z *ℤ pos (B ^ suc gap) +ℤ d ≡ z *ℤ pos (B ^ gap) *ℤ pos B +ℤ d
raise_more B gap z d = ap (λ y. y +ℤ d) (ap (λ n. z *ℤ pos n) (pow-succ' B gap ∙ mul_comm B (B ^ gap)) ∙ sym (mul-assocℤ z (pos (B ^ gap)) (pos B)))

pub below_made : (B gap : ℕ) (z : ℤ) (ds : List ℤ) → made_from B z (steps_below gap ds) ≡ value_from B (z *ℤ pos (B ^ gap)) ds
below_made B zero z [] = sym (raise_none B z)
below_made B (suc gap) z [] = refl
below_made B gap z (pos zero ∷ ds) = below_made B (suc gap) z ds ∙ ap (λ y. value_from B y ds) (let e : z *ℤ pos (B ^ suc gap) ≡ z *ℤ pos (B ^ suc gap) +ℤ pos 0 = omega (arith, ints) in e ∙ raise_more B gap z (pos 0))
below_made B gap z (pos (suc n) ∷ ds) = below_made B 0 (z *ℤ pos (B ^ suc gap) +ℤ pos (suc n)) ds ∙ ap (λ y. value_from B y ds) (raise_none B (z *ℤ pos (B ^ suc gap) +ℤ pos (suc n)) ∙ raise_more B gap z (pos (suc n)))
below_made B gap z (negsuc n ∷ ds) = below_made B 0 (z *ℤ pos (B ^ suc gap) +ℤ negsuc n) ds ∙ ap (λ y. value_from B y ds) (raise_none B (z *ℤ pos (B ^ suc gap) +ℤ negsuc n) ∙ raise_more B gap z (negsuc n))

nothing_raised : (B : ℕ) (d : ℤ) → pos 0 +ℤ d ≡ pos 0 *ℤ pos B +ℤ d
nothing_raised B d = grind (arith, common_steps, nat_tests)

of_made_from : (B : ℕ) (f : List ℤ) → made_from B (pos 0) (steps_of f) ≡ value_from B (pos 0) f
of_made_from B [] = refl
of_made_from B (pos zero ∷ ds) = of_made_from B ds ∙ ap (λ y. value_from B y ds) (nothing_raised B (pos 0))
of_made_from B (pos (suc n) ∷ ds) = below_made B 0 (pos 0 +ℤ pos (suc n)) ds ∙ ap (λ y. value_from B y ds) (raise_none B (pos 0 +ℤ pos (suc n)) ∙ nothing_raised B (pos (suc n)))
of_made_from B (negsuc n ∷ ds) = below_made B 0 (pos 0 +ℤ negsuc n) ds ∙ ap (λ y. value_from B y ds) (raise_none B (pos 0 +ℤ negsuc n) ∙ nothing_raised B (negsuc n))

pub of_made : (B : ℕ) (f : List ℤ) → made_from B (pos 0) (steps_of f) ≡ value B f
of_made B f = of_made_from B f ∙ sym (value_horner B f)

-- the weight
pub below_weighs : (c : ℕ → ℕ) (gap : ℕ) (ds : List ℤ) → c 0 ≡ 0 → weighed c (steps_below gap ds) ≡ weight c ds
below_weighs c zero [] z = refl
below_weighs c (suc gap) [] z = refl
below_weighs c gap (pos zero ∷ ds) z = omega (arith, below_weighs c (suc gap) ds z)
below_weighs c gap (pos (suc n) ∷ ds) z = omega (arith, below_weighs c 0 ds z)
below_weighs c gap (negsuc n ∷ ds) z = omega (arith, below_weighs c 0 ds z)

pub of_weighs : (c : ℕ → ℕ) (f : List ℤ) → c 0 ≡ 0 → weighed c (steps_of f) ≡ weight c f
of_weighs c [] z = refl
of_weighs c (pos zero ∷ ds) z = omega (arith, of_weighs c ds z)
of_weighs c (pos (suc n) ∷ ds) z = omega (arith, below_weighs c 0 ds z)
of_weighs c (negsuc n ∷ ds) z = omega (arith, below_weighs c 0 ds z)

-- the digits of steps, gap places below the last use
abbrev pub digits : ℕ → List Word → List ℤ
digits gap [] = padded gap []
digits gap (Header count radix ∷ xs) = digits gap xs
digits gap (Take size negative ∷ xs) = signed_size size negative ∷ digits 0 xs
digits gap (Raise times ∷ xs) = digits times xs
digits gap (Multiply size negative ∷ xs) = padded (pred gap) (signed_size size negative ∷ digits 0 xs)

below_padded : (gap k : ℕ) (ds : List ℤ) → steps_below gap (padded k ds) ≡ steps_below (gap + k) ds
below_padded gap zero ds = grind (arith, common_steps, nat_tests)
below_padded gap (suc k) ds = below_padded (suc gap) k ds ∙ ap (λ n. steps_below n ds) (let e : suc gap + k ≡ gap + suc k = omega arith in e)

below_use : (gap size : ℕ) (b : Bool) (ds : List ℤ) → 0 < size → steps_below gap (signed_size size b ∷ ds) ≡ Raise (suc gap) ∷ Multiply size b ∷ steps_below 0 ds
below_use gap zero b ds h = absurd (omega arith)
below_use gap (suc n) true ds h = refl
below_use gap (suc n) false ds h = refl

-- the digits' steps are the steps again
abbrev Again : Last → ℕ → List Word → Type 0
Again last.Nothing gap xs = steps_of (digits 0 xs) ≡ xs
Again last.Use gap xs = steps_below 0 (digits 0 xs) ≡ xs
Again last.Raise gap xs = steps_below 0 (digits (suc gap) xs) ≡ Raise (suc gap) ∷ xs

of_take : (size : ℕ) (b : Bool) (ds : List ℤ) → 0 < size → steps_of (signed_size size b ∷ ds) ≡ Take size b ∷ steps_below 0 ds
of_take zero b ds h = absurd (omega arith)
of_take (suc n) true ds h = refl
of_take (suc n) false ds h = refl

again : (B gap : ℕ) {l : Last} {xs : List Word} → Follow B l xs → Again l gap xs
again B gap {l = last.Nothing} end = refl
again B gap {l = last.Use} end = refl
again B gap {l = last.Raise} end = below_padded 0 (suc gap) [] ∙ ap (λ n. steps_below n []) (let e : 0 + suc gap ≡ suc gap = omega arith in e)
again B gap (take {size = s} {negative = b} {xs = xs} p q f) = of_take s b (digits 0 xs) p ∙ ap (λ l. Take s b ∷ l) (again B 0 f)
again B gap (raise {times = zero} p q f) = absurd (omega arith)
again B gap (raise {times = suc t} p q f) = again B t f
again B gap (multiply {size = s} {negative = b} {xs = xs} p q f) =
    below_padded 0 gap (signed_size s b ∷ digits 0 xs) ∙ ap (λ n. steps_below n (signed_size s b ∷ digits 0 xs)) (let e : 0 + gap ≡ gap = omega arith in e) ∙ below_use gap s b (digits 0 xs) p ∙ ap (λ l. Raise (suc gap) ∷ Multiply s b ∷ l) (again B 0 f)

pub steps_digits : (B : ℕ) {xs : List Word} → Follow B last.Nothing xs → steps_of (digits 0 xs) ≡ xs
steps_digits B f = again B 0 f

-- as many places as the raises step down, and one for the take
abbrev places : Last → ℕ → List Word → Type 0
places last.Nothing gap xs = length (digits 0 xs) ≤ 1 + raised xs
places last.Use gap xs = length (digits 0 xs) ≤ raised xs
places last.Raise gap xs = length (digits (suc gap) xs) ≤ suc gap + raised xs

has_places : (B gap : ℕ) {l : Last} {xs : List Word} → Follow B l xs → places l gap xs
has_places B gap {l = last.Nothing} end = omega arith
has_places B gap {l = last.Use} end = omega arith
has_places B gap {l = last.Raise} end = omega (arith, padded-length gap [])
has_places B gap (take p q f) = omega (arith, has_places B 0 f)
has_places B gap (raise {times = zero} p q f) = absurd (omega arith)
has_places B gap (raise {times = suc t} p q f) = omega (arith, has_places B t f)
has_places B gap (multiply {size = s} {negative = b} {xs = xs} p q f) = omega (arith, has_places B 0 f, padded-length gap (signed_size s b ∷ digits 0 xs))

pub digits_few : (B : ℕ) {xs : List Word} → Follow B last.Nothing xs → length (digits 0 xs) ≤ 1 + raised xs
digits_few B f = has_places B 0 f

size_is : (s : ℕ) (b : Bool) → nat_abs (signed_size s b) ≡ s
size_is zero true = refl
size_is (suc n) true = refl
size_is s false = refl

pub digits_range : (B gap : ℕ) {l : Last} {xs : List Word} → 0 < B → Follow B l xs → InRange B (digits gap xs)
digits_range B gap h end = padded_range B gap [] h tt
digits_range B gap h (take {size = s} {negative = b} p q f) = (omega (arith, size_is s b), digits_range B 0 h f)
digits_range B gap h (raise {times = t} p q f) = digits_range B t h f
digits_range B gap h (multiply {size = s} {negative = b} {xs = xs} p q f) = padded_range B (pred gap) (signed_size s b ∷ digits 0 xs) h (omega (arith, size_is s b), digits_range B 0 h f)
