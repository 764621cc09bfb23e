-- Negating the digits of a form one by one. Assumes nothing.
use Rattle.std.proofs.Common.{◌≡◌, ℕ, zero, suc, ◌+◌, ◌<◌, ◌≤◌, List, [], ◌∷◌, ◌++◌, length, get_or, take, drop, set, ℤ, pos, neg_ℤ, nat_abs, refl, ap, add-one, append-nil, arith}
use Rattle.std.proofs.lemmas.List.{take_all, drop_all}
use Rattle.forms.specs.Form.{value, InRange, negated}
use Rattle.forms.proofs.Negation.{negated_represents}
use Rattle.digits.specs.Mirroring.{Mirrored}

-- the first i digits negated
abbrev pub turned : List ℤ → ℕ → List ℤ
turned f i = negated (take i f) ++ drop i f

pub digit_in_range : (B : ℕ) (f : List ℤ) (i : ℕ) → 0 < B → InRange B f → nat_abs (get_or f i (pos 0)) < B
digit_in_range B [] i h r = h
digit_in_range B (d ∷ ds) zero h r = r.0
digit_in_range B (d ∷ ds) (suc i) h r = digit_in_range B ds i h r.1

pub turned_at : (f : List ℤ) (i : ℕ) → i < length f → get_or (turned f i) i (pos 0) ≡ get_or f i (pos 0)
turned_at [] i h = absurd (omega arith)
turned_at (d ∷ ds) zero h = refl
turned_at (d ∷ ds) (suc i) h = turned_at ds i (omega arith)

turned_next : (f : List ℤ) (i : ℕ) → i < length f → set (turned f i) i (neg_ℤ (get_or f i (pos 0))) ≡ turned f (suc i)
turned_next [] i h = absurd (omega arith)
turned_next (d ∷ ds) zero h = refl
turned_next (d ∷ ds) (suc i) h = ap (λ l. neg_ℤ d ∷ l) (turned_next ds i (omega arith))

pub turned_more : (f form : List ℤ) (i : ℕ) (z : ℤ) → i < length f → form ≡ turned f i → z ≡ neg_ℤ (get_or f i (pos 0)) → set form i z ≡ turned f (i + 1)
turned_more f form i z h e k = rw (e, k, turned_next f i h, add-one i)

pub mirrored : (B : ℕ) (f form : List ℤ) (i : ℕ) → length f ≤ i → InRange B f → form ≡ turned f i → Mirrored B f form
mirrored B f form i h range e =
    let all = rw (take_all i f h, drop_all i f h, append-nil (negated f)) at e in
    record { area = all; represents = rw all (negated_represents B (value B f) f (record { range = range; worth = refl })) }
