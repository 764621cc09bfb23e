-- The text of a form, digit by digit. Assumes nothing.
use Rattle.std.proofs.Common.{◌≡◌, ℕ, suc, ◌+◌, ◌-◌, ◌<◌, Bool, true, false, cond, not, eqb, List, [], ◌∷◌, ◌++◌, length, length-drop, take, drop, ℤ, pos, get_or, append-nil, nat_abs, sym, refl, ap, ◌∙◌, append_assoc, arith, lt-ltb, le-ltb}
use native.Mathlib.Decide.{dec_lt}
use Rattle.std.specs.List.{position, position_or_len}
use Rattle.std.specs.Option.{unwrap_or}
use Rattle.std.specs.Fmt.{signed_decimal as decimal_of}
use Rattle.std.proofs.lemmas.List.{drop_all, take_all, take_more}
use Rattle.jobs.specs.Listing.{from_top, commas}

abbrev pub nonzero : ℤ → Bool
nonzero d = not (eqb (nat_abs d) 0)

-- the rest of a form from its first nonzero digit
top_found : (f : List ℤ) → drop (position_or_len nonzero f) f ≡ from_top f
top_found [] = refl
top_found (d ∷ ds) = by (eqb (nat_abs d) 0) (top_found ds)
  where
    by : (b : Bool) → drop (position_or_len nonzero ds) ds ≡ from_top ds → drop (cond (not (not b)) (1 + position_or_len nonzero ds) 0) (d ∷ ds) ≡ cond b (from_top ds) (d ∷ ds)
    by true e = ap (λ n. drop n (d ∷ ds)) (let one : 1 + position_or_len nonzero ds ≡ suc (position_or_len nonzero ds) = omega arith in one) ∙ e
    by false e = refl

pub top_told : (f : List ℤ) → drop (unwrap_or (position nonzero f) (length f)) f ≡ from_top f
top_told f = by (dec_lt (position_or_len nonzero f) (length f))
  where
    by : Dec (position_or_len nonzero f < length f) → drop (unwrap_or (position nonzero f) (length f)) f ≡ from_top f
    by (yes h) = rw (lt-ltb (position_or_len nonzero f) (length f) h) (top_found f)
    by (no h) = rw (le-ltb (position_or_len nonzero f) (length f) (omega arith)) (drop_all (length f) f (omega arith) ∙ sym (drop_all (position_or_len nonzero f) f (omega arith)) ∙ top_found f)

-- one digit more behind a comma
pub commas-append : (ds es : List ℤ) → commas (ds ++ es) ≡ commas ds ++ commas es
commas-append [] es = refl
commas-append (d ∷ ds) es = ap (λ l. 44 ∷ l) (ap (λ l. decimal_of d ++ l) (commas-append ds es) ∙ sym (append_assoc (decimal_of d) (commas ds) (commas es)))

-- the part of a slice from an index to its end
pub rest_of : (f : List ℤ) (i : ℕ) → take (length f - i) (drop i f) ≡ drop i f
rest_of f i = take_all (length f - i) (drop i f) (omega (arith, length-drop i f))

pub commas_more : (ds : List ℤ) (i : ℕ) → i < length ds → commas (take i ds) ++ (44 ∷ decimal_of (get_or ds i (pos 0))) ≡ commas (take (i + 1) ds)
commas_more ds i h = ap (λ l. commas (take i ds) ++ (44 ∷ l)) (sym (append-nil (decimal_of (get_or ds i (pos 0))))) ∙ sym (commas-append (take i ds) (get_or ds i (pos 0) ∷ [])) ∙ ap commas (sym (take_more ds i (pos 0) h))
