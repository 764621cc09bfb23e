-- What is written for a file is its listing. Assumes nothing.
use Rattle.std.proofs.Common.{◌≡◌, ℕ, suc, ◌+◌, ◌-◌, ◌<◌, ◌≤◌, Bool, true, false, cond, List, [], ◌∷◌, ◌++◌, map, length, is_ok, Ok, Err, Result, sym, refl, subst, inr, arith}
use Rattle.std.specs.Int.Digits.{AllBelowBase}
use Rattle.forms.specs.declared.Letter.{Letter}
use Rattle.forms.specs.Letters.{Given}
use Rattle.forms.proofs.Whole.{made}
use Rattle.digits.specs.Signed.{sided_form}
use Rattle.jobs.specs.declared.reading.Shape.{Shape}
use Rattle.jobs.specs.declared.reading.Unlawful.{Unlawful}
use Rattle.jobs.specs.Reading.{digit_of}
use Rattle.jobs.specs.Listing.{number_of, FormListed, FaultListed, Lists, end, form, fault, ListsFile, cut}
use Rattle.jobs.specs.Entries.{told, entered, entries, form_count, shape_form, spelled_digits, AllListed}
use Rattle.jobs.proofs.Verdicts.{told_lawful, told_faulty, digits_found}

-- the letter's form of a signed number
given_sided : (l : Letter) (B : ℕ) (m : Bool) (rs : List ℕ) → 1 < B → AllBelowBase B rs → Given l B (number_of (record { letter = l; radix = B; negative = m; digits = rs })) (sided_form l B m rs)
given_sided l B false rs two plain = (made l B rs two plain).given
given_sided l B true rs two plain = (made l B rs two plain).below_zero

form_listed : (n : ℕ) (line : List ℕ) (s : Shape) → told line ≡ Ok s → FormListed line (entered n line (Ok s))
form_listed n line s e =
    let h = told_lawful line s e in
    let same = digits_found s line h in
    record {
      job = record { letter = s.letter; radix = s.radix; negative = s.negative; digits = h.digits };
      form = shape_form s (map digit_of (spelled_digits s line));
      spells = (h.lawful, h.is);
      given = subst (λ rs. Given s.letter s.radix (number_of (record { letter = s.letter; radix = s.radix; negative = s.negative; digits = h.digits })) (shape_form s rs)) (sym same) (given_sided s.letter s.radix s.negative h.digits h.lawful.low h.lawful.plain);
      listed = refl;
    }

fault_listed : (n : ℕ) (line : List ℕ) (u : Unlawful) → told line ≡ Err u → FaultListed n line (entered n line (Err u))
fault_listed n line u e = record { column = u.column; faulty = told_faulty line u e; listed = refl }

-- how many lines are faulty
fault_count : List (List ℕ) → ℕ
fault_count [] = 0
fault_count (l ∷ ls) = cond (is_ok (told l)) 0 1 + fault_count ls

recounted : {n forms faults more fewer : ℕ} {ls : List (List ℕ)} {outs : List ℕ} → Lists n ls outs forms faults → forms ≡ more → faults ≡ fewer → Lists n ls outs more fewer
recounted {n} {forms} {faults} {more} {fewer} {ls} {outs} h e f = subst (λ k. Lists n ls outs more k) f (subst (λ k. Lists n ls outs k faults) e h)

lists : (n : ℕ) (ls : List (List ℕ)) → Lists n ls (entries n ls) (form_count ls) (fault_count ls)
unfolding fault_count
lists n [] = end
lists n (l ∷ ls) = by (told l) refl (lists (suc n) ls)
  where
    by : (o : Result Shape Unlawful) → told l ≡ o → Lists (suc n) ls (entries (suc n) ls) (form_count ls) (fault_count ls) → Lists n (l ∷ ls) (entered n l o ++ entries (suc n) ls) (cond (is_ok o) 1 0 + form_count ls) (cond (is_ok o) 0 1 + fault_count ls)
    by (Ok s) e more = recounted (form (form_listed n l s e) more) (omega arith) (omega arith)
    by (Err u) e more = recounted (fault (fault_listed n l u e) more) (omega arith) (omega arith)

counts : (ls : List (List ℕ)) → form_count ls + fault_count ls ≡ length ls
unfolding fault_count
counts [] = refl
counts (l ∷ ls) = by (is_ok (told l)) (counts ls)
  where
    by : (b : Bool) → form_count ls + fault_count ls ≡ length ls → cond b 1 0 + form_count ls + (cond b 0 1 + fault_count ls) ≡ suc (length ls)
    by true e = omega arith
    by false e = omega arith

pub whole_listed : (file text : List ℕ) (lines forms faults : ℕ) → length file ≤ 65536 → AllListed file [] text lines forms → faults ≡ lines - forms → ListsFile file text lines forms faults
whole_listed file text lines forms faults short h rest =
    let faulty : fault_count (cut file) ≡ faults = omega (arith, h.lines_are, h.forms_are, counts (cut file)) in
    inr (record { short = short; lists = subst (λ t. Lists 1 (cut file) t forms faults) (sym h.text) (recounted (lists 1 (cut file)) (sym h.forms_are) faulty); counted = h.lines_are })
