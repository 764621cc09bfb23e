-- A file cut into lines, one after another. Assumes nothing.
use Rattle.std.proofs.Common.{◌≡◌, ℕ, zero, suc, ◌+◌, ◌<◌, ◌≤◌, min, Bool, true, false, cond, eqb, List, [], ◌∷◌, ◌++◌, length, is_ok, sym, ap, ◌∙◌, subst, append_assoc, arith, string_bytes}
use Rattle.std.specs.List.{IsFirstMatchOrLen}
use Rattle.jobs.specs.declared.listing.Listing.{Listing}
use Rattle.jobs.specs.Grammar.{line_feed}
use Rattle.jobs.specs.Entries.{Adds, told, entry, entries, form_count}
use Rattle.jobs.specs.Listing.{joined, cut}

abbrev pub is_line_feed : ℕ → Bool
is_line_feed b = eqb b line_feed

-- a line goes on up to its first line feed, or to the end of the file
cut_line : (line rest : List ℕ) (i : ℕ) → 0 < length line → length line ≡ min (i + 1) (length (line ++ rest)) → IsFirstMatchOrLen is_line_feed (line ++ rest) i → cut (line ++ rest) ≡ line ∷ cut rest
cut_line [] rest i some n f = absurd (omega arith)
cut_line (b ∷ []) rest zero some n f = ap (λ t. cond t ((b ∷ []) ∷ cut rest) (joined b (cut rest))) (f.1 (omega arith) 0)
cut_line (b ∷ []) [] (suc i) some n f = ap (λ t. cond t ((b ∷ []) ∷ []) (joined b [])) (f.0 0 0 (omega arith) (omega arith))
cut_line (b ∷ []) (x ∷ xs) (suc i) some n f = absurd (omega arith)
cut_line (b ∷ x ∷ line) rest zero some n f = absurd (omega arith)
cut_line (b ∷ x ∷ line) rest (suc i) some n f =
    let more = x ∷ line in
    ap (λ t. cond t ((b ∷ []) ∷ cut (more ++ rest)) (joined b (cut (more ++ rest)))) (f.0 0 0 (omega arith) (omega arith))
    ∙ ap (joined b) (cut_line more rest i (omega arith) (omega arith) (λ k d low high. f.0 (suc k) d (omega arith) (omega arith), λ h d. f.1 (omega arith) d))

pub cut_first : (file line rest : List ℕ) (i : ℕ) → file ≡ line ++ rest → length line ≡ min (i + 1) (length file) → IsFirstMatchOrLen is_line_feed file i → 0 < length file → cut file ≡ line ∷ cut rest
cut_first file line rest i e n f some =
    ap cut e ∙ cut_line line rest i (omega arith) (subst (λ l. length line ≡ min (i + 1) (length l)) e n) (subst (λ l. IsFirstMatchOrLen is_line_feed l i) e f)

-- some line where there is a byte, and no more lines than bytes
cut_some : (file : List ℕ) → 0 < length file → 0 < length (cut file)
cut_some [] h = absurd (omega arith)
cut_some (b ∷ bs) h = by (is_line_feed b) (cut bs)
  where
    by : (t : Bool) (ls : List (List ℕ)) → 0 < length (cond t ((b ∷ []) ∷ ls) (joined b ls))
    by true ls = omega arith
    by false [] = omega arith
    by false (l ∷ ls) = omega arith

cut_few : (file : List ℕ) → length (cut file) ≤ length file
cut_few [] = omega arith
cut_few (b ∷ bs) = by (is_line_feed b) (cut bs) (cut_few bs)
  where
    by : (t : Bool) (ls : List (List ℕ)) → length ls ≤ length bs → length (cond t ((b ∷ []) ∷ ls) (joined b ls)) ≤ suc (length bs)
    by true ls h = omega arith
    by false [] h = omega arith
    by false (l ∷ ls) h = omega arith

-- how far a listing has come: what is written, and the lines to come, are the whole
pub record Progress (file rest : List ℕ) (l : Listing) : Type 0 where
  pub written : string_bytes l.text ++ entries (l.lines + 1) (cut rest) ≡ entries 1 (cut file)
  pub counted : l.lines + length (cut rest) ≡ length (cut file)
  pub formed : l.forms + form_count (cut rest) ≡ form_count (cut file)
  pub apart : l.forms + l.faults ≡ l.lines

module _ (file all : List ℕ) (l : Listing) (p : Progress file all l) where
  pub room : 0 < length all → length file ≤ 65536 → l.lines < 65536
  room some short = omega (arith, p.counted, cut_some all some, cut_few file)

  pub progress_more : (line rest : List ℕ) (m : Listing) → cut all ≡ line ∷ cut rest → Adds line l m → Progress file rest m
  progress_more line rest m e a =
      record {
        written =
            ap (λ t. t ++ entries (m.lines + 1) (cut rest)) a.text ∙ append_assoc (string_bytes l.text) (entry (l.lines + 1) line) (entries (m.lines + 1) (cut rest))
            ∙ ap (λ k. string_bytes l.text ++ (entry (l.lines + 1) line ++ entries k (cut rest))) (let q : m.lines + 1 ≡ suc (l.lines + 1) = omega (arith, a.lines) in q)
            ∙ ap (λ ls. string_bytes l.text ++ entries (l.lines + 1) ls) (sym e) ∙ p.written;
        counted = omega (arith, p.counted, ap length e, a.lines);
        formed = omega (arith, p.formed, ap form_count e, a.forms);
        apart = by (is_ok (told line)) a.forms a.faults;
      }
    where
      by : (b : Bool) → m.forms ≡ l.forms + cond b 1 0 → m.faults ≡ l.faults + cond b 0 1 → m.forms + m.faults ≡ m.lines
      by true e f = omega (arith, p.apart, a.lines)
      by false e f = omega (arith, p.apart, a.lines)
