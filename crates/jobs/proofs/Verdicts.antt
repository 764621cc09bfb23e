-- What the reader tells of a line is what the grammar says of it. Assumes nothing.
use Rattle.std.proofs.Common.{◌≡◌, ℕ, suc, ◌+◌, ◌-◌, ◌≤◌, List, [], ◌∷◌, ◌++◌, map, length, take, drop, Some, None, Ok, Err, decimal, Option, Result, sym, refl, ap, ◌∙◌, subst, append_assoc, append-nil, arith, length-append}
use lib.ListN.{length-map}
use Rattle.std.proofs.lemmas.List.{take_at, drop_at, length_push, take_all}
use Rattle.std.specs.Int.Digits.{AllBelowBase}
use Rattle.jobs.specs.declared.reading.Shape.{Shape}
use Rattle.jobs.specs.declared.reading.Stage.{Stage}
use Rattle.jobs.specs.declared.reading.Unlawful.{Unlawful}
use Rattle.jobs.specs.declared.reading.Stage.TheVariants.{Start, Lettered, Spaced, Teen, Based, Digits, Done}
use Rattle.jobs.specs.Grammar.{Job, Lawful, GoesOn, FaultyAt, letter_byte, digit_byte, minus, space, spelled}
use Rattle.jobs.specs.Reading.{step, digit_of, unlawful, ended, read_on, read_from}
use Rattle.jobs.specs.Entries.{told, spelled_digits, Ready}
use Rattle.jobs.proofs.Spelling.{digit_back}
use Rattle.jobs.proofs.Accepting.{run_on, run, run-append, shape_of, accepts}
use Rattle.jobs.proofs.SoFar.{Finished, SoFar, so_far_more, goes_on}

same_column : (m : ℕ) (u : Unlawful) → ◌≡◌ {A = Result Shape Unlawful} (Err (unlawful m)) (Err u) → m ≡ u.column
same_column m u e = let same : unlawful m ≡ u = cc in ap (λ v. v.column) same

push-append : (text : List ℕ) (b : ℕ) (bs : List ℕ) → (text ++ (b ∷ [])) ++ bs ≡ text ++ (b ∷ bs)
push-append text b bs = append_assoc text (b ∷ []) bs

-- an accepted line is lawful
ended_ok : (s : Stage) (at : ℕ) (sh : Shape) (text : List ℕ) → SoFar s text → ended s at ≡ Ok sh → Finished sh text
ended_ok Start at sh text h e = cc
ended_ok (Lettered l) at sh text h e = cc
ended_ok (Spaced l) at sh text h e = cc
ended_ok (Teen l) at sh text h e = cc
ended_ok (Based l r) at sh text h e = cc
ended_ok (Digits s) at sh text h e = cc
ended_ok (Done s) at sh text h e = subst (λ t. Finished t text) (let same : s ≡ sh = cc in same) h

reads_ok : (bs : List ℕ) (s : Stage) (at : ℕ) (sh : Shape) (text : List ℕ) → SoFar s text → read_from s at bs ≡ Ok sh → Finished sh (text ++ bs)
reads_ok [] s at sh text h e = subst (Finished sh) (sym (append-nil text)) (ended_ok s at sh text h e)
reads_ok (b ∷ bs) s at sh text h e = by (step s b) refl e (λ t k q. reads_ok bs t (at + 1) sh (text ++ (b ∷ [])) (so_far_more s t b text h k) q)
  where
    by : (o : Option Stage) → step s b ≡ o → read_on o at (λ t. read_from t (at + 1) bs) ≡ Ok sh → ((t : Stage) → step s b ≡ Some t → read_from t (at + 1) bs ≡ Ok sh → Finished sh ((text ++ (b ∷ [])) ++ bs)) → Finished sh (text ++ (b ∷ bs))
    by None k q more = cc
    by (Some t) k q more = subst (Finished sh) (push-append text b bs) (more t k q)

pub told_lawful : (line : List ℕ) (s : Shape) → told line ≡ Ok s → Finished s line
told_lawful line s e = reads_ok line Start 1 s [] refl e

-- a refused line is faulty at the column told
unread : (text rest : List ℕ) → run Start text ≡ None → (j : Job) → Lawful j → ¬ (spelled j ≡ text ++ rest)
unread text rest e j h k =
    let none : run Start (spelled j) ≡ None = ap (run Start) k ∙ run-append Start text rest ∙ ap (λ o. run_on o (λ t. run t rest)) e in
    let some = accepts j h in
    cc

ended_shape : (s : Stage) (at : ℕ) (j : Job) → Some s ≡ Some (Done (shape_of j)) → ended s at ≡ Ok (shape_of j)
ended_shape s at j e = let k : s ≡ Done (shape_of j) = cc in ap (λ t. ended t at) k

faulty_end : (s : Stage) (at : ℕ) (u : Unlawful) (text : List ℕ) → SoFar s text → run Start text ≡ Some s → at ≡ suc (length text) → ended s at ≡ Err u → FaultyAt text (suc (length text))
faulty_end s at u text h reached here e = record {
  before = length text;
  next = refl;
  inside = omega arith;
  goes_on = subst GoesOn (sym (take_all (length text) text (omega arith))) (goes_on s text h);
  ends = λ k. absurd (omega arith);
  unlawful = λ j sp. let ok = ended_shape s at j (sym reached ∙ ap (run Start) (sym sp.1) ∙ accepts j sp.0) in cc;
}

ended_column : (s : Stage) (at : ℕ) (u : Unlawful) → ended s at ≡ Err u → at ≡ u.column
ended_column Start at u e = same_column at u e
ended_column (Lettered l) at u e = same_column at u e
ended_column (Spaced l) at u e = same_column at u e
ended_column (Teen l) at u e = same_column at u e
ended_column (Based l r) at u e = same_column at u e
ended_column (Digits s) at u e = same_column at u e
ended_column (Done s) at u e = cc

faulty_here : (s : Stage) (b : ℕ) (bs text : List ℕ) → SoFar s text → run Start (text ++ (b ∷ [])) ≡ None → FaultyAt (text ++ (b ∷ bs)) (suc (length text))
faulty_here s b bs text h stops =
    let front : take (length text) (text ++ (b ∷ bs)) ≡ text = take_at text (b ∷ bs) (length text) refl in
    let more : take (suc (length text)) (text ++ (b ∷ bs)) ≡ text ++ (b ∷ []) = ap (take (suc (length text))) (sym (push-append text b bs)) ∙ take_at (text ++ (b ∷ [])) bs (suc (length text)) (omega (arith, length_push text b)) in
    record {
      before = length text;
      next = refl;
      inside = omega (arith, length-append text (b ∷ bs));
      goes_on = subst GoesOn (sym front) (goes_on s text h);
      ends = λ k g. let f = subst GoesOn more g in unread (text ++ (b ∷ [])) f.1 stops f.0 f.2 f.3;
      unlawful = λ j sp. unread (text ++ (b ∷ [])) bs stops j sp.0 (sp.1 ∙ sym (push-append text b bs));
    }

run-push : (s : Stage) (b : ℕ) (text : List ℕ) (o : Option Stage) → run Start text ≡ Some s → step s b ≡ o → run Start (text ++ (b ∷ [])) ≡ run_on o Some
run-push s b text o reached k = run-append Start text (b ∷ []) ∙ ap (λ x. run_on x (λ t. run t (b ∷ []))) reached ∙ ap (λ x. run_on x Some) k

reads_err : (bs : List ℕ) (s : Stage) (at : ℕ) (u : Unlawful) (text : List ℕ) → SoFar s text → run Start text ≡ Some s → at ≡ suc (length text) → read_from s at bs ≡ Err u → FaultyAt (text ++ bs) u.column
reads_err [] s at u text h reached here e =
    let c : suc (length text) ≡ u.column = sym here ∙ ended_column s at u e in
    subst (λ t. FaultyAt t u.column) (sym (append-nil text)) (subst (FaultyAt text) c (faulty_end s at u text h reached here e))
reads_err (b ∷ bs) s at u text h reached here e =
    by (step s b) refl e (λ t k q. reads_err bs t (at + 1) u (text ++ (b ∷ [])) (so_far_more s t b text h k) (run-push s b text (Some t) reached k) (omega (arith, length_push text b)) q)
  where
    by : (o : Option Stage) → step s b ≡ o → read_on o at (λ t. read_from t (at + 1) bs) ≡ Err u → ((t : Stage) → step s b ≡ Some t → read_from t (at + 1) bs ≡ Err u → FaultyAt ((text ++ (b ∷ [])) ++ bs) u.column) → FaultyAt (text ++ (b ∷ bs)) u.column
    by None k q more = subst (FaultyAt (text ++ (b ∷ bs))) (sym here ∙ same_column at u q) (faulty_here s b bs text h (run-push s b text None reached k))
    by (Some t) k q more = subst (λ v. FaultyAt v u.column) (push-append text b bs) (more t k q)

pub told_faulty : (line : List ℕ) (u : Unlawful) → told line ≡ Err u → FaultyAt line u.column
told_faulty line u e = reads_err line Start 1 u [] refl refl refl e

-- where the digits of a lawful line stand
respelled : (r : ℕ) (ds : List ℕ) → r ≤ 16 → AllBelowBase r ds → map digit_of (map digit_byte ds) ≡ ds
respelled r [] h u = refl
respelled r (d ∷ ds) h u = let e = digit_back d (omega (arith, u.0)) in cc (e, respelled r ds h u.1)

module _ (s : Shape) (line : List ℕ) (h : Finished s line) where
  front : List ℕ
  front = letter_byte s.letter ∷ space ∷ (decimal s.radix ++ (space ∷ minus s.negative))

  bytes : List ℕ
  bytes = map digit_byte h.digits

  parts : line ≡ front ++ (bytes ++ (10 ∷ []))
  unfolding front bytes
  parts = sym h.is ∙ sym (simp append_assoc)

  count_is : length bytes ≡ s.count
  unfolding bytes
  count_is = length-map h.digits digit_byte ∙ h.count

  long : length line ≡ length front + (s.count + 1)
  long = ap length parts ∙ length-append front (bytes ++ (10 ∷ [])) ∙ ap (λ n. length front + n) (length_push bytes 10 ∙ ap (λ n. n + 1) count_is)

  count_inside : s.count + 1 ≤ length line
  count_inside = omega (arith, long)

  found : spelled_digits s line ≡ bytes
  found =
      let f : length line - 1 - s.count ≡ length front = omega (arith, long) in
      let g : length line - 1 - (length line - 1 - s.count) ≡ length bytes = omega (arith, long, count_is) in
      ap (λ n. take n (drop (length line - 1 - s.count) line)) g
      ∙ ap (λ n. take (length bytes) (drop n line)) f
      ∙ ap (λ l. take (length bytes) (drop (length front) l)) parts
      ∙ ap (take (length bytes)) (drop_at front (bytes ++ (10 ∷ [])) (length front) refl)
      ∙ take_at bytes (10 ∷ []) (length bytes) refl

  pub digits_found : map digit_of (spelled_digits s line) ≡ h.digits
  unfolding bytes
  digits_found = ap (map digit_of) found ∙ respelled s.radix h.digits h.lawful.high h.lawful.plain

  pub ready : Ready s line
  ready = record {
    low = h.lawful.low;
    high = h.lawful.high;
    few = omega (arith, h.lawful.few, h.count);
    inside = count_inside;
    size = ap length found ∙ count_is;
    plain = subst (AllBelowBase s.radix) (sym digits_found) h.lawful.plain;
  }
