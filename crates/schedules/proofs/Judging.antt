-- Reading accepts exactly the lawful schedules, and stops at the first word that cannot stand. Assumes nothing.
use Rattle.std.proofs.lemmas.Grind.{common_steps}
use Rattle.std.proofs.lemmas.Bool.Decides.{nat_tests}
use Rattle.std.proofs.Common.{◌≡◌, ℕ, zero, suc, ◌+◌, ◌*◌, ◌^◌, ◌<◌, ◌≤◌, Bool, true, false, cond, eqb, ltb, List, [], ◌∷◌, ◌++◌, map, length, drop, Some, None, Ok, Err, Option, Result, sym, refl, ap, ◌∙◌, subst, arith}
use Rattle.std.proofs.lemmas.Bool.{le-ltb, ltb-false, eqb-true}
use Rattle.schedules.specs.declared.word.Word.{Word}
use Rattle.schedules.specs.declared.word.Word.TheVariants.{Header, Take, Raise, Multiply}
use Rattle.schedules.specs.declared.word.Misread.{Misread}
use Rattle.schedules.specs.declared.word.Misread.TheVariants.{Unclosed, Radix, Times}
use Rattle.schedules.specs.declared.word.Last.{Last}
use Rattle.schedules.specs.declared.word.Last.TheVariants as last
use Rattle.schedules.specs.declared.fault.ScheduleFault.{ScheduleFault}
use Rattle.schedules.specs.declared.fault.ScheduleFault.TheVariants as fault
use Rattle.schedules.specs.declared.reading.Heading.{Heading}
use Rattle.schedules.specs.declared.reading.Progress.{Progress}
use Rattle.schedules.specs.Words.{spelled, EightBits, read, Reading}
use Rattle.schedules.specs.Schedules.{Follow, end, take, raise, multiply, raise_of, raised, schedule, steps, Lawful}
use Rattle.schedules.specs.Faults.{number_of, told_schedule}
use Rattle.schedules.specs.Checks.{refused_if, then, unless, outside}
use Rattle.schedules.specs.Inspection.{Blamed, no_header, no_radix, no_step, Inspects}
use Rattle.schedules.specs.Reading.{header_check, range_check, placed, ranged, step_at, headed, header_from, now_at, going_on, stepped, step_in, and_on, judged, start, inspected_from, inspected}
use Rattle.schedules.proofs.Passed.{passed, within, inside, size_within, size_inside}
use Rattle.schedules.proofs.Spelling.{reading, read_spelled}
use Rattle.schedules.proofs.Counted.{steps_few, spells}

-- an accepted word
record Going (B : ℕ) (l : Last) (m : ℕ) (x : Word) (q : Progress) : Type 0 where
  sum : q.raised ≡ m + raise_of x
  small : m ≤ 120 → q.raised ≤ 120
  follow : (xs : List Word) → Follow B q.last xs → Follow B l (x ∷ xs)

sum_within : (at m t : ℕ) (q : Progress) (b : Bool) → cond b (Err (fault.Sum at)) (now_at last.Raise (m + t)) ≡ Ok q → (b ≡ false) × (record { last = last.Raise; raised = m + t } ≡ q)
sum_within at m t q true e = cc
sum_within at m t q false e = (refl, cc)

going : (B at : ℕ) (l : Last) (m : ℕ) (x : Word) (q : Progress) → range_check B x ≡ None → going_on l m at x ≡ Ok q → Going B l m x q
going B at last.Nothing m (Header count radix) q r e = cc
going B at last.Nothing m (Take size negative) q r e =
    let s = size_within B size r in
    let k : record { last = last.Use; raised = m } ≡ q = cc in
    subst (Going B last.Nothing m (Take size negative)) k (record { sum = omega arith; small = λ h. h; follow = λ xs f. take s.0 s.1 f })
going B at last.Nothing m (Raise times) q r e = cc
going B at last.Nothing m (Multiply size negative) q r e = cc
going B at last.Use m (Header count radix) q r e = cc
going B at last.Use m (Take size negative) q r e = cc
going B at last.Use m (Raise times) q r e =
    let s = within 1 120 times (passed (outside 1 120 times) Times r) in
    let k = sum_within at m times q (ltb 120 (m + times)) e in
    subst (Going B last.Use m (Raise times)) k.1 (record { sum = refl; small = λ h. ltb-false 120 (m + times) k.0; follow = λ xs f. raise s.0 s.1 f })
going B at last.Use m (Multiply size negative) q r e = cc
going B at last.Raise m (Header count radix) q r e = cc
going B at last.Raise m (Take size negative) q r e = cc
going B at last.Raise m (Raise times) q r e = cc
going B at last.Raise m (Multiply size negative) q r e =
    let s = size_within B size r in
    let k : record { last = last.Use; raised = m } ≡ q = cc in
    subst (Going B last.Raise m (Multiply size negative)) k (record { sum = omega arith; small = λ h. h; follow = λ xs f. multiply s.0 s.1 f })

record Stepped (B : ℕ) (p : Progress) (w : ℕ) (q : Progress) : Type 0 where
  word : Word
  spelt : w ≡ spelled word
  going : Going B p.last p.raised word q

in_range : (B at w : ℕ) (p q : Progress) (x : Word) (o : Option Misread) → w ≡ spelled x → range_check B x ≡ o → stepped p at (placed at (unless o x)) ≡ Ok q → Stepped B p w q
in_range B at w p q x (Some why) s r e = cc
in_range B at w p q x None s r e = record { word = x; spelt = s; going = going B at p.last p.raised x q r e }

was_read : (B at w : ℕ) (p q : Progress) (r : Result Word Misread) → r ≡ read w → stepped p at (ranged B at (placed at r)) ≡ Ok q → Stepped B p w q
was_read B at w p q (Ok x) k e = in_range B at w p q x (range_check B x) (reading w (Ok x) k).1 refl e
was_read B at w p q (Err why) k e = cc

-- words that were all accepted
pub record Accepted (B : ℕ) (p : Progress) (k : ℕ) (ws : List ℕ) : Type 0 where
  pub words : List Word
  pub later : List ℕ
  pub spelt : ws ≡ map spelled words ++ later
  pub count : length words ≡ k
  pub follow : Follow B p.last words
  pub sum : p.raised + raised words ≤ 120

one_more : (B : ℕ) (p q : Progress) (k w : ℕ) (ws : List ℕ) → p.raised ≤ 120 → Stepped B p w q → Accepted B q k ws → Accepted B p (suc k) (w ∷ ws)
one_more B p q k w ws h s a = grind (arith, common_steps, nat_tests)

none_here : (r : Result Progress ScheduleFault) (rest : Progress → Option ScheduleFault) → and_on r rest ≡ None → (q : Progress) × (r ≡ Ok q) × (rest q ≡ None)
none_here (Ok q) rest e = (q, refl, e)
none_here (Err f) rest e = cc

pub accepted : (B : ℕ) (p : Progress) (at k : ℕ) (ws : List ℕ) → p.raised ≤ 120 → judged B p at k ws ≡ None → Accepted B p k ws
accepted B p at zero ws h e = record { words = []; later = ws; spelt = refl; count = refl; follow = end; sum = omega arith }
accepted B p at (suc k) [] h e = cc
accepted B p at (suc k) (w ∷ ws) h e =
    let n = none_here (step_in B p at (w ∷ ws)) (λ q. judged B q (suc at) k ws) e in
    let s = was_read B at w p n.0 (read w) refl n.1 in
    one_more B p n.0 k w ws h s (accepted B n.0 (suc at) k ws (s.going.small h) n.2)

-- words that may follow are all accepted
taken : (B at : ℕ) (p : Progress) (x : Word) → EightBits x → range_check B x ≡ None → stepped p at (step_at B at (spelled x)) ≡ going_on p.last p.raised at x
taken B at p x h r = ap (λ y. stepped p at (ranged B at (placed at y))) (read_spelled x h) ∙ ap (λ o. stepped p at (placed at (unless o x))) r

pub follow_judged : (B at m : ℕ) {l : Last} {xs : List Word} (later : List ℕ) → B ≤ 16 → Follow B l xs → m + raised xs ≤ 120 → judged B (record { last = l; raised = m }) at (length xs) (map spelled xs ++ later) ≡ None
follow_judged B at m later b end h = refl
follow_judged B at m later b (take {size = s} {negative = n} {xs = xs} p q f) h =
    ap (λ r. and_on r (λ y. judged B y (suc at) (length xs) (map spelled xs ++ later))) (taken B at (record { last = last.Nothing; raised = m }) (Take s n) (omega arith) (size_inside B s p q)) ∙ follow_judged B (suc at) m later b f (omega arith)
follow_judged B at m later b (raise {times = t} {xs = xs} p q f) h =
    let c = le-ltb 120 (m + t) (omega arith) in
    ap (λ r. and_on r (λ y. judged B y (suc at) (length xs) (map spelled xs ++ later))) (taken B at (record { last = last.Use; raised = m }) (Raise t) (omega arith) (ap (λ o. refused_if o Times) (inside 1 120 t p q)) ∙ ap (λ o. cond o (Err (fault.Sum at)) (now_at last.Raise (m + t))) c) ∙ follow_judged B (suc at) (m + t) later b f (omega arith)
follow_judged B at m later b (multiply {size = s} {negative = n} {xs = xs} p q f) h =
    ap (λ r. and_on r (λ y. judged B y (suc at) (length xs) (map spelled xs ++ later))) (taken B at (record { last = last.Raise; raised = m }) (Multiply s n) (omega arith) (size_inside B s p q)) ∙ follow_judged B (suc at) m later b f (omega arith)

-- the faults of a step have number 7 and its place
abbrev Here : ℕ → Result Progress ScheduleFault → Type 0
Here at (Ok q) = Unit {0}
Here at (Err f) = ((told_schedule f).number ≡ 7) × ((told_schedule f).place ≡ at)

going_here : (at m : ℕ) (l : Last) (x : Word) → Here at (going_on l m at x)
going_here at m last.Nothing (Header count radix) = (refl, refl)
going_here at m last.Nothing (Take size negative) = tt
going_here at m last.Nothing (Raise times) = (refl, refl)
going_here at m last.Nothing (Multiply size negative) = (refl, refl)
going_here at m last.Use (Header count radix) = (refl, refl)
going_here at m last.Use (Take size negative) = (refl, refl)
going_here at m last.Use (Raise times) = grind (arith, common_steps, nat_tests)
going_here at m last.Use (Multiply size negative) = (refl, refl)
going_here at m last.Raise (Header count radix) = (refl, refl)
going_here at m last.Raise (Take size negative) = (refl, refl)
going_here at m last.Raise (Raise times) = (refl, refl)
going_here at m last.Raise (Multiply size negative) = tt

abbrev Seven : Option Misread → Type 0
Seven None = Unit {0}
Seven (Some why) = number_of why ≡ 7

seven_if : (b : Bool) (why : Misread) → number_of why ≡ 7 → Seven (refused_if b why)
seven_if true why h = h
seven_if false why h = tt

range_seven : (B : ℕ) (x : Word) → Seven (range_check B x)
range_seven B (Header count radix) = tt
range_seven B (Take size negative) = grind (arith, common_steps, nat_tests)
range_seven B (Raise times) = seven_if (outside 1 120 times) Times refl
range_seven B (Multiply size negative) = grind (arith, common_steps, nat_tests)

range_here : (at : ℕ) (p : Progress) (x : Word) (o : Option Misread) → Seven o → Here at (stepped p at (placed at (unless o x)))
range_here at p x (Some why) h = (h, refl)
range_here at p x None h = going_here at p.raised p.last x

read_here : (B at w : ℕ) (p : Progress) (r : Result Word Misread) → Reading w r → Here at (stepped p at (ranged B at (placed at r)))
read_here B at w p (Ok x) h = range_here at p x (range_check B x) (range_seven B x)
read_here B at w p (Err why) h = (ap number_of h.0, refl)

step_here : (B at : ℕ) (p : Progress) (ws : List ℕ) → Here at (step_in B p at ws)
step_here B at p [] = (refl, refl)
step_here B at p (w ∷ ws) = read_here B at w p (read w) (reading w (read w) refl)

-- where the first fault is
pub record Found (B : ℕ) (p : Progress) (at k : ℕ) (ws : List ℕ) (f : ScheduleFault) : Type 0 where
  pub ahead : ℕ
  pub less : ahead < k
  pub clear : judged B p at ahead ws ≡ None
  pub stopped : judged B p at (suc ahead) ws ≡ Some f
  pub number : (told_schedule f).number ≡ 7
  pub place : (told_schedule f).place ≡ at + ahead

stopped_at : (B : ℕ) (p : Progress) (at k : ℕ) (ws : List ℕ) (f : ScheduleFault) (r : Result Progress ScheduleFault) → step_in B p at ws ≡ r → Here at r → ((q : Progress) → judged B q (suc at) k (drop 1 ws) ≡ Some f → Found B q (suc at) k (drop 1 ws) f) → and_on r (λ q. judged B q (suc at) k (drop 1 ws)) ≡ Some f → Found B p at (suc k) ws f
stopped_at B p at k ws f (Err g) r h further e = grind (arith, common_steps, nat_tests)
stopped_at B p at k ws f (Ok q) r h further e =
    let i = further q e in
    record {
      ahead = suc i.ahead;
      less = omega (arith, i.less);
      clear = ap (λ y. and_on y (λ q. judged B q (suc at) i.ahead (drop 1 ws))) r ∙ i.clear;
      stopped = ap (λ y. and_on y (λ q. judged B q (suc at) (suc i.ahead) (drop 1 ws))) r ∙ i.stopped;
      number = i.number;
      place = i.place ∙ omega arith;
    }

pub found : (B : ℕ) (p : Progress) (at k : ℕ) (ws : List ℕ) (f : ScheduleFault) → judged B p at k ws ≡ Some f → Found B p at k ws f
found B p at zero ws f e = cc
found B p at (suc k) ws f e = stopped_at B p at k ws f (step_in B p at ws) refl (step_here B at p ws) (λ q d. found B q (suc at) k (drop 1 ws) f d) e

-- a header that counts what may follow, and a lawful schedule
counted : (B k : ℕ) (rest : List ℕ) → 2 ≤ B → B ≤ 16 → Accepted B start k rest → Lawful B (spelled (Header k B) ∷ rest) × (length (steps (spelled (Header k B) ∷ rest)) ≡ k)
counted B k rest low high a =
    let xs = a.words in
    let e : spelled (Header k B) ∷ rest ≡ schedule B xs ++ a.later = ap (λ l. spelled (Header k B) ∷ l) a.spelt ∙ ap (λ n. spelled (Header n B) ∷ (map spelled xs ++ a.later)) (sym a.count) in
    let s = spells B xs (spelled (Header k B) ∷ rest) a.later (record { low = low; high = high; follow = a.follow; sum = omega (arith, a.sum) }) e in
    (s.lawful, ap length s.reads_so ∙ a.count)

lawful_judged : (B k : ℕ) (rest : List ℕ) → k < 256 → Lawful B (spelled (Header k B) ∷ rest) → judged B start 1 k rest ≡ None
lawful_judged B k rest small law =
    let xs = steps (spelled (Header k B) ∷ rest) in
    let w = law.words in
    let b = law.body in
    let h : k * 2 ^ 8 + B ≡ length xs * 2 ^ 8 + B = cc in
    let n : length xs ≡ k = omega arith in
    let r : rest ≡ map spelled xs ++ law.later = cc in
    ap (judged B start 1 k) r ∙ ap (λ j. judged B start 1 j (map spelled xs ++ law.later)) (sym n) ∙ follow_judged B 1 0 law.later b.high b.follow (omega (arith, b.sum))

header_passes : (k B : ℕ) → k < 255 → 2 ≤ B → B ≤ 16 → header_check k B ≡ None
header_passes k B h low high = grind (arith, common_steps, nat_tests)

lawful_head : (B : ℕ) (ws : List ℕ) → Lawful B ws → (k : ℕ) × (rest : List ℕ) × (ws ≡ spelled (Header k B) ∷ rest) × (k ≤ 241)
lawful_head B ws law = (length (steps ws), map spelled (steps ws) ++ law.later, law.words, steps_few B (steps ws) law.body)

-- a lawful schedule is accepted
head_accepted : (B k : ℕ) (rest : List ℕ) → k ≤ 241 → Lawful B (spelled (Header k B) ∷ rest) → inspected (spelled (Header k B) ∷ rest) ≡ Ok (record { radix = B; count = k })
head_accepted B k rest few law =
    let ws = spelled (Header k B) ∷ rest in
    let b = law.body in
    let h : Heading = record { radix = B; count = k } in
    let r = read_spelled (Header k B) (omega arith, omega (arith, b.high)) in
    ap (λ y. inspected_from ws (header_from (placed 0 y))) r ∙ ap (λ o. inspected_from ws (headed h o)) (header_passes k B (omega arith) b.low b.high) ∙ ap (λ o. unless o h) (lawful_judged B k rest (omega arith) law)

pub lawful_accepted : (B : ℕ) (ws : List ℕ) → Lawful B ws → (h : Heading) × (inspected ws ≡ Ok h)
lawful_accepted B ws law =
    let p = lawful_head B ws law in
    (record { radix = B; count = p.0 }, ap inspected p.2 ∙ head_accepted B p.0 p.1 p.3 (subst (Lawful B) p.2 law))

refused_unlawful : (ws : List ℕ) (f : ScheduleFault) → inspected ws ≡ Err f → (B : ℕ) → Lawful B ws → ⊥
refused_unlawful ws f e B law = let p = lawful_accepted B ws law in let q = p.1 in cc

-- what the answer says of the words
abbrev Says : List ℕ → Result Heading ScheduleFault → Type 0
Says ws (Ok h) = Lawful h.radix ws × (length (steps ws) ≡ h.count)
Says ws (Err f) = Blamed ws (told_schedule f).number (told_schedule f).place

blamed_at : (ws : List ℕ) (m n at p : ℕ) → m ≡ n → at ≡ p → Blamed ws n p → Blamed ws m at
blamed_at ws m n at p e d b = grind (arith, common_steps, nat_tests)

body_says : (k B : ℕ) (rest : List ℕ) → k < 255 → 2 ≤ B → B ≤ 16 → (o : Option ScheduleFault) → judged B start 1 k rest ≡ o → Says (spelled (Header k B) ∷ rest) (unless o (record { radix = B; count = k }))
body_says k B rest small low high None e = counted B k rest low high (accepted B start 1 k rest (omega arith) e)
body_says k B rest small low high (Some f) e =
    let i = found B start 1 k rest f e in
    let good = (counted B i.ahead rest low high (accepted B start 1 i.ahead rest (omega arith) i.clear)).0 in
    let bad : Lawful B (spelled (Header (suc i.ahead) B) ∷ rest) → ⊥ = λ law. let j = lawful_judged B (suc i.ahead) rest (omega (arith, i.less)) law in let s = i.stopped in cc in
    blamed_at (spelled (Header k B) ∷ rest) _ 7 _ (suc i.ahead) i.number (i.place ∙ omega arith) (no_step k B i.ahead rest small i.less refl good bad)

small : (k : ℕ) → k < 256 → eqb k 255 ≡ false → k < 255
small k h e = grind (arith, nat_tests)

-- the first word
abbrev Headless : List ℕ → Type 0
Headless ws = (k B : ℕ) (rest : List ℕ) → k < 255 → B < 256 → ws ≡ spelled (Header k B) ∷ rest → ⊥

headless_unread : (w : ℕ) (rest : List ℕ) (r : Result Word Misread) → r ≡ read w → ((k B : ℕ) → r ≡ Ok (Header k B) → k < 255 → ⊥) → Headless (w ∷ rest)
headless_unread w rest r e other k B rest' h b d = grind (arith, common_steps, nat_tests)

header_says : (k B : ℕ) (rest : List ℕ) (s t : Bool) → k < 256 → B < 256 → eqb k 255 ≡ s → outside 2 16 B ≡ t → Says (spelled (Header k B) ∷ rest) (inspected_from (spelled (Header k B) ∷ rest) (headed (record { radix = B; count = k }) (then (refused_if s Unclosed) (refused_if t Radix))))
header_says k B rest true t h b e d = no_header (λ k' B' rest' h' b' d'. let u = eqb-true k 255 e in let w : k * 2 ^ 8 + B ≡ k' * 2 ^ 8 + B' = cc in omega arith)
header_says k B rest false true h b e d = no_radix k B rest (small k h e) b refl (λ low high. let i = inside 2 16 B low high in cc)
header_says k B rest false false h b e d = let i = within 2 16 B d in body_says k B rest (small k h e) i.0 i.1 (judged B start 1 k rest) refl

words_say : (w : ℕ) (rest : List ℕ) (r : Result Word Misread) → r ≡ read w → Reading w r → Says (w ∷ rest) (inspected_from (w ∷ rest) (header_from (placed 0 r)))
words_say w rest (Ok (Header k B)) e h = subst (λ v. Says (v ∷ rest) (inspected_from (v ∷ rest) (headed (record { radix = B; count = k }) (header_check k B)))) (sym h.1) (header_says k B rest (eqb k 255) (outside 2 16 B) h.0.0 h.0.1 refl refl)
words_say w rest (Ok (Take size negative)) e h = no_header (headless_unread w rest (Ok (Take size negative)) e (λ k B d s. cc))
words_say w rest (Ok (Raise times)) e h = no_header (headless_unread w rest (Ok (Raise times)) e (λ k B d s. cc))
words_say w rest (Ok (Multiply size negative)) e h = no_header (headless_unread w rest (Ok (Multiply size negative)) e (λ k B d s. cc))
words_say w rest (Err why) e h = blamed_at (w ∷ rest) (number_of why) 7 0 0 (ap number_of h.0) refl (no_header (headless_unread w rest (Err why) e (λ k B d s. cc)))

says : (ws : List ℕ) → Says ws (inspected ws)
says [] = no_header (λ k B rest h b d. cc)
says (w ∷ rest) = words_say w rest (read w) refl (reading w (read w) refl)

whole : (ws : List ℕ) (r : Result Heading ScheduleFault) → inspected ws ≡ r → Says ws r → Inspects ws r
whole ws (Ok h) e s = s
whole ws (Err f) e s = (s, refused_unlawful ws f e)

pub inspects : (ws : List ℕ) (r : Result Heading ScheduleFault) → r ≡ inspected ws → Inspects ws r
inspects ws r e = whole ws r (sym e) (subst (Says ws) (sym e) (says ws))
