-- An open schedule grows word by word, and closed it is lawful. Assumes nothing.
use Rattle.std.proofs.lemmas.Grind.{common_steps}
use Rattle.std.proofs.lemmas.Bool.Decides.{nat_tests}
use Rattle.std.proofs.Common.{◌≡◌, ℕ, suc, ◌+◌, ◌<◌, ◌≤◌, Bool, true, cond, ltb, leb, List, [], ◌∷◌, ◌++◌, map, length, drop, set, pos, None, sym, refl, ap, ◌∙◌, subst, arith}
use Rattle.std.proofs.lemmas.List.{length_push}
use Rattle.std.proofs.lemmas.Bool.{leb-false, ltb-false}
use Rattle.schedules.specs.declared.word.Word.{Word}
use Rattle.schedules.specs.declared.word.Word.TheVariants.{Header, Take, Raise, Multiply}
use Rattle.schedules.specs.declared.word.Last.{Last}
use Rattle.schedules.specs.declared.word.Last.TheVariants as last
use Rattle.schedules.specs.declared.refusal.WriteFault.TheVariants as refused
use Rattle.schedules.specs.Words.{spelled}
use Rattle.schedules.specs.Schedules.{Follow, end, take, raise, multiply, raise_of, raised, schedule, made_from}
use Rattle.schedules.specs.Turns.{last_from}
use Rattle.schedules.specs.Checks.{refused_if}
use Rattle.schedules.specs.Writing.{State, area_check, use_turn, raise_turn, use_check, raise_check, use_word, begun, used, raised_by, Holds, Added, Closes}
use Rattle.schedules.proofs.Counted.{spells}
use Rattle.schedules.proofs.Passed.{passed, both, at_least_one}

-- one word more at the end
follow_push : (B : ℕ) {l : Last} {xs : List Word} (x : Word) → Follow B l xs → Follow B (last_from l xs) (x ∷ []) → Follow B l (xs ++ x ∷ [])
follow_push B x end g = g
follow_push B x (take p q f) g = take p q (follow_push B x f g)
follow_push B x (raise p q f) g = raise p q (follow_push B x f g)
follow_push B x (multiply p q f) g = multiply p q (follow_push B x f g)

raised_push : (xs : List Word) (x : Word) → raised (xs ++ x ∷ []) ≡ raised xs + raise_of x
raised_push [] x = omega arith
raised_push (y ∷ ys) x = omega (arith, raised_push ys x)

last_push : (l : Last) (xs : List Word) (x : Word) → last_from l (xs ++ x ∷ []) ≡ last_from (last_from l xs) (x ∷ [])
last_push l [] x = refl
last_push l (Header count radix ∷ ys) x = last_push l ys x
last_push l (Take size negative ∷ ys) x = last_push last.Use ys x
last_push l (Raise times ∷ ys) x = last_push last.Raise ys x
last_push l (Multiply size negative ∷ ys) x = last_push last.Use ys x

area_push : (xs : List Word) (x : Word) (later : List ℕ) → length xs < length (map spelled xs ++ later) → set (map spelled xs ++ later) (length xs) (spelled x) ≡ map spelled (xs ++ x ∷ []) ++ drop 1 later
area_push [] x [] h = absurd (omega arith)
area_push [] x (w ∷ ws) h = refl
area_push (y ∷ ys) x later h = ap (λ l. spelled y ∷ l) (area_push ys x later (omega arith))

abbrev pub grown : Word → State → State
grown x s = record { radix = s.radix; written = suc s.written; raised = s.raised + raise_of x; last = last_from s.last (x ∷ []) }

grown_holds : (x : Word) (s : State) (xs : List Word) (before after : List ℕ) → Follow s.radix s.last (x ∷ []) → s.raised + raise_of x ≤ 120 → suc s.written < length before → after ≡ set before (suc s.written) (spelled x) → Holds s xs before → Holds (grown x s) (xs ++ x ∷ []) after
grown_holds x s xs before after f small room e h =
    let b = h.body in
    let B = s.radix in
    let head = spelled (Header 255 B) in
    let l = ap length h.words in
    let n = h.count in
    record {
      body = record { low = b.low; high = b.high; follow = follow_push B x b.follow (subst (λ y. Follow B y (x ∷ [])) (sym h.latest) f); sum = omega (arith, raised_push xs x, h.sum) };
      count = omega (arith, length_push xs x);
      sum = omega (arith, raised_push xs x, h.sum);
      latest = last_push last.Nothing xs x ∙ ap (λ y. last_from y (x ∷ [])) h.latest;
      later = drop 1 h.later;
      words = e ∙ ap (λ a. set a (suc s.written) (spelled x)) h.words ∙ ap (λ k. head ∷ set (map spelled xs ++ h.later) k (spelled x)) (sym n) ∙ ap (λ a. head ∷ a) (area_push xs x h.later (omega arith));
    }

-- where there is room
pub room_for : (at room : ℕ) → area_check at room ≡ None → at < room
room_for at room e = leb-false room at (passed (leb room at) refused.Area e)

-- a use
follow_use : (B : ℕ) (l : Last) (size : ℕ) (negative : Bool) → use_turn l ≡ None → 0 < size → size < B → Follow B l (use_word l size negative ∷ [])
follow_use B last.Nothing size negative e p q = take p q end
follow_use B last.Use size negative e p q = cc
follow_use B last.Raise size negative e p q = multiply p q end

use_raises : (l : Last) (size : ℕ) (negative : Bool) → raise_of (use_word l size negative) ≡ 0
use_raises last.Nothing size negative = refl
use_raises last.Use size negative = refl
use_raises last.Raise size negative = refl

used_is : (s : State) (size : ℕ) (negative : Bool) → grown (use_word s.last size negative) s ≡ used s
used_is s size negative = grind (arith, common_steps, nat_tests)

pub use_adds : (s : State) (size : ℕ) (negative : Bool) (before after : List ℕ) → use_check s size (length before) ≡ None → s.raised ≤ 120 → after ≡ set before (suc s.written) (spelled (use_word s.last size negative)) → Added (use_word s.last size negative) s (used s) before after
use_adds s size negative before after e little a =
    let t = both (use_turn s.last) _ e in
    let k = both (refused_if (cond (leb 1 size) (leb s.radix size) true) refused.Size) (area_check (suc s.written) (length before)) t.1 in
    let n = at_least_one (leb s.radix size) size (passed (cond (leb 1 size) (leb s.radix size) true) refused.Size k.0) in
    let x = use_word s.last size negative in
    let f = follow_use s.radix s.last size negative t.0 n.0 (leb-false s.radix size n.1) in
    record {
      area = a;
      holds = λ xs h. subst (λ y. Holds y (xs ++ x ∷ []) after) (used_is s size negative) (grown_holds x s xs before after f (omega (arith, use_raises s.last size negative)) (room_for (suc s.written) (length before) k.1) a h);
    }

-- a raise
follow_raise : (B : ℕ) (l : Last) (times : ℕ) → raise_turn l ≡ None → 0 < times → times ≤ 120 → Follow B l (Raise times ∷ [])
follow_raise B last.Nothing times e p q = cc
follow_raise B last.Use times e p q = raise p q end
follow_raise B last.Raise times e p q = cc

pub raise_adds : (s : State) (times : ℕ) (before after : List ℕ) → raise_check s times (length before) ≡ None → after ≡ set before (suc s.written) (spelled (Raise times)) → Added (Raise times) s (raised_by times s) before after
raise_adds s times before after e a =
    let t = both (raise_turn s.last) _ e in
    let k = both (refused_if (cond (leb 1 times) (ltb 120 (s.raised + times)) true) refused.Times) (area_check (suc s.written) (length before)) t.1 in
    let n = at_least_one (ltb 120 (s.raised + times)) times (passed (cond (leb 1 times) (ltb 120 (s.raised + times)) true) refused.Times k.0) in
    let sum = ltb-false 120 (s.raised + times) n.1 in
    let f = follow_raise s.radix s.last times t.0 n.0 (omega arith) in
    record { area = a; holds = λ xs h. grown_holds (Raise times) s xs before after f sum (room_for (suc s.written) (length before) k.1) a h }

-- the first word
pub begin_holds : (B : ℕ) (before after : List ℕ) → 2 ≤ B → B ≤ 16 → 0 < length before → after ≡ set before 0 (spelled (Header 255 B)) → Holds (begun B) [] after
begin_holds B [] after low high h e = absurd (omega arith)
begin_holds B (w ∷ ws) after low high h e = record { body = record { low = low; high = high; follow = end; sum = omega arith }; count = refl; sum = refl; latest = refl; later = ws; words = e }

pub closes : (s : State) (before after : List ℕ) → after ≡ set before 0 (spelled (Header s.written s.radix)) → Closes s before after
closes s before after e = record {
  area = e;
  closed = λ xs h.
      let B = s.radix in
      let w : after ≡ schedule B xs ++ h.later = e ∙ ap (λ a. set a 0 (spelled (Header s.written B))) h.words ∙ ap (λ n. spelled (Header n B) ∷ (map spelled xs ++ h.later)) (sym h.count) in
      let k = spells B xs after h.later h.body w in
      record { lawful = k.lawful; reads = k.reads_so; number = ap (made_from B (pos 0)) k.reads_so };
}
