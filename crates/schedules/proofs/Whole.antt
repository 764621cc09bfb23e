-- All that is claimed of schedules and forms. Assumes nothing.
use Rattle.std.proofs.Common.{◌≡◌, ℕ, ◌≤◌, List, [], ◌++◌, length, ℤ, pos, sym, refl, ap, ◌∙◌, subst, append-nil, arith}
use Rattle.std.proofs.lemmas.List.{length-map}
use Rattle.forms.specs.declared.Letter.{Letter}
use Rattle.forms.specs.declared.Measure.{Measure}
use Rattle.forms.specs.declared.Measure.TheVariants.{Count, Square}
use Rattle.forms.specs.Form.{InRange, Represents}
use Rattle.forms.specs.Weight.{cost}
use Rattle.forms.specs.Weight as form
use Rattle.forms.specs.Letters.{cost_of, measure, Given}
use Rattle.forms.proofs.Whole.{good}
use Rattle.schedules.specs.declared.word.Word.{Word}
use Rattle.schedules.specs.Words.{spelled}
use Rattle.schedules.specs.Schedules.{Stands, schedule, steps, Lawful, makes, made_from, weighed, weight}
use Rattle.schedules.specs.OfForm.{steps_of, schedule_of}
use Rattle.schedules.specs.Theorems.{Writes, Written, SchedulesStand}
use Rattle.schedules.proofs.Counted.{steps_few, spells}
use Rattle.schedules.proofs.OfForms.{raised_few, of_follow, of_made, of_weighs, digits, steps_digits, digits_few, digits_range}

zero_costs : (m : Measure) → cost m 0 ≡ 0
zero_costs Count = refl
zero_costs Square = refl

pub form_steps : (B : ℕ) (f : List ℤ) → 2 ≤ B → B ≤ 16 → InRange B f → length f ≤ 121 → Stands B (steps_of f)
form_steps B f low high range few = record { low = low; high = high; follow = of_follow B f few range; sum = raised_few f 120 few }

pub writes : (B : ℕ) (f : List ℤ) → 2 ≤ B → B ≤ 16 → InRange B f → length f ≤ 121 → Writes B f
writes B f low high range few =
    let s = form_steps B f low high range few in
    let k = spells B (steps_of f) (schedule_of B f) [] s (sym (append-nil (schedule_of B f))) in
    record {
      lawful = k.lawful;
      number = ap (made_from B (pos 0)) k.reads_so ∙ of_made B f;
      weighs = λ m. ap (weighed (cost m)) k.reads_so ∙ of_weighs (cost m) f (zero_costs m);
      few = omega (arith, steps_few B (steps_of f) s, length-map (steps_of f) spelled);
    }

pub written : (B : ℕ) (ws : List ℕ) → Lawful B ws → Written B ws
written B ws law =
    let xs = steps ws in
    let f = digits 0 xs in
    let b = law.body in
    let e = steps_digits B b.follow in
    record {
      digits = f;
      later = law.later;
      words = law.words ∙ ap (λ l. schedule B l ++ law.later) (sym e);
      represents = record { range = digits_range B 0 (omega (arith, b.low)) b.follow; worth = sym (of_made B f) ∙ ap (made_from B (pos 0)) e };
      places = omega (arith, digits_few B b.follow, b.sum);
      weighs = λ m. sym (of_weighs (cost m) f (zero_costs m)) ∙ ap (weighed (cost m)) e;
    }

lightest : (l : Letter) (B : ℕ) (z : ℤ) (f : List ℤ) (ws : List ℕ) → Given l B z f → Lawful B ws → makes B ws ≡ z → form.weight (cost_of l) f ≤ weight (cost_of l) ws
lightest l B z f ws given law e =
    let w = written B ws law in
    let r : Represents B z w.digits = subst (λ y. Represents B y w.digits) e w.represents in
    omega (arith, (good l B z f (omega (arith, law.body.low)) given).lightest w.digits r, w.weighs (measure l))

spelled_lawful : (B : ℕ) (xs : List Word) (later : List ℕ) → Stands B xs → Lawful B (schedule B xs ++ later) × (steps (schedule B xs ++ later) ≡ xs)
spelled_lawful B xs later s = let k = spells B xs (schedule B xs ++ later) later s refl in (k.lawful, k.reads_so)

pub schedules_stand : SchedulesStand
schedules_stand = record { spelled = spelled_lawful; writes = writes; written = written; lightest = lightest; examples = record { nothing = refl; ninety_three = refl } }
