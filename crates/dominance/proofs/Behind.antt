-- A partial duty that is some minutes behind another, and as good: what the other may do next, it may do after these minutes.
use Rattle.std.proofs.Common.{◌≡◌, ℕ, ◌+◌, ◌≤◌, Bool, true, false, not, ◌||◌, ◌%◌, eqb, leb, [], ◌∷◌, refl, ap, sym, ◌∙◌, arith, None}
use Rattle.std.proofs.lemmas.Bool.{leb-true, le-leb, eq-eqb}
use Rattle.std.specs.Int.{bit_at}
use Rattle.minute_line.specs.declared.marks.Mark.TheVariants.{Ready}
use Rattle.minute_line.specs.declared.marks.Kind.TheVariants.{Plain}
use Rattle.minute_line.specs.Marks.{is_rest, is_weekly}
use Rattle.minute_line.specs.Minutes.{stretch}
use Rattle.hours_rules.specs.Rules.{fault}
use Rattle.hours_rules.specs.Order.{Together}
use Rattle.week_book.specs.declared.weeks.Week.{Week}
use Rattle.duty_plan.specs.declared.duties.Act.{Act}
use Rattle.duty_plan.specs.declared.duties.Act.TheVariants.{Leg, Serve, Load}
use Rattle.duty_plan.specs.declared.duties.Step.{Step}
use Rattle.duty_plan.specs.declared.plans.Case.{Case}
use Rattle.duty_plan.specs.Acts.{mark_of, minutes_of, may_start, used_by, loaded_by, place_by, can_be_done, serves_order}
use Rattle.duty_plan.specs.PartialDuties.{PartialDuty, place_after, line_after, at_after, start_of, serves, loaded_after, used_after, may_carry, is_new, KeepsOffice, has_lawful_length}
use Rattle.duty_plan.specs.Duties.{past_at}
use Rattle.duty_plan.specs.Labels.{has_step}
use Rattle.dominance.specs.Completions.{with_ready}
use Rattle.duty_plan.proofs.WeekLimits.{at-step}
use Rattle.dominance.proofs.DelayedLines.{delayed_lasts}

-- the first partial duty is n minutes behind the second, both after an act: at the same place, with no more load, no order within
-- reach that the second doesn't serve, the same forced orders, and a line as good once it has waited
pub record IsBehind (case : Case) (driver forced reach n : ℕ) (first second : PartialDuty) : Type 0 where
  pub place : place_after first ≡ place_after second
  pub minutes : at_after case.week first + n ≡ at_after case.week second
  pub loaded : loaded_after second ≡ true → loaded_after first ≡ true
  pub used : used_after case.week first ≤ used_after case.week second
  pub among : (order : ℕ) → bit_at reach order ≡ 1 → serves order second ≡ false → serves order first ≡ false
  pub agree : (order : ℕ) → bit_at forced order ≡ 1 → serves order first ≡ serves order second
  pub steps : (has_step first ≡ true) × (has_step second ≡ true)
  pub together : Together (past_at case driver) (past_at case driver) (stretch n Ready Plain (line_after case.week first))
      (line_after case.week second)
  pub hours : fault (past_at case driver) (stretch n Ready Plain (line_after case.week first)) ≡ None

-- ---- the office rules, one by one

same_start : (week : Week) (n : ℕ) (step : Step) (first second : PartialDuty) → at_after week first + n ≡ at_after week second →
    start_of week (with_ready n step) first ≡ start_of week step second
same_start week n step first second e = omega arith

same_end : (week : Week) (n : ℕ) (step : Step) (first second : PartialDuty) → place_after first ≡ place_after second →
    at_after week first + n ≡ at_after week second → at_after week (with_ready n step ∷ first) ≡ at_after week (step ∷ second)
same_end week n step first second p e =
    at-step week (with_ready n step) first
    ∙ (ap (λ (x : ℕ). x + minutes_of week (place_after first) step.act) (same_start week n step first second e)
    ∙ (ap (λ (x : ℕ). start_of week step second + minutes_of week x step.act) p
    ∙ sym (at-step week step second)))

same_lengths : (open_off n : ℕ) (step : Step) (first second : PartialDuty) → has_step first ≡ true → has_step second ≡ true →
    has_lawful_length open_off step second ≡ true → has_lawful_length open_off (with_ready n step) first ≡ true
same_lengths open_off n step [] second f s h = cc
same_lengths open_off n step (x ∷ first) [] f s h = cc
same_lengths open_off n step (x ∷ first) (y ∷ second) f s h = h

carries : (week : Week) (capacity : ℕ) (lf ls : Bool) (uf us : ℕ) (act : Act) → (ls ≡ true → lf ≡ true) → uf ≤ us →
    may_carry week capacity ls us act ≡ true → may_carry week capacity lf uf act ≡ true
carries week capacity lf ls uf us (Leg to) l u h = refl
carries week capacity lf ls uf us Load l u h = refl
carries week capacity lf false uf us (Serve order) l u h = cc
carries week capacity lf true uf us (Serve order) l u h =
    let few = leb-true (used_by week (Serve order) us) capacity h in
    rw (l refl) (le-leb (used_by week (Serve order) uf) capacity (omega arith))

not_less : (x y : Bool) → (y ≡ false → x ≡ false) → not y ≡ true → not x ≡ true
not_less x true f h = cc
not_less x false f h = ap not (f refl)

-- the act serves only orders within reach
abbrev pub ActsWithin : ℕ → Act → Type 0
ActsWithin reach act = (order : ℕ) → serves_order order act ≡ true → bit_at reach order ≡ 1

anew : (reach : ℕ) (act : Act) (first second : PartialDuty) → ActsWithin reach act →
    ((order : ℕ) → bit_at reach order ≡ 1 → serves order second ≡ false → serves order first ≡ false) →
    is_new act second ≡ true → is_new act first ≡ true
anew reach (Leg to) first second within among h = refl
anew reach Load first second within among h = refl
anew reach (Serve order) first second within among h =
    not_less (serves order first) (serves order second) (among order (within order (eq-eqb order order refl))) h

-- what the second partial duty's next step keeps, the first one's keeps, where it serves only orders within reach
pub keeps : (case : Case) (driver forced reach n open_off capacity : ℕ) (step : Step) (first second : PartialDuty) →
    IsBehind case driver forced reach n first second → ActsWithin reach step.act → KeepsOffice case.week open_off capacity step second →
    KeepsOffice case.week open_off capacity (with_ready n step) first
keeps case driver forced reach n open_off capacity step first second b within k =
    let week = case.week in
    let start = same_start week n step first second b.minutes in
    record {
      road = ap (λ (x : ℕ). can_be_done week x step.act) b.place ∙ k.road;
      stay = same_lengths open_off n step first second b.steps.0 b.steps.1 k.stay;
      away = ap (λ (x : ℕ). not (is_weekly step.stay.kind) || eqb x 0) b.place ∙ k.away;
      grid = ap (λ (x : ℕ). not (is_rest step.stay.kind) || eqb (x % week.grid) 0) start ∙ k.grid;
      late = ap (λ (x : ℕ). leb x 10080) (same_end week n step first second b.place b.minutes) ∙ k.late;
      window = ap (may_start week step.act) start ∙ k.window;
      load = carries week capacity (loaded_after first) (loaded_after second) (used_after week first) (used_after week second) step.act
          b.loaded b.used k.load;
      twice = anew reach step.act first second within b.among k.twice;
    }

-- ---- one step on

loaded-step : (act : Act) (lf ls : Bool) → (ls ≡ true → lf ≡ true) → loaded_by act ls ≡ true → loaded_by act lf ≡ true
loaded-step (Leg to) lf ls l h = l h
loaded-step (Serve order) lf ls l h = l h
loaded-step Load lf ls l h = refl

used-step : (week : Week) (act : Act) (uf us : ℕ) → uf ≤ us → used_by week act uf ≤ used_by week act us
used-step week (Leg to) uf us u = u
used-step week (Serve order) uf us u = omega arith
used-step week Load uf us u = omega arith

or_less : (c x y : Bool) → (y ≡ false → x ≡ false) → (c || y) ≡ false → (c || x) ≡ false
or_less true x y f h = h
or_less false x y f h = f h

-- the first partial duty is behind no more after the delayed step
pub behind-step : (case : Case) (driver forced reach n : ℕ) (step : Step) (first second : PartialDuty) →
    IsBehind case driver forced reach n first second → fault (past_at case driver) (line_after case.week (step ∷ second)) ≡ None →
    IsBehind case driver forced reach 0 (with_ready n step ∷ first) (step ∷ second)
behind-step case driver forced reach n step first second b h =
    let week = case.week in
    let past = past_at case driver in
    let lasts = delayed_lasts past n step.stay (mark_of step.act) (minutes_of week (place_after second) step.act)
    (line_after week first) (line_after week second) b.together b.hours h in
    let minutes = ap (λ (x : ℕ). minutes_of week x step.act) b.place in
    record {
      place = ap (place_by step.act) b.place;
      minutes = omega (arith, same_end week n step first second b.place b.minutes);
      loaded = loaded-step step.act (loaded_after first) (loaded_after second) b.loaded;
      used = used-step week step.act (used_after week first) (used_after week second) b.used;
      among = λ o r. or_less (serves_order o step.act) (serves o first) (serves o second) (b.among o r);
      agree = λ o f. ap (λ (x : Bool). serves_order o step.act || x) (b.agree o f);
      steps = (refl, refl);
      together = rw minutes lasts.0;
      hours = rw minutes lasts.1;
    }
