-- Where and when a partial duty with one step more ends, and which orders it serves.
use Rattle.std.proofs.Common.{◌≡◌, ℕ, ◌<◌, Bool, true, false, ◌&&◌, ◌||◌, ltb, eqb, find, is_some, List, [], ◌∷◌, length, refl, ap, sym, ◌∙◌, arith, Option, Some, None}
use Rattle.std.proofs.lemmas.Bool.{eqb-true, ltb-true, lt-ltb}
use Rattle.std.proofs.lemmas.Bool.Decides.{nat_tests}
use Rattle.week_book.specs.declared.weeks.Week.{Week}
use Rattle.week_book.specs.declared.weeks.Leg.{Leg as Road}
use Rattle.week_book.specs.Weeks.{road, IsWeek, IsLeg}
use Rattle.duty_plan.specs.declared.duties.Act.{Act}
use Rattle.duty_plan.specs.declared.duties.Act.TheVariants.{Leg, Serve, Load}
use Rattle.duty_plan.specs.declared.duties.Step.{Step}
use Rattle.duty_plan.specs.declared.plans.Case.{Case}
use Rattle.duty_plan.specs.declared.deciding.Pair.{Pair}
use Rattle.duty_plan.specs.declared.deciding.Pair.TheVariants.{Free, Forced, Barred}
use Rattle.duty_plan.specs.declared.deciding.Pairs.{Pairs}
use Rattle.duty_plan.specs.Acts.{serves_order, can_be_done, place_by}
use Rattle.duty_plan.specs.PartialDuties.{PartialDuty, place_after, at_after, serves, KeepsOfficeThrough}
use Rattle.duty_plan.specs.Duties.{IsLawfulPartialDuty}
use Rattle.duty_plan.specs.Values.{is_barred, pair_at}
use Rattle.duty_plan.proofs.Runs.{both}
use Rattle.duty_plan.proofs.WeekLimits.{all-find, at-step, small-act}
use Rattle.duty_label.specs.Children.{serves_barred}
use Rattle.dominance.specs.Reaching.{ServesNoBarred}

clash : (b : Bool) → b ≡ true → b ≡ false → ⊥
clash b t f = cc

-- ---- lawful partial duties

find-ends : (rows : List Road) (from to : ℕ) (leg : Road) → find (λ l. eqb l.from from && eqb l.to to) rows ≡ Some leg → leg.to ≡ to
find-ends [] from to leg e = cc
find-ends (row ∷ rows) from to leg e = by_test (eqb row.from from && eqb row.to to) refl (λ h. find-ends rows from to leg h)
  where
    by_test : (b : Bool) → (eqb row.from from && eqb row.to to) ≡ b →
        (find (λ l. eqb l.from from && eqb l.to to) rows ≡ Some leg → leg.to ≡ to) → leg.to ≡ to
    by_test true t more =
        let found : find (λ l. eqb l.from from && eqb l.to to) (row ∷ rows) ≡ Some row = rw t refl in
        let same : row ≡ leg = cc in
        sym (ap (λ (r : Road). r.to) same) ∙ eqb-true row.to to (both (eqb row.from from) (eqb row.to to) t).1
    by_test false t more =
        let later : find (λ l. eqb l.from from && eqb l.to to) (row ∷ rows) ≡ find (λ l. eqb l.from from && eqb l.to to) rows = rw t refl in
        more (sym later ∙ e)

-- a partial duty's place is one of the week
pub place-in : (week : Week) (open_off capacity : ℕ) (partial : PartialDuty) → IsWeek week → KeepsOfficeThrough week open_off capacity partial →
    place_after partial < length week.places
place-in week open_off capacity [] w k = omega (arith, w.places.0)
place-in week open_off capacity (step ∷ before) w k = by_act step.act k.0.road (place-in week open_off capacity before w k.1)
  where
    by_road : (from to : ℕ) (found : Option Road) → road week from to ≡ found → is_some found ≡ true → to < length week.places
    by_road from to None e h = cc
    by_road from to (Some leg) e h =
        let both_ends = find-ends week.legs from to leg e in
        let in_week = (all-find (IsLeg (length week.places)) _ week.legs leg w.legs e).to in omega (arith, both_ends)

    by_act : (act : Act) → can_be_done week (place_after before) act ≡ true → place_after before < length week.places →
        place_by act (place_after before) < length week.places
    by_act (Leg to) h l = by_road (place_after before) to (road week (place_after before) to) refl h
    by_act (Serve order) h l = l
    by_act Load h l = l

-- a partial duty ends later than the partial duty before its last step
pub ends-later : (case : Case) (driver : ℕ) (step : Step) (before : PartialDuty) → IsWeek case.week → IsLawfulPartialDuty case driver (step ∷ before) →
    at_after case.week before < at_after case.week (step ∷ before)
ends-later case driver step before w l =
    let act = small-act case.week (place_after before) step.act w l.office.0.road in
    let some = act.some in
    omega (arith, at-step case.week step before)

-- ---- barred orders

-- an act that may follow serves no barred order
pub not-barred : (case : Case) (driver : ℕ) (pairs : Pairs) (step : Step) (before : PartialDuty) → ServesNoBarred case.week pairs driver (step ∷ before) →
    serves_barred case.week pairs driver step.act ≡ false
not-barred case driver pairs step before keeps = by_act step.act (λ o l p. first (serves_order o step.act) (serves o before) (keeps o l p))
  where
    first : (a b : Bool) → (a || b) ≡ false → a ≡ false
    first true b h = cc
    first false b h = refl

    by_act : (act : Act) → ((o : ℕ) → o < length case.week.orders → pair_at pairs driver o ≡ Barred → serves_order o act ≡ false) →
        serves_barred case.week pairs driver act ≡ false
    by_act (Leg to) k = refl
    by_act Load k = refl
    by_act (Serve order) k = by_tests (ltb order (length case.week.orders)) refl (pair_at pairs driver order) refl
      where
        itself : serves_order order (Serve order) ≡ true
        itself = grind (arith, nat_tests)

        by_tests : (b : Bool) → ltb order (length case.week.orders) ≡ b → (p : Pair) → pair_at pairs driver order ≡ p → (b && is_barred p) ≡ false
        by_tests false l p e = refl
        by_tests true l Free e = refl
        by_tests true l Forced e = refl
        by_tests true l Barred e =
            let none = k order (ltb-true order (length case.week.orders) l) e in absurd (clash _ itself none)

-- and the other way round, after a partial duty that serves none
pub keeps-barred : (case : Case) (driver : ℕ) (pairs : Pairs) (step : Step) (before : PartialDuty) → ServesNoBarred case.week pairs driver before →
    serves_barred case.week pairs driver step.act ≡ false → ServesNoBarred case.week pairs driver (step ∷ before)
keeps-barred case driver pairs step before keeps none o l p = by_act step.act none
  where
    by_act : (act : Act) → serves_barred case.week pairs driver act ≡ false → (serves_order o act || serves o before) ≡ false
    by_act (Leg to) n = keeps o l p
    by_act Load n = keeps o l p
    by_act (Serve order) n = by_test (eqb o order) refl
      where
        by_test : (b : Bool) → eqb o order ≡ b → (b || serves o before) ≡ false
        by_test false e = keeps o l p
        by_test true e =
            let same : order ≡ o = sym (eqb-true o order e) in
            let low : ltb order (length case.week.orders) ≡ true = lt-ltb order (length case.week.orders) (omega arith) in
            let barred : is_barred (pair_at pairs driver order) ≡ true = ap (λ (x : ℕ). is_barred (pair_at pairs driver x)) same ∙ ap is_barred p in
            let bad : serves_barred case.week pairs driver (Serve order) ≡ true = rw (low, barred) refl in absurd (clash _ bad n)
