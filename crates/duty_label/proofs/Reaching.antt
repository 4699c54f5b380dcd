-- The legs of later steps, and the orders that they lead to in time.
use Rattle.std.proofs.Common.{◌≡◌, ℕ, ◌+◌, ◌≤◌, Bool, true, false, ◌||◌, ◌&&◌, leb, List, [], ◌∷◌, ◌++◌, refl, ap, sym, ◌∙◌, arith, Option, Some, None, is_some}
use Rattle.std.proofs.lemmas.Bool.{leb-true, le-leb}
use Rattle.std.proofs.lemmas.Bool.Decides.{nat_tests}
use Rattle.week_book.specs.declared.weeks.Leg.{Leg as Road}
use Rattle.week_book.specs.declared.weeks.Week.{Week}
use Rattle.week_book.specs.declared.weeks.Order.{Order}
use Rattle.week_book.specs.Weeks.{order_of, road}
use Rattle.duty_plan.specs.declared.duties.Act.{Act}
use Rattle.duty_plan.specs.declared.duties.Act.TheVariants.{Leg, Serve, Load}
use Rattle.duty_plan.specs.declared.duties.Step.{Step}
use Rattle.duty_plan.specs.Acts.{place_by, minutes_of, minutes_of_road, serves_order, is_open, is_at, may_start, can_be_done}
use Rattle.duty_plan.specs.PartialDuties.{PartialDuty, place_after, at_after, start_of, serves, KeepsOfficeThrough}
use Rattle.duty_plan.specs.Labels.{closes_of}
use Rattle.duty_plan.proofs.WeekLimits.{at-step}
use Rattle.duty_label.specs.Walks.{AreLegs, AreLowerBounds, AreLeastMinutes, AreClosed, can_reach, end_of, total_of_legs, place_of}

-- the places that legs lead to, the newest first, after one more act
abbrev pub leg_by : Act → List ℕ → List ℕ
leg_by (Leg to) places = to ∷ places
leg_by (Serve order) places = places
leg_by Load places = places

-- the places that the legs of some steps lead to, the newest first
abbrev pub legs_of : PartialDuty → List ℕ
legs_of [] = []
legs_of (step ∷ before) = leg_by step.act (legs_of before)

-- they are legs from the place, lead there, and with them the minute comes no later than another
pub record Leads (week : Week) (from there was now : ℕ) (places : List ℕ) : Type 0 where
  pub ends : end_of from places ≡ there
  pub legs : AreLegs week from places
  pub minutes : was + total_of_legs minutes_of_road week from places ≤ now

leads-act : (week : Week) (from there was start now : ℕ) (places : List ℕ) (act : Act) → Leads week from there was start places →
    can_be_done week there act ≡ true → now ≡ start + minutes_of week there act → Leads week from (place_by act there) was now (leg_by act places)
leads-act week from there was start now places (Leg to) l c t =
    let same : minutes_of_road (road week (end_of from places) to) ≡ minutes_of_road (road week there to)
    = ap (λ (x : ℕ). minutes_of_road (road week x to)) l.ends in
    record {
      ends = refl;
      legs = (ap (λ (x : ℕ). is_some (road week x to)) l.ends ∙ c, l.legs);
      minutes = omega (arith, same, t, l.minutes);
    }
leads-act week from there was start now places (Serve order) l c t =
    record { ends = l.ends; legs = l.legs; minutes = omega (arith, t, l.minutes) }
leads-act week from there was start now places Load l c t =
    record { ends = l.ends; legs = l.legs; minutes = omega (arith, t, l.minutes) }

-- it starts no earlier than the partial duty before it ends
no-earlier : (week : Week) (from there was : ℕ) (places : List ℕ) (step : Step) (before : PartialDuty) →
    Leads week from there was (at_after week before) places → Leads week from there was (start_of week step before) places
no-earlier week from there was places step before l = record { ends = l.ends; legs = l.legs; minutes = omega (arith, l.minutes) }

pub leads : (week : Week) (open_off capacity : ℕ) (partial more : PartialDuty) → KeepsOfficeThrough week open_off capacity (more ++ partial) →
    Leads week (place_after partial) (place_after (more ++ partial)) (at_after week partial) (at_after week (more ++ partial)) (legs_of more)
leads week open_off capacity partial [] k = record { ends = refl; legs = tt; minutes = omega arith }
leads week open_off capacity partial (step ∷ more) k =
    let before : PartialDuty = more ++ partial in
    leads-act week (place_after partial) (place_after before) (at_after week partial) (start_of week step before) (at_after week (step ∷ before))
    (legs_of more) step.act
    (no-earlier week (place_after partial) (place_after before) (at_after week partial) (legs_of more) step before
    (leads week open_off capacity partial more k.1))
    k.0.road (at-step week step before)

-- ---- the orders that they serve

stands : (found : Option Order) (place : ℕ) → is_at found place ≡ true → place_of found ≡ place
stands None place h = cc
stands (Some order) place h = grind (arith, nat_tests)

and-right : (a b : Bool) → (a && b) ≡ true → b ≡ true
and-right true b h = h
and-right false b h = cc

closes-open : (found : Option Order) (start : ℕ) → is_open found start ≡ true → start ≤ closes_of found
closes-open None start h = cc
closes-open (Some order) start h = leb-true start order.closes (and-right (leb order.opens start) (leb start order.closes) h)

-- an order that is served at the end of some legs
served : (week : Week) (least : ℕ → ℕ → ℕ) (from there was start o : ℕ) (places : List ℕ) → AreLeastMinutes week least →
    Leads week from there was start places → is_at (order_of week o) there ≡ true → is_open (order_of week o) start ≡ true →
    can_reach week least was from o ≡ true
served week least from there was start o places m l at window =
    let same : least from (end_of from places) ≡ least from (place_of (order_of week o)) =
    ap (least from) (l.ends ∙ sym (stands (order_of week o) there at)) in
    le-leb (was + least from (place_of (order_of week o))) (closes_of (order_of week o))
    (omega (arith, same, m from places l.legs, l.minutes, closes-open (order_of week o) start window))

-- an order that later steps serve can be reached before them
pub reached : (week : Week) (open_off capacity : ℕ) (least : ℕ → ℕ → ℕ) (partial more : PartialDuty) (o : ℕ) → AreLeastMinutes week least →
    KeepsOfficeThrough week open_off capacity (more ++ partial) → serves o more ≡ true →
    can_reach week least (at_after week partial) (place_after partial) o ≡ true
reached week open_off capacity least partial [] o m k h = cc
reached week open_off capacity least partial (step ∷ more) o m k h =
    by_act step.act (serves_order o step.act) refl refl h k.0.road k.0.window (λ s. reached week open_off capacity least partial more o m k.1 s)
  where
    leads_there : Leads week (place_after partial) (place_after (more ++ partial)) (at_after week partial) (start_of week step (more ++ partial)) (legs_of more)
    leads_there = no-earlier week (place_after partial) (place_after (more ++ partial)) (at_after week partial) (legs_of more) step (more ++ partial)
        (leads week open_off capacity partial more k.1)

    by_act : (act : Act) (b : Bool) → step.act ≡ act → serves_order o act ≡ b → (serves_order o step.act || serves o more) ≡ true →
        can_be_done week (place_after (more ++ partial)) step.act ≡ true → may_start week step.act (start_of week step (more ++ partial)) ≡ true →
        (serves o more ≡ true → can_reach week least (at_after week partial) (place_after partial) o ≡ true) →
        can_reach week least (at_after week partial) (place_after partial) o ≡ true
    by_act act false e t h r w rest = let f : serves_order o step.act ≡ false = ap (serves_order o) e ∙ t in rest (sym (rw f refl) ∙ h)
    by_act (Leg to) true e t h r w rest = cc
    by_act Load true e t h r w rest = cc
    by_act (Serve p) true e t h r w rest =
        let same : p ≡ o = grind (arith, nat_tests) in
        let act : step.act ≡ Serve o = e ∙ ap Serve same in
        served week least (place_after partial) (place_after (more ++ partial)) (at_after week partial) (start_of week step (more ++ partial)) o
        (legs_of more) m leads_there
        (ap (can_be_done week (place_after (more ++ partial))) (sym act) ∙ r)
        (ap (λ (x : Act). may_start week x (start_of week step (more ++ partial))) (sym act) ∙ w)

-- ---- lower bounds

-- what no leg undercuts is a lower bound for each list of legs
pub bounds_legs : (takes : Option Road → ℕ) (week : Week) (least : ℕ → ℕ → ℕ) → AreClosed takes week least → AreLowerBounds takes week least
bounds_legs takes week least c from [] l = omega (arith, c.here from)
bounds_legs takes week least c from (to ∷ before) l =
    omega (arith, c.leg from (end_of from before) to l.0, bounds_legs takes week least c from before l.1)
