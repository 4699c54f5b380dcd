-- A step that must be tried has a stay that is tried, and an act of its place.
use Rattle.std.proofs.Common.{◌≡◌, inl, inr, ℕ, suc, ◌+◌, ◌-◌, ◌*◌, ◌%◌, ◌/◌, ◌<◌, ◌≤◌, Bool, true, false, ◌&&◌, ◌||◌, eqb, List, [], ◌∷◌, refl, ap, sym, subst, ◌∙◌, arith, Option, Some, None, is_some, slice_get, find}
use Rattle.std.proofs.lemmas.Bool.{eqb-true, leb-true}
use Rattle.std.proofs.Math.Nat.{mod-add-div'}
use Rattle.minute_line.specs.declared.marks.Kind.{Kind}
use Rattle.minute_line.specs.declared.marks.Kind.TheVariants.{Plain, Daily, Weekly}
use Rattle.hours_rules.specs.declared.clocks.Stay.{Stay}
use Rattle.week_book.specs.declared.weeks.Week.{Week}
use Rattle.week_book.specs.declared.weeks.Leg.{Leg as Road}
use Rattle.week_book.specs.declared.weeks.Order.{Order}
use Rattle.week_book.specs.Weeks.{order_of, IsWeek}
use Rattle.duty_plan.specs.declared.duties.Act.{Act}
use Rattle.duty_plan.specs.declared.duties.Act.TheVariants.{Leg, Serve, Load}
use Rattle.duty_plan.specs.declared.duties.Step.{Step}
use Rattle.duty_plan.specs.declared.plans.Case.{Case}
use Rattle.duty_plan.specs.declared.deciding.Pairs.{Pairs}
use Rattle.duty_plan.specs.Acts.{is_at}
use Rattle.duty_plan.specs.PartialDuties.{PartialDuty, place_after, at_after, start_of, is_plain_length, has_lengths, ends_open}
use Rattle.duty_plan.specs.Duties.{open_off_at}
use Rattle.duty_plan.specs.Labels.{listed_ready}
use Rattle.duty_plan.proofs.Runs.{both}
use Rattle.duty_plan.proofs.WeekLimits.{at-step, small-act}
use Rattle.duty_pricing.specs.Exhausting.{MayFollow}
use Rattle.duty_pricing.specs.Listing.{ready_before, rest_stay, IsPlainStay, IsTriedStay}

-- the Ready minutes depend on the act alone
ready-listed : (week : Week) (off : ℕ) (ready : ℕ) (kind : Kind) (act : Act) (before : PartialDuty) →
    listed_ready week (record { stay = record { ready = ready; off = off; kind = kind }; act = act }) before
    ≡ ready_before week (at_after week before) off act
ready-listed week off ready kind (Leg to) before = refl
ready-listed week off ready kind (Serve order) before = refl
ready-listed week off ready kind Load before = refl

-- the lengths of a Plain stay, whether it is the first or not
plain-length : (first : Bool) (ready off : ℕ) → has_lengths first (record { ready = ready; off = off; kind = Plain }) ≡ true → is_plain_length off ≡ true
plain-length true ready off h = (both (eqb ready 0) (is_plain_length off) h).1
plain-length false ready off h = h

-- a minute that the grid divides is a turn of it
grid-turn : (start grid : ℕ) → eqb (start % grid) 0 ≡ true → start ≡ start / grid * grid
grid-turn start grid h = let e = eqb-true (start % grid) 0 h in let d = mod-add-div' start grid in omega arith

plain-tried : (case : Case) (driver : ℕ) (pairs : Pairs) (ready off : ℕ) (act : Act) (before : PartialDuty) →
    MayFollow case driver pairs (record { stay = record { ready = ready; off = off; kind = Plain }; act = act }) before →
    IsPlainStay case.week (at_after case.week before) act (record { ready = ready; off = off; kind = Plain })
plain-tried case driver pairs ready off act before m =
    let same : ready ≡ ready_before case.week (at_after case.week before) off act =
    eqb-true ready _ m.listed ∙ ready-listed case.week off ready Plain act before in
    record {
      off = off;
      is_length = plain-length (ends_open (open_off_at case driver) before) ready off m.lawful.office.0.stay;
      is = ap (λ (x : ℕ). record { ready = x; off = off; kind = Plain }) same;
    }

-- where an act starts that must be tried
start-early : (case : Case) (driver : ℕ) (pairs : Pairs) (step : Step) (before : PartialDuty) → IsWeek case.week → MayFollow case driver pairs step before →
    start_of case.week step before < 10080
start-early case driver pairs step before w m =
    let act = small-act case.week (place_after before) step.act w m.lawful.office.0.road in
    let some = act.some in
    let week : at_after case.week (step ∷ before) ≤ 10080 = leb-true (at_after case.week (step ∷ before)) 10080 m.lawful.office.0.late in
    omega (arith, at-step case.week step before)

rest-tried : (case : Case) (driver : ℕ) (pairs : Pairs) (ready off : ℕ) (kind : Kind) (act : Act) (before : PartialDuty) → IsWeek case.week →
    MayFollow case driver pairs (record { stay = record { ready = ready; off = off; kind = kind }; act = act }) before →
    eqb ready 0 ≡ true → eqb (start_of case.week (record { stay = record { ready = ready; off = off; kind = kind }; act = act }) before % case.week.grid) 0 ≡ true →
    (turn : ℕ) × (at_after case.week before ≤ turn * case.week.grid) × (turn * case.week.grid < 10080) ×
    (record { ready = ready; off = off; kind = kind } ≡ rest_stay (at_after case.week before) kind (turn * case.week.grid))
rest-tried case driver pairs ready off kind act before w m r g =
    let none : ready ≡ 0 = eqb-true ready 0 r in
    let at : ℕ = at_after case.week before in
    let start : ℕ = at + ready + off in
    let turn : start ≡ start / case.week.grid * case.week.grid = grid-turn start case.week.grid g in
    let early : start < 10080 = start-early case driver pairs _ before w m in
    let offs : off ≡ start / case.week.grid * case.week.grid - at = omega arith in (
      start / case.week.grid,
      omega arith,
      omega arith,
      ap (λ (x : ℕ). record { ready = x; off = off; kind = kind }) none
          ∙ ap (λ (x : ℕ). record { ready = 0; off = x; kind = kind }) offs,
    )

-- a step that must be tried has a stay that is tried
pub stay-tried : (case : Case) (driver : ℕ) (pairs : Pairs) (stay : Stay) (act : Act) (before : PartialDuty) → IsWeek case.week →
    MayFollow case driver pairs (record { stay = stay; act = act }) before → IsTriedStay case.week (at_after case.week before) act stay
stay-tried case driver pairs stay act before w m = by_kind stay.ready stay.off stay.kind m
  where
    by_kind : (ready off : ℕ) (kind : Kind) →
        MayFollow case driver pairs (record { stay = record { ready = ready; off = off; kind = kind }; act = act }) before →
        IsTriedStay case.week (at_after case.week before) act (record { ready = ready; off = off; kind = kind })
    by_kind ready off Plain m = inl (plain-tried case driver pairs ready off act before m)
    by_kind ready off Daily m =
        let t = rest-tried case driver pairs ready off Daily act before w m m.listed m.lawful.office.0.grid in
        inr (record { turn = t.0; late = t.1; in_week = t.2; is = inl t.3 })
    by_kind ready off Weekly m =
        let t = rest-tried case driver pairs ready off Weekly act before w m m.listed m.lawful.office.0.grid in
        inr (record { turn = t.0; late = t.1; in_week = t.2; is = inr t.3 })

-- the five lengths
pub five-lengths : (P : ℕ → Type 0) (off : ℕ) → is_plain_length off ≡ true → P 0 → P 15 → P 30 → P 45 → P 180 → P off
five-lengths P off h a b c d e = by_or (eqb off 0) refl
  where
    at : (n : ℕ) → eqb off n ≡ true → P n → P off
    at n t p = subst P (sym (eqb-true off n t)) p

    by_180 : eqb off 0 ≡ false → eqb off 15 ≡ false → eqb off 30 ≡ false → (x : Bool) → eqb off 45 ≡ x → P off
    by_180 h0 h1 h2 true t = at 45 t d
    by_180 h0 h1 h2 false t =
        let rest : eqb off 180 ≡ true = sym (ap (λ (x : Bool). x || (eqb off 15 || (eqb off 30 || (eqb off 45 || eqb off 180)))) h0
        ∙ (ap (λ (x : Bool). x || (eqb off 30 || (eqb off 45 || eqb off 180))) h1
        ∙ (ap (λ (x : Bool). x || (eqb off 45 || eqb off 180)) h2 ∙ ap (λ (x : Bool). x || eqb off 180) t))) ∙ h in
        at 180 rest e

    by_45 : eqb off 0 ≡ false → eqb off 15 ≡ false → (x : Bool) → eqb off 30 ≡ x → P off
    by_45 h0 h1 true t = at 30 t c
    by_45 h0 h1 false t = by_180 h0 h1 t (eqb off 45) refl

    by_30 : eqb off 0 ≡ false → (x : Bool) → eqb off 15 ≡ x → P off
    by_30 h0 true t = at 15 t b
    by_30 h0 false t = by_45 h0 t (eqb off 30) refl

    by_or : (x : Bool) → eqb off 0 ≡ x → P off
    by_or true t = at 0 t a
    by_or false t = by_30 t (eqb off 15) refl

-- a leg that can be driven is a row of the road table
pub road-row : (rows : List Road) (from to : ℕ) → is_some (find (λ leg. eqb leg.from from && eqb leg.to to) rows) ≡ true →
    (k : ℕ) × (row : Road) × (slice_get rows k ≡ Some row) × (row.from ≡ from) × (row.to ≡ to)
road-row [] from to h = cc
road-row (row ∷ rows) from to h = by_test (eqb row.from from && eqb row.to to) refl (λ g. road-row rows from to g)
  where
    by_test : (b : Bool) → (eqb row.from from && eqb row.to to) ≡ b →
        (is_some (find (λ leg. eqb leg.from from && eqb leg.to to) rows) ≡ true →
        (k : ℕ) × (r : Road) × (slice_get rows k ≡ Some r) × (r.from ≡ from) × (r.to ≡ to)) →
        (k : ℕ) × (r : Road) × (slice_get (row ∷ rows) k ≡ Some r) × (r.from ≡ from) × (r.to ≡ to)
    by_test true t more = let b = both (eqb row.from from) (eqb row.to to) t in (0, row, refl, eqb-true row.from from b.0, eqb-true row.to to b.1)
    by_test false t more =
        let later : find (λ leg. eqb leg.from from && eqb leg.to to) (row ∷ rows) ≡ find (λ leg. eqb leg.from from && eqb leg.to to) rows = rw t refl in
        let f = more (sym (ap is_some later) ∙ h) in (suc f.0, f.1, f.2, f.3, f.4)

-- an order that can be served is a row of the order table, at the place
pub order-row : (week : Week) (order place : ℕ) → is_at (order_of week order) place ≡ true →
    (row : Order) × (slice_get week.orders order ≡ Some row) × (row.place ≡ place)
order-row week order place h = by_found (order_of week order) refl h
  where
    by_found : (found : Option Order) → order_of week order ≡ found → is_at found place ≡ true →
        (row : Order) × (slice_get week.orders order ≡ Some row) × (row.place ≡ place)
    by_found None e t = cc
    by_found (Some row) e t = (row, e, eqb-true row.place place t)
