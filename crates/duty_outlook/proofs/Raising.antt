-- What is raised to what an act brings admits the act.
use Rattle.std.proofs.Common.{◌≡◌, inl, inr, ℕ, ◌+◌, ◌-◌, ◌*◌, ◌/◌, ◌^◌, ◌≤◌, ◌<◌, Bool, true, false, ◌&&◌, eqb, List, [], ◌∷◌, length, All, refl, ap, sym, subst, ◌∙◌, arith, ℤ, ◌-ℤ◌, ◌≤ℤ◌, Option, Some, None, is_some, find}
use Rattle.std.specs.Prelude.{bit_or}
use Rattle.std.proofs.lemmas.Bool.{leb-true, eqb-true, and_parts, cases_eq, cases_lt}
use Rattle.std.proofs.lemmas.Int.{ints}
use Rattle.std.proofs.Math.Nat.{add-mul, div-mul-le_self, lt_of_mul-lt-mul_right}
use Rattle.std.proofs.lemmas.Nat.{le-div}
use Rattle.std.proofs.lemmas.Option.{slice_get_past}
use Rattle.week_book.specs.declared.weeks.Leg.{Leg as Road}
use Rattle.week_book.specs.declared.weeks.Order.{Order}
use Rattle.week_book.specs.declared.weeks.Week.{Week}
use Rattle.week_book.specs.Weeks.{road, order_of}
use Rattle.duty_plan.specs.declared.duties.Act.{Act}
use Rattle.duty_plan.specs.declared.duties.Act.TheVariants.{Leg, Serve}
use Rattle.duty_plan.specs.declared.pricing.Prices.{Prices}
use Rattle.duty_plan.specs.Acts.{can_be_done, kg_of, minutes_of_order, is_at, minutes_of, minutes_of_road, cents_of_road, cents_of_act}
use Rattle.duty_plan.specs.Values.{price_at}
use Rattle.duty_plan.proofs.WeekLimits.{all-find}
use Rattle.duty_plan.proofs.OfficeSteps.{or-none}
use Rattle.duty_outlook.specs.declared.spots.Spot.{Spot}
use Rattle.duty_outlook.specs.declared.outlooks.Outlook.{Outlook}
use Rattle.duty_outlook.specs.Covering.{Covers, Admits}
use Rattle.duty_outlook.specs.Timetables.{saved_by}
use Rattle.duty_outlook.specs.Rows.{number_at, Grows, IsRaised}
use Rattle.duty_outlook.specs.Outlooks.{CoversRow, AdmitsRow, AdmitsAct, AdmitsRoad, AdmitsServices, cents_of}
use Rattle.duty_outlook.proofs.Steps.{covers-up, covers-rounded}

-- a larger number admits too
admits-up : (week : Week) (capacity : ℕ) (prices : Prices) (orders place at load : ℕ) (act : Act) (number larger : ℤ) →
    number ≤ℤ larger → Admits week capacity prices orders place at load act number → Admits week capacity prices orders place at load act larger
admits-up week capacity prices orders place at load act number larger l a = record {
  next = λ small.
      covers-up (larger -ℤ saved_by week prices place act) (a.next (omega (arith, ints, small, l))) (omega (arith, ints, l));
}

-- and so does a row that grew
pub row-up : (week : Week) (capacity unit : ℕ) (prices : Prices) (spot : Spot) (act : Act) (old new : List ℕ) → Grows old new →
    AdmitsRow week capacity unit prices spot act old → AdmitsRow week capacity unit prices spot act new
row-up week capacity unit prices spot act old new g a = record {
  each = λ level l m.
      let grew = g level l in
      admits-up week capacity prices spot.orders spot.place spot.minute (level * unit) act (cents_of (number_at old level)) (cents_of (number_at new level))
      (omega (arith, ints, grew)) (a.each level l m);
}

-- an act that would end too late needs no number
pub row-late : (week : Week) (capacity unit : ℕ) (prices : Prices) (spot : Spot) (act : Act) (row : List ℕ) →
    10080 < spot.minute + minutes_of week spot.place act → AdmitsRow week capacity unit prices spot act row
row-late week capacity unit prices spot act row h = record { each = λ level l m. absurd (omega (arith, h, m.late)) }

-- what a leg brings
pub row-leg : (week : Week) (capacity unit : ℕ) (prices : Prices) (spot : Spot) (leg : Road) (next row : List ℕ) (less : ℕ) →
    road week spot.place leg.to ≡ Some leg →
    CoversRow week capacity unit prices (record { place = leg.to; minute = spot.minute + leg.minutes; orders = spot.orders }) next →
    less ≤ leg.cents → IsRaised 0 32 0 less next row → AdmitsRow week capacity unit prices spot (Leg leg.to) row
row-leg week capacity unit prices spot leg next row less e c few r = record {
  each = λ level l m. record {
    next = λ small.
        let here : level + 0 ≡ level = omega arith in
        let raised : number_at next level + 0 ≤ number_at row level + less = rw here at (r level l (omega (arith, ints, small))) in
        let minutes : minutes_of week spot.place (Leg leg.to) ≡ leg.minutes = ap minutes_of_road e in
        let cents : cents_of_act week spot.place (Leg leg.to) ≡ leg.cents = ap cents_of_road e in
        let covers : Covers week capacity prices (bit_or spot.orders 0) leg.to (spot.minute + minutes_of week spot.place (Leg leg.to)) (level * unit)
        (cents_of (number_at next level)) = rw (or-none, minutes) (c.each level l) in
        covers-up (cents_of (number_at row level) -ℤ saved_by week prices spot.place (Leg leg.to)) covers (omega (arith, ints, raised, cents, few));
  };
}

pub act-up : (week : Week) (outlook : Outlook) (spot : Spot) (act : Act) (old new : List ℕ) → Grows old new →
    AdmitsAct week outlook spot act old → AdmitsAct week outlook spot act new
act-up week outlook spot act old new g a prices f =
    row-up week outlook.scale.capacity outlook.scale.unit prices spot act old new g (a prices f)

pub road-up : (week : Week) (outlook : Outlook) (spot : Spot) (leg : Road) (old new : List ℕ) → Grows old new →
    AdmitsRoad week outlook spot old leg → AdmitsRoad week outlook spot new leg
road-up week outlook spot leg old new g a e = act-up week outlook spot (Leg leg.to) old new g (a e)

pub grows-on : (first old new : List ℕ) → Grows first old → Grows old new → Grows first new
grows-on first old new a b level l = omega (arith, a level l, b level l)

-- a road that is found joins the two places
found-passes : {X : Type 0} (p : X → Bool) (xs : List X) (x : X) → find p xs ≡ Some x → p x ≡ true
found-passes p [] x e = cc
found-passes p (y ∷ ys) x e = by_test (p y) refl e (λ h. found-passes p ys x h)
  where
    by_test : (b : Bool) → p y ≡ b → find p (y ∷ ys) ≡ Some x → (find p ys ≡ Some x → p x ≡ true) → p x ≡ true
    by_test true h e more =
        let found : find p (y ∷ ys) ≡ Some y = rw h refl in let same : y ≡ x = cc in ap p (sym same) ∙ h
    by_test false h e more = let later : find p (y ∷ ys) ≡ find p ys = rw h refl in more (sym later ∙ e)

pub road-joins : (week : Week) (place to : ℕ) (leg : Road) → road week place to ≡ Some leg → (leg.from ≡ place) × (leg.to ≡ to)
road-joins week place to leg e =
    let parts = and_parts (eqb leg.from place) (eqb leg.to to) (found-passes (λ (leg : Road). eqb leg.from place && eqb leg.to to) week.legs leg e) in
    (eqb-true leg.from place parts.0, eqb-true leg.to to parts.1)

-- an act that can't be done where the driver is needs no number
pub row-never : (week : Week) (capacity unit : ℕ) (prices : Prices) (spot : Spot) (act : Act) (row : List ℕ) →
    can_be_done week spot.place act ≡ false → AdmitsRow week capacity unit prices spot act row
row-never week capacity unit prices spot act row h = record { each = λ level l m. let road = m.road in cc }

-- where each leg of the week is admitted, so is the leg to each place
pub legs-all : (week : Week) (outlook : Outlook) (spot : Spot) (row : List ℕ) → All (AdmitsRoad week outlook spot row) week.legs → (to : ℕ) →
    AdmitsAct week outlook spot (Leg to) row
legs-all week outlook spot row each to prices f = by_road (road week spot.place to) refl
  where
    by_road : (found : Option Road) → road week spot.place to ≡ found → AdmitsRow week outlook.scale.capacity outlook.scale.unit prices spot (Leg to) row
    by_road None e = row-never week outlook.scale.capacity outlook.scale.unit prices spot (Leg to) row (ap is_some e)
    by_road (Some leg) e =
        let joins = road-joins week spot.place to leg e in
        let admits = all-find (AdmitsRoad week outlook spot row) _ week.legs leg each e in
        let there : road week spot.place leg.to ≡ Some leg = ap (road week spot.place) joins.1 ∙ e in
        subst (λ (x : ℕ). AdmitsRow week outlook.scale.capacity outlook.scale.unit prices spot (Leg x) row) joins.1 (admits there prices f)

-- what the service of an order brings
pub row-service : (week : Week) (capacity unit : ℕ) (prices : Prices) (spot : Spot) (number : ℕ) (order : Order) (after price : ℕ)
    (next row : List ℕ) → 0 < unit → capacity < 32 * unit → order.kg ≤ capacity → order_of week number ≡ Some order → price ≡ price_at prices number →
    after ≡ bit_or spot.orders (2 ^ number) →
    CoversRow week capacity unit prices (record { place = spot.place; minute = spot.minute + order.service; orders = after }) next →
    IsRaised (order.kg / unit) ((capacity - order.kg) / unit + 1) price 0 next row →
    AdmitsRow week capacity unit prices spot (Serve number) row
row-service week capacity unit prices spot number order after price next row some room light e p o c r = record {
  each = λ level l m. record {
    next = λ small.
        let kg : kg_of (order_of week number) ≡ order.kg = ap kg_of e in
        let minutes : minutes_of week spot.place (Serve number) ≡ order.service = ap minutes_of_order e in
        let fits : order.kg + level * unit ≤ capacity = rw kg at (leb-true (kg_of (order_of week number) + level * unit) capacity m.room) in
        let below : level < (capacity - order.kg) / unit + 1 = omega (arith, le-div level (capacity - order.kg) unit some (omega arith)) in
        let part : order.kg / unit * unit ≤ order.kg = div-mul-le_self order.kg unit in
        let both : (level + order.kg / unit) * unit ≡ level * unit + order.kg / unit * unit = omega arith in
        let inside : level + order.kg / unit < 32 = below-levels (level + order.kg / unit) unit capacity room (omega arith) in
        let raised : number_at next (level + order.kg / unit) + price ≤ number_at row level + 0 = r level below (omega (arith, ints, small)) in
        let covers : Covers week capacity prices (bit_or spot.orders (2 ^ number)) spot.place
        (spot.minute + minutes_of week spot.place (Serve number)) ((level + order.kg / unit) * unit) (cents_of (number_at next (level + order.kg / unit)))
        = rw (← o, minutes) (c.each (level + order.kg / unit) inside) in
        let rounded : Covers week capacity prices (bit_or spot.orders (2 ^ number)) spot.place
        (spot.minute + minutes_of week spot.place (Serve number)) (kg_of (order_of week number) + level * unit) (cents_of (number_at next (level + order.kg / unit)))
        = covers-rounded (bit_or spot.orders (2 ^ number)) (spot.minute + minutes_of week spot.place (Serve number))
        (kg_of (order_of week number) + level * unit) covers (λ order. omega arith) (omega arith) (omega (arith, kg, part, both)) in
        covers-up (cents_of (number_at row level) -ℤ saved_by week prices spot.place (Serve number)) rounded (omega (arith, ints, raised, p));
  };
}
  where
    below-levels : (levels unit capacity : ℕ) → capacity < 32 * unit → levels * unit ≤ capacity → levels < 32
    below-levels levels unit capacity a b = lt_of_mul-lt-mul_right unit {m = levels} {n = 32} (omega (arith, a, b))

-- the levels of a service fit a row
pub levels-fit : (kg capacity unit : ℕ) → kg ≤ capacity → capacity < 32 * unit → kg / unit + ((capacity - kg) / unit + 1) ≤ 32
levels-fit kg capacity unit light room =
    let sum : (kg / unit + (capacity - kg) / unit) * unit < 32 * unit =
    omega (arith, div-mul-le_self kg unit, div-mul-le_self (capacity - kg) unit, add-mul (kg / unit) ((capacity - kg) / unit) unit) in
    omega (arith, lt_of_mul-lt-mul_right unit {m = kg / unit + (capacity - kg) / unit} {n = 32} sum)

-- one order more
pub services-more : (week : Week) (prices : Prices) (outlook : Outlook) (spot : Spot) (old new : List ℕ) (n : ℕ) → Grows old new →
    AdmitsServices week prices outlook spot old n → AdmitsRow week outlook.scale.capacity outlook.scale.unit prices spot (Serve n) new →
    AdmitsServices week prices outlook spot new (n + 1)
services-more week prices outlook spot old new n g a here number l = elim (cases_eq number n) [
  | inl same ↦ subst (λ (x : ℕ). AdmitsRow week outlook.scale.capacity outlook.scale.unit prices spot (Serve x) new) (sym same) here
  | inr other ↦ row-up week outlook.scale.capacity outlook.scale.unit prices spot (Serve number) old new g (a number (omega arith))
]

-- all orders admit all services
pub services-all : (week : Week) (prices : Prices) (outlook : Outlook) (spot : Spot) (row : List ℕ) (n : ℕ) → length week.orders ≤ n →
    AdmitsServices week prices outlook spot row n → (number : ℕ) → AdmitsRow week outlook.scale.capacity outlook.scale.unit prices spot (Serve number) row
services-all week prices outlook spot row n l a number = elim (cases_lt number n) [
  | inl below ↦ a number below
  | inr past ↦
      let none : order_of week number ≡ None = slice_get_past week.orders number (omega arith) in
      row-never week outlook.scale.capacity outlook.scale.unit prices spot (Serve number) row (ap (λ found. is_at found spot.place) none)
]
