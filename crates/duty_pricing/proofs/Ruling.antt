-- Rests that are ruled out, and rests that need not be tried.
use Rattle.std.proofs.Common.{◌≡◌, ◌⊎◌, inl, inr, ℕ, ◌+◌, ◌*◌, ◌/◌, ◌<◌, ◌≤◌, min, Bool, true, false, ◌∷◌, refl, ap, sym, subst, ◌∙◌, arith, le_refl, Option, Some, slice_get}
use Rattle.std.proofs.lemmas.Int.{ints}
use Rattle.std.proofs.lemmas.Bool.{cases_lt, eqb-true}
use Rattle.std.proofs.lemmas.Bool.Decides.{nat_tests}
use Rattle.minute_line.specs.declared.marks.Kind.{Kind}
use Rattle.minute_line.specs.declared.marks.Kind.TheVariants.{Plain, Daily, Weekly}
use Rattle.minute_line.specs.Marks.{is_rest}
use Rattle.week_book.specs.declared.weeks.Order.{Order}
use Rattle.week_book.specs.declared.weeks.Week.{Week}
use Rattle.week_book.specs.Weeks.{order_of}
use Rattle.duty_plan.specs.declared.duties.Act.{Act}
use Rattle.duty_plan.specs.declared.duties.Act.TheVariants.{Load, Serve}
use Rattle.duty_plan.specs.declared.duties.Step.{Step}
use Rattle.duty_plan.specs.declared.plans.Case.{Case}
use Rattle.duty_plan.specs.declared.pricing.Prices.{Prices}
use Rattle.duty_plan.specs.declared.labels.Label.{Label}
use Rattle.duty_plan.specs.Acts.{is_open, may_start}
use Rattle.duty_plan.specs.PartialDuties.{PartialDuty, place_after, at_after, start_of}
use Rattle.duty_plan.specs.Labels.{is_listed}
use Rattle.duty_plan.specs.LabelLists.{Entry}
use Rattle.duty_plan.proofs.WeekLimits.{at-step}
use Rattle.duty_outlook.specs.Laws.{IsNoSooner}
use Rattle.duty_outlook.proofs.Gains.{no-sooner}
use Rattle.duty_pricing.specs.declared.asking.Asked.{Asked}
use Rattle.duty_pricing.specs.declared.stores.LabelStore.{LabelStore}
use Rattle.duty_pricing.specs.declared.tried.Tried.{Tried}
use Rattle.duty_pricing.specs.declared.tried.Tried.TheVariants.{Full, Done, RuledOut}
use Rattle.duty_pricing.specs.Asking.{IsAsked}
use Rattle.duty_pricing.specs.Listing.{rest_stay}
use Rattle.duty_pricing.specs.Slots.{entries_of}
use Rattle.duty_pricing.specs.Searching.{HasTried, IsSearch, MayExtend, OnTried, RulesOut}
use Rattle.duty_pricing.proofs.Going.{turn-low}
use Rattle.duty_pricing.proofs.Trying.{from-has}

clash : (b : Bool) → b ≡ true → b ≡ false → ⊥
clash b t f = cc

-- what is known where a step was tried with room
pub not-full : (F : Type 0) {D R : Type 0} (tried : Tried) → OnTried tried F D R → (tried ≡ Full → ⊥) → (R → D) → D
not-full F Full h n f = absurd (n refl)
not-full F Done h n f = h
not-full F RuledOut h n f = f h

-- a step that is ruled out was tried
pub ruled-tried : (asked : Asked) (store : LabelStore) (n : ℕ) (step : Step) → RulesOut asked store n step → HasTried asked store n step
ruled-tried asked store n step r entry h m =
    inr (r entry h (step ∷ entry.partial) (no-sooner asked.case.now asked.driver asked.prices.now (step ∷ entry.partial)))

-- a longer rest ends no sooner
rests-no-sooner : (case : Case) (driver : ℕ) (prices : Prices) (before : PartialDuty) (at start later : ℕ) (kind : Kind) (act : Act) → start ≤ later →
    IsNoSooner case driver prices (record { stay = rest_stay at kind start; act = act } ∷ before)
    (record { stay = rest_stay at kind later; act = act } ∷ before)
rests-no-sooner case driver prices before at start later kind act l = record {
  place = refl;
  late = omega (
    arith,
    at-step case.week (record { stay = rest_stay at kind start; act = act }) before,
    at-step case.week (record { stay = rest_stay at kind later; act = act }) before,
  );
  load = le_refl _;
  orders = λ order h. h;
  value = omega (arith, ints);
}

-- where a rest is ruled out, so is each longer one
pub longer-ruled : (asked : Asked) (store : LabelStore) (n at start later : ℕ) (kind : Kind) (act : Act) → start ≤ later →
    RulesOut asked store n (record { stay = rest_stay at kind start; act = act }) →
    HasTried asked store n (record { stay = rest_stay at kind later; act = act })
longer-ruled asked store n at start later kind act l r entry h m =
    inr (r entry h (record { stay = rest_stay at kind later; act = act } ∷ entry.partial)
    (rests-no-sooner asked.case.now asked.driver asked.prices.now entry.partial at start later kind act l))

-- a rest is listed
pub rest-listed : (week : Week) (at start : ℕ) (kind : Kind) (act : Act) (before : PartialDuty) → is_rest kind ≡ true →
    is_listed week (record { stay = rest_stay at kind start; act = act }) before ≡ true
rest-listed week at start Plain act before h = cc
rest-listed week at start Daily act before h = refl
rest-listed week at start Weekly act before h = refl

-- a rest until a start at which the act doesn't start need not be tried
pub closed-tried : (asked : Asked) (store : LabelStore) (n at start : ℕ) (kind : Kind) (act : Act) →
    ((entry : Entry) → slice_get (entries_of store.slots) n ≡ Some entry → at ≡ at_after asked.case.now.week entry.partial) → at ≤ start →
    may_start asked.case.now.week act start ≡ false → HasTried asked store n (record { stay = rest_stay at kind start; act = act })
closed-tried asked store n at start kind act is l f entry h m =
    let same : start_of asked.case.now.week (record { stay = rest_stay at kind start; act = act }) entry.partial ≡ start = (let e = is entry h in omega arith) in
    absurd (clash _ (sym (ap (may_start asked.case.now.week act) same) ∙ m.lawful.office.0.window) f)

-- a weekly rest away from the depot need not be tried
pub away-tried : (asked : Asked) (store : LabelStore) (n start place : ℕ) (act : Act) (at : ℕ) →
    ((entry : Entry) → slice_get (entries_of store.slots) n ≡ Some entry → place ≡ place_after entry.partial) → (place ≡ 0 → ⊥) →
    HasTried asked store n (record { stay = rest_stay at Weekly start; act = act })
away-tried asked store n start place act at is away entry h m =
    absurd (away (is entry h ∙ eqb-true (place_after entry.partial) 0 m.lawful.office.0.away))

-- past its window a service does not start
pub past-window : (order : Order) (start : ℕ) → order.closes < start → is_open (Some order) start ≡ false
past-window order start l = grind (arith, nat_tests)

-- the turns past a minute's
pub turn-past : (turn closes grid : ℕ) → (grid ≡ 15) ⊎ ((grid ≡ 30) ⊎ (grid ≡ 60)) → closes / grid + 1 ≤ turn → closes < turn * grid
turn-past turn closes grid (inl e) l = rw e (let x : closes / 15 + 1 ≤ turn = rw (sym e) l in omega arith)
turn-past turn closes grid (inr (inl e)) l = rw e (let x : closes / 30 + 1 ≤ turn = rw (sym e) l in omega arith)
turn-past turn closes grid (inr (inr e)) l = rw e (let x : closes / 60 + 1 ≤ turn = rw (sym e) l in omega arith)

some-same : {X : Type 0} (a b : X) → Some a ≡ Some b → a ≡ b
some-same a b h = cc

-- where and when the partial duty of a slot ends, by its label
pub ends-as : (asked : Asked) (store : LabelStore) (n : ℕ) (from : Label) → IsAsked asked → IsSearch asked from.clock.at store →
    MayExtend asked store n from → (entry : Entry) → slice_get (entries_of store.slots) n ≡ Some entry →
    (from.clock.at ≡ at_after asked.case.now.week entry.partial) × (from.place ≡ place_after entry.partial)
ends-as asked store n from is s x entry h =
    let same : x.entry ≡ entry = some-same x.entry entry (sym x.is_entry ∙ h) in
    let has = from-has asked store n from (record { stay = record { ready = 0; off = 0; kind = Plain }; act = Load }) is s x in (
      has.label_of.clock.at ∙ ap (λ (y : Entry). at_after asked.case.now.week y.partial) same,
      has.label_of.place ∙ ap (λ (y : Entry). place_after y.partial) same,
    )

-- a later turn has a later minute
pub turns-order : (turn later grid : ℕ) → (grid ≡ 15) ⊎ ((grid ≡ 30) ⊎ (grid ≡ 60)) → turn ≤ later → turn * grid ≤ later * grid
turns-order turn later grid (inl e) l = rw e (omega arith)
turns-order turn later grid (inr (inl e)) l = rw e (omega arith)
turns-order turn later grid (inr (inr e)) l = rw e (omega arith)

-- past a turn that is past the window of an order, its service does not start
pub serve-closed : (week : Week) (n : ℕ) (row : Order) (turn grid result : ℕ) → order_of week n ≡ Some row →
    result ≡ min (row.closes / grid + 1) (10080 / grid) → (grid ≡ 15) ⊎ ((grid ≡ 30) ⊎ (grid ≡ 60)) → result ≤ turn → turn * grid < 10080 →
    may_start week (Serve n) (turn * grid) ≡ false
serve-closed week n row turn grid result is e g l h = by_turn (cases_lt turn (row.closes / grid + 1))
  where
    by_turn : (turn < row.closes / grid + 1) ⊎ (row.closes / grid + 1 ≤ turn) → may_start week (Serve n) (turn * grid) ≡ false
    by_turn (inl early) = let low = turn-low turn grid g h in absurd (omega arith)
    by_turn (inr late) =
        ap (λ (o : Option Order). is_open o (turn * grid)) is ∙ past-window row (turn * grid) (turn-past turn row.closes grid g late)

-- the minute of a turn fits its type
pub turn-fits : (turn grid : ℕ) → (grid ≡ 15) ⊎ ((grid ≡ 30) ⊎ (grid ≡ 60)) → turn < 10080 / grid → turn * grid < 10080
turn-fits turn grid (inl e) l = rw e (let x : turn < 10080 / 15 = subst (λ (g : ℕ). turn < 10080 / g) e l in omega arith)
turn-fits turn grid (inr (inl e)) l = rw e (let x : turn < 10080 / 30 = subst (λ (g : ℕ). turn < 10080 / g) e l in omega arith)
turn-fits turn grid (inr (inr e)) l = rw e (let x : turn < 10080 / 60 = subst (λ (g : ℕ). turn < 10080 / g) e l in omega arith)
