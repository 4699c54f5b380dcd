-- A pricing goes on after a slot: what was tried stays tried.
use Rattle.std.proofs.Common.{◌≡◌, ◌⊎◌, inl, inr, ℕ, ◌+◌, ◌-◌, ◌*◌, ◌/◌, ◌<◌, ◌≤◌, true, List, ◌∷◌, ◌++◌, length, refl, ap, sym, subst, ◌∙◌, arith, Some, slice_get, eqb}
use Rattle.std.proofs.lemmas.Bool.{eqb-true}
use Rattle.std.proofs.lemmas.Bool.Decides.{nat_tests}
use Rattle.minute_line.specs.declared.marks.Kind.TheVariants.{Plain, Daily, Weekly}
use Rattle.hours_rules.specs.declared.clocks.Stay.{Stay}
use Rattle.week_book.specs.declared.weeks.Week.{Week}
use Rattle.week_book.specs.declared.weeks.Leg.{Leg as Road}
use Rattle.week_book.specs.Weeks.{order_of}
use Rattle.duty_plan.specs.Acts.{can_be_done, is_at}
use Rattle.duty_plan.proofs.Lists.{slice_get-lt}
use Rattle.duty_plan.specs.declared.duties.Act.{Act}
use Rattle.duty_plan.specs.declared.duties.Act.TheVariants.{Leg, Serve, Load}
use Rattle.duty_plan.specs.declared.duties.Step.{Step}
use Rattle.duty_plan.specs.declared.labels.Label.{Label}
use Rattle.duty_plan.specs.PartialDuties.{PartialDuty, at_after, is_plain_length}
use Rattle.duty_plan.specs.Labels.{is_listed, opens_of}
use Rattle.duty_plan.specs.LabelLists.{Entry}
use Rattle.duty_plan.specs.Duties.{open_off_at, capacity_at}
use Rattle.duty_plan.proofs.WeekLimits.{early}
use Rattle.duty_pricing.specs.declared.asking.Asked.{Asked}
use Rattle.duty_pricing.specs.declared.stores.LabelStore.{LabelStore}
use Rattle.duty_pricing.specs.Asking.{IsAsked}
use Rattle.duty_pricing.specs.Exhausting.{IsSpared, MayFollow}
use Rattle.duty_pricing.specs.Listing.{plain_stay, rest_stay, IsTriedStay}
use Rattle.duty_pricing.specs.Slots.{entries_of}
use Rattle.duty_pricing.specs.Searching.{GoesOn, GrowsTo, HasTried, IsListedAt, IsSearch, MayExtend}
use Rattle.duty_pricing.proofs.Entries.{entries-more}
use Rattle.duty_pricing.proofs.Listing.{stay-tried, road-row, order-row}
use Rattle.duty_pricing.proofs.Storing.{spared-longer}
use Rattle.duty_pricing.proofs.Searching.{entry-stays, grows-same, grows-twice}
use Rattle.duty_pricing.proofs.Trying.{from-has}

some-same : {X : Type 0} (a b : X) → Some a ≡ Some b → a ≡ b
some-same a b h = cc

pub goes-itself : (asked : Asked) (n : ℕ) (from : Label) (store : LabelStore) → IsSearch asked from.clock.at store → MayExtend asked store n from →
    GoesOn asked n from store store
goes-itself asked n from store s x = record { search = s; still = x; grows = grows-same from.clock.at store store refl refl }

pub goes-further : (asked : Asked) (n : ℕ) (from : Label) (a b c : LabelStore) → GoesOn asked n from a b → GoesOn asked n from b c → GoesOn asked n from a c
goes-further asked n from a b c g h = record { search = h.search; still = h.still; grows = grows-twice from.clock.at a b c g.grows h.grows }

-- what was tried stays tried
pub tried-stays : (asked : Asked) (n : ℕ) (from : Label) (old new : LabelStore) (step : Step) → MayExtend asked old n from → GrowsTo from.clock.at old new →
    HasTried asked old n step → HasTried asked new n step
tried-stays asked n from old new step x g t e h m =
    let same : x.entry ≡ e = some-same x.entry e (sym (entry-stays from.clock.at old new g n x.entry x.is_entry) ∙ h) in
    let may : MayFollow asked.case.now asked.driver asked.pairs.now step x.entry.partial =
    subst (λ (y : Entry). MayFollow asked.case.now asked.driver asked.pairs.now step y.partial) (sym same) m in
    let more = entries-more old.slots g.more in
    let entries : entries_of new.slots ≡ entries_of old.slots ++ more.0 = ap entries_of g.is ∙ more.1 in
    subst (λ (y : Entry). IsSpared asked.case.now asked.driver asked.pairs.now asked.prices.now new.known (entries_of new.slots) (step ∷ y.partial)) same
    (subst (λ (es : List Entry). IsSpared asked.case.now asked.driver asked.pairs.now asked.prices.now new.known es (step ∷ x.entry.partial)) (sym entries)
    (spared-longer asked.case.now asked.driver asked.pairs.now asked.prices.now old.known new.known (entries_of old.slots) more.0 (step ∷ x.entry.partial)
    g.low (t x.entry x.is_entry may)))

eqb-itself : (k : ℕ) → eqb k k ≡ true
eqb-itself k = grind (arith, nat_tests)

ready-listed : (week : Week) (off : ℕ) (act : Act) (before : PartialDuty) →
    is_listed week (record { stay = plain_stay week (at_after week before) act off; act = act }) before ≡ true
ready-listed week off (Leg to) before = eqb-itself 0
ready-listed week off (Serve order) before = eqb-itself (opens_of (order_of week order) - (at_after week before + off))
ready-listed week off Load before = eqb-itself 0

-- a stay that is tried is listed
module _ (asked : Asked) (store : LabelStore) (n : ℕ) (from : Label) (is : IsAsked asked) (s : IsSearch asked from.clock.at store)
    (x : MayExtend asked store n from) where
  at-partial : (act : Act) → from.clock.at ≡ at_after asked.case.now.week x.entry.partial
  at-partial act = (from-has asked store n from (record { stay = record { ready = 0; off = 0; kind = Plain }; act = act }) is s x).label_of.clock.at

  pub at-low : from.clock.at ≤ 10080
  at-low =
      let h = from-has asked store n from (record { stay = record { ready = 0; off = 0; kind = Plain }; act = Load }) is s x in
      let low = early asked.case.now.week (open_off_at asked.case.now asked.driver) (capacity_at asked.case.now asked.driver) x.entry.partial h.lawful.office in
      omega (arith, h.label_of.clock.at)

  pub plain-listed : (off : ℕ) (act : Act) → IsListedAt asked store n (record { stay = plain_stay asked.case.now.week from.clock.at act off; act = act })
  plain-listed off act e h =
      let same : x.entry ≡ e = some-same x.entry e (sym x.is_entry ∙ h) in
      subst (λ (y : Entry). is_listed asked.case.now.week (record { stay = plain_stay asked.case.now.week from.clock.at act off; act = act }) y.partial ≡ true) same
      (subst (λ (at : ℕ). is_listed asked.case.now.week (record { stay = plain_stay asked.case.now.week at act off; act = act }) x.entry.partial ≡ true)
      (sym (at-partial act)) (ready-listed asked.case.now.week off act x.entry.partial))

  -- where the five Plain stays and the rests on the grid were tried, so was each stay
  pub all-stays : (act : Act) (new : LabelStore) → GrowsTo from.clock.at store new →
      ((off : ℕ) → is_plain_length off ≡ true → HasTried asked new n (record { stay = plain_stay asked.case.now.week from.clock.at act off; act = act })) →
      ((turn : ℕ) → from.clock.at ≤ turn * asked.case.now.week.grid → turn * asked.case.now.week.grid < 10080 →
      HasTried asked new n (record { stay = rest_stay from.clock.at Daily (turn * asked.case.now.week.grid); act = act })) →
      ((turn : ℕ) → from.clock.at ≤ turn * asked.case.now.week.grid → turn * asked.case.now.week.grid < 10080 →
      HasTried asked new n (record { stay = rest_stay from.clock.at Weekly (turn * asked.case.now.week.grid); act = act })) →
      (stay : Stay) → HasTried asked new n (record { stay = stay; act = act })
  all-stays act new g plain daily weekly stay e h m = by_stay (subst (λ (at : ℕ). IsTriedStay asked.case.now.week at act stay) (sym at) tried)
    where
      same : x.entry ≡ e
      same = some-same x.entry e (sym (entry-stays from.clock.at store new g n x.entry x.is_entry) ∙ h)

      at : from.clock.at ≡ at_after asked.case.now.week e.partial
      at = at-partial act ∙ ap (λ (y : Entry). at_after asked.case.now.week y.partial) same

      tried : IsTriedStay asked.case.now.week (at_after asked.case.now.week e.partial) act stay
      tried = stay-tried asked.case.now asked.driver asked.pairs.now stay act e.partial is.is_case.week m

      spares : Stay → Type 0
      spares other = MayFollow asked.case.now asked.driver asked.pairs.now (record { stay = other; act = act }) e.partial →
          IsSpared asked.case.now asked.driver asked.pairs.now asked.prices.now new.known (entries_of new.slots) (record { stay = other; act = act } ∷ e.partial)

      by_stay : IsTriedStay asked.case.now.week from.clock.at act stay →
          IsSpared asked.case.now asked.driver asked.pairs.now asked.prices.now new.known (entries_of new.slots) (record { stay = stay; act = act } ∷ e.partial)
      by_stay (inl p) = subst spares (sym p.is) (λ f. plain p.off p.is_length e h f) m
      by_stay (inr r) = elim r.is [
        | inl d ↦ subst spares (sym d) (λ f. daily r.turn r.late r.in_week e h f) m
        | inr w ↦ subst spares (sym w) (λ f. weekly r.turn r.late r.in_week e h f) m
      ]

-- a turn of the grid in the week
pub turn-low : (turn grid : ℕ) → (grid ≡ 15) ⊎ ((grid ≡ 30) ⊎ (grid ≡ 60)) → turn * grid < 10080 → turn < 10080 / grid
turn-low turn grid (inl e) l = rw e (let x : turn * 15 < 10080 = rw (sym e) l in omega arith)
turn-low turn grid (inr (inl e)) l = rw e (let x : turn * 30 < 10080 = rw (sym e) l in omega arith)
turn-low turn grid (inr (inr e)) l = rw e (let x : turn * 60 < 10080 = rw (sym e) l in omega arith)

-- where the legs, the orders and the load of a place were tried, so was each act that can be done there
pub all-acts : (week : Week) (place : ℕ) (P : Act → Type 0) → ((k : ℕ) (leg : Road) → slice_get week.legs k ≡ Some leg → leg.from ≡ place → P (Leg leg.to)) →
    ((order : ℕ) → order < length week.orders → is_at (order_of week order) place ≡ true → P (Serve order)) → (place ≡ 0 → P Load) →
    (act : Act) → can_be_done week place act ≡ true → P act
all-acts week place P legs orders load (Leg to) h =
    let row = road-row week.legs place to h in subst (λ (x : ℕ). P (Leg x)) row.4 (legs row.0 row.1 row.2 row.3)
all-acts week place P legs orders load (Serve order) h =
    let row = order-row week order place h in orders order (slice_get-lt week.orders order row.0 row.1) h
all-acts week place P legs orders load Load h = load (eqb-true place 0 h)
