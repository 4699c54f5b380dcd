-- What pooled duties bid, and the choice of one bid for each driver.
use Rattle.std.specs.Prelude.{◌≡◌, ◌⊎◌, ℕ, zero, suc, ◌+◌, ◌-◌, ◌<◌, ◌≤◌, true, if◌then◌else◌, List, [], ◌∷◌, length, Some, slice_get, slice_index, bit_or}
use Rattle.std.specs.List.{sum_by}
use Rattle.week_book.specs.declared.weeks.Week.{Week}
use Rattle.duty_plan.specs.Duties.{orders_of, partial_of, price_of, worth}
use Rattle.price_master.specs.declared.bidding.Bid.{Bid}
use Rattle.price_master.specs.declared.pooling.Pooled.{Pooled}
use Rattle.price_master.specs.Pools.{are_apart, orders_in}

-- the bid of a pooled duty at that place: the orders that it serves, and what subcontractors take for them beyond its cost
abbrev pub bid_by : Week → ℕ → Pooled → Bid
bid_by week place entry = record {
  place = place;
  served = orders_in entry.duty;
  saving = worth (price_of week) (orders_of (partial_of entry.duty)) - entry.cost;
}

-- the bid of the empty duty
abbrev pub home : Bid
home = record { place = 4294967295; served = 0; saving = 0 }

-- the bid is that of a pooled duty that saves anything
abbrev pub IsBid : Week → List Pooled → Bid → Type 0
IsBid week pooled bid = (n : ℕ) × (entry : Pooled) × (slice_get pooled n ≡ Some entry) × (bid ≡ bid_by week n entry) × (0 < bid.saving)

-- the bid is among these
abbrev pub IsIn : List Bid → Bid → Type 0
IsIn bids bid = (k : ℕ) × (slice_get bids k ≡ Some bid)

-- the bids of a driver: those of the pooled duties that save anything, each at most once, and that of the empty duty
pub record AreBids (week : Week) (pooled : List Pooled) (bids : List Bid) : Type 0 where
  pub each : (k : ℕ) (bid : Bid) → slice_get bids k ≡ Some bid → (bid ≡ home) ⊎ IsBid week pooled bid
  pub all : (n : ℕ) (entry : Pooled) → slice_get pooled n ≡ Some entry → 0 < (bid_by week n entry).saving → IsIn bids (bid_by week n entry)
  pub has_home : IsIn bids home
  pub few : (f : ℕ → ℕ) → sum_by (λ bid. f bid.served) bids ≤ f 0 + sum_by (λ entry. f (orders_in entry.duty)) pooled
  pub small : (k : ℕ) (bid : Bid) → slice_get bids k ≡ Some bid → bid.saving ≤ 1099511627776

-- the bids of all drivers
pub record AreBidsOfAll (week : Week) (pool : List (List Pooled)) (bids : List (List Bid)) : Type 0 where
  pub drivers : length bids ≡ length pool
  pub each : (driver : ℕ) (pooled : List Pooled) (of_driver : List Bid) → slice_get pool driver ≡ Some pooled →
      slice_get bids driver ≡ Some of_driver → AreBids week pooled of_driver

-- one bid can be chosen for each driver that saves this together, and serves no order twice, nor one that is served
-- already
abbrev pub CanSave : List (List Bid) → ℕ → ℕ → Type 0
CanSave [] served saving = saving ≡ 0
CanSave (bids ∷ rest) served saving = (k : ℕ) × (bid : Bid) × (more : ℕ) × (slice_get bids k ≡ Some bid) ×
    (are_apart served bid.served ≡ true) × (saving ≡ bid.saving + more) × CanSave rest (bit_or served bid.served) more

-- how many turns such choices take at most, one for each bid that is fixed for a driver
abbrev pub turns_of : List (List Bid) → ℕ → ℕ
turns_of [] served = 0
turns_of (bids ∷ rest) served =
    sum_by (λ bid. if are_apart served bid.served then 1 + turns_of rest (bit_or served bid.served) else 0) bids

-- the last bid that is fixed: it is of the driver's, is told by its place, and serves no order that is served already
pub record IsFixedNext (bids : List (List Bid)) (driver place before served sum saving : ℕ) : Type 0 where
  pub of_driver : List Bid
  pub bid : Bid
  pub number : ℕ
  pub are_bids : slice_get bids driver ≡ Some of_driver
  pub is_bid : slice_get of_driver number ≡ Some bid
  pub told : place ≡ bid.place
  pub apart : are_apart before bid.served ≡ true
  pub serves : served ≡ bit_or before bid.served
  pub saves : saving ≡ sum + bid.saving

-- the places tell a bid for each of the first n drivers; together these serve just these orders, none twice, and save this
abbrev pub AreFixed : List (List Bid) → List ℕ → ℕ → ℕ → ℕ → Type 0
AreFixed bids places zero served saving = (served ≡ 0) × (saving ≡ 0)
AreFixed bids places (suc n) served saving = (before : ℕ) × (sum : ℕ) × AreFixed bids places n before sum ×
    IsFixedNext bids n (slice_index places n) before served sum saving

-- the places tell a choice of one bid for each driver that saves this
abbrev pub AreChosen : List (List Bid) → List ℕ → ℕ → Type 0
AreChosen bids places saving = (served : ℕ) × AreFixed bids places (length bids) served saving

-- each driver may be given the empty duty
abbrev pub HaveHomes : List (List Bid) → Type 0
HaveHomes bids = (driver : ℕ) (of_driver : List Bid) → slice_get bids driver ≡ Some of_driver → IsIn of_driver home

-- no bid saves more
abbrev pub IsMostOf : List Bid → ℕ → Type 0
IsMostOf bids most = (k : ℕ) (bid : Bid) → slice_get bids k ≡ Some bid → bid.saving ≤ most
