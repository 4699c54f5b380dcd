-- Alike drivers, and their bids in one list by falling savings.
use Rattle.std.specs.Prelude.{◌≡◌, ◌⊎◌, ℕ, ◌+◌, ◌-◌, ◌<◌, ◌≤◌, Bool, true, false, ◌==◌, if◌then◌else◌, nat_lt, List, [], ◌∷◌, length, Some, slice_get, slice_index, bit_or}
use Rattle.std.specs.List.{sum_by}
use Rattle.duty_plan.specs.Sums.{total_below}
use Rattle.price_master.specs.declared.bidding.Bid.{Bid}
use Rattle.price_master.specs.declared.alike.ClassBid.{ClassBid}
use Rattle.price_master.specs.Pools.{are_apart}
use Rattle.price_master.specs.Bids.{IsIn}

-- the first driver with the same bids as the driver
pub record IsFirstAlike (bids : List (List Bid)) (driver first : ℕ) : Type 0 where
  pub low : first ≤ driver
  pub same : slice_get bids first ≡ slice_get bids driver
  pub earlier : (other : ℕ) → other < first → slice_get bids other ≡ slice_get bids driver → ⊥

-- each driver's class is the first driver with the same bids
abbrev pub AreClasses : List (List Bid) → List ℕ → Type 0
AreClasses bids classes = (driver : ℕ) → driver < length bids → IsFirstAlike bids driver (slice_index classes driver)

-- no later bid saves more
abbrev pub AreFalling : List ClassBid → Type 0
AreFalling list = (i k : ℕ) (one later : ClassBid) → i ≤ k → slice_get list i ≡ Some one → slice_get list k ≡ Some later →
    later.bid.saving ≤ one.bid.saving

-- the bid of the class is in the list
abbrev pub IsListed : List ClassBid → ℕ → Bid → Type 0
IsListed list class bid = (k : ℕ) × (slice_get list k ≡ Some (record { class = class; bid = bid }))

-- the sum over the bids that save anything
abbrev pub sum_saving : (ℕ → ℕ) → List Bid → ℕ
sum_saving f bids = sum_by (λ bid. if nat_lt 0 bid.saving then f bid.served else 0) bids

-- the sum over the listed bids of the class
abbrev pub sum_class : (ℕ → ℕ) → ℕ → List ClassBid → ℕ
sum_class f class list = sum_by (λ one. if one.class == class then f one.bid.served else 0) list

-- the list has more bids of one class: those of these that save anything, each once
pub record AddsBids (class : ℕ) (bids : List Bid) (old new : List ClassBid) : Type 0 where
  pub falling : AreFalling new
  pub each : (k : ℕ) (one : ClassBid) → slice_get new k ≡ Some one →
      ((j : ℕ) × (slice_get old j ≡ Some one)) ⊎ ((one.class ≡ class) × (0 < one.bid.saving) × IsIn bids one.bid)
  pub stays : (k : ℕ) (one : ClassBid) → slice_get old k ≡ Some one → (j : ℕ) × (slice_get new j ≡ Some one)
  pub all : (k : ℕ) (bid : Bid) → slice_get bids k ≡ Some bid → 0 < bid.saving → IsListed new class bid
  pub few : (f : ℕ → ℕ) → sum_class f class new ≤ sum_class f class old + sum_saving f bids
  pub others : (f : ℕ → ℕ) (other : ℕ) → (other ≡ class → ⊥) → sum_class f other new ≤ sum_class f other old

-- the bids that save anything, each class's once
pub record AreClassBids (bids : List (List Bid)) (classes : List ℕ) (list : List ClassBid) : Type 0 where
  pub falling : AreFalling list
  pub each : (k : ℕ) (one : ClassBid) → slice_get list k ≡ Some one →
      (of_class : List Bid) × (slice_get bids one.class ≡ Some of_class) × (0 < one.bid.saving) × IsIn of_class one.bid
  pub all : (driver number : ℕ) (of_driver : List Bid) (bid : Bid) → slice_get bids driver ≡ Some of_driver → slice_get of_driver number ≡ Some bid →
      0 < bid.saving → IsListed list (slice_index classes driver) bid
  pub few : (f : ℕ → ℕ) (driver : ℕ) (of_driver : List Bid) → slice_get bids driver ≡ Some of_driver →
      sum_class f (slice_index classes driver) list ≤ sum_saving f of_driver

-- the driver has no duty
abbrev pub is_home : List ℕ → ℕ → Bool
is_home places driver = slice_index places driver == 4294967295

-- the sum over the first n drivers that have no duty
abbrev pub sum_free : (ℕ → ℕ) → List ℕ → ℕ → ℕ
sum_free f places n = total_below (λ driver. if is_home places driver then f driver else 0) n

-- how many of the first n drivers are of the class and have no duty
abbrev pub free_of : List ℕ → List ℕ → ℕ → ℕ → ℕ
free_of classes places n class = sum_free (λ driver. if slice_index classes driver == class then 1 else 0) places n

-- one driver of the class less
abbrev pub taken : (ℕ → ℕ) → ℕ → ℕ → ℕ
taken free class other = if other == class then free other - 1 else free other

-- a driver of the class is free, and the bid serves none of these orders
abbrev pub can_take : (ℕ → ℕ) → ℕ → ClassBid → Bool
can_take free served one = if free one.class == 0 then false else are_apart served one.bid.served

-- some of the listed bids can be taken that save this together: no more of a class than it has free drivers, and no order
-- twice, nor one that is served already
abbrev pub CanTake : List ClassBid → (ℕ → ℕ) → ℕ → ℕ → Type 0
CanTake [] free served saving = saving ≡ 0
CanTake (one ∷ rest) free served saving = CanTake rest free served saving ⊎
    ((more : ℕ) × (can_take free served one ≡ true) × (saving ≡ one.bid.saving + more) ×
    CanTake rest (taken free one.class) (bit_or served one.bid.served) more)

-- how many turns that takes at most, one for each bid that is taken
abbrev pub tries_of : List ClassBid → (ℕ → ℕ) → ℕ → ℕ
tries_of [] free served = 0
tries_of (one ∷ rest) free served = tries_of rest free served +
    (if can_take free served one then 1 + tries_of rest (taken free one.class) (bit_or served one.bid.served) else 0)

-- what the first listed bid of the class saves that serves none of these orders
abbrev pub first_saving : List ClassBid → ℕ → ℕ → ℕ
first_saving [] class served = 0
first_saving (one ∷ rest) class served =
    if one.class == class then (if are_apart served one.bid.served then one.bid.saving else first_saving rest class served)
    else first_saving rest class served
