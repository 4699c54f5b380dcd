-- What the search asks of the bids.
use Rattle.std.specs.Prelude.{◌≡◌, ℕ, List, Some, slice_get}
use Rattle.price_master.specs.declared.bidding.Bid.{Bid}
use Rattle.price_master.specs.Bids.{IsMostOf, home}

-- each bid of a driver saves at most 2^40 cents, one that serves no order saves nothing, and the place of no duty tells the
-- empty one
pub record AreSensible (bids : List Bid) : Type 0 where
  pub small : IsMostOf bids 1099511627776
  pub serving : (k : ℕ) (bid : Bid) → slice_get bids k ≡ Some bid → bid.served ≡ 0 → bid.saving ≡ 0
  pub empty : (k : ℕ) (bid : Bid) → slice_get bids k ≡ Some bid → bid.place ≡ 4294967295 → bid ≡ home

-- so are the bids of each driver
abbrev pub AreAllSensible : List (List Bid) → Type 0
AreAllSensible bids = (driver : ℕ) (of_driver : List Bid) → slice_get bids driver ≡ Some of_driver → AreSensible of_driver
