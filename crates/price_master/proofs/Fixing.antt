-- Bids that are fixed one driver after another.
use Rattle.std.proofs.Common.{◌≡◌, ◌≢◌, ℕ, zero, suc, ◌+◌, ◌<◌, ◌≤◌, true, List, length, get_or, set, refl, sym, subst, arith, add-one, Some, slice_get, bit_or, get_or-set_same, get_or-set_other}
use Rattle.price_master.specs.declared.bidding.Bid.{Bid}
use Rattle.price_master.specs.Pools.{are_apart}
use Rattle.price_master.specs.Bids.{AreFixed, IsFixedNext}

-- a place changes nothing for the drivers before it
pub fixed-set : (bids : List (List Bid)) (places : List ℕ) (n j place served saving : ℕ) → n ≤ j → AreFixed bids places n served saving →
    AreFixed bids (set places j place) n served saving
fixed-set bids places zero j place served saving l f = f
fixed-set bids places (suc n) j place served saving l f =
    let other : n ≢ j = omega arith in
    let same : get_or (set places j place) n 0 ≡ get_or places n 0 = get_or-set_other places j n place 0 other in (
      f.0,
      f.1,
      fixed-set bids places n j place f.0 f.1 (omega arith) f.2,
      subst (λ (p : ℕ). IsFixedNext bids n p f.0 served f.1 saving) (sym same) f.3,
    )

-- one driver more
pub fixed-next : (bids : List (List Bid)) (places : List ℕ) (n served saving k : ℕ) (of_driver : List Bid) (bid : Bid) →
    AreFixed bids places n served saving → slice_get bids n ≡ Some of_driver → slice_get of_driver k ≡ Some bid →
    are_apart served bid.served ≡ true → n < length places →
    AreFixed bids (set places n bid.place) (n + 1) (bit_or served bid.served) (saving + bid.saving)
fixed-next bids places n served saving k of_driver bid f at there apart l =
    subst (λ (m : ℕ). AreFixed bids (set places n bid.place) m (bit_or served bid.served) (saving + bid.saving)) (sym (add-one n)) (
      served,
      saving,
      fixed-set bids places n n bid.place served saving (omega arith) f,
      record {
        of_driver = of_driver;
        bid = bid;
        number = k;
        are_bids = at;
        is_bid = there;
        told = get_or-set_same places n bid.place 0 l;
        apart = apart;
        serves = refl;
        saves = refl;
      },
    )
