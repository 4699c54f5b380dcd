-- A bid in place of none.
use Rattle.std.proofs.Common.{◌≡◌, ◌≢◌, ◌⊎◌, inl, inr, ℕ, zero, suc, ◌+◌, ◌*◌, ◌<◌, ◌≤◌, true, List, length, get_or, set, ap, sym, ◌∙◌, arith, Some, slice_get, bit_or, get_or-set_same, get_or-set_other}
use Rattle.std.specs.Int.Bits.{or_zero_r}
use Rattle.price_master.specs.declared.bidding.Bid.{Bid}
use Rattle.price_master.specs.Pools.{are_apart}
use Rattle.price_master.specs.Bids.{AreFixed, home}
use Rattle.price_master.specs.Sensible.{AreAllSensible}
use Rattle.price_master.proofs.Fixing.{fixed-set}
use Rattle.price_master.proofs.Lookups.{same-or-not}
use Rattle.price_master.proofs.Orders.{apart-fewer, apart-turn, or-swap}

pub fixed-more : (bids : List (List Bid)) (places : List ℕ) (n driver k served saving : ℕ) (mine : List Bid) (bid : Bid) → AreAllSensible bids →
    AreFixed bids places n served saving → driver < n → driver < length places → get_or places driver 0 ≡ 4294967295 → slice_get bids driver ≡ Some mine →
    slice_get mine k ≡ Some bid → are_apart served bid.served ≡ true →
    AreFixed bids (set places driver bid.place) n (bit_or served bid.served) (saving + bid.saving)
fixed-more bids places zero driver k served saving mine bid sensible f l room none at is apart = absurd (omega arith)
fixed-more bids places (suc n) driver k served saving mine bid sensible (before, sum, f, last) l room none at is apart =
    by_place (same-or-not driver n)
    (λ low beside. fixed-more bids places n driver k before sum mine bid sensible f low room none at is beside)
  where
    by_place : (driver ≡ n) ⊎ (driver ≢ n) →
        (driver < n → are_apart before bid.served ≡ true → AreFixed bids (set places driver bid.place) n (bit_or before bid.served) (sum + bid.saving)) →
        AreFixed bids (set places driver bid.place) (suc n) (bit_or served bid.served) (saving + bid.saving)
    by_place (inl e) rest =
        let far : last.bid.place ≡ 4294967295 = sym last.told ∙ (ap (λ (j : ℕ). get_or places j 0) (sym e) ∙ none) in
        let empty : last.bid ≡ home = (sensible n last.of_driver last.are_bids).empty last.number last.bid last.is_bid far in
        let serves : served ≡ before = last.serves ∙ (ap (λ (b : Bid). bit_or before b.served) empty ∙ or_zero_r before) in
        let nothing : last.bid.saving ≡ 0 = ap (λ (b : Bid). b.saving) empty in
        let saves : saving ≡ sum = omega (arith, last.saves, nothing) in (
          before,
          sum,
          fixed-set bids places n driver bid.place before sum (omega arith) f,
          record {
            of_driver = mine;
            bid = bid;
            number = k;
            are_bids = ap (slice_get bids) (sym e) ∙ at;
            is_bid = is;
            told = ap (λ (j : ℕ). get_or (set places driver bid.place) j 0) (sym e) ∙ get_or-set_same places driver bid.place 0 room;
            apart = ap (λ (s : ℕ). are_apart s bid.served) (sym serves) ∙ apart;
            serves = ap (λ (s : ℕ). bit_or s bid.served) serves;
            saves = omega (arith, saves);
          },
        )
    by_place (inr d) rest =
        let both : are_apart (bit_or before last.bid.served) bid.served ≡ true = ap (λ (s : ℕ). are_apart s bid.served) (sym last.serves) ∙ apart in
        let other : n ≢ driver = λ z. d (sym z) in
        let same : get_or (set places driver bid.place) n 0 ≡ get_or places n 0 = get_or-set_other places driver n bid.place 0 other in (
          bit_or before bid.served,
          sum + bid.saving,
          rest (omega arith) (apart-fewer before last.bid.served bid.served both),
          record {
            of_driver = last.of_driver;
            bid = last.bid;
            number = last.number;
            are_bids = last.are_bids;
            is_bid = last.is_bid;
            told = same ∙ last.told;
            apart = apart-turn before last.bid.served bid.served last.apart both;
            serves = ap (λ (s : ℕ). bit_or s bid.served) last.serves ∙ or-swap before last.bid.served bid.served;
            saves = omega (arith, last.saves);
          },
        )

-- what is fixed saves little enough
pub fixed-small : (bids : List (List Bid)) (places : List ℕ) (n served saving : ℕ) → AreAllSensible bids → AreFixed bids places n served saving →
    saving ≤ n * 1099511627776
fixed-small bids places zero served saving sensible f = omega (arith, f.1)
fixed-small bids places (suc n) served saving sensible (before, sum, f, last) =
    omega (arith, fixed-small bids places n before sum sensible f, last.saves, (sensible n last.of_driver last.are_bids).small last.number last.bid last.is_bid)
