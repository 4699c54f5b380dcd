use Rattle.std.proofs.Common.{◌≡◌, ◌⊎◌, inl, inr, ℕ, ◌+◌, ◌<◌, ◌≤◌, List, length, get_or, ap, sym, ◌∙◌, subst, arith, Some, slice_get}
use Rattle.std.proofs.lemmas.Option.{slice_get-get_or, slice_get_within}
use Rattle.price_master.specs.declared.bidding.Bid.{Bid}
use Rattle.price_master.specs.Bids.{AreChosen}
use Rattle.price_master.proofs.Singles.{chosen-either, single-chosen}
use Rattle.price_master.proofs.Lookups.{element-at, same-or-not}
use Rattle.price_master.proofs.exploring.offer_singles.Goals as goal

abbrev none : Bid
none = record { place = 0; served = 0; saving = 0 }

beats-more : (bids : List Bid) (n best better : ℕ) (bid : Bid) → slice_get bids n ≡ Some bid → best ≤ better → bid.saving ≤ better →
    ((k : ℕ) (b : Bid) → k < n → slice_get bids k ≡ Some b → b.saving ≤ best) → (k : ℕ) (b : Bid) → k < n + 1 → slice_get bids k ≡ Some b → b.saving ≤ better
beats-more bids n best better bid at low here before k b l is = by_place (same-or-not k n)
  where
    by_place : (k ≡ n) ⊎ (k ≡ n → ⊥) → b.saving ≤ better
    by_place (inr d) = omega (arith, before k b (omega arith) is)
    by_place (inl e) =
        let now : slice_get bids n ≡ Some b = ap (slice_get bids) (sym e) ∙ is in
        let same : bid ≡ b = cc in
        subst (λ (x : Bid). x.saving ≤ better) same here

pub loop-bid-preserved : goal.loop-bid-preserved
loop-bid-preserved c =
    let at = element-at c.args.bids.now c.args.driver c.index-bids-driver.result c.as_slice-bid-items.result.now c.requires.driver c.index-bids-driver.is c.as_slice-bid-items.ensures in
    let there = slice_get-get_or c.as_slice-bid-items.result.now c.loop-bid.bid-index none c.loop-bid-test.true in
    let bid = get_or c.as_slice-bid-items.result.now c.loop-bid.bid-index none in
    let room : length c.args.bids.now ≤ length c.homes.result = omega (arith, c.requires.drivers) in
    let single = single-chosen c.args.bids.now c.homes.result c.args.driver c.loop-bid.bid-index c.as_slice-bid-items.result.now bid c.requires.homes room
    (λ j l. c.homes.ensures j (omega (arith, c.requires.drivers))) at there in
    let placed : AreChosen c.args.bids.now c.placed.result bid.saving =
    subst (λ (p : List ℕ). AreChosen c.args.bids.now p bid.saving) (sym c.placed.ensures) single in record {
      found = chosen-either c.args.bids.now c.placed.result c.loop-bid.found.places c.offer.new.self.places bid.saving c.loop-bid.found.saving c.offer.new.self.saving
          c.offer.ensures.choice placed c.loop-bid.invariant.found;
      grows = omega (arith, c.offer.ensures.grows, c.loop-bid.invariant.grows);
      beats = beats-more c.as_slice-bid-items.result.now c.loop-bid.bid-index c.loop-bid.found.saving c.offer.new.self.saving bid there c.offer.ensures.grows c.offer.ensures.beats
          c.loop-bid.invariant.beats;
      turns = (c.offer.ensures.turns.0 ∙ c.loop-bid.invariant.turns.0, c.offer.ensures.turns.1 ∙ c.loop-bid.invariant.turns.1);
    }

pub returns-clause-beats : goal.returns-clause-beats
returns-clause-beats c = λ of_driver at k bid is.
    let mine = element-at c.args.bids.now c.args.driver c.index-bids-driver.result c.as_slice-bid-items.result.now c.requires.driver c.index-bids-driver.is c.as_slice-bid-items.ensures in
    let same : of_driver ≡ c.as_slice-bid-items.result.now = cc in
    let there : slice_get c.as_slice-bid-items.result.now k ≡ Some bid = ap (λ (xs : List Bid). slice_get xs k) (sym same) ∙ is in
    c.loop-bid.invariant.beats k bid (omega (arith, c.loop-bid-test.false, slice_get_within c.as_slice-bid-items.result.now k bid there)) there
