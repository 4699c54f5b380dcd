use Rattle.std.proofs.Common.{◌≤◌, List, length, subst, ap, ◌∙◌, slice_get}
use Rattle.std.proofs.lemmas.Option.{slice_get-get_or}
use Rattle.price_master.specs.declared.bidding.Bid.{Bid}
use Rattle.price_master.specs.declared.alike.ClassBid.{ClassBid}
use Rattle.price_master.proofs.Listing.{adds-done, adds-one, adds-skip}
use Rattle.price_master.proofs.alike.add_bids.Goals as goal
use Rattle.price_master.proofs.alike.add_bids.Goals.{then-bid-gt0+in_ok-insert, else-bid-gt0}

-- what is read past the end
abbrev none : Bid
none = record { place = 0; served = 0; saving = 0 }

pub loop-number-preserved : goal.loop-number-preserved
loop-number-preserved c =
    let there = slice_get-get_or c.args.bids.now c.loop-number.number none c.loop-number-test.true in
    elim c.if-bid-gt0.branch [
      | then-bid-gt0+in_ok-insert w ↦ rw w.list-is (
          let seen = w.as_slice.ensures.value in
          let room : w.place_among.result ≤ length c.loop-number.list.items = subst (λ (xs : List ClassBid). w.place_among.result ≤ length xs) seen w.place_among.ensures.inside in
          adds-one c.args.class c.loop-number.number w.place_among.result c.args.bids.now c.args.list.now.items c.loop-number.list.items w.insert.new.self.items _
          c.loop-number.invariant there w.if-bid-gt0.true room
          (λ k one l at. w.place_among.ensures.before k one l (ap (λ (xs : List ClassBid). slice_get xs k) seen ∙ at))
          (λ one at. w.place_among.ensures.here one (ap (λ (xs : List ClassBid). slice_get xs w.place_among.result) seen ∙ at))
          w.in_ok-insert.ensures.items)
      | else-bid-gt0 w ↦ rw w.list-is (adds-skip c.args.class c.loop-number.number c.args.bids.now c.args.list.now.items c.loop-number.list.items _
          c.loop-number.invariant there w.if-bid-gt0.false)
    ]

pub returns : goal.returns
returns c = adds-done c.args.class c.loop-number.number c.args.bids.now c.args.list.now.items c.loop-number.list.items c.loop-number.invariant c.loop-number-test.false
