use Rattle.std.proofs.Common.{◌≡◌, ◌+◌, ◌≤◌, length, drop, get_or, refl, sym, ◌∙◌, arith, rules}
use Rattle.std.proofs.lemmas.Option.{slice_get-get_or}
use Rattle.price_master.specs.declared.alike.ClassBid.{ClassBid}
use Rattle.price_master.specs.Classes.{free_of}
use Rattle.price_master.proofs.Taking.{can-parts}
use Rattle.price_master.proofs.Bounded.{top-holds}
use Rattle.price_master.proofs.Freed.{IsFreeFor, fixed-taken, free-can, listed-away, listed-small, next-can, next-tries, top-small}
use Rattle.price_master.proofs.Placed.{fixed-small}
use Rattle.price_master.proofs.Tried.{tried-all, tried-next, tries-here, tries-taken}
use Rattle.price_master.proofs.exploring.+explore.Goals as goal
use Rattle.price_master.proofs.exploring.+explore.Goals.{then-driver-bids+then-are_apart+then-next-hope+else-found-eq-TURNS+else-found, then-driver-bids+then-are_apart+else-next-hope, else-driver-bids, else-driver-bids-via-then-driver-bids+else-are_apart, else-driver-bids-via-else-driver-bids}

-- what is read past the end
abbrev none : ClassBid
none = record { class = 0; bid = record { place = 0; served = 0; saving = 0 } }

pub overflow_mul-free : goal.overflow_mul-free
overflow_mul-free t c =
    let at = slice_get-get_or c.args.list.now c.loop-number.number none c.loop-number-test.true in
    let one = get_or c.args.list.now c.loop-number.number none in
    let small = listed-small c.args.bids.now c.args.classes.now c.args.list.now c.requires.bids c.requires.list c.loop-number.number one at in
    let top = top-small c.count_free-free.result one.bid.saving (omega (arith, c.count_free-free.ensures.few, c.requires.drivers)) small in
    omega (arith, top)

pub overflow_add-choice : goal.overflow_add-choice
overflow_add-choice t c =
    let at = slice_get-get_or c.args.list.now c.loop-number.number none c.loop-number-test.true in
    let one = get_or c.args.list.now c.loop-number.number none in
    let small = listed-small c.args.bids.now c.args.classes.now c.args.list.now c.requires.bids c.requires.list c.loop-number.number one at in
    let top = top-small c.count_free-free.result one.bid.saving (omega (arith, c.count_free-free.ensures.few, c.requires.drivers)) small in
    let fixed = fixed-small c.args.bids.now c.args.choice.places (length c.args.bids.now) c.args.choice.served c.args.choice.saving c.requires.bids c.requires.choice in
    omega (arith, top, fixed, c.requires.drivers)

pub returns-then-choice-free-clause-best : goal.returns-then-choice-free-clause-best
returns-then-choice-free-clause-best t c = λ going more can.
    let at = slice_get-get_or c.args.list.now c.loop-number.number none c.loop-number-test.true in
    let one = get_or c.args.list.now c.loop-number.number none in
    let free = free_of c.args.classes.now c.args.choice.places (length c.args.bids.now) in
    let room : length c.args.bids.now ≤ length c.args.choice.places = omega (arith, c.requires.drivers) in
    tried-all c.args.list.now free c.args.choice.served c.args.choice.saving c.args.from c.loop-number.number c.loop-number.found.saving c.loop-number.invariant.tried
    (λ m last. omega (
      arith,
      c.if-choice-free.true,
      top-holds c.args.list.now c.args.classes.now c.args.choice.places c.loop-number.number (length c.args.bids.now) c.args.choice.served m c.count_free-free.result one
          c.requires.list.falling room at c.count_free-free.ensures.count last,
    ))
    more can

pub with_bid-next-requires-clause-fits : goal.with_bid-next-requires-clause-fits
with_bid-next-requires-clause-fits t c =
    let at = slice_get-get_or c.args.list.now c.loop-number.number none c.loop-number-test.true in
    let one = get_or c.args.list.now c.loop-number.number none in
    let small = listed-small c.args.bids.now c.args.classes.now c.args.list.now c.requires.bids c.requires.list c.loop-number.number one at in
    let fixed = fixed-small c.args.bids.now c.args.choice.places (length c.args.bids.now) c.args.choice.served c.args.choice.saving c.requires.bids c.requires.choice in
    omega (arith, small, fixed, c.requires.drivers)

pub overflow_add-next : goal.overflow_add-next
overflow_add-next t c =
    let at = slice_get-get_or c.args.list.now c.loop-number.number none c.loop-number-test.true in
    let one = get_or c.args.list.now c.loop-number.number none in
    let small = listed-small c.args.bids.now c.args.classes.now c.args.list.now c.requires.bids c.requires.list c.loop-number.number one at in
    let fixed = fixed-small c.args.bids.now c.args.choice.places (length c.args.bids.now) c.args.choice.served c.args.choice.saving c.requires.bids c.requires.choice in
    omega (arith, small, fixed, c.requires.drivers, c.with_bid-next.ensures.saving, c.hope_of-hope.ensures.low)

pub explore-requires : goal.explore-requires
explore-requires t c =
    let at = slice_get-get_or c.args.list.now c.loop-number.number none c.loop-number-test.true in
    let one = get_or c.args.list.now c.loop-number.number none in
    let driver = c.free_driver-driver.result in
    let room : length c.args.bids.now ≤ length c.args.choice.places = omega (arith, c.requires.drivers) in
    let away = listed-away c.args.bids.now c.args.classes.now c.args.list.now c.loop-number.number one c.requires.bids c.requires.list at in
    let free : IsFreeFor c.args.bids.now c.args.classes.now c.args.choice.places driver one = record {
      inside = c.if-driver-bids.true;
      room = room;
      free = c.free_driver-driver.ensures.free c.if-driver-bids.true;
      class = c.free_driver-driver.ensures.class c.if-driver-bids.true;
      away = away;
    } in
    let fixed = fixed-taken c.args.bids.now c.args.classes.now c.args.choice.places c.with_bid-next.result.places c.args.list.now c.args.choice.served c.args.choice.saving
    c.with_bid-next.result.served c.with_bid-next.result.saving c.loop-number.number driver one c.requires.bids c.requires.classes c.requires.list c.requires.choice at free
    (sym c.are_apart.ensures ∙ c.if-are_apart.true) c.with_bid-next.ensures.places c.with_bid-next.ensures.served c.with_bid-next.ensures.saving in (
      search rules,
      (
        c.requires.drivers,
        (
          c.requires.bids,
          (
            c.requires.classes,
            (
              c.requires.list,
              (
                omega (arith, c.loop-number-test.true),
                (fixed, (c.loop-number.invariant.found, (omega (arith, c.if-found-eq-TURNS.false, c.loop-number.invariant.limit), c.loop-number.invariant.going))),
              ),
            ),
          ),
        ),
      ),
    )

pub returns-then-found-clause-turns : goal.returns-then-found-clause-turns
returns-then-found-clause-turns t c =
    let at = slice_get-get_or c.args.list.now c.loop-number.number none c.loop-number-test.true in
    let one = get_or c.args.list.now c.loop-number.number none in
    let driver = c.free_driver-driver.result in
    let room : length c.args.bids.now ≤ length c.args.choice.places = omega (arith, c.requires.drivers) in
    let away = listed-away c.args.bids.now c.args.classes.now c.args.list.now c.loop-number.number one c.requires.bids c.requires.list at in
    let free : IsFreeFor c.args.bids.now c.args.classes.now c.args.choice.places driver one = record {
      inside = c.if-driver-bids.true;
      room = room;
      free = c.free_driver-driver.ensures.free c.if-driver-bids.true;
      class = c.free_driver-driver.ensures.class c.if-driver-bids.true;
      away = away;
    } in
    let before = free_of c.args.classes.now c.args.choice.places (length c.args.bids.now) in
    let can = free-can c.args.bids.now c.args.classes.now c.args.choice.places c.args.choice.served driver one free (sym c.are_apart.ensures ∙ c.if-are_apart.true) in
    omega (
      arith,
      c.explore.ensures.turns,
      c.loop-number.invariant.turns,
      tries-taken c.args.list.now c.loop-number.number before c.args.choice.served one at can,
      next-tries c.args.bids.now c.args.classes.now c.args.choice.places c.with_bid-next.result.places (drop (c.loop-number.number + 1) c.args.list.now) c.args.choice.served
          c.with_bid-next.result.served driver one free c.with_bid-next.ensures.places c.with_bid-next.ensures.served,
    )

pub loop-number-preserved : goal.loop-number-preserved
loop-number-preserved t c =
    let at = slice_get-get_or c.args.list.now c.loop-number.number none c.loop-number-test.true in
    let one = get_or c.args.list.now c.loop-number.number none in
    let driver = c.free_driver-driver.result in
    let served = c.args.choice.served in
    let places = c.args.choice.places in
    let bids = c.args.bids.now in
    let classes = c.args.classes.now in
    let list = c.args.list.now in
    let n = c.loop-number.number in
    let rest = drop (n + 1) list in
    let before = free_of classes places (length bids) in
    let room : length bids ≤ length places = omega (arith, c.requires.drivers) in
    let away = listed-away bids classes list n one c.requires.bids c.requires.list at in
    let here = tries-here list n before served one at in
    elim c.if-driver-bids.branch [
      | then-driver-bids+then-are_apart+then-next-hope+else-found-eq-TURNS+else-found w ↦ rw w.found-is (
          let free : IsFreeFor bids classes places driver one = record {
            inside = w.if-driver-bids.true;
            room = room;
            free = c.free_driver-driver.ensures.free w.if-driver-bids.true;
            class = c.free_driver-driver.ensures.class w.if-driver-bids.true;
            away = away;
          } in
          let can = free-can bids classes places served driver one free (sym w.are_apart.ensures ∙ w.if-are_apart.true) in
          let next = w.with_bid-next.ensures in record {
            found = w.explore.ensures.found;
            grows = omega (arith, w.explore.ensures.grows, c.loop-number.invariant.grows);
            mine = omega (arith, w.explore.ensures.grows, c.loop-number.invariant.mine);
            going = w.if-found.false;
            limit = w.explore.ensures.limit;
            tried = tried-next list before served c.args.choice.saving c.args.from n c.loop-number.found.saving w.explore.new.found.saving one
                c.loop-number.invariant.tried w.explore.ensures.grows at
                (λ m yes more. omega (
                  arith,
                  next.saving,
                  w.explore.ensures.best w.if-found.false m
                      (next-can bids classes places w.with_bid-next.result.places rest served w.with_bid-next.result.served driver m one free next.places next.served more),
                ));
            turns = omega (
              arith,
              w.explore.ensures.turns,
              c.loop-number.invariant.turns,
              tries-taken list n before served one at can,
              next-tries bids classes places w.with_bid-next.result.places rest served w.with_bid-next.result.served driver one free next.places next.served,
            );
          })
      | then-driver-bids+then-are_apart+else-next-hope w ↦ rw w.found-is (
          let free : IsFreeFor bids classes places driver one = record {
            inside = w.if-driver-bids.true;
            room = room;
            free = c.free_driver-driver.ensures.free w.if-driver-bids.true;
            class = c.free_driver-driver.ensures.class w.if-driver-bids.true;
            away = away;
          } in
          let next = w.with_bid-next.ensures in record {
            found = c.loop-number.invariant.found;
            grows = c.loop-number.invariant.grows;
            mine = c.loop-number.invariant.mine;
            going = c.loop-number.invariant.going;
            limit = c.loop-number.invariant.limit;
            tried = tried-next list before served c.args.choice.saving c.args.from n c.loop-number.found.saving c.loop-number.found.saving one
                c.loop-number.invariant.tried (omega arith) at
                (λ m yes more. omega (
                  arith,
                  next.saving,
                  w.if-next-hope.false,
                  w.hope_of-hope.ensures.most m
                      (next-can bids classes places w.with_bid-next.result.places rest served w.with_bid-next.result.served driver m one free next.places next.served more),
                ));
            turns = omega (arith, c.loop-number.invariant.turns, here);
          })
      | else-driver-bids w ↦ rw w.found-is (record {
        found = c.loop-number.invariant.found;
        grows = c.loop-number.invariant.grows;
        mine = c.loop-number.invariant.mine;
        going = c.loop-number.invariant.going;
        limit = c.loop-number.invariant.limit;
        tried = tried-next list before served c.args.choice.saving c.args.from n c.loop-number.found.saving c.loop-number.found.saving one
            c.loop-number.invariant.tried (omega arith) at
            (λ m yes more.
            let parts = can-parts before served one yes in
            elim w.else-driver-bids.branch [
              | else-driver-bids-via-then-driver-bids+else-are_apart v ↦ (
                  let never : c.args.choice.served ≡ served = refl in
                  let not_apart = sym v.are_apart.ensures ∙ v.if-are_apart.false in absurd (cc))
              | else-driver-bids-via-else-driver-bids v ↦ absurd (omega (arith, parts.0, c.free_driver-driver.ensures.none v.if-driver-bids.false))
            ]);
        turns = omega (arith, c.loop-number.invariant.turns, here);
      })
    ]
