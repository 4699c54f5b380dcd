use Rattle.std.proofs.Common.{◌+◌, ◌≤◌, List, length, refl, subst, sym, arith}
use Rattle.price_master.specs.declared.alike.ClassBid.{ClassBid}
use Rattle.price_master.specs.Classes.{AreClassBids, CanTake, free_of, tries_of}
use Rattle.price_master.proofs.Singles.{homes-fixed}
use Rattle.price_master.proofs.Taking.{saves-take}
use Rattle.price_master.proofs.Freed.{all-free}
use Rattle.price_master.proofs.Tries.{tries-turns}
use Rattle.price_master.proofs.exploring.best_choice.Goals as goal

pub explore-requires-clause-choice : goal.explore-requires-clause-choice
explore-requires-clause-choice c =
    homes-fixed c.args.bids.now c.homes.result c.requires.homes (λ j l. c.homes.ensures j (omega (arith, l, c.requires.drivers)))

pub returns-clause-best : goal.returns-clause-best
returns-clause-best c = λ going saving can.
    let classes = c.classes_of-classes.result in
    let listed : AreClassBids c.args.bids.now classes c.as_slice.result.now =
    subst (λ (l : List ClassBid). AreClassBids c.args.bids.now classes l) (sym c.as_slice.ensures) c.in_ok-list.ensures in
    let take : CanTake c.as_slice.result.now (free_of classes c.homes.result (length c.args.bids.now)) 0 saving =
    saves-take c.args.bids.now classes c.as_slice.result.now listed c.requires.bids c.args.bids.now 0 refl (free_of classes c.homes.result (length c.args.bids.now))
    (λ k. omega (arith, all-free c.args.bids.now classes c.homes.result k (λ d l. c.homes.ensures d (omega (arith, l, c.requires.drivers))))) 0 saving can in
    omega (arith, c.explore.ensures.best going saving take)

pub returns-clause-long : goal.returns-clause-long
returns-clause-long c = λ cut.
    let classes = c.classes_of-classes.result in
    let listed : AreClassBids c.args.bids.now classes c.as_slice.result.now =
    subst (λ (l : List ClassBid). AreClassBids c.args.bids.now classes l) (sym c.as_slice.ensures) c.in_ok-list.ensures in
    let few : c.explore.new.found.turns ≤ c.best_single-found.result.turns + tries_of c.as_slice.result.now (free_of classes c.homes.result (length c.args.bids.now)) 0 =
    c.explore.ensures.turns in
    omega (
      arith,
      c.explore.ensures.cut cut,
      few,
      c.best_single-found.ensures.turns.0,
      tries-turns c.args.bids.now classes c.as_slice.result.now (free_of classes c.homes.result (length c.args.bids.now)) listed c.requires.homes
          (λ k. omega (arith, all-free c.args.bids.now classes c.homes.result k (λ d l. c.homes.ensures d (omega (arith, l, c.requires.drivers))))),
    )
