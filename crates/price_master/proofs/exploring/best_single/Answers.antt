use Rattle.std.proofs.Common.{refl, arith}
use Rattle.std.proofs.lemmas.Option.{slice_get_within}
use Rattle.price_master.proofs.Singles.{homes-chosen}
use Rattle.price_master.proofs.exploring.best_single.Goals as goal

pub loop-driver-init : goal.loop-driver-init
loop-driver-init c = record {
  found = homes-chosen c.args.bids.now c.homes.result c.requires.homes (λ j l. c.homes.ensures j (omega (arith, c.requires.drivers)));
  beats = λ d of_driver l at k bid is. absurd (omega arith);
  turns = (refl, refl);
}

pub returns-clause-beats : goal.returns-clause-beats
returns-clause-beats c = λ driver of_driver at k bid is.
    c.loop-driver.invariant.beats driver of_driver (omega (arith, c.loop-driver-test.false, slice_get_within c.args.bids.now driver of_driver at)) at k bid is
