use Rattle.std.proofs.Common.{◌≡◌, ◌+◌, ◌-◌, ◌≤◌, false, length, drop}
use Rattle.price_master.specs.Bids.{AreChosen}
use Rattle.price_master.specs.Classes.{free_of, tries_of}
use Rattle.price_master.proofs.Tried.{AreTried}
use Rattle.price_master.proofs.exploring.+explore.Given as goal

abbrev pub decreases-explore : goal.decreases-explore
decreases-explore l = length l.list.now - l.from

abbrev pub invariant-loop-number : goal.invariant-loop-number
invariant-loop-number l = record {
  found : AreChosen l.bids l.found.places l.found.saving;
  grows : l.fn.found.saving ≤ l.found.saving;
  mine : l.choice.saving ≤ l.found.saving;
  going : l.found.is_cut ≡ false;
  limit : l.found.turns ≤ 20000;
  tried : AreTried l.list (free_of l.classes l.choice.places (length l.bids)) l.choice.served l.choice.saving l.from l.number l.found.saving;
  turns : l.found.turns + tries_of (drop l.number l.list) (free_of l.classes l.choice.places (length l.bids)) l.choice.served ≤
      l.fn.found.turns + tries_of (drop l.from l.list) (free_of l.classes l.choice.places (length l.bids)) l.choice.served;
}
