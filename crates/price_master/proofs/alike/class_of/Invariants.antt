use Rattle.std.proofs.Common.{◌≡◌, ℕ, ◌<◌, slice_get}
use Rattle.price_master.proofs.alike.class_of.Given as goal

abbrev pub invariant-loop-earlier : goal.invariant-loop-earlier
invariant-loop-earlier l = (other : ℕ) → other < l.earlier → slice_get l.bids other ≡ slice_get l.bids l.driver → ⊥
