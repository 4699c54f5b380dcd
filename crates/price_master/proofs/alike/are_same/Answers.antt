use Rattle.std.proofs.Common.{rules}
use Rattle.std.proofs.lemmas.Slice.Eq.{slice_eq-Decides}
use Rattle.price_master.specs.declared.bidding.Bid.{Bid}
use Rattle.price_master.proofs.alike.are_same.Goals as goal

pub returns : goal.returns
returns c = slice_eq-Decides (λ (a b : Bid). search rules) c.args.one.now c.args.other.now c.eq.result c.eq.ensures
