use Rattle.price_master.proofs.Tightening.{child_tightens, never_falls_below, never_falls}
use Rattle.price_master.proofs.laws.never_falls.Goals as goal

pub returns-clause-keeps : goal.returns-clause-keeps
returns-clause-keeps c = child_tightens

pub returns-clause-below : goal.returns-clause-below
returns-clause-below c = never_falls_below

pub returns-clause-child : goal.returns-clause-child
returns-clause-child c = never_falls
