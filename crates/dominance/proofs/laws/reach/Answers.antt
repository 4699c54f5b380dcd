use Rattle.dominance.proofs.Reaching.{reaches_open, reaches_by_legs, label_reaches, label_reaches_open, reaches_both}
use Rattle.dominance.proofs.laws.reach.Goals as goal

pub returns-clause-windows : goal.returns-clause-windows
returns-clause-windows c = reaches_open

pub returns-clause-legs : goal.returns-clause-legs
returns-clause-legs c = reaches_by_legs

pub returns-clause-labels : goal.returns-clause-labels
returns-clause-labels c = label_reaches

pub returns-clause-labels_windows : goal.returns-clause-labels_windows
returns-clause-labels_windows c = label_reaches_open

pub returns-clause-both : goal.returns-clause-both
returns-clause-both c = reaches_both
