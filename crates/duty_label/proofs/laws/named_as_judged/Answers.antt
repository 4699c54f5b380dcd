use Rattle.duty_label.proofs.Naming.{named_as_judged, named_for_duties}
use Rattle.duty_label.proofs.laws.named_as_judged.Goals as goal

pub returns-clause-partial : goal.returns-clause-partial
returns-clause-partial c = named_as_judged

pub returns-clause-duty : goal.returns-clause-duty
returns-clause-duty c = named_for_duties
