use Rattle.minute_line.proofs.DayTexts.{one_stamp}
use Rattle.minute_line.proofs.StampTexts.{stamp_is_minute}
use Rattle.minute_line.proofs.stamps.only_stamp.Goals as goal

pub returns-clause-stamp : goal.returns-clause-stamp
returns-clause-stamp c = stamp_is_minute

pub returns-clause-only : goal.returns-clause-only
returns-clause-only c = one_stamp
