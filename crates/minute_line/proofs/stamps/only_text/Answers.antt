use Rattle.minute_line.proofs.DayTexts.{one_text}
use Rattle.minute_line.proofs.stamps.only_text.Goals as goal

pub returns : goal.returns
returns c = one_text
