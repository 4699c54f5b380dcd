use Rattle.desk_core.proofs.ReplyLists.{replies_are_plays as law}
use Rattle.desk_core.proofs.laws.replies_are_its_steps.Goals as goal

pub returns : goal.returns
returns c = law
