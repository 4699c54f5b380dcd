use Rattle.duty_plan.proofs.TwinLists.{twins_share_lists, twins_store_alike, twins_answer_alike}
use Rattle.duty_plan.proofs.laws.twins_share_label_lists.Goals as goal

pub returns-clause-lists : goal.returns-clause-lists
returns-clause-lists c = twins_share_lists

pub returns-clause-stored : goal.returns-clause-stored
returns-clause-stored c = twins_store_alike

pub returns-clause-answers : goal.returns-clause-answers
returns-clause-answers c = twins_answer_alike
