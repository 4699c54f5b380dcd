use Rattle.desk_csv.proofs.DateFields.{monday_of_text}
use Rattle.desk_csv.proofs.fields.read_monday.Goals as goal

pub returns : goal.returns
returns c = monday_of_text c.args.text.now c.monday_in.result c.monday_in.ensures.some c.monday_in.ensures.day
