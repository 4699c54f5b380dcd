use Rattle.desk_csv.specs.declared.errors.Form.TheVariants.{Plan}
use Rattle.desk_core.proofs.LastMonday.{monday_in_time}
use Rattle.desk_core.proofs.drafting.read_week_text.Goals as goal

pub returns-clause-monday : goal.returns-clause-monday
returns-clause-monday c =
    monday_in_time Plan c.args.text.now c.in_ok-rows.rows c.in_ok-week.week c.in_ok-rows.ensures.rows c.in_ok-week.ensures.week
