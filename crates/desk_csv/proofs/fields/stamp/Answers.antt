use Rattle.desk_csv.specs.declared.errors.CsvError.TheVariants.{Stamp}
use Rattle.desk_csv.specs.Fields.{stamp_at}
use Rattle.desk_csv.proofs.DateFields.{stamp_in_field}
use Rattle.desk_csv.proofs.fields.stamp.Goals as goal

pub returns : goal.returns
unfolding stamp_at
returns c =
    rw c.ok_or.ensures.value (rw c.field.ensures at (stamp_in_field c.args.monday.day c.field.result.now (Stamp c.args.row c.args.n) c.minute_in.result c.minute_in.ensures.some c.minute_in.ensures.minutes))
