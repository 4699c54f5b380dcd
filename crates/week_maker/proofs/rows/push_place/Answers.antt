use Rattle.week_maker.proofs.GrowingText.{place-name-other}
use Rattle.week_maker.proofs.rows.push_place.Goals as goal

pub returns-then-place-eq0 : goal.returns-then-place-eq0
returns-then-place-eq0 c = rw c.if-place-eq0.true c.push_field.ensures

pub returns-else-place-eq0 : goal.returns-else-place-eq0
returns-else-place-eq0 c = rw (place-name-other c.args.place c.if-place-eq0.false) c.push_name.ensures
