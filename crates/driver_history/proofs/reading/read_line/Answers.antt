use Rattle.std.proofs.Common.{arith, sym}
use Rattle.week_book.specs.Pasts.{did_activities}
use Rattle.driver_history.proofs.RowBounds.{most_minutes}
use Rattle.driver_history.proofs.RowShapes.{line-read}
use Rattle.driver_history.proofs.Rows.{did_within}
use Rattle.driver_history.proofs.reading.read_line.Goals as goal

pub minutes-sum-requires : goal.minutes-sum-requires
minutes-sum-requires c =
    let r = did_within c.args.driver.now c.args.rows.now c.requires in
    let most = most_minutes (did_activities c.args.driver.now c.args.rows.now) r.0 in
    let few = r.1 in
    rw (c.deref-2.ensures.value, c.in_ok-activities.ensures, c.as_slice.ensures, c.as_slice-2.ensures) (omega arith)

pub stints-requires : goal.stints-requires
stints-requires c =
    rw (c.deref-3.ensures.value, c.in_ok-activities.ensures, c.as_slice.ensures, c.as_slice-2.ensures)
    (did_within c.args.driver.now c.args.rows.now c.requires).0

pub invariant_of-result : goal.invariant_of-result
invariant_of-result c =
    let same = c.deref.ensures.value in
    let offs = sym c.in-None.ensures in record {
      shape = rw (c.from_vec.ensures, c.in_ok-stints.ensures, c.deref-3.ensures.value, c.in_ok-activities.ensures, c.as_slice.ensures, c.as_slice-2.ensures)
          (line-read (did_activities c.args.driver.now c.args.rows.now) (c.requires.zeros c.args.driver.now)
          (rw (c.deref.ensures.value, c.in_ok-activities.ensures, c.as_slice.ensures, c.as_slice-2.ensures) at offs));
    }
