-- The parts of the order, test by test.
use Rattle.hours_rules.proofs.JoinedTests.{all_four, from_four}
use Rattle.hours_rules.proofs.clocks.Clock.dominates.Goals as goal

pub returns : goal.returns
returns c = (
  λ h.
      let all = all_four c.began_as_late.result c.did_as_little.result c.rested_as_well.result c.owes_no_more.result h in
      let began = c.began_as_late.ensures.0 all.0 in
      let did = c.did_as_little.ensures.0 all.1 in
      let rested = c.rested_as_well.ensures.0 all.2 in
      let owes = c.owes_no_more.ensures.0 all.3 in record {
        at = did.0;
        day_from = began.0;
        rest_from = began.1;
        period = did.1;
        half = rested.0;
        drive_day = did.2;
        long_days = rested.3;
        split = rested.2;
        reduced = rested.4;
        prev_weekly = rested.5;
        work_run = did.3;
        work_day = did.4;
        pause_day = rested.1;
        drive_week = did.5;
        work_week = did.6;
        owed = owes.0;
        due = owes.1;
      },
  λ g. from_four _ _ _ _ (c.began_as_late.ensures.1 (g.day_from, g.rest_from))
      (c.did_as_little.ensures.1 (g.at, g.period, g.drive_day, g.work_run, g.work_day, g.drive_week, g.work_week))
      (c.rested_as_well.ensures.1 (g.half, g.pause_day, g.split, g.long_days, g.reduced, g.prev_weekly))
      (c.owes_no_more.ensures.1 (g.owed, g.due)),
)
