use Rattle.std.proofs.Common.{◌≡◌, subst, List, IfOk}
use Rattle.minute_line.specs.declared.marks.Stint.{Stint}
use Rattle.minute_line.specs.Histories.{fields_of}
use Rattle.driver_history.specs.Advancing.{advance_of}
use Rattle.hours_rules.specs.Verdicts.{past_of}
use Rattle.driver_history.proofs.Weeks.{lawful-idle}
use Rattle.driver_history.proofs.moves.idle_week.Goals as goal

pub advance-requires-clause-lawful : goal.advance-requires-clause-lawful
advance-requires-clause-lawful c = lawful-idle (past_of c.args.history.now) c.idle_line-line.result c.idle_line-line.ensures

pub returns : goal.returns
returns c =
    subst (λ (stints : List Stint). IfOk c.advance.result (λ next. fields_of next ≡ advance_of (fields_of c.args.history.now) stints)) c.idle_line-line.ensures c.advance.ensures
