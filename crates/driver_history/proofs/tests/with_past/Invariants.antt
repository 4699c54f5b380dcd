use Rattle.week_book.specs.Pasts.{HasPastRows}
use Rattle.driver_history.proofs.tests.with_past.Given as goal

abbrev pub invariant-loop-word : goal.invariant-loop-word
invariant-loop-word g l = HasPastRows l.text
