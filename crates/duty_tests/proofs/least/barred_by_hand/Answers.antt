use Rattle.duty_tests.proofs.LeastTrips.{least-barred}
use Rattle.duty_tests.proofs.least.barred_by_hand.Goals as goal

pub returns-clause-least : goal.returns-clause-least
returns-clause-least c = least-barred
