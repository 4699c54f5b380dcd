use Rattle.std.proofs.Common.{Ok, rules, tests}
use Rattle.std.specs.Bool.{⊤}
use Rattle.std.proofs.lemmas.Iterator.{items_from_collect, YieldsList-from_slice}
use Rattle.std.proofs.lemmas.Iterator.Consumers.{YieldsList-from_filter_map}
use Rattle.week_book.specs.Pasts.{past_activity}
use Rattle.driver_history.proofs.activities.past_rows.Goals as goal

pub returns : goal.returns
returns c =
    items_from_collect {E = ⊤} (Ok c.in_ok-activities.activities) c.in_ok-activities.ensures.ran
    (YieldsList-from_filter_map _ (past_activity c.args.name.now) (YieldsList-from_slice c.args.rows.now cc) c.filter_map.ensures.closure
    (λ x r q k. search (rules, tests)))
