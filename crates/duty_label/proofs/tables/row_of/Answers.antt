-- The row has the number that it began with, but for the place itself.
use Rattle.std.proofs.Common.{◌≡◌, ◌≢◌, ℕ, ◌<◌, slice_set, ◌∙◌}
use Rattle.std.specs.Prelude.{replicate}
use Rattle.std.proofs.lemmas.List.{get_or-replicate, get_or-set_other}
use Rattle.duty_label.specs.Tables.{number_at}
use Rattle.duty_label.proofs.tables.row_of.Goals as goal

others : (count number place to : ℕ) → to < count → to ≢ place → number_at (slice_set (replicate count number) place 0) to ≡ number
others count number place to low other =
    get_or-set_other (replicate count number) place to 0 0 other ∙ get_or-replicate count to number 0 low

pub returns-clause-others : goal.returns-clause-others
returns-clause-others c = others 64 18446744073709551615 c.args.place
