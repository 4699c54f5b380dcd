use Rattle.std.proofs.Common.{◌∙◌, ap}
use Rattle.std.specs.Option.{is_some}
use Rattle.week_book.proofs.Maps.{number_among}
use Rattle.week_book.proofs.name_indexes.NameIndex.has.Goals as goal

pub returns : goal.returns
returns c = c.is_some.ensures ∙ ap is_some c.number.ensures ∙ number_among 0 c.args.self.now c.args.name.now
