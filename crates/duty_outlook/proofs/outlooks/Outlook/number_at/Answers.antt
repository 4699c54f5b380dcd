-- The limit covers.
use Rattle.std.proofs.Common.{◌*◌, arith}
use Rattle.std.proofs.lemmas.Int.{ints}
use Rattle.duty_outlook.specs.Outlooks.{cents_of}
use Rattle.duty_outlook.proofs.Steps.{covers-all}
use Rattle.duty_outlook.proofs.outlooks.Outlook.number_at.Goals as goal

pub returns-in_default : goal.returns-in_default
returns-in_default c week prices f =
    covers-all week c.args.self.now.scale.capacity prices c.args.spot.orders c.args.spot.place c.args.spot.minute
    (c.args.level * c.args.self.now.scale.unit) (cents_of 4000000000000) f.is_week f.is_prices (omega (arith, ints))

pub returns-then-not-is_within : goal.returns-then-not-is_within
returns-then-not-is_within c week prices f =
    covers-all week c.args.self.now.scale.capacity prices c.args.spot.orders c.args.spot.place c.args.spot.minute
    (c.args.level * c.args.self.now.scale.unit) (cents_of 4000000000000) f.is_week f.is_prices (omega (arith, ints))
