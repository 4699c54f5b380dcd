use Rattle.std.proofs.Common.{◌≡◌, length, rules, refl}
use Rattle.driver_history.proofs.Sixteen.{sixteen}
use Rattle.driver_history.proofs.moves.later.Goals as goal

pub returns : goal.returns
returns c = let all : length c.args.weeks.now ≡ 16 = search rules in rw (sixteen c.args.weeks.now all) refl
