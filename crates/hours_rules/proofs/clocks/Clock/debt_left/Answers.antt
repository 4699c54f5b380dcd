-- The room of a debt.
use Rattle.std.proofs.Common.{◌≡◌, ◌+◌, ltb, true, pos, ◌-ℤ◌, refl, arith, to_z, of_z, w32}
use Rattle.std.proofs.lemmas.Bool.Decides.{nat_tests}
use Rattle.std.proofs.lemmas.Int.{ints}
use Rattle.hours_rules.proofs.clocks.Clock.debt_left.Goals as goal

pub returns : goal.returns
returns c =
    let some : ltb 0 c.args.self.now.owed ≡ true = grind (arith, nat_tests, c.if-self-eq0.false) in
    let last : to_z w32 (of_z w32 (to_z w32 (of_z w32 c.args.self.now.due) -ℤ to_z w32 (660 + c.args.self.now.owed)))
    ≡ c.args.self.now.due -ℤ pos (660 + c.args.self.now.owed) = omega (arith, ints) in
    rw (c.min.ensures, c.left_until.ensures, last, some) refl
