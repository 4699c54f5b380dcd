use Rattle.std.proofs.Common.{◌≡◌, drop}
use Rattle.minute_line.specs.Stints.{all_up_to}
use Rattle.minute_line.proofs.valid.are_up_to.Given as goal

abbrev pub invariant-loop-number : goal.invariant-loop-number
invariant-loop-number l = all_up_to l.most (drop l.number-index l.numbers) ≡ all_up_to l.most l.numbers
