use Rattle.std.proofs.Common.{◌≡◌, ◌++◌, drop}
use Rattle.minute_line.specs.Tokens.{stints_of}
use Rattle.minute_line.proofs.tokens.stints.Given as goal

abbrev pub invariant-loop-token : goal.invariant-loop-token
invariant-loop-token l = l.out ++ stints_of (drop l.token-index l.tokens) ≡ stints_of l.tokens
