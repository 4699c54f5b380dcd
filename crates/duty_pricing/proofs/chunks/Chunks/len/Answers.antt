-- At most 2,048 chunks.
use Rattle.std.proofs.Common.{arith}
use Rattle.duty_pricing.proofs.Filling.{joined-most}
use Rattle.duty_pricing.proofs.chunks.Chunks.len.Goals as goal

pub returns-clause-most : goal.returns-clause-most
returns-clause-most c =
    let most = joined-most c.self.inside.chunks.items c.self.invariant.0 in
    let few = c.self.invariant.2 in
    let count = c.self.invariant.3 in omega arith
