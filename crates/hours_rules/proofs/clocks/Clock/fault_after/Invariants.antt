use Rattle.std.proofs.Common.{◌≡◌, drop, find, nat_le}
use Rattle.hours_rules.specs.Machine.{room}
use Rattle.hours_rules.specs.Rules.{all_rules}
use Rattle.hours_rules.proofs.clocks.Clock.fault_after.Given as goal

abbrev pub invariant-loop-rule : goal.invariant-loop-rule
invariant-loop-rule l =
    find (λ rule. nat_le (room l.self l.ended l.mark l.kind rule) l.least) (drop l.rule-index all_rules)
    ≡ find (λ rule. nat_le (room l.self l.ended l.mark l.kind rule) l.least) all_rules
