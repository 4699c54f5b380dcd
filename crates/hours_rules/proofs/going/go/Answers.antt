use Rattle.std.proofs.Common.{Err, ◌≡◌, rules, ◌+◌, ◌∙◌, arith, ◌≤◌, length}
use Rattle.minute_line.specs.declared.marks.Mark.TheVariants.{Ready, Off}
use Rattle.minute_line.specs.declared.marks.Kind.TheVariants.{Plain}
use Rattle.minute_line.specs.Minutes.{stretch}
use Rattle.hours_rules.proofs.Blocks.{stands-off_block}
use Rattle.hours_rules.proofs.Faults.{fault-off, fault_stays, length-stretch}
use Rattle.hours_rules.proofs.Chains.{within-clock, within-more, goes-on}
use Rattle.hours_rules.proofs.Within.{within-rested}
use Rattle.hours_rules.proofs.going.go.Goals as goal

pub on_duty-requires-clause-within : goal.on_duty-requires-clause-within
on_duty-requires-clause-within c = within-more 60000 80000 _ (omega arith) (within-clock c.args.clock.now c.requires.clock)

pub add_off-stayed-requires-clause-within : goal.add_off-stayed-requires-clause-within
add_off-stayed-requires-clause-within c =
    within-more (60000 + c.args.stay.ready + 1) 100000 _ (omega arith) (c.in_ok-waited.ensures.within 60000 (within-clock c.args.clock.now c.requires.clock))

pub on_duty-requires-2-clause-within : goal.on_duty-requires-2-clause-within
on_duty-requires-2-clause-within c =
    rw c.add_off-stayed.ensures
    (within-rested (60000 + c.args.stay.ready + 1) c.args.stay.off 80000 _ (omega arith) (c.in_ok-waited.ensures.within 60000 (within-clock c.args.clock.now c.requires.clock)))

pub returns-in_err-waited-clause-line : goal.returns-in_err-waited-clause-line
returns-in_err-waited-clause-line c = λ from past week s start none.
    let stay = c.args.stay in
    let e : c.from_residual.result ≡ Err c.in_err-waited.field-0.0 = search rules in
    rw e
    (fault_stays from past _ c.args.minutes c.args.mark stay.kind _
    (fault-off from past stay.off Plain _ ∙ c.in_err-waited.ensures.block from past week s start none))

pub returns-clause-line : goal.returns-clause-line
returns-clause-line c = λ from past week s start none.
    let stay = c.args.stay in
    let good = c.in_ok-waited.ensures.block from past week s start none in
    let later : from ≤ length (stretch stay.off Off Plain (stretch stay.ready Ready Plain week)) =
    omega (arith, length-stretch stay.off Off Plain (stretch stay.ready Ready Plain week), length-stretch stay.ready Ready Plain week) in
    c.on_duty-2.ensures.block from past (stretch stay.off Off Plain (stretch stay.ready Ready Plain week))
    (rw c.add_off-stayed.ensures (stands-off_block c.in_ok-waited.waited past stay.off Plain _ good.0))
    later
    (fault-off from past stay.off Plain _ ∙ good.1)

pub returns-clause-clock : goal.returns-clause-clock
returns-clause-clock c =
    goes-on c.args.clock.now c.args.stay c.args.mark c.args.minutes c.on_duty-2.result c.requires.clock (omega arith) (returns-clause-line c)
