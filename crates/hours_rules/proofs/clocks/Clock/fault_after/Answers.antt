use Rattle.std.proofs.Common.{◌∙◌, arith, sym, refl, ◌<◌, leb, le-leb}
use Rattle.std.proofs.lemmas.Bool.{lt-leb}
use Rattle.hours_rules.specs.Machine.{room}
use Rattle.hours_rules.specs.Rules.{all_rules}
use Rattle.hours_rules.proofs.Least.{find_skip, find_hit, find_end, after_found, after_none}
use Rattle.hours_rules.proofs.clocks.Clock.fault_after.Goals as goal

pub loop-rule-init : goal.loop-rule-init
loop-rule-init c = refl

pub returns-then-room-least : goal.returns-then-room-least
returns-then-room-least c =
    let h : c.loop-rule.rule-index < 12 = omega arith in
    let f = room c.args.self.now c.args.ended.now c.args.mark c.args.kind in
    let l = c.if-room-least.true in
    sym (after_found f c.args.self.now.at c.args.least _
    (sym c.loop-rule.invariant ∙ find_hit (λ rule. leb (f rule) c.args.least) all_rules c.loop-rule.rule-index _ h
    (le-leb _ _ (rw c.room.ensures at l))))

pub loop-rule-preserved : goal.loop-rule-preserved
loop-rule-preserved c =
    let h : c.loop-rule.rule-index < 12 = omega arith in
    let f = room c.args.self.now c.args.ended.now c.args.mark c.args.kind in
    let l = c.if-room-least.false in
    find_skip (λ rule. leb (f rule) c.args.least) all_rules c.loop-rule.rule-index _ h
    (lt-leb _ _ (rw c.room.ensures at l))
    ∙ c.loop-rule.invariant

pub returns : goal.returns
returns c =
    let f = room c.args.self.now c.args.ended.now c.args.mark c.args.kind in
    sym (after_none f c.args.self.now.at c.args.least
    (sym c.loop-rule.invariant ∙ find_end (λ rule. leb (f rule) c.args.least) all_rules c.loop-rule.rule-index (omega arith)))
