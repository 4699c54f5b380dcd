use Rattle.std.proofs.Common.{◌≡◌, ◌∙◌, arith, length, option_map, IfSome, Bool, true, false}
use Rattle.desk_keeper.specs.Tables.{kept_fields}
use Rattle.desk_keeper.specs.Entries.{history_in}
use Rattle.desk_core.proofs.Seeing.{AreSeenBelow, seen_more, all_seen, first_moved}
use Rattle.desk_core.proofs.publishing.expect_as_seen.Goals as goal

not_true : (b : Bool) → b ≡ false → b ≡ true → ⊥
not_true b is says = cc

pub returns-then-not-branch-clause-answer : goal.returns-then-not-branch-clause-answer
returns-then-not-branch-clause-answer g c =
    let now : IfSome (g.B.Keeper.tables c.args.keeper.now) (λ t. option_map kept_fields c.in_ok-kept.kept ≡ history_in t c.driver-item.result.name) =
    rw (← c.loop-driver.invariant.tables) c.in_ok-kept.ensures.answer in
    first_moved (g.B.Keeper.tables c.args.keeper.now) c.args.drivers.now c.loop-driver.driver-index c.driver-item.result c.driver-item.result
    (option_map kept_fields c.in_ok-kept.kept) _ c.loop-driver-test.true c.driver-item.is c.loop-driver.invariant.seen now
    (λ same. not_true _ c.if-not-branch.true (c.in_ok-is_same.ensures.1 same)) (c.in_ok-name.ensures ∙ c.as_slice.ensures)

pub loop-driver-preserved : goal.loop-driver-preserved
loop-driver-preserved g c =
    let now : IfSome (g.B.Keeper.tables c.args.keeper.now) (λ t. option_map kept_fields c.in_ok-kept.kept ≡ history_in t c.driver-item.result.name) =
    rw (← c.loop-driver.invariant.tables) c.in_ok-kept.ensures.answer in
    record {
      tables = c.in_ok-kept.ensures.tables ∙ c.loop-driver.invariant.tables;
      counts = c.in_ok-kept.ensures.counts ∙ c.loop-driver.invariant.counts;
      seen = seen_more (g.B.Keeper.tables c.args.keeper.now) c.args.drivers.now c.loop-driver.driver-index c.driver-item.result c.driver-item.result
          (option_map kept_fields c.in_ok-kept.kept) c.loop-driver-test.true c.driver-item.is c.loop-driver.invariant.seen now
          (c.in_ok-is_same.ensures.0 c.if-not-branch.false);
    }

pub returns-clause-answer : goal.returns-clause-answer
returns-clause-answer g c =
    let end : c.loop-driver.driver-index ≡ length c.args.drivers.now = omega arith in
    let seen : IfSome (g.B.Keeper.tables c.args.keeper.now) (AreSeenBelow c.args.drivers.now (length c.args.drivers.now)) = rw (← end) c.loop-driver.invariant.seen in
    all_seen (g.B.Keeper.tables c.args.keeper.now) c.args.drivers.now seen
