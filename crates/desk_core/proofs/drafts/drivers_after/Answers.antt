use Rattle.std.proofs.Common.{◌≡◌, ◌∙◌, ◌<◌, ap, arith, map, length, get_or, length-append, option_map}
use Rattle.desk_keeper.specs.Tables.{kept_fields}
use Rattle.desk_core.proofs.Afterwards.{element}
use Rattle.desk_core.proofs.Seeing.{at_place}
use Rattle.desk_core.proofs.DraftDrivers.{named_more, made_more, all_made}
use Rattle.desk_core.proofs.drafts.drivers_after.Goals as goal

pub driver_after-requires-clause-lawful : goal.driver_after-requires-clause-lawful
driver_after-requires-clause-lawful c =
    let here : c.loop-i.i < length c.args.duties.now = omega (arith, c.loop-i-test.true, c.requires.duties, ap length c.as_slice-driver-items.ensures) in
    c.requires.lawful c.loop-i.i c.index-duties-i.result (element c.args.duties.now c.loop-i.i c.index-duties-i.result c.index-duties-i.result here c.index-duties-i.is)

pub loop-i-preserved : goal.loop-i-preserved
loop-i-preserved c =
    let case = c.args.case.now in
    let i = c.loop-i.i in
    let week = ap length c.as_slice-driver-items.ensures in
    let driver = c.driver-item.result in
    let is : driver ≡ get_or case.week.drivers i driver = c.driver-item.is ∙ ap (λ l. get_or l i driver) c.as_slice-driver-items.ensures in
    let duty = c.index-duties-i.result in
    let was = c.index-seen-i.result in
    let x = c.in_ok-driver_after.field-0 in
    let in_week : i < length case.week.drivers = omega (arith, c.loop-i-test.true, week) in
    let in_duties : i < length c.args.duties.now = omega (arith, in_week, c.requires.duties) in
    let in_seen : i < length c.args.seen.now = omega (arith, in_week, c.requires.seen) in
    record {
      each = omega (arith, simp length-append at (ap length c.in_ok-push.ensures.ok), c.loop-i.invariant.each);
      names = named_more c.loop-i.drivers c.push.new.self x case.week.drivers i driver driver c.in_ok-push.ensures.ok in_week is
          c.in_ok-driver_after.ensures.named c.loop-i.invariant.names;
      theirs = made_more case c.args.duties.now (map (option_map kept_fields) c.args.seen.now) c.loop-i.drivers c.push.new.self x i driver duty (option_map kept_fields was)
          c.loop-i.invariant.each c.in_ok-push.ensures.ok (element case.week.drivers i driver driver in_week is)
          (element c.args.duties.now i duty duty in_duties c.index-duties-i.is)
          (at_place (option_map kept_fields) c.args.seen.now i was was in_seen c.index-seen-i.is) c.in_ok-driver_after.ensures c.loop-i.invariant.theirs;
    }

pub returns : goal.returns
returns c =
    let end : c.loop-i.i ≡ length c.args.case.now.week.drivers = omega (arith, c.loop-i-test.false, c.loop-i.auto.i-end, ap length c.as_slice-driver-items.ensures) in
    all_made c.args.case.now c.args.duties.now (map (option_map kept_fields) c.args.seen.now) c.loop-i.drivers c.loop-i.i end c.loop-i.invariant.each c.loop-i.invariant.names
    c.loop-i.invariant.theirs
