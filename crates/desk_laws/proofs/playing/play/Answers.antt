use Rattle.std.proofs.Common.{◌≡◌, ◌≤◌, ◌∙◌, sym, subst, arith, length, take, true, false}
use Rattle.desk_core.specs.Machine.{Replied, ends_play}
use Rattle.desk_laws.proofs.Played.{said_more, one_longer, replies_more, counted_more, all_replied, play_all, play_up_to}
use Rattle.desk_laws.proofs.playing.play.Goals as goal

pub returns-then-ends-clause-plays : goal.returns-then-ends-clause-plays
returns-then-ends-clause-plays g c =
    let inv = c.loop-command.invariant in
    let ends : ends_play c.step-reply.result ≡ true = sym c.is_last-ends.ensures ∙ c.if-ends.true in
    play_up_to c.args.commands.now c.loop-command.command-index c.command-item.result c.command-item.result c.loop-command.replies.items
    c.push_reserved.new.self.items c.step-reply.result (g.B.Keeper.tables c.args.keeper.now) (g.B.Keeper.tables c.loop-command.keeper)
    (g.B.Keeper.tables c.step-reply.new.keeper) c.loop-command-test.true c.command-item.is c.push_reserved.ensures.items inv.said ends inv.replied
    c.step-reply.ensures.step

pub returns-then-ends-clause-replied : goal.returns-then-ends-clause-replied
returns-then-ends-clause-replied g c =
    let inv = c.loop-command.invariant in
    let more = c.push_reserved.new.self.items in
    let now = replies_more c.args.commands.now c.loop-command.command-index c.command-item.result c.command-item.result c.loop-command.replies.items
    more c.step-reply.result (g.B.Keeper.tables c.args.keeper.now) (g.B.Keeper.tables c.loop-command.keeper) (g.B.Keeper.tables c.step-reply.new.keeper)
    c.loop-command-test.true c.command-item.is c.push_reserved.ensures.items inv.replied c.step-reply.ensures.step in
    subst
    (λ n. Replied (take n c.args.commands.now) (g.B.Keeper.tables c.args.keeper.now) more (g.B.Keeper.tables c.step-reply.new.keeper))
    (sym (one_longer c.loop-command.replies.items more c.step-reply.result c.loop-command.command-index c.push_reserved.ensures.items inv.each)) now

pub returns-then-ends-clause-counts : goal.returns-then-ends-clause-counts
returns-then-ends-clause-counts g c =
    counted_more (g.B.Keeper.faults c.args.keeper.now) (g.B.Keeper.faults c.loop-command.keeper) (g.B.Keeper.faults c.step-reply.new.keeper)
    c.loop-command.replies.items c.push_reserved.new.self.items c.step-reply.result c.push_reserved.ensures.items c.loop-command.invariant.counts
    c.step-reply.ensures.counts

pub loop-command-preserved : goal.loop-command-preserved
loop-command-preserved g c =
    let inv = c.loop-command.invariant in
    let replies = c.loop-command.replies.items in
    let more = c.push_reserved.new.self.items in
    let reply = c.step-reply.result in
    let pushed = c.push_reserved.ensures.items in
    let goes : ends_play reply ≡ false = sym c.is_last-ends.ensures ∙ c.if-ends.false in
    record {
      each = one_longer replies more reply c.loop-command.command-index pushed inv.each;
      room = omega (arith, c.push_reserved.ensures.capacity, inv.room);
      said = said_more replies more reply pushed goes inv.said;
      replied = replies_more c.args.commands.now c.loop-command.command-index c.command-item.result c.command-item.result replies more reply
          (g.B.Keeper.tables c.args.keeper.now) (g.B.Keeper.tables c.loop-command.keeper) (g.B.Keeper.tables c.step-reply.new.keeper)
          c.loop-command-test.true c.command-item.is pushed inv.replied c.step-reply.ensures.step;
      counts = counted_more (g.B.Keeper.faults c.args.keeper.now) (g.B.Keeper.faults c.loop-command.keeper) (g.B.Keeper.faults c.step-reply.new.keeper)
          replies more reply pushed inv.counts c.step-reply.ensures.counts;
    }

pub returns-clause-plays : goal.returns-clause-plays
returns-clause-plays g c =
    let inv = c.loop-command.invariant in
    let end : length c.args.commands.now ≤ c.loop-command.command-index = omega arith in
    play_all c.args.commands.now (g.B.Keeper.tables c.args.keeper.now) (g.B.Keeper.tables c.loop-command.keeper) c.loop-command.replies.items inv.said
    (all_replied c.args.commands.now c.loop-command.command-index c.loop-command.replies.items (g.B.Keeper.tables c.args.keeper.now)
    (g.B.Keeper.tables c.loop-command.keeper) end inv.replied)
