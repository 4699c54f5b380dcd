use Rattle.std.proofs.Common.{◌≡◌, ◌<◌, ℕ, subst, arith, rules, length, map, option_map}
use Rattle.std.proofs.lemmas.Grind.{common_steps}
use Rattle.minute_line.specs.Histories.{fields_of}
use Rattle.desk_core.proofs.OwnHistories.{HoldsBelow, holds_more, all_hold}
use Rattle.desk_core.proofs.drafting.histories_for.Goals as goal

pub loop-i-preserved : goal.loop-i-preserved
loop-i-preserved g c =
    let here : c.loop-i.i < length c.args.pasts.now = omega arith in
    record {
      tables = search rules;
      counts = search rules;
      planned = grind (arith, common_steps);
      seen = grind (arith, common_steps);
      each = grind (arith, common_steps);
      own = holds_more c.args.pasts.now c.loop-i.past c.push.new.self c.loop-i.i c.index-pasts-i.result c.index-pasts-i.result c.in_ok-found.found.past here
          c.index-pasts-i.is c.loop-i.invariant.each.0 c.in_ok-push.ensures.ok c.in_ok-found.ensures.own c.loop-i.invariant.own;
    }

pub returns-clause-own : goal.returns-clause-own
returns-clause-own g c =
    let end : c.loop-i.i ≡ length c.args.pasts.now = omega arith in
    all_hold c.args.pasts.now (map fields_of c.loop-i.past)
    (subst (λ (n : ℕ). HoldsBelow (map (option_map fields_of) c.args.pasts.now) (map fields_of c.loop-i.past) n) end c.loop-i.invariant.own)
