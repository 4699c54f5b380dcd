use Rattle.std.proofs.Common.{rules, ◌≡◌, ◌++◌, ◌∷◌, [], codes, get_or, ap, ◌∙◌}
use Rattle.desk_report.specs.Exports.{duties_rows, outs_rows, nodes_rows}
use Rattle.desk_report.proofs.GrowingRows.{export-whole, is-export}
use Rattle.desk_report.proofs.WalkingSteps.{lawful-stays}
use Rattle.desk_report.proofs.exports.export.Goals as goal

pub add_duties-requires-clause-in_week : goal.add_duties-requires-clause-in_week
add_duties-requires-clause-in_week c =
    rw c.as_slice-duties.ensures (λ k duty there.
    lawful-stays c.args.case.now k duty c.requires.case.week (c.requires.lawful.lawful k duty there))

pub add_outs-requires-clause-in_week : goal.add_outs-requires-clause-in_week
add_outs-requires-clause-in_week c =
    rw c.as_slice-duties.ensures (λ k duty there.
    lawful-stays c.args.case.now k duty c.requires.case.week (c.requires.lawful.lawful k duty there))

pub returns : goal.returns
returns c =
    let days = c.week_days-days.result in
    let case = c.args.case.now in
    let outcome = c.args.outcome.now in
    let duties = c.as_slice-duties.ensures in
    let first : c.push.new.self ≡ (codes "week" ∷ get_or days 0 [] ∷ []) ∷ [] = search rules in
    let two : c.add_duties.new.rows ≡ c.push.new.self ++ duties_rows days case.week 0 outcome.plan.duties = c.in_ok-add_duties.ensures ∙ ap (λ ds. c.push.new.self ++ duties_rows days case.week 0 ds) duties in
    let three : c.add_outs.new.rows ≡ c.add_duties.new.rows ++ outs_rows case.week outcome.plan.duties 0 case.week.orders = c.in_ok-add_outs.ensures ∙ ap (λ ds. c.add_duties.new.rows ++ outs_rows case.week ds 0 case.week.orders) duties in
    let four : c.add_nodes.new.rows ≡ c.add_outs.new.rows ++ nodes_rows case.week 1 outcome.tree = c.in_ok-add_nodes.ensures ∙ ap (λ ns. c.add_outs.new.rows ++ nodes_rows case.week 1 ns) c.as_slice.ensures in
    is-export case outcome days c.add_nodes.new.rows c.write_rows.result c.week_days-days.ensures
    (export-whole days case outcome c.push.new.self c.add_duties.new.rows c.add_outs.new.rows c.add_nodes.new.rows first two three four)
    (rw c.as_slice-2.ensures at c.write_rows.ensures)
