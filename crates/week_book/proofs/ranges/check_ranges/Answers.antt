use Rattle.std.proofs.Common.{◌∙◌, ℕ, List, ◌++◌, option_to_list, sym, ap, arith}
use Rattle.std.proofs.lemmas.Grind.{common_steps}
use Rattle.week_book.specs.Ranges.{did_name}
use Rattle.week_book.proofs.Seen.{mapped_taken}
use Rattle.week_book.proofs.ranges.check_ranges.Goals as goal

pub loop-row-preserved : goal.loop-row-preserved
loop-row-preserved c =
    let more = mapped_taken did_name c.args.rows.now c.loop-row.row-index c.row-item.result c.loop-row-test.true c.row-item.is in
    record {
      begun = c.in_ok-begun.ensures ∙ ap (λ (names : List (List ℕ)). names ++ option_to_list (did_name c.row-item.result)) c.loop-row.invariant.begun ∙ sym more;
      rest = grind (arith, common_steps);
    }
