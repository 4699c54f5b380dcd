use Rattle.std.proofs.Common.{◌≡◌, ap, sym, ◌∙◌, Err, false, int_le, arith}
use Rattle.std.proofs.lemmas.Int.{ints}
use Rattle.std.proofs.lemmas.Bool.{cond-false}
use Rattle.desk_csv.proofs.DateFields.{monday_again}
use Rattle.desk_core.specs.Drafting.{later}
use Rattle.desk_core.specs.declared.refusals.Refusal.TheVariants as because
use Rattle.desk_core.proofs.drafting.bring_up.Goals as goal

pub returns-clause-history : goal.returns-clause-history
returns-clause-history c =
    let kept = c.args.kept.now.monday in
    let name = c.in_ok-name.ensures ∙ c.as_slice.ensures in
    let past : int_le kept.day c.args.monday.day ≡ false = grind (arith, ints) in
    cond-false (int_le kept.day c.args.monday.day) _ _ past
    ∙ ap Err (ap (later c.args.name.now) (monday_again kept) ∙ ap (λ n. because.Later n kept) (sym name))
