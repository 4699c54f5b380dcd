use Rattle.std.proofs.Common.{◌∙◌, ap, sym, arith, slice_index_or}
use Rattle.std.proofs.lemmas.List.Sums.{fold_more, sum_by-drop_more}
use Rattle.minute_line.specs.declared.marks.Mark.TheVariants.{Drive}
use Rattle.minute_line.specs.declared.marks.Kind.TheVariants.{Plain}
use Rattle.minute_line.specs.declared.marks.Stint.{Stint}
use Rattle.driver_history.specs.Carrying.{SinceWeeklyRestFields, carry}
use Rattle.driver_history.specs.Keeping.{seen}
use Rattle.driver_history.proofs.Carry.{carry_small}
use Rattle.driver_history.proofs.carrying.SinceWeeklyRest.carry_all.Goals as goal

pub loop-stint-preserved : goal.loop-stint-preserved
loop-stint-preserved c =
    let stints = c.args.stints.now in
    let i = c.loop-stint.stint-index in
    let none : Stint = record { mark = Drive; minutes = 0; kind = Plain } in
    let more = sum_by-drop_more (λ (s : Stint). s.minutes) stints i none c.loop-stint-test.true in
    let step = fold_more carry (seen c.args.self) stints i none c.loop-stint-test.true in
    let e = c.in_ok-left.ensures in
    let s = rw (← e) at (carry_small (seen c.loop-stint.left) (slice_index_or stints i none)) in
    record {
      left = e ∙ ap (λ (q : SinceWeeklyRestFields). carry q (slice_index_or stints i none)) c.loop-stint.invariant.left ∙ sym step;
      small = omega (arith, c.loop-stint.invariant.small, s, more);
    }
