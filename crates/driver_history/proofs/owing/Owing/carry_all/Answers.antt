use Rattle.std.proofs.Common.{◌∙◌, ap, sym, arith, slice_index_or}
use Rattle.std.proofs.lemmas.List.Sums.{fold_more, sum_by-drop_more}
use Rattle.minute_line.specs.declared.marks.Mark.TheVariants.{Drive}
use Rattle.minute_line.specs.declared.marks.Kind.TheVariants.{Plain}
use Rattle.minute_line.specs.declared.marks.Stint.{Stint}
use Rattle.driver_history.specs.declared.owing.Owing.{Owing}
use Rattle.driver_history.specs.Owing.{owe_stint}
use Rattle.driver_history.proofs.OwedClocks.{short-less, short-next}
use Rattle.driver_history.proofs.owing.Owing.carry_all.Goals as goal

pub carry-owing-requires : goal.carry-owing-requires
carry-owing-requires c =
    let none : Stint = record { mark = Drive; minutes = 0; kind = Plain } in
    let more = sum_by-drop_more (λ (s : Stint). s.minutes) c.args.stints.now c.loop-stint.stint-index none c.loop-stint-test.true in
    short-less c.loop-stint.owing _ _ c.loop-stint.invariant.short (omega (arith, more))

pub loop-stint-preserved : goal.loop-stint-preserved
loop-stint-preserved c =
    let stints = c.args.stints.now in
    let i = c.loop-stint.stint-index in
    let none : Stint = record { mark = Drive; minutes = 0; kind = Plain } in
    let more = sum_by-drop_more (λ (s : Stint). s.minutes) stints i none c.loop-stint-test.true in
    let step = fold_more owe_stint c.args.self stints i none c.loop-stint-test.true in
    let e = c.carry-owing.ensures in
    record {
      owing = e ∙ ap (λ (q : Owing). owe_stint q (slice_index_or stints i none)) c.loop-stint.invariant.owing ∙ sym step;
      short = rw e (short-next c.loop-stint.owing (slice_index_or stints i none) _
          (short-less c.loop-stint.owing _ _ c.loop-stint.invariant.short (omega (arith, more))));
    }
