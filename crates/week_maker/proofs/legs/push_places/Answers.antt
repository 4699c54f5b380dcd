use Rattle.std.proofs.Common.{◌∷◌, [], ◌∙◌, refl}
use Rattle.week_maker.specs.Rows.{with_row}
use Rattle.week_maker.specs.MadeWeeks.{place_row}
use Rattle.week_maker.proofs.GrowingText.{rows-none, rows-more}
use Rattle.week_maker.proofs.legs.push_places.Goals as goal

pub loop-before-init : goal.loop-before-init
loop-before-init c = c.in_ok-push_place_row.ensures ∙ rows-none (with_row c.args.text.now (place_row 0)) (λ place. place_row place ∷ [])

pub loop-before-preserved : goal.loop-before-preserved
loop-before-preserved c =
    rows-more (with_row c.args.text.now (place_row 0)) (λ place. place_row place ∷ []) c.loop-before.before _ _ _
    c.loop-before.invariant refl c.in_ok-push_place_row-2.ensures
