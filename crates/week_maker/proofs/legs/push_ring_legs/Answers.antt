use Rattle.std.proofs.Common.{ℕ, ◌+◌, refl, ap}
use Rattle.week_maker.specs.MadeWeeks.{both_ways, ring_legs}
use Rattle.week_maker.proofs.GrowingText.{rows-none, rows-more, state-more, drawn-next}
use Rattle.week_maker.proofs.legs.push_ring_legs.Goals as goal

pub loop-before-init : goal.loop-before-init
loop-before-init c = record { text = rows-none c.args.text.now (ring_legs c.args.draws.now.state); state = refl }

pub loop-before-preserved : goal.loop-before-preserved
loop-before-preserved c =
    let seed = c.args.draws.now.state in
    let i = c.loop-before.before in
    let was = c.loop-before.invariant in
    let minutes = drawn-next seed i 60 c.loop-before.draws.state c.draw-minutes.result was.state c.draw-minutes.ensures.number in record {
      text = rows-more c.args.text.now (ring_legs seed) i _ _ _ was.text
          (ap (λ (m : ℕ). both_ways (i + 1) (i + 1 + 1) (20 + m)) minutes) c.in_ok-push_both_ways.ensures;
      state = state-more seed i c.loop-before.draws.state _ was.state c.draw-minutes.ensures.state;
    }
