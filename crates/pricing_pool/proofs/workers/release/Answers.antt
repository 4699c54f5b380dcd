use Rattle.std.proofs.Common.{length, arith, ap, ◌∙◌, ◌++◌, [], ◌∷◌}
use Rattle.label_arena.specs.Counting.{times, total}
use Rattle.label_arena.specs.Views.{IsReady}
use Rattle.duty_pricing.specs.Finding.{IsEmpty}
use Rattle.pricing_pool.proofs.Releasing.{as-many, as-often, still-empty, still-left, still-ready}
use Rattle.pricing_pool.proofs.workers.release.Goals as goal

pub releasing-preserved : goal.releasing-preserved
releasing-preserved c =
    let inv = c.releasing.invariant in
    let worker = c.in-Some.worker in
    let workers = c.releasing.workers.items in
    let left = c.pop.new.self.items in
    let seats = c.releasing.seats.items in
    let more = c.push_reserved.new.self.items in
    let scratches = c.releasing.scratches.items in
    let kept = c.push.new.self.items in
    let popped = c.in-Some.ensures.items in
    let seated = c.push_reserved.ensures.items ∙ ap (λ s. seats ++ s ∷ []) c.dismiss-seat.ensures.seat in
    let joined = c.in_ok-push.ensures.items ∙ ap (λ s. scratches ++ s ∷ []) c.dismiss-seat.ensures.scratch in
    record {
      count = as-many workers left seats more scratches kept worker popped seated joined (length c.args.workers.items) inv.count;
      room = omega (arith, c.push_reserved.ensures.capacity, inv.room);
      empty = still-empty workers left seats more scratches kept worker popped seated joined inv.scratch inv.empty;
      scratch = still-left workers left seats more scratches kept worker popped seated joined (λ w. IsEmpty w.scratch) inv.scratch;
      ready = λ name all.
          let before = inv.ready name all in (
            still-left workers left seats more scratches kept worker popped seated joined (λ w. IsReady name w.seat) before.0,
            still-ready workers left seats more scratches kept worker popped seated joined name before.0 before.1,
          );
      drawn = λ x. as-often workers left seats more scratches kept worker popped seated joined x
          (total (λ w. times x w.seat.drawn) c.args.workers.items) (inv.drawn x);
    }
