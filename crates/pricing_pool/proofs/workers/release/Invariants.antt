use Rattle.std.proofs.Common.{◌≡◌, ℕ, ◌+◌, ◌≤◌, All, length, vec_capacity}
use Rattle.label_arena.specs.Counting.{times, total}
use Rattle.label_arena.specs.Views.{IsReady, RoundName}
use Rattle.duty_pricing.specs.Finding.{IsEmpty}
use Rattle.pricing_pool.proofs.workers.release.Given as goal

abbrev pub invariant-releasing : goal.invariant-releasing
invariant-releasing l = record {
  count : length l.seats.items + length l.workers.items ≡ length l.fn.workers.items;
  room : length l.fn.workers.items ≤ vec_capacity l.seats;
  empty : All IsEmpty l.scratches.items;
  scratch : All (λ worker. IsEmpty worker.scratch) l.workers.items;
  ready : (name : RoundName) → All (λ worker. IsReady name worker.seat) l.fn.workers.items →
      All (λ worker. IsReady name worker.seat) l.workers.items × All (IsReady name) l.seats.items;
  drawn : (x : ℕ) → total (λ seat. times x seat.drawn) l.seats.items + total (λ worker. times x worker.seat.drawn) l.workers.items
      ≡ total (λ worker. times x worker.seat.drawn) l.fn.workers.items;
}

abbrev pub decreases-releasing : goal.decreases-releasing
decreases-releasing l = length l.workers.items
