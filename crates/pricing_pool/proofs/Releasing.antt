-- A worker leaves: the seat and the scratch join the others.
use Rattle.std.proofs.Common.{◌≡◌, ℕ, ◌+◌, All, List, [], ◌∷◌, ◌++◌, length, length-append, ap, sym, subst, ◌∙◌, arith}
use Rattle.std.proofs.lemmas.List.Elements.{All-push}
use Rattle.label_arena.specs.Counting.{times, total}
use Rattle.label_arena.specs.Views.{IsReady, RoundName, SeatView}
use Rattle.duty_pricing.specs.declared.scratch.Scratch.{Scratch}
use Rattle.duty_pricing.specs.Finding.{IsEmpty}
use Rattle.pricing_pool.specs.declared.workers.Worker.{Worker}
use Rattle.pricing_pool.proofs.Counting.{total-push}
use Rattle.pricing_pool.proofs.Elements.{all-front, all-last}

module _ (workers left : List Worker) (seats more : List SeatView) (scratches kept : List Scratch) (worker : Worker)
    (popped : workers ≡ left ++ worker ∷ []) (seated : more ≡ seats ++ worker.seat ∷ []) (joined : kept ≡ scratches ++ worker.scratch ∷ []) where
  pub still-left : (P : Worker → Type 0) → All P workers → All P left
  still-left P all = all-front P left worker (subst (All P) popped all)

  of-worker : (P : Worker → Type 0) → All P workers → P worker
  of-worker P all = all-last P left worker (subst (All P) popped all)

  pub as-many : (n : ℕ) → length seats + length workers ≡ n → length more + length left ≡ n
  as-many n is =
      let one = ap length popped ∙ length-append left (worker ∷ []) in
      let other = ap length seated ∙ length-append seats (worker.seat ∷ []) in
      omega (arith, is)

  pub still-empty : All (λ w. IsEmpty w.scratch) workers → All IsEmpty scratches → All IsEmpty kept
  still-empty all empty =
      subst (All IsEmpty) (sym joined) (All-push IsEmpty scratches worker.scratch empty (of-worker (λ w. IsEmpty w.scratch) all))

  pub still-ready : (name : RoundName) → All (λ w. IsReady name w.seat) workers → All (IsReady name) seats → All (IsReady name) more
  still-ready name all ready =
      subst (All (IsReady name)) (sym seated) (All-push (IsReady name) seats worker.seat ready (of-worker (λ w. IsReady name w.seat) all))

  pub as-often : (x n : ℕ) → total (λ s. times x s.drawn) seats + total (λ w. times x w.seat.drawn) workers ≡ n →
      total (λ s. times x s.drawn) more + total (λ w. times x w.seat.drawn) left ≡ n
  as-often x n is =
      let one = ap (total (λ w. times x w.seat.drawn)) popped ∙ total-push (λ w. times x w.seat.drawn) left worker in
      let other = ap (total (λ s. times x s.drawn)) seated ∙ total-push (λ s. times x s.drawn) seats worker.seat in
      omega (arith, is)
