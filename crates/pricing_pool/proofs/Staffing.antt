-- A worker for one driver more.
use Rattle.std.proofs.Common.{◌≡◌, ℕ, ◌+◌, ◌<◌, All, List, [], ◌∷◌, ◌++◌, length, length-append, get_or, None, refl, ap, sym, subst, ◌∙◌}
use Rattle.std.proofs.lemmas.List.Elements.{All-push}
use Rattle.label_arena.specs.Views.{IsNew, SeatView}
use Rattle.duty_plan.specs.Duties.{EachOf}
use Rattle.duty_pricing.specs.declared.scratch.Scratch.{Scratch}
use Rattle.duty_pricing.specs.Finding.{IsEmpty}
use Rattle.pricing_pool.specs.declared.pricing.Asked.{Asked}
use Rattle.pricing_pool.specs.declared.workers.Worker.{Worker}
use Rattle.pricing_pool.specs.Working.{IsStaffed, MayWork}
use Rattle.pricing_pool.proofs.Elements.{all-last, each-push}

-- a list of one element fewer
pub one-fewer : {X : Type 0} (xs left : List X) (x : X) → xs ≡ left ++ x ∷ [] → length xs ≡ length left + 1
one-fewer xs left x is = ap length is ∙ length-append left (x ∷ [])

module _ (asked : Asked) (classes : List ℕ) (driver : ℕ) (seat : SeatView) (scratch : Scratch) where
  abbrev pub worker : Worker
  worker = record { driver = driver; class = get_or classes driver 0; seat = seat; scratch = scratch; answer = None }

  pub staffed : (workers more : List Worker) → more ≡ workers ++ worker ∷ [] → length workers ≡ driver → EachOf (IsStaffed classes) workers →
      EachOf (IsStaffed classes) more
  staffed workers more added count each =
      subst (EachOf (IsStaffed classes)) (sym added)
      (each-push (IsStaffed classes) workers worker each (record { driver = sym count; class = ap (λ k. get_or classes k 0) (sym count) }))

  pub may-all : (workers more : List Worker) → more ≡ workers ++ worker ∷ [] → driver < length asked.case.now.week.drivers →
      (seats left : List SeatView) → seats ≡ left ++ seat ∷ [] → All (IsNew asked.round.now.name) seats →
      (scratches kept : List Scratch) → scratches ≡ kept ++ scratch ∷ [] → All IsEmpty scratches →
      All (MayWork asked) workers → All (MayWork asked) more
  may-all workers more added known seats left seated new scratches kept joined empty may =
      subst (All (MayWork asked)) (sym added)
      (All-push (MayWork asked) workers worker may (record {
        known = known;
        new = all-last (IsNew asked.round.now.name) left seat (subst (All (IsNew asked.round.now.name)) seated new);
        empty = all-last IsEmpty kept scratch (subst (All IsEmpty) joined empty);
        no_answer = refl;
      }))
