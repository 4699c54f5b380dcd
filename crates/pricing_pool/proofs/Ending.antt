-- The workers of a round have ended, and their answers were taken.
use Rattle.std.proofs.Common.{◌≡◌, ◌≢◌, All, ℕ, zero, suc, ◌<◌, List, [], ◌∷◌, length, refl, sym, ap, subst, ◌∙◌, arith, Option, Some, None, slice_get, get_or}
use Rattle.std.specs.Prelude.{IfSome, slice_index}
use Rattle.duty_plan.specs.declared.pricing.Priced.{Priced}
use Rattle.duty_plan.specs.Duties.{EachOf, times}
use Rattle.duty_plan.specs.Sums.{total_below}
use Rattle.duty_plan.specs.Rounds.{IsRound}
use Rattle.duty_plan.specs.SharedRounds.{AreClasses}
use Rattle.duty_plan.proofs.Lists.{slice_get-lt}
use Rattle.duty_plan.proofs.Sums.{total-same as below-same}
use Rattle.duty_pricing.specs.Finding.{IsEmpty}
use Rattle.label_arena.specs.Views.{IsReady}
use Rattle.label_arena.specs.Counting.{once_below, total, times as times_of_seat}
use Rattle.pricing_pool.specs.declared.pricing.Asked.{Asked}
use Rattle.pricing_pool.specs.declared.workers.Worker.{Worker}
use Rattle.pricing_pool.specs.Pricing.{IsPriced}
use Rattle.pricing_pool.specs.Working.{HasAnswerAt, HasAnswerOfClass, HasEnded, HasWorked, HaveClasses, IsStaffed}
use Rattle.pricing_pool.proofs.Counting.{or_zero, times-same, total-same, total-below}
use Rattle.pricing_pool.proofs.Elements.{get-at, got-at}
use Rattle.pricing_pool.proofs.Sharing.{shared-round, some-same}

-- the element at a place of the list
pub found-at : {X : Type 0} (xs : List X) (k : ℕ) → k < length xs → (x : X) × (slice_get xs k ≡ Some x)
found-at [] k l = absurd (omega arith)
found-at (x ∷ xs) zero l = (x, refl)
found-at (x ∷ xs) (suc k) l = found-at xs k (omega arith)

-- what a worker's seat drew, or nothing where there is no worker
abbrev drawn_or_none : Option Worker → List ℕ
drawn_or_none None = []
drawn_or_none (Some worker) = worker.seat.drawn

abbrev drawn_at : List Worker → ℕ → List ℕ
drawn_at workers k = drawn_or_none (slice_get workers k)

times-drawn : (x : ℕ) (worker : Option Worker) → times x (drawn_or_none worker) ≡ or_zero (λ w. times x w.seat.drawn) worker
times-drawn x None = refl
times-drawn x (Some worker) = refl

-- an answer by the worker at a number, and by the one at that worker's class
pub of-class : (workers : List Worker) (number : ℕ) (worker : Worker) (answer : Priced) → slice_get workers number ≡ Some worker →
    HasAnswerAt workers worker.class answer → HasAnswerOfClass workers number answer
of-class workers number worker answer at of = record { worker = worker; is_worker = at; of_class = of }

-- a worker, by his number, has ended where the one who stood there has worked
pub ended-at : (asked : Asked) (olds news : List Worker) (n : ℕ) (new : Worker) → n < length olds → slice_get news n ≡ Some new →
    HasWorked asked (get_or olds n new) (get_or news n new) → HasEnded asked olds n new
ended-at asked olds news n new known at worked = record {
  old = get_or olds n new;
  is_old = get-at olds n new known;
  worked = subst (HasWorked asked (get_or olds n new)) (got-at news n new new at) worked;
}

-- then all scratches are empty, and all seats hold nothing
pub all-empty : (asked : Asked) (olds news : List Worker) → EachOf (HasEnded asked olds) news → All (λ w. IsEmpty w.scratch) news
all-empty asked olds news ended k d l = (ended k (get_or news k d) (get-at news k d l)).worked.empty

pub all-ready : (asked : Asked) (olds news : List Worker) → EachOf (HasEnded asked olds) news → All (λ w. IsReady asked.round.now.name w.seat) news
all-ready asked olds news ended k d l = (ended k (get_or news k d) (get-at news k d l)).worked.ready

-- and each worker has the class that he began with
pub have-classes : (asked : Asked) (classes : List ℕ) (olds news : List Worker) → EachOf (IsStaffed classes) olds → EachOf (HasEnded asked olds) news →
    length news ≡ length asked.case.now.week.drivers → AreClasses asked.case.now asked.pairs.now (slice_index classes) → HaveClasses news
have-classes asked classes olds news staffed ended count sorted n worker at =
    let end = ended n worker at in
    let begun = staffed n end.old end.is_old in
    let class : worker.class ≡ slice_index classes n = end.worked.class ∙ begun.class in
    let inside = slice_get-lt news n worker at in
    let below = sorted.below n (omega (arith, inside, count)) in
    omega (arith, class, below, count)

given-answer : {X : Type 0} (P : X → Type 0) (found : Option X) (x : X) → found ≡ Some x → IfSome found P → P x
given-answer P None x is h = cc
given-answer P (Some y) x is h = subst P (some-same y x is) h

module _ (asked : Asked) (classes : List ℕ) (olds news : List Worker) (answers : List Priced)
    (staffed : EachOf (IsStaffed classes) olds) (ended : EachOf (HasEnded asked olds) news)
    (count : length news ≡ length asked.case.now.week.drivers) (drivers : length answers ≡ length news)
    (found : EachOf (HasAnswerOfClass news) answers)
    (sorted : AreClasses asked.case.now asked.pairs.now (slice_index classes)) where
  abbrev rep : ℕ → ℕ
  rep = slice_index classes

  -- a worker's driver and the one who stands for him
  driver-of : (k : ℕ) (worker : Worker) → slice_get news k ≡ Some worker → (worker.driver ≡ k) × (worker.class ≡ rep k)
  driver-of k worker at =
      let end = ended k worker at in
      let begun = staffed k end.old end.is_old in
      (end.worked.driver ∙ begun.driver, end.worked.class ∙ begun.class)

  -- an answer is that of the worker who stands for the driver
  answer-of : (k : ℕ) (answer : Priced) → slice_get answers k ≡ Some answer →
      (worker : Worker) × (slice_get news (rep k) ≡ Some worker) × (worker.answer ≡ Some answer)
  answer-of k answer at =
      let by = found k answer at in
      let of = by.of_class in
      (of.worker, ap (slice_get news) (sym (driver-of k by.worker by.is_worker).1) ∙ of.is_worker, of.is_answer)

  same-answer : (k : ℕ) (answer : Priced) → slice_get answers k ≡ Some answer → slice_get answers (rep k) ≡ Some answer
  same-answer k answer at =
      let l : k < length asked.case.now.week.drivers = omega (arith, slice_get-lt answers k answer at) in
      let there = found-at answers (rep k) (omega (arith, sorted.below k l)) in
      let one = answer-of k answer at in
      let other = answer-of (rep k) there.0 there.1 in
      let same : one.0 ≡ other.0 = some-same one.0 other.0 (sym one.1 ∙ (ap (slice_get news) (sym (sorted.own k l)) ∙ other.1)) in
      there.1 ∙ (sym other.2 ∙ (ap (λ (w : Worker). w.answer) (sym same) ∙ one.2))

  priced-at : (k : ℕ) (answer : Priced) → rep k ≡ k → slice_get answers k ≡ Some answer → IsPriced asked k (drawn_at news k) answer
  priced-at k answer own at =
      let by = answer-of k answer at in
      let here : slice_get news k ≡ Some by.0 = subst (λ (i : ℕ). slice_get news i ≡ Some by.0) own by.1 in
      let of = driver-of k by.0 here in
      let worked : HasWorked asked (ended k by.0 here).old by.0 = (ended k by.0 here).worked in
      let priced : IsPriced asked (by.0).driver (by.0).seat.drawn answer =
      given-answer (IsPriced asked (by.0).driver (by.0).seat.drawn) (by.0).answer answer by.2 (worked.priced (of.1 ∙ (own ∙ sym of.0))) in
      subst (λ (w : Option Worker). IsPriced asked k (drawn_or_none w) answer) (sym here)
      (subst (λ (i : ℕ). IsPriced asked i (by.0).seat.drawn answer) of.0 priced)

  idle-at : (k : ℕ) → k < length asked.case.now.week.drivers → rep k ≢ k → drawn_at news k ≡ []
  idle-at k l other =
      let there = found-at news k (omega (arith, count)) in
      let of = driver-of k there.0 there.1 in
      let worked : HasWorked asked (ended k there.0 there.1).old there.0 = (ended k there.0 there.1).worked in
      ap drawn_or_none there.1 ∙ worked.idle (λ same. other (sym of.1 ∙ (same ∙ of.0)))

  once-at : (counter : ℕ) → ((x : ℕ) → total (λ w. times_of_seat x w.seat.drawn) news ≡ once_below x counter) →
      (x : ℕ) → total_below (λ k. times x (drawn_at news k)) (length asked.case.now.week.drivers) ≡ once_below x counter
  once-at counter once x =
      ap (total_below (λ k. times x (drawn_at news k))) (sym count)
      ∙ (below-same (λ k. times x (drawn_at news k)) (λ k. or_zero (λ w. times x w.seat.drawn) (slice_get news k)) (length news)
      (λ k l. times-drawn x (slice_get news k))
      ∙ (total-below (λ w. times x w.seat.drawn) news
      ∙ (total-same (λ w. times x w.seat.drawn) (λ w. times_of_seat x w.seat.drawn) news (λ w. sym (times-same x w.seat.drawn)) ∙ once x)))

  -- so the answers are a round
  pub ended-round : (counter : ℕ) → ((x : ℕ) → total (λ w. times_of_seat x w.seat.drawn) news ≡ once_below x counter) →
      IsRound asked.round.now.chunks asked.case.now asked.pairs.now asked.prices.now answers
  ended-round counter once =
      shared-round asked.round.now.chunks asked.case.now asked.pairs.now asked.prices.now rep (drawn_at news) answers
      (record {
        drivers = drivers ∙ count;
        same = same-answer;
        priced = priced-at;
        idle = idle-at;
      })
      sorted counter (once-at counter once)
