-- The workers of a round.
use Rattle.std.specs.Prelude.{◌≡◌, ◌≢◌, ◌<◌, ℕ, List, [], Some, None, length, IfSome, slice_get, slice_index}
use Rattle.duty_plan.specs.declared.pricing.Priced.{Priced}
use Rattle.duty_plan.specs.Duties.{EachOf}
use Rattle.label_arena.specs.Views.{IsNew, IsReady}
use Rattle.duty_pricing.specs.Finding.{IsEmpty}
use Rattle.pricing_pool.specs.declared.pricing.Asked.{Asked}
use Rattle.pricing_pool.specs.declared.workers.Worker.{Worker}
use Rattle.pricing_pool.specs.Pricing.{IsPriced}

-- a worker for a driver of the case, with a new seat of the round, an empty scratch, and no answer
pub record MayWork (asked : Asked) (worker : Worker) : Type 0 where
  pub known : worker.driver < length asked.case.now.week.drivers
  pub new : IsNew asked.round.now.name worker.seat
  pub empty : IsEmpty worker.scratch
  pub no_answer : worker.answer ≡ None

-- what the worker has done: where its driver stands for himself an answer was found from what its seat drew, unless memory
-- wanted; else it drew nothing and has no answer. Its seat holds nothing, and its scratch is empty
pub record HasWorked (asked : Asked) (old new : Worker) : Type 0 where
  pub driver : new.driver ≡ old.driver
  pub class : new.class ≡ old.class
  pub ready : IsReady asked.round.now.name new.seat
  pub empty : IsEmpty new.scratch
  pub priced : new.class ≡ new.driver → IfSome new.answer (IsPriced asked new.driver new.seat.drawn)
  pub idle : new.class ≢ new.driver → new.seat.drawn ≡ []

-- each worker is of the class of one of the workers
abbrev pub HaveClasses : List Worker → Type 0
HaveClasses workers = EachOf (λ n worker. worker.class < length workers) workers

-- the worker of that number found the answer
pub record HasAnswerAt (workers : List Worker) (number : ℕ) (answer : Priced) : Type 0 where
  pub worker : Worker
  pub is_worker : slice_get workers number ≡ Some worker
  pub is_answer : worker.answer ≡ Some answer

-- the answer for driver n is that of the worker whose driver stands for n
pub record HasAnswerOfClass (workers : List Worker) (n : ℕ) (answer : Priced) : Type 0 where
  pub worker : Worker
  pub is_worker : slice_get workers n ≡ Some worker
  pub of_class : HasAnswerAt workers worker.class answer

-- there is a worker for driver n, with the one who stands for him
pub record IsStaffed (classes : List ℕ) (n : ℕ) (worker : Worker) : Type 0 where
  pub driver : worker.driver ≡ n
  pub class : worker.class ≡ slice_index classes n

-- worker n has worked
pub record HasEnded (asked : Asked) (workers : List Worker) (n : ℕ) (new : Worker) : Type 0 where
  pub old : Worker
  pub is_old : slice_get workers n ≡ Some old
  pub worked : HasWorked asked old new
