-- The drivers of a draft, one after another.
use Rattle.std.proofs.Common.{◌≡◌, ◌∙◌, ℕ, zero, suc, ◌+◌, ◌<◌, ap, sym, refl, arith, List, [], ◌∷◌, ◌++◌, map, take, length, get_or, Option, Some}
use Rattle.std.specs.Prelude.{slice_get}
use Rattle.std.proofs.Math.Seq.{take-length}
use Rattle.std.proofs.lemmas.List.{take_more, length-map}
use borrow.Author.Count.{below_more}
use Rattle.week_book.specs.declared.weeks.Driver.{Driver}
use Rattle.duty_plan.specs.declared.duties.Duty.{Duty}
use Rattle.duty_plan.specs.declared.plans.Case.{Case}
use Rattle.desk_keeper.specs.declared.records.DraftDriver.{DraftDriver}
use Rattle.desk_keeper.specs.Tables.{KeptFields, DriverFields, driver_fields}
use Rattle.desk_core.specs.Drafting.{IsDriverAfter, AreDriversAfter}
use Rattle.desk_core.proofs.Histories.{viewed-more}
use Rattle.desk_core.proofs.Seeing.{within}

-- the name of a driver of a week, and of a draft
abbrev name_of : Driver → List ℕ
name_of driver = driver.name

abbrev name_in : DriverFields → List ℕ
name_in fields = fields.name

-- the driver of that number is made
abbrev pub IsMadeAt : Case → List Duty → List (Option KeptFields) → List DraftDriver → ℕ → Type 0
IsMadeAt case duties seen drivers k = (driver : Driver) (duty : Duty) (was : Option KeptFields) (fields : DriverFields) → slice_get case.week.drivers k ≡ Some driver
    → slice_get duties k ≡ Some duty → slice_get seen k ≡ Some was → slice_get (map driver_fields drivers) k ≡ Some fields → IsDriverAfter case k driver.name duty was fields

pub front : {X : Type 0} (xs ys : List X) (k : ℕ) → k < length xs → slice_get (xs ++ ys) k ≡ slice_get xs k
front [] ys k l = absurd (omega arith)
front (x ∷ xs) ys zero l = refl
front (x ∷ xs) ys (suc k) l = front xs ys k (omega arith)

pub last : {X : Type 0} (xs : List X) (x : X) (i : ℕ) → length xs ≡ i → slice_get (xs ++ x ∷ []) i ≡ Some x
last [] x zero e = refl
last [] x (suc i) e = absurd (omega arith)
last (y ∷ ys) x zero e = absurd (omega arith)
last (y ∷ ys) x (suc i) e = last ys x i (omega arith)

pub some_same : {X : Type 0} (x y : X) → ◌≡◌ {A = Option X} (Some x) (Some y) → x ≡ y
some_same x y e = cc e

-- one more name
pub named_more : (drivers more : List DraftDriver) (x : DraftDriver) (week : List Driver) (i : ℕ) (driver d : Driver) → more ≡ drivers ++ x ∷ [] → i < length week
    → driver ≡ get_or week i d → x.name ≡ driver.name → map name_in (map driver_fields drivers) ≡ map name_of (take i week)
    → map name_in (map driver_fields more) ≡ map name_of (take (i + 1) week)
named_more drivers more x week i driver d e l is named before =
    let all = viewed-more name_in (map driver_fields drivers) (map driver_fields more) (driver_fields x) (viewed-more driver_fields drivers more x e) in
    let week_more : take (i + 1) week ≡ take i week ++ driver ∷ [] = rw is (take_more week i d l) in
    let both : x.name ∷ [] ≡ driver.name ∷ [] = ap (λ n. n ∷ []) named in
    all ∙ ap (λ l. map name_in (map driver_fields drivers) ++ l) both ∙ ap (λ l. l ++ driver.name ∷ []) before
    ∙ sym (viewed-more name_of (take i week) (take (i + 1) week) driver week_more)

-- one more driver
pub made_more : (case : Case) (duties : List Duty) (seen : List (Option KeptFields)) (drivers more : List DraftDriver) (x : DraftDriver) (i : ℕ) (driver : Driver) (duty : Duty)
    (was : Option KeptFields) → length drivers ≡ i → more ≡ drivers ++ x ∷ [] → slice_get case.week.drivers i ≡ Some driver → slice_get duties i ≡ Some duty
    → slice_get seen i ≡ Some was → IsDriverAfter case i driver.name duty was (driver_fields x)
    → ((k : ℕ) → k < i → IsMadeAt case duties seen drivers k) → (k : ℕ) → k < i + 1 → IsMadeAt case duties seen more k
made_more case duties seen drivers more x i driver duty was each e driver_there duty_there was_there made before =
    let view = viewed-more driver_fields drivers more x e in
    let long : length (map driver_fields drivers) ≡ i = length-map drivers driver_fields ∙ each in
    below_more (IsMadeAt case duties seen more) i
    (λ k l driver duty was fields a b c there.
    before k l driver duty was fields a b c (sym (front (map driver_fields drivers) (driver_fields x ∷ []) k (omega (arith, l, long))) ∙ (ap (λ l. slice_get l k) (sym view) ∙ there)))
    (λ other_driver other_duty other_was fields a b c there.
    let one : driver ≡ other_driver = some_same driver other_driver (sym driver_there ∙ a) in
    let two : duty ≡ other_duty = some_same duty other_duty (sym duty_there ∙ b) in
    let three : was ≡ other_was = some_same was other_was (sym was_there ∙ c) in
    let four : driver_fields x ≡ fields = some_same (driver_fields x) fields (sym (last (map driver_fields drivers) (driver_fields x) i long) ∙ (ap (λ l. slice_get l i) (sym view) ∙ there)) in
    rw (← one, ← two, ← three, ← four) made)

-- all drivers are made
pub all_made : (case : Case) (duties : List Duty) (seen : List (Option KeptFields)) (drivers : List DraftDriver) (i : ℕ) → i ≡ length case.week.drivers → length drivers ≡ i
    → map name_in (map driver_fields drivers) ≡ map name_of (take i case.week.drivers) → ((k : ℕ) → k < i → IsMadeAt case duties seen drivers k)
    → AreDriversAfter case duties seen (map driver_fields drivers)
all_made case duties seen drivers i end each names theirs = record {
  each = length-map drivers driver_fields ∙ (each ∙ end);
  names = names ∙ ap (map name_of) (ap (λ n. take n case.week.drivers) end ∙ take-length case.week.drivers);
  theirs = λ k driver duty was fields a b c there.
      theirs k (omega (arith, each, within driver_fields drivers k fields there)) driver duty was fields a b c there;
}
