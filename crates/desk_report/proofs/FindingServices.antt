-- A walk over steps and duties finds the service of an order.
use Rattle.std.proofs.Common.{◌≡◌, ℕ, ◌+◌, ◌<◌, List, [], ◌∷◌, length, get_or, take, drop, suc, reverse, refl, ap, sym, ◌∙◌, Option, Some, None, IfSome, Bool, true, false, cond, slice_get, zero, arith}
use Rattle.week_book.specs.declared.weeks.Week.{Week}
use Rattle.duty_plan.specs.declared.duties.Step.{Step}
use Rattle.duty_plan.specs.declared.duties.Duty.{Duty}
use Rattle.duty_plan.specs.Acts.{serves_order}
use Rattle.duty_plan.specs.PartialDuties.{at_after}
use Rattle.duty_plan.specs.Duties.{partial_of}
use Rattle.duty_plan.proofs.Lists.{reverse-more}
use Rattle.desk_report.specs.Services.{service_start, service_from}
use Rattle.desk_report.proofs.GrowingText.{left-at}

-- one step more
pub start-more : (week : Week) (steps : List Step) (i : ℕ) (step d : Step) (at order : ℕ) (found next : Option ℕ) → i < length steps → step ≡ get_or steps i d
    → at ≡ at_after week (reverse (take i steps)) → found ≡ service_start week order (reverse (take i steps))
    → next ≡ cond (serves_order order step.act) (Some (at + step.stay.ready + step.stay.off)) found
    → next ≡ service_start week order (reverse (take (i + 1) steps))
start-more week steps i step d at order found next l e a f n = rw (reverse-more steps i step d l e) (n ∙ rw (a, f) refl)

-- what is found starts in the week
pub start-in-week : (b : Bool) (start : ℕ) (found next : Option ℕ) → next ≡ cond b (Some start) found → start < 10080
    → IfSome found (λ s. s < 10080) → IfSome next (λ s. s < 10080)
start-in-week true start found next e below before = rw e below
start-in-week false start found next e below before = rw e before

-- this duty serves the order
pub service-here : (week : Week) (duties : List Duty) (i : ℕ) (duty d : Duty) (order start : ℕ) → i < length duties → duty ≡ get_or duties i d
    → service_start week order (partial_of duty) ≡ Some start → service_from week i (drop i duties) order ≡ Some (record { driver = i; start = start })
service-here week duties i duty d order start l e s =
    let here : service_from week i (duty ∷ drop (i + 1) duties) order ≡ Some (record { driver = i; start = start }) = rw s refl in
    ap (λ (left : List Duty). service_from week i left order) (left-at duties i duty d l e) ∙ here

-- this duty does not serve it
pub service-later : (week : Week) (duties : List Duty) (i : ℕ) (duty d : Duty) (order : ℕ) → i < length duties → duty ≡ get_or duties i d
    → service_start week order (partial_of duty) ≡ None → service_from week i (drop i duties) order ≡ service_from week (i + 1) (drop (i + 1) duties) order
service-later week duties i duty d order l e s =
    let here : service_from week i (duty ∷ drop (i + 1) duties) order ≡ service_from week (i + 1) (drop (i + 1) duties) order = rw s refl in
    ap (λ (left : List Duty). service_from week i left order) (left-at duties i duty d l e) ∙ here

-- an element at its number
pub is-there : {X : Type 0} (xs : List X) (i : ℕ) (x d : X) → i < length xs → x ≡ get_or xs i d → slice_get xs i ≡ Some x
is-there [] i x d l e = absurd (omega arith)
is-there (y ∷ ys) zero x d l e = ap Some (sym e)
is-there (y ∷ ys) (suc i) x d l e = is-there ys i x d (omega arith) e
