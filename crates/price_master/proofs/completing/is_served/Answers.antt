use Rattle.std.proofs.Common.{◌≡◌, ◌≢◌, ◌⊎◌, inl, inr, ◌∙◌, sym, ap, refl, arith, false, ℕ, ◌<◌, ◌+◌, List, length, Some, slice_get}
use Rattle.std.proofs.lemmas.Option.{slice_get_read}
use Rattle.duty_plan.specs.declared.duties.Duty.{Duty}
use Rattle.duty_plan.specs.PartialDuties.{serves}
use Rattle.duty_plan.specs.Duties.{partial_of}
use Rattle.duty_plan.proofs.Lists.{slice_get-lt}
use Rattle.price_master.proofs.Carried.{served_by}
use Rattle.price_master.proofs.Duality.{uncarried}
use Rattle.price_master.proofs.Lookups.{same-or-not}
use Rattle.price_master.proofs.completing.is_served.Goals as goal

on : (order n : ℕ) (duties : List Duty) (duty : Duty) → ((k : ℕ) (d : Duty) → k < n → slice_get duties k ≡ Some d → serves order (partial_of d) ≡ false) →
    slice_get duties n ≡ Some duty → serves order (partial_of duty) ≡ false → (k : ℕ) (d : Duty) → k < n + 1 → slice_get duties k ≡ Some d →
    serves order (partial_of d) ≡ false
on order n duties duty before there idle k d l h = by_place (same-or-not k n)
  where
    by_place : (k ≡ n) ⊎ (k ≢ n) → serves order (partial_of d) ≡ false
    by_place (inr other) = before k d (omega arith) h
    by_place (inl same) =
        let at : slice_get duties n ≡ Some d = ap (slice_get duties) (sym same) ∙ h in
        let is : duty ≡ d = cc in
        ap (λ (x : Duty). serves order (partial_of x)) (sym is) ∙ idle

pub returns-then-serves_in-clause-served : goal.returns-then-serves_in-clause-served
returns-then-serves_in-clause-served c = λ e.
    served_by c.args.order c.loop-duty.duty-index c.args.duties.now c.duty-item.result
    (slice_get_read c.args.duties.now (length c.args.duties.now) c.loop-duty.duty-index c.duty-item.result refl c.loop-duty-test.true c.duty-item.is)
    (sym c.serves_in.ensures ∙ c.if-serves_in.true)

pub loop-duty-preserved : goal.loop-duty-preserved
loop-duty-preserved c =
    on c.args.order c.loop-duty.duty-index c.args.duties.now c.duty-item.result c.loop-duty.invariant
    (slice_get_read c.args.duties.now (length c.args.duties.now) c.loop-duty.duty-index c.duty-item.result refl c.loop-duty-test.true c.duty-item.is)
    (sym c.serves_in.ensures ∙ c.if-serves_in.false)

pub returns-clause-none : goal.returns-clause-none
returns-clause-none c = λ e.
    uncarried c.args.order c.args.duties.now
    (λ k duty h. c.loop-duty.invariant k duty (omega (arith, slice_get-lt c.args.duties.now k duty h, c.loop-duty-test.false)) h)
