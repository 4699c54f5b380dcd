-- Bids that the search takes: they save little enough, and what saves anything serves an order.
use Rattle.std.proofs.Common.{◌≡◌, ◌⊎◌, inl, inr, ℕ, ◌<◌, Bool, true, false, cond, List, length, refl, ap, sym, ◌∙◌, arith, Some, slice_get}
use Rattle.std.specs.Int.{bit_at}
use Rattle.duty_plan.specs.declared.duties.Duty.{Duty}
use Rattle.duty_plan.specs.declared.plans.Case.{Case}
use Rattle.duty_plan.specs.PartialDuties.{serves}
use Rattle.duty_plan.specs.Duties.{IsLawful, orders_of, partial_of, price_of, worth}
use Rattle.std.proofs.lemmas.Nat.Bits.{bit_at-zero}
use Rattle.std.proofs.lemmas.Option.{slice_get_within}
use Rattle.duty_plan.proofs.Bits.{served_bits}
use Rattle.duty_plan.proofs.Sums.{total-zero}
use Rattle.price_master.specs.declared.bidding.Bid.{Bid}
use Rattle.price_master.specs.declared.pooling.Pooled.{Pooled}
use Rattle.price_master.specs.Pools.{IsPool, orders_in}
use Rattle.price_master.specs.Bids.{AreBidsOfAll, IsBid, home}
use Rattle.price_master.specs.Sensible.{AreAllSensible}
use Rattle.price_master.proofs.DriverBids.{worth-right}
use Rattle.price_master.proofs.Picks.{bids-below}

flag : (b : Bool) → b ≡ true → (let z : ℕ = cond b 1 0 in z ≡ 1)
flag true e = refl
flag false e = cc

-- a duty that serves no order is worth nothing
idle-worth : (case : Case) (driver : ℕ) (duty : Duty) → IsLawful case driver duty → orders_in duty ≡ 0 →
    worth (price_of case.week) (orders_of (partial_of duty)) ≡ 0
idle-worth case driver duty lawful none =
    sym (worth-right case driver duty lawful) ∙
    total-zero (λ o. cond (serves o (partial_of duty)) (price_of case.week o) 0) (length case.week.orders) (λ o l. on o l (serves o (partial_of duty)) refl)
  where
    on : (o : ℕ) → o < length case.week.orders → (b : Bool) → serves o (partial_of duty) ≡ b → cond (serves o (partial_of duty)) (price_of case.week o) 0 ≡ 0
    on o l false e = rw e refl
    on o l true e =
        let bit : bit_at (orders_in duty) o ≡ 1 = served_bits o (partial_of duty) ∙ flag (serves o (partial_of duty)) e in
        absurd (omega (arith, bit, ap (λ (x : ℕ). bit_at x o) none, bit_at-zero o))

pub sensible : (case : Case) (pool : List (List Pooled)) (bids : List (List Bid)) → IsPool case pool → AreBidsOfAll case.week pool bids →
    AreAllSensible bids
sensible case pool bids is_pool are_bids driver of_driver at =
    let its = bids-below case pool bids driver of_driver are_bids at in
    let a = are_bids.each driver its.0 of_driver its.1 at in record {
      small = a.small;
      serving = λ k bid there none. by_kind its.0 its.1 bid none (a.each k bid there);
      empty = λ k bid there far. by_place its.0 its.1 bid far (a.each k bid there);
    }
  where
    by_kind : (pooled : List Pooled) → slice_get pool driver ≡ Some pooled → (bid : Bid) → bid.served ≡ 0 → (bid ≡ home) ⊎ IsBid case.week pooled bid → bid.saving ≡ 0
    by_kind pooled its bid none (inl e) = ap (λ (b : Bid). b.saving) e
    by_kind pooled its bid none (inr g) =
        let lawful = (is_pool.entries driver pooled its g.0 g.1 g.2).lawful in
        let nothing : orders_in g.1.duty ≡ 0 = ap (λ (b : Bid). b.served) (sym g.3) ∙ none in
        ap (λ (b : Bid). b.saving) g.3 ∙ omega (arith, idle-worth case driver g.1.duty lawful nothing)

    by_place : (pooled : List Pooled) → slice_get pool driver ≡ Some pooled → (bid : Bid) → bid.place ≡ 4294967295 → (bid ≡ home) ⊎ IsBid case.week pooled bid → bid ≡ home
    by_place pooled its bid far (inl e) = e
    by_place pooled its bid far (inr g) =
        let here : bid.place ≡ g.0 = ap (λ (b : Bid). b.place) g.3 in
        absurd (omega (arith, here, far, is_pool.few driver pooled its, slice_get_within pooled g.0 g.1 g.2))
