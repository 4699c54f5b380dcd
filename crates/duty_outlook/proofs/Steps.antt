-- Which numbers cover all timetables from somewhere.
use Rattle.std.proofs.Common.{◌≡◌, ◌⊎◌, inl, inr, ℕ, ◌+◌, ◌-◌, ◌*◌, ◌^◌, ◌≤◌, ◌<◌, ◌||◌, not, Bool, true, false, List, [], ◌∷◌, refl, arith, eqb, ℤ, ◌≤ℤ◌, ◌<ℤ◌, pos}
use Rattle.std.specs.Prelude.{bit_or}
use Rattle.std.specs.Int.{bit_at}
use Rattle.std.proofs.lemmas.Bool.{leb-true, le-leb, eqb-true, cases_lt}
use Rattle.std.proofs.lemmas.Bool.Decides.{nat_tests}
use Rattle.std.proofs.lemmas.Int.{ints}
use Rattle.std.proofs.lemmas.Nat.Bits.{bit_at_or, bit_at-lt, bit_at-pow_other, bit_at-zero}
use Rattle.week_book.specs.declared.weeks.Week.{Week}
use Rattle.week_book.specs.Weeks.{IsWeek, order_of}
use Rattle.duty_plan.specs.declared.duties.Act.{Act}
use Rattle.duty_plan.specs.declared.duties.Act.TheVariants.{Leg, Serve, Load}
use Rattle.duty_plan.specs.declared.pricing.Prices.{Prices}
use Rattle.duty_plan.specs.Acts.{minutes_of, used_by, place_by, kg_of}
use Rattle.duty_plan.specs.PartialDuties.{may_carry}
use Rattle.duty_plan.specs.Labels.{bit_of_act}
use Rattle.duty_plan.specs.Values.{IsPrices}
use Rattle.duty_plan.proofs.WeekLimits.{small-act}
use Rattle.duty_label.proofs.Values.{price-small}
use Rattle.duty_outlook.specs.Timetables.{Stop, MayDo, IsTimetable, is_undone, done_by, saved_by, saving}
use Rattle.duty_outlook.specs.Covering.{AreDone, Covers, Admits, MayStartAt, most}

-- a larger number covers too
pub covers-up : {week : Week} {capacity : ℕ} {prices : Prices} {orders place at load : ℕ} {number : ℤ} (larger : ℤ) →
    Covers week capacity prices orders place at load number → number ≤ℤ larger → Covers week capacity prices orders place at load larger
covers-up larger c l = record {
  each = λ done later more stops d a m t. let small = c.each done later more stops d a m t in omega (arith, ints, small, l);
}

-- at a later minute, with more kg served and more orders done there are no more timetables
pub covers-rounded : {week : Week} {capacity : ℕ} {prices : Prices} {orders place at load : ℕ} {number : ℤ} (more_orders later more : ℕ) →
    Covers week capacity prices orders place at load number → ((order : ℕ) → bit_at orders order ≤ bit_at more_orders order) →
    at ≤ later → load ≤ more → Covers week capacity prices more_orders place later more number
covers-rounded {orders} more_orders later more c among a m = record {
  each = λ done at load stops d la lm t.
      c.each done at load stops (λ order e. d order (omega (arith, among order, bit_at-lt more_orders order, e)))
      (omega arith) (omega arith) t;
}

-- what an act brings at most
brings-most : (week : Week) (prices : Prices) (place : ℕ) (act : Act) → IsWeek week → IsPrices week prices →
    saved_by week prices place act ≤ℤ pos 100000000
brings-most week prices place (Leg to) w p = omega (arith, ints)
brings-most week prices place (Serve order) w p = omega (arith, ints, price-small week prices order w p)
brings-most week prices place Load w p = omega (arith, ints)

-- each stop takes a minute
saving-most : (week : Week) (capacity : ℕ) (prices : Prices) (done : ℕ → Bool) (place at load : ℕ) (stops : List Stop) →
    IsWeek week → IsPrices week prices → IsTimetable week capacity done place at load stops →
    saving week prices place stops ≤ℤ pos (100000000 * (10080 - at))
saving-most week capacity prices done place at load [] w p t = omega (arith, ints)
saving-most week capacity prices done place at load (stop ∷ rest) w p t =
    let late = t.1.late in
    let some = (small-act week place stop.act w t.1.road).some in
    let brings = brings-most week prices place stop.act w p in
    let more = saving-most week capacity prices (done_by done stop.act) (place_by stop.act place) (stop.start + minutes_of week place stop.act)
    (used_by week stop.act load) rest w p t.2 in
    omega (arith, ints, late, some, brings, more, t.0)

-- a number as large as that covers all timetables
pub covers-all : (week : Week) (capacity : ℕ) (prices : Prices) (orders place at load : ℕ) (number : ℤ) →
    IsWeek week → IsPrices week prices → most ≤ℤ number → Covers week capacity prices orders place at load number
covers-all week capacity prices orders place at load number w p l = record {
  each = λ done later more stops d a m t.
      let small = saving-most week capacity prices done place later more stops w p t in omega (arith, ints, small, l);
}

-- an act that may be done where more is served and done may be done where less is
undone-fewer : (orders : ℕ) (done : ℕ → Bool) (act : Act) → AreDone orders done → is_undone done act ≡ true →
    is_undone (λ order. eqb (bit_at orders order) 1) act ≡ true
undone-fewer orders done (Leg to) d h = refl
undone-fewer orders done Load d h = refl
undone-fewer orders done (Serve order) d h = by_test (eqb (bit_at orders order) 1) refl
  where
    by_test : (b : Bool) → eqb (bit_at orders order) 1 ≡ b → not b ≡ true
    by_test true e = let bad : done order ≡ true = d order (eqb-true (bit_at orders order) 1 e) in cc
    by_test false e = refl

room-fewer : (week : Week) (capacity load more : ℕ) (act : Act) → load ≤ more → may_carry week capacity true more act ≡ true →
    may_carry week capacity true load act ≡ true
room-fewer week capacity load more (Leg to) l h = refl
room-fewer week capacity load more Load l h = refl
room-fewer week capacity load more (Serve order) l h =
    le-leb (kg_of (order_of week order) + load) capacity
    (omega (arith, leb-true (kg_of (order_of week order) + more) capacity h))

used-fewer : (week : Week) (load more : ℕ) (act : Act) → load ≤ more → used_by week act load ≤ used_by week act more
used-fewer week load more (Leg to) l = l
used-fewer week load more (Serve order) l = omega arith
used-fewer week load more Load l = omega arith

-- the orders that are done after the act
done-more : (orders : ℕ) (done : ℕ → Bool) (act : Act) → AreDone orders done → AreDone (bit_or orders (bit_of_act act)) (done_by done act)
done-more orders done (Leg to) d order e =
    d order (omega (arith, bit_at_or orders 0 order, bit_at-zero order, e))
done-more orders done Load d order e =
    d order (omega (arith, bit_at_or orders 0 order, bit_at-zero order, e))
done-more orders done (Serve served) d order e = by_test (eqb order served) refl
  where
    by_test : (b : Bool) → eqb order served ≡ b → (b || done order) ≡ true
    by_test true same = refl
    by_test false other =
        d order (omega (arith, bit_at_or orders (2 ^ served) order, bit_at-pow_other served order (grind (arith, nat_tests)), e))

-- a number that is no less than the saving of all that starts a minute later, and of all that starts now, covers
pub covers-step : (week : Week) (capacity : ℕ) (prices : Prices) (orders place at load : ℕ) (number : ℤ) →
    IsWeek week → IsPrices week prices → (place ≡ 0 → pos 0 ≤ℤ number) →
    (at < 10080 → Covers week capacity prices orders place (at + 1) load number) →
    ((act : Act) → MayStartAt week capacity orders place at load act → Admits week capacity prices orders place at load act number) →
    Covers week capacity prices orders place at load number
covers-step week capacity prices orders place at load number w p home wait acts = elim (int_cases number) [
  | inl large ↦ covers-all week capacity prices orders place at load number w p large
  | inr small ↦ record { each = each small }
]
  where
    int_cases : (n : ℤ) → (most ≤ℤ n) ⊎ (n <ℤ most)
    int_cases n = grind (arith, ints)

    each : number <ℤ most → (done : ℕ → Bool) (later more : ℕ) (stops : List Stop) → AreDone orders done → at ≤ later → load ≤ more →
        IsTimetable week capacity done place later more stops → saving week prices place stops ≤ℤ number
    each small done later more [] d a m t = home t
    each small done later more (stop ∷ rest) d a m t = elim (cases_lt at stop.start) [
      | inl waits ↦ (wait (omega (arith, t.1.late))).each done stop.start more (stop ∷ rest) d (omega (arith, waits)) m (omega arith, t.1, t.2)
      | inr now ↦
          let here : stop.start ≡ at = omega (arith, now, a, t.0) in
          let may : MayDo week capacity done place stop.start more stop.act = t.1 in
          let start : MayStartAt week capacity orders place at load stop.act = record {
            road = may.road;
            window = rw here at may.window;
            late = rw here at may.late;
            room = room-fewer week capacity load more stop.act m may.room;
            undone = undone-fewer orders done stop.act d may.undone;
          } in
          let next = ((acts stop.act start).next small).each (done_by done stop.act) (stop.start + minutes_of week place stop.act)
          (used_by week stop.act more) rest (done-more orders done stop.act d) (omega (arith, here)) (used-fewer week load more stop.act m) t.2 in
          omega (arith, ints, next)
    ]
