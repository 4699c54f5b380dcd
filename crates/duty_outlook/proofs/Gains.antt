-- What a row says of a label.
use Rattle.std.proofs.Common.{◌≡◌, ◌⊎◌, inl, inr, ℕ, ◌+◌, ◌*◌, ◌^◌, ◌≤◌, ◌<◌, ◌||◌, min, Bool, true, false, cond, refl, ap, sym, subst, ◌∙◌, arith, eqb, ℤ}
use Rattle.std.proofs.Common.{to_z, of_z, w64}
use Rattle.std.specs.Prelude.{bit_or}
use Rattle.std.specs.Int.{bit_at}
use Rattle.std.proofs.lemmas.Bool.{cases_lt}
use Rattle.std.proofs.lemmas.Bool.Decides.{nat_tests}
use Rattle.std.proofs.lemmas.Int.{ints}
use Rattle.std.proofs.lemmas.Nat.Bits.{bit_at_or, bit_at-pow_other}
use Rattle.duty_plan.specs.declared.plans.Case.{Case}
use Rattle.duty_plan.specs.declared.deciding.Pairs.{Pairs}
use Rattle.duty_plan.specs.declared.pricing.Prices.{Prices}
use Rattle.duty_plan.specs.declared.labels.Label.{Label}
use Rattle.duty_plan.specs.PartialDuties.{PartialDuty, place_after, at_after, loaded_after, used_after, serves}
use Rattle.duty_plan.specs.Duties.{capacity_at}
use Rattle.duty_plan.specs.Labels.{IsLabelOf, served_after}
use Rattle.duty_plan.proofs.Bits.{served_bits}
use Rattle.duty_outlook.specs.declared.outlooks.Outlook.{Outlook}
use Rattle.duty_outlook.specs.Timetables.{load_after, done_after}
use Rattle.duty_outlook.specs.Covering.{AreDone, Covers, is_barred_for}
use Rattle.duty_outlook.specs.Outlooks.{cents_of}
use Rattle.duty_outlook.specs.Laws.{IsGain, IsNoSooner, IsOutlookOf}
use Rattle.duty_outlook.proofs.Steps.{covers-up, covers-all}
use Rattle.duty_outlook.proofs.Ways.{has_timetable, load-loaded, load-empty, done-partial}

-- one order more that is done
pub done-with : (orders order : ℕ) (done : ℕ → Bool) → AreDone orders done → done order ≡ true → AreDone (bit_or orders (2 ^ order)) done
done-with orders order done d here k e = by_test (eqb k order) refl
  where
    by_test : (b : Bool) → eqb k order ≡ b → done k ≡ true
    by_test true h = let same : k ≡ order = grind (arith, nat_tests) in ap done same ∙ here
    by_test false h =
        d k (omega (arith, bit_at_or orders (2 ^ order) k, bit_at-pow_other order k (grind (arith, nat_tests)), e))

-- a number that covers the timetables from where a partial duty leaves the driver is a gain
pub covers-gain : (case : Case) (driver : ℕ) (pairs : Pairs) (prices : Prices) (partial : PartialDuty) (orders place at load : ℕ) (number : ℤ) →
    Covers case.week (capacity_at case driver) prices orders place at load number →
    AreDone orders (done_after (is_barred_for case.week pairs driver) partial) → place ≡ place_after partial → at ≤ at_after case.week partial →
    load ≤ load_after case.week (capacity_at case driver) partial → IsGain case driver pairs prices partial number
covers-gain case driver pairs prices partial orders place at load number c d p a l more w =
    let found = has_timetable case driver pairs prices partial more w in
    let here : Covers case.week (capacity_at case driver) prices orders (place_after partial) at load number = rw p at c in
    let small = here.each (done_after (is_barred_for case.week pairs driver) partial) (at_after case.week partial)
    (load_after case.week (capacity_at case driver) partial) found.0 d (omega (arith, a)) l found.1 in
    let value = found.2 in
    omega (arith, ints, small, value)

-- the orders that a label's partial duty serves, and the barred ones, are done
label-done : (barred : ℕ → Bool) (partial : PartialDuty) (served others : ℕ) → served ≡ served_after partial → AreDone others barred →
    AreDone (bit_or served others) (done_after barred partial)
label-done barred partial served others s d order e = done-partial barred partial order ∙ by_test (serves order partial) refl
  where
    by_test : (b : Bool) → serves order partial ≡ b → (serves order partial || barred order) ≡ true
    by_test true h = rw h refl
    by_test false h =
        let bit : bit_at served order ≡ 0 =
        ap (λ (x : ℕ). bit_at x order) s ∙ (served_bits order partial ∙ ap (λ (x : Bool). cond x 1 0) h) in
        rw h (d order (omega (arith, bit_at_or served others order, bit, e)))

-- the kg that count
label-load : (case : Case) (driver : ℕ) (partial : PartialDuty) (loaded : Bool) (used load : ℕ) → loaded ≡ loaded_after partial →
    used ≡ used_after case.week partial → load ≡ cond loaded used (capacity_at case driver + 1) →
    load ≤ load_after case.week (capacity_at case driver) partial
label-load case driver partial true used load h u e =
    omega (arith, u, e, load-loaded case.week (capacity_at case driver) partial (sym h))
label-load case driver partial false used load h u e = omega (arith, e, load-empty case.week (capacity_at case driver) partial (sym h))

-- the smaller of a number that covers and the limit covers
limited : (case : Case) (driver : ℕ) (pairs : Pairs) (prices : Prices) (outlook : Outlook) (orders place at load n number : ℕ) →
    IsOutlookOf case driver pairs prices outlook → number ≡ min n 4000000000000 →
    Covers case.week outlook.scale.capacity prices orders place at load (cents_of n) →
    Covers case.week (capacity_at case driver) prices orders place at load (cents_of number)
limited case driver pairs prices outlook orders place at load n number o e c = rw (sym o.capacity) (by_size (cases_lt n 4000000000000))
  where
    by_size : (n < 4000000000000) ⊎ (4000000000000 ≤ n) → Covers case.week outlook.scale.capacity prices orders place at load (cents_of number)
    by_size (inl small) = covers-up (cents_of number) c (omega (arith, ints, e, small))
    by_size (inr large) =
        covers-all case.week outlook.scale.capacity prices orders place at load (cents_of number) o.filled.is_week o.filled.is_prices
        (omega (arith, ints, e, large))

-- what is done after a partial duty is done after one that serves its orders too
done-later : (barred : ℕ → Bool) (partial later : PartialDuty) (orders : ℕ) →
    ((order : ℕ) → serves order partial ≡ true → serves order later ≡ true) → AreDone orders (done_after barred partial) →
    AreDone orders (done_after barred later)
done-later barred partial later orders more d order e =
    done-partial barred later order ∙ by_test (serves order partial) refl (sym (done-partial barred partial order) ∙ d order e)
  where
    by_test : (b : Bool) → serves order partial ≡ b → (serves order partial || barred order) ≡ true → (serves order later || barred order) ≡ true
    by_test true h t = rw (more order h) refl
    by_test false h t = either (serves order later) (barred order) (rw h at t)
      where
        either : (a b : Bool) → b ≡ true → (a || b) ≡ true
        either true b h = refl
        either false b h = h

-- what is read of a row for a label is a gain, also of steps that end there no sooner
pub label-gain-later : (case : Case) (driver : ℕ) (pairs : Pairs) (prices : Prices) (outlook : Outlook) (label : Label) (partial later : PartialDuty)
    (load level n number : ℕ) → IsOutlookOf case driver pairs prices outlook → IsLabelOf case driver prices label partial →
    IsNoSooner case driver prices partial later → load ≡ cond label.loaded label.used (outlook.scale.capacity + 1) →
    level * outlook.scale.unit ≤ load → Covers case.week outlook.scale.capacity prices (bit_or label.served outlook.barred) label.place label.clock.at
    (level * outlook.scale.unit) (cents_of n) → number ≡ min n 4000000000000 → IsGain case driver pairs prices later (cents_of number)
label-gain-later case driver pairs prices outlook label partial later load level n number o l s a low c e =
    let kg : load ≡ cond label.loaded label.used (capacity_at case driver + 1) = rw o.capacity at a in
    let carried = label-load case driver partial label.loaded label.used load l.loaded l.used kg in
    covers-gain case driver pairs prices later (bit_or label.served outlook.barred) label.place label.clock.at (level * outlook.scale.unit)
    (cents_of number)
    (limited case driver pairs prices outlook (bit_or label.served outlook.barred) label.place label.clock.at (level * outlook.scale.unit)
    n number o e c)
    (done-later (is_barred_for case.week pairs driver) partial later (bit_or label.served outlook.barred) s.orders
    (label-done (is_barred_for case.week pairs driver) partial label.served outlook.barred l.served o.barred)) (l.place ∙ sym s.place)
    (omega (arith, l.clock.at, s.late)) (omega (arith, low, carried, s.load))

-- a partial duty ends no sooner than itself
pub no-sooner : (case : Case) (driver : ℕ) (prices : Prices) (partial : PartialDuty) → IsNoSooner case driver prices partial partial
no-sooner case driver prices partial = record {
  place = refl;
  late = omega arith;
  load = omega arith;
  orders = λ order h. h;
  value = omega (arith, ints);
}

-- a gain fits its type
pub cast-gain : (case : Case) (driver : ℕ) (pairs : Pairs) (prices : Prices) (partial : PartialDuty) (n number : ℕ) (answer : ℤ) →
    number ≡ min n 4000000000000 → answer ≡ cents_of number → IsGain case driver pairs prices partial (cents_of number) →
    IsGain case driver pairs prices partial (to_z w64 (of_z w64 answer))
cast-gain case driver pairs prices partial n number answer e a g =
    let same : to_z w64 (of_z w64 answer) ≡ cents_of number = omega (arith, ints, e, a) in
    subst (λ (x : ℤ). IsGain case driver pairs prices partial x) (sym same) g
