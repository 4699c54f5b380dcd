-- What a seat holds after a claim, and after a label more.
use Rattle.std.proofs.Common.{◌≡◌, ◌⊎◌, ℕ, suc, ◌+◌, ◌/◌, ◌%◌, ◌<◌, ◌≤◌, List, [], ◌∷◌, ◌++◌, All, ltb, cond, ap, sym, subst, ◌∙◌, arith}
use Rattle.std.proofs.lemmas.Bool.Decides.{nat_tests}
use Rattle.std.proofs.lemmas.List.{reverse-append}
use Rattle.std.proofs.lemmas.List.Elements.{All-push}
use Rattle.label_arena.specs.Views.{RoundView, SeatView}
use Rattle.duty_plan.specs.Duties.{times}
use Rattle.duty_plan.specs.SharedRounds.{IsSpentSeat, chunks_drawn}
use Rattle.duty_plan.specs.LabelLists.{IsLabelList}
use Rattle.duty_plan.proofs.SharedRounds.{chunks-push}
use Rattle.duty_pricing.specs.declared.asking.Asked.{Asked}
use Rattle.duty_pricing.specs.declared.stores.LabelStore.{LabelStore}
use Rattle.duty_pricing.specs.Holding.{IsFullSeat, IsOpenSeat}
use Rattle.duty_pricing.specs.Searching.{IsFull}
use Rattle.duty_pricing.specs.Finding.{HoldsStore, IsSeated}
use Rattle.duty_pricing.specs.Slots.{entries_of}
use Rattle.duty_pricing.proofs.Elements.{length-push}
use Rattle.duty_pricing.proofs.Entries.{length-entries}

-- the last number is below a bound of all
last-below : (bound : ℕ) (xs : List ℕ) (n : ℕ) → All (λ (k : ℕ). k < bound) (xs ++ n ∷ []) → n < bound
last-below bound [] n all = all 0 0 (omega arith)
last-below bound (x ∷ xs) n all = last-below bound xs n (λ k d l. all (suc k) d (omega arith))

times-last : (n : ℕ) (xs : List ℕ) → 0 < times n (xs ++ n ∷ [])
times-last n [] = grind (arith, nat_tests)
times-last n (x ∷ xs) = let rest = times-last n xs in omega arith

module _ (round : RoundView) (seat : SeatView) (numbers : List ℕ) (stored : ℕ) (is : IsOpenSeat round seat numbers stored) where
  -- a label more in the last chunk
  pub open-kept : (more : ℕ) → (more + 1023) / 1024 ≡ (stored + 1023) / 1024 → IsOpenSeat round seat numbers more
  open-kept more e = record {
    holds = record { name = is.holds.name; held = is.holds.held; drawn = is.holds.drawn; needed = is.holds.needed ∙ sym e };
    open_still = is.open_still;
    few = is.few;
  }

  module _ (new : SeatView) (number : ℕ) (name : new.name ≡ seat.name) (drawn : new.drawn ≡ seat.drawn ++ number ∷ [])
      (new_number : All (λ (n : ℕ). n < number) seat.drawn) (full : stored % 1024 ≡ 0) where
    counted : chunks_drawn round.chunks new.drawn ≡ chunks_drawn round.chunks seat.drawn + cond (ltb number round.chunks) 1 0
    counted = ap (chunks_drawn round.chunks) drawn ∙ chunks-push round.chunks number seat.drawn

    -- a chunk was claimed
    pub open-claimed : number < round.chunks → new.held ≡ number ∷ seat.held → (more : ℕ) → more ≡ stored + 1 →
        IsOpenSeat round new (numbers ++ number ∷ []) more
    open-claimed low held more one = record {
      holds = record {
        name = name ∙ is.holds.name;
        held = held ∙ (ap (λ (xs : List ℕ). number ∷ xs) is.holds.held ∙ sym (reverse-append numbers (number ∷ [])));
        drawn = (let c = counted in let d = is.holds.drawn in let l = length-push numbers number in grind (arith, nat_tests));
        needed = (let d = is.holds.needed in let l = length-push numbers number in omega arith);
      };
      open_still = subst (λ (xs : List ℕ). All (λ (n : ℕ). n < round.chunks) xs) (sym drawn) (All-push (λ (n : ℕ). n < round.chunks) seat.drawn number is.open_still low);
      few = λ bound all.
          let l = length-push numbers number in
          let f = is.few number new_number in
          let last = last-below bound seat.drawn number (subst (λ (xs : List ℕ). All (λ (n : ℕ). n < bound) xs) drawn all) in omega arith;
    }

    -- no chunk was left
    pub full-claimed : round.chunks ≤ number → new.held ≡ seat.held → IsFullSeat round new numbers stored
    full-claimed past held = record {
      holds = record {
        name = name ∙ is.holds.name;
        held = held ∙ is.holds.held;
        drawn = (let c = counted in let d = is.holds.drawn in grind (arith, nat_tests));
        needed = is.holds.needed;
      };
      number = number;
      drew = subst (λ (xs : List ℕ). 0 < times number xs) (sym drawn) (times-last number seat.drawn);
      past = past;
      full = full;
    }

-- what the seat drew and what is stored license a Spent
pub spent-seat : (asked : Asked) (seat : SeatView) (store : LabelStore) → IsFull asked seat store →
    IsSpentSeat asked.round.now.chunks seat.drawn (entries_of store.slots)
spent-seat asked seat store is = record {
  number = is.number;
  drew = is.drew;
  past = is.past;
  full = (let d = is.holds.drawn in let n = is.holds.needed in let f = is.full in let l = length-entries store.slots in omega arith);
}

-- or are those of a seat that priced a driver
pub seat-of : (asked : Asked) (seat : SeatView) (store : LabelStore) → HoldsStore asked.round.now seat store →
    (entries_of store.slots ≡ []) ⊎ IsLabelList asked.case.now asked.driver asked.pairs.now asked.prices.now (entries_of store.slots) →
    IsSeated asked seat store
seat-of asked seat store is list = record {
  list = list;
  filled = (let d = is.drawn in let n = is.needed in let l = length-entries store.slots in omega arith);
}
