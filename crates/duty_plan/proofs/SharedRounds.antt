-- Rounds whose seats share chunks, driver by driver, and what licenses a Spent there.
use Rattle.std.proofs.Common.{◌≡◌, ◌≢◌, ◌⊎◌, inl, inr, ℕ, ◌+◌, ◌*◌, ◌<◌, ◌≤◌, ◌++◌, cond, ltb, List, [], ◌∷◌, length, ap, sym, subst, ◌∙◌, arith, Some, slice_get}
use Rattle.std.proofs.lemmas.Bool.{cases_lt, cases_eq}
use Rattle.duty_plan.specs.declared.plans.Case.{Case}
use Rattle.duty_plan.specs.declared.deciding.Pairs.{Pairs}
use Rattle.duty_plan.specs.declared.pricing.Prices.{Prices}
use Rattle.duty_plan.specs.declared.pricing.Priced.{Priced}
use Rattle.duty_plan.specs.declared.pricing.Priced.TheVariants.{Least, NoDuty, Spent}
use Rattle.duty_plan.specs.Duties.{times}
use Rattle.duty_plan.specs.Sums.{total_below}
use Rattle.duty_plan.specs.LabelLists.{Entry, IsLabelList, MayExhaustLabels, MayStore}
use Rattle.duty_plan.specs.LabelLaws.{alone}
use Rattle.duty_plan.specs.Rounds.{IsAnswer, IsRound}
use Rattle.duty_plan.specs.SharedRounds.{AreClasses, chunks_drawn, IsSeatOf, IsSpentSeat, IsFound}
use Rattle.duty_plan.proofs.Lists.{slice_get-lt}
use Rattle.duty_plan.proofs.LabelLists.{list_alone}
use Rattle.duty_plan.proofs.Sums.{total-same}
use Rattle.duty_plan.proofs.TwinLists.{twins_share_lists, twins_answer_alike}
use Rattle.duty_plan.proofs.EmptyLabels.{label_of, label-of, or_alone, list_of, long-enough}
use Rattle.duty_plan.proofs.Drawing.{drawn-times, swapped, as-many-ones, once-one, once-below, one-of}
use Rattle.duty_plan.proofs.Filling.{listed, listed-length, listed-at, listed-total, tight}

-- a round of seats that shared m chunks: who stands for whom, what each of these drew and stored, and the counter at the
-- end, below which each number was drawn once, and no other
pub record SharedRound (m : ℕ) (case : Case) (pairs : Pairs) (prices : Prices) : Type 0 where
  pub rep : ℕ → ℕ
  pub drawn : ℕ → List ℕ
  pub entries : ℕ → List Entry
  pub counter : ℕ
  pub classes : AreClasses case pairs rep
  pub seat : (driver : ℕ) → driver < length case.week.drivers → rep driver ≡ driver →
      IsSeatOf m case driver pairs prices (drawn driver) (entries driver)
  pub idle : (driver : ℕ) → driver < length case.week.drivers → rep driver ≢ driver → drawn driver ≡ []
  pub once : (number : ℕ) → total_below (λ driver. times number (drawn driver)) (length case.week.drivers) ≡ cond (ltb number counter) 1 0

-- where a driver's seat has the cause, any answer of the round may be Spent
abbrev pub SharesLicence : Type 0
SharesLicence = (m : ℕ) (case : Case) (pairs : Pairs) (prices : Prices) (round : SharedRound m case pairs prices) (driver : ℕ) →
    driver < length case.week.drivers → IsSpentSeat m (round.drawn driver) (round.entries driver) → MayExhaustLabels m case pairs prices

-- the answers of a shared round: each driver's is what the pricing of the one who stands for it found
pub record AreShared (m : ℕ) (case : Case) (pairs : Pairs) (prices : Prices) (round : SharedRound m case pairs prices) (answers : List Priced) : Type 0 where
  pub drivers : length answers ≡ length case.week.drivers
  pub found : (driver : ℕ) (answer : Priced) → slice_get answers driver ≡ Some answer →
      IsFound m case pairs prices (round.rep driver) (round.drawn (round.rep driver)) (round.entries (round.rep driver)) answer

-- the answers of a shared round are a round
abbrev pub SharedIsRound : Type 0
SharedIsRound = (m : ℕ) (case : Case) (pairs : Pairs) (prices : Prices) (round : SharedRound m case pairs prices) (answers : List Priced) →
    AreShared m case pairs prices round answers → IsRound m case pairs prices answers

-- one number more
pub chunks-push : (m number : ℕ) (xs : List ℕ) → chunks_drawn m (xs ++ number ∷ []) ≡ chunks_drawn m xs + cond (ltb number m) 1 0
chunks-push m number [] = omega arith
chunks-push m number (x ∷ xs) = omega (arith, chunks-push m number xs)

-- where a number at or above m was drawn, all m chunks were
pub all-drawn : (m : ℕ) (case : Case) (pairs : Pairs) (prices : Prices) (round : SharedRound m case pairs prices) (driver : ℕ) →
    driver < length case.week.drivers → IsSpentSeat m (round.drawn driver) (round.entries driver) →
    total_below (λ k. chunks_drawn m (round.drawn k)) (length case.week.drivers) ≡ m
all-drawn m case pairs prices round driver l spent =
    let d = length case.week.drivers in
    let there = one-of (λ k. times spent.number (round.drawn k)) d driver l in
    let drew = spent.drew in
    let past = spent.past in
    let under : spent.number < round.counter = once-below spent.number round.counter _ (round.once spent.number) (omega arith) in
    total-same (λ k. chunks_drawn m (round.drawn k)) (λ k. total_below (λ o. times o (round.drawn k)) m) d (λ k lk. sym (drawn-times m (round.drawn k)))
    ∙ (swapped (λ k o. times o (round.drawn k)) d m
    ∙ as-many-ones (λ o. total_below (λ k. times o (round.drawn k)) d) m
    (λ o lo. round.once o ∙ once-one o round.counter (omega arith)))

-- each driver has a label list, which has as many entries as the one who stands for it, or one
pub is-list : (m : ℕ) (case : Case) (pairs : Pairs) (prices : Prices) (round : SharedRound m case pairs prices) (driver : ℕ) →
    driver < length case.week.drivers → IsLabelList case driver pairs prices (list_of case prices (λ k. round.entries (round.rep k)) driver)
is-list m case pairs prices round driver l =
    by_entries (round.entries (round.rep driver))
    (round.seat (round.rep driver) (round.classes.below driver l) (round.classes.own driver l)).list
  where
    empty : IsLabelList case driver pairs prices (alone (label_of case driver prices))
    empty = list_alone case driver pairs prices (label_of case driver prices) (label-of case driver prices)

    by_entries : (entries : List Entry) → (entries ≡ []) ⊎ IsLabelList case (round.rep driver) pairs prices entries →
        IsLabelList case driver pairs prices (or_alone (alone (label_of case driver prices)) entries)
    by_entries [] is = empty
    by_entries (e ∷ rest) (inl none) = cc
    by_entries (e ∷ rest) (inr list) =
        twins_share_lists case pairs prices (round.rep driver) driver (round.classes.twin driver l) (e ∷ rest) list

-- the list of a driver who stands for himself has all of his entries, that of another driver has one, and drew nothing
pub is-own : (m : ℕ) (case : Case) (pairs : Pairs) (prices : Prices) (round : SharedRound m case pairs prices) (driver : ℕ) → round.rep driver ≡ driver →
    (1 ≤ length (list_of case prices (λ k. round.entries (round.rep k)) driver))
    × (length (round.entries driver) ≤ length (list_of case prices (λ k. round.entries (round.rep k)) driver))
is-own m case pairs prices round driver own =
    let enough = long-enough (alone (label_of case driver prices)) (round.entries (round.rep driver)) (omega arith) in
    let same : length (round.entries (round.rep driver)) ≡ length (round.entries driver) = ap (λ (k : ℕ). length (round.entries k)) own in
    (enough.0, omega (arith, enough.1))

pub no-chunk : (m : ℕ) (case : Case) (pairs : Pairs) (prices : Prices) (round : SharedRound m case pairs prices) (driver : ℕ) →
    driver < length case.week.drivers → round.rep driver ≢ driver → chunks_drawn m (round.drawn driver) ≡ 0
no-chunk m case pairs prices round driver l other = ap (chunks_drawn m) (round.idle driver l other)

-- a driver's list has room for all but the last of its chunks
pub is-long : (m : ℕ) (case : Case) (pairs : Pairs) (prices : Prices) (round : SharedRound m case pairs prices) (driver : ℕ) →
    driver < length case.week.drivers →
    1024 * chunks_drawn m (round.drawn driver) ≤ length (list_of case prices (λ k. round.entries (round.rep k)) driver) + 1024
is-long m case pairs prices round driver l = by_rep (cases_eq (round.rep driver) driver)
  where
    by_rep : (round.rep driver ≡ driver) ⊎ (round.rep driver ≢ driver) →
        1024 * chunks_drawn m (round.drawn driver) ≤ length (list_of case prices (λ k. round.entries (round.rep k)) driver) + 1024
    by_rep (inl own) =
        let more = is-own m case pairs prices round driver own in
        let seat = round.seat driver l own in
        let filled = seat.filled in
        omega (arith, more.1)
    by_rep (inr other) = let none = no-chunk m case pairs prices round driver l other in omega arith

-- the Spent seat's list has all of its chunks full
pub is-full : (m : ℕ) (case : Case) (pairs : Pairs) (prices : Prices) (round : SharedRound m case pairs prices) (driver : ℕ) →
    driver < length case.week.drivers → IsSpentSeat m (round.drawn driver) (round.entries driver) →
    1024 * chunks_drawn m (round.drawn driver) ≤ length (list_of case prices (λ k. round.entries (round.rep k)) driver)
is-full m case pairs prices round driver l spent = by_rep (cases_eq (round.rep driver) driver)
  where
    by_rep : (round.rep driver ≡ driver) ⊎ (round.rep driver ≢ driver) →
        1024 * chunks_drawn m (round.drawn driver) ≤ length (list_of case prices (λ k. round.entries (round.rep k)) driver)
    by_rep (inl own) = let more = is-own m case pairs prices round driver own in let full = spent.full in omega (arith, more.1)
    by_rep (inr other) = let none = no-chunk m case pairs prices round driver l other in omega arith

pub shares_licence : SharesLicence
shares_licence m case pairs prices round driver l spent = by_chunks (cases_lt m (length case.week.drivers))
  where
    by_chunks : (m < length case.week.drivers) ⊎ (length case.week.drivers ≤ m) → MayExhaustLabels m case pairs prices
    by_chunks (inl few) = inl few
    by_chunks (inr many) =
        let d = length case.week.drivers in
        let f = list_of case prices (λ k. round.entries (round.rep k)) in
        let long = tight (λ k. chunks_drawn m (round.drawn k)) (λ k. length (f k)) d driver l
        (λ k lk. is-long m case pairs prices round k lk)
        (is-full m case pairs prices round driver l spent) in
        let drawn = all-drawn m case pairs prices round driver l spent in
        let total = listed-total f d in
        inr (record {
          lists = listed f d;
          drivers = listed-length f d;
          each = λ k x h.
              let at = listed-at f d k x h in
              subst (λ (y : List Entry). IsLabelList case k pairs prices y) at.1 (is-list m case pairs prices round k at.0);
          long = omega arith;
        })

-- what was found is a right answer
pub found-answer : (m : ℕ) (case : Case) (pairs : Pairs) (prices : Prices) (round : SharedRound m case pairs prices) (driver : ℕ) (answer : Priced) →
    driver < length case.week.drivers → round.rep driver ≡ driver →
    IsFound m case pairs prices driver (round.drawn driver) (round.entries driver) answer → IsAnswer m case pairs prices driver answer
found-answer m case pairs prices round driver (Least value duty) l own found = found
found-answer m case pairs prices round driver NoDuty l own found = found
found-answer m case pairs prices round driver (Spent stored) l own found =
    (shares_licence m case pairs prices round driver l found.0, by_list (round.seat driver l own).list)
  where
    by_list : (round.entries driver ≡ []) ⊎ IsLabelList case driver pairs prices (round.entries driver) → MayStore case driver pairs prices stored
    by_list (inl none) =
        let few : length (round.entries driver) ≡ 0 = ap length none in inl (sym found.1 ∙ few)
    by_list (inr list) = inr (round.entries driver, list, found.1)

pub shared_is_round : SharedIsRound
shared_is_round m case pairs prices round answers shared = record {
  drivers = shared.drivers;
  each = λ driver answer h.
      let count = shared.drivers in
      let l : driver < length case.week.drivers = omega (arith, slice_get-lt answers driver answer h) in
      twins_answer_alike m case pairs prices (round.rep driver) driver (round.classes.twin driver l) answer
      (found-answer m case pairs prices round (round.rep driver) answer (round.classes.below driver l) (round.classes.own driver l)
      (shared.found driver answer h));
}
