-- The rows of a driver: how they are found, and their ranges.
use Rattle.std.proofs.Common.{◌≡◌, ℕ, ◌+◌, ◌≤◌, ◌<◌, true, false, List, [], ◌∷◌, length, get_or, drop, refl, arith, suc, Option, Some, None, drop-cons, cond, Bool, add-one, slice_get, IfSome}
use Rattle.std.proofs.lemmas.Bool.Decides.{nat_tests}
use Rattle.std.proofs.lemmas.Int.{ints}
use Rattle.std.proofs.lemmas.List.{drop_all}
use Rattle.std.specs.List.{filter_map, cons_option, list_all}
use Rattle.std.specs.Str.{bytes_eq}
use Rattle.week_book.specs.declared.rows.Row.{Row}
use Rattle.week_book.specs.declared.rows.Row.TheVariants.{Rest, Worked, Past, Did}
use Rattle.week_book.specs.Pasts.{past_activity, did_activity, rest_said, past_working_time, Activity, Rested, PastWorkingTime, past_activities, did_activities, rests_of, past_working_times_of, in_past_range, each_lasts, HasPastRows}
use Rattle.driver_history.specs.Finding.{each_within, ArePast, IsRestInRange, IsPastWorkingTime}

-- the first row that says something
pub some_found : {B : Type 0} (f : Row → Option B) (rows : List Row) (i : ℕ) (d : Row) (y : B) → i < length rows →
    slice_get (filter_map f (drop i rows)) 0 ≡ slice_get (filter_map f rows) 0 → f (get_or rows i d) ≡ Some y → Some y ≡ slice_get (filter_map f rows) 0
some_found f rows i d y l h e =
    let here : drop i rows ≡ get_or rows i d ∷ drop (i + 1) rows = rw add-one (drop-cons rows i d l) in
    rw (here, e) at h

pub none_found : {B : Type 0} (f : Row → Option B) (rows : List Row) (i : ℕ) → length rows ≤ i →
    slice_get (filter_map f (drop i rows)) 0 ≡ slice_get (filter_map f rows) 0 → None ≡ slice_get (filter_map f rows) 0
none_found f rows i l h = let none : drop i rows ≡ [] = drop_all i rows l in rw none at h

-- what a row in its ranges says
some-if : {B : Type 0} (b : Bool) (x y : B) → cond b (Some x) None ≡ Some y → x ≡ y
some-if true x y e = cc
some-if false x y e = cc

past-said : (name : List ℕ) (r : Row) (s : Activity) → in_past_range r ≡ true → past_activity name r ≡ Some s → (1 ≤ s.minutes) × (s.minutes ≤ 2000000)
past-said name (Past row driver w minutes) s h e =
    rw (← some-if (bytes_eq driver name) _ s e) (grind (arith, nat_tests), grind (arith, nat_tests))
past-said name _ s h e = cc

did-said : (name : List ℕ) (r : Row) (s : Activity) → in_past_range r ≡ true → did_activity name r ≡ Some s → s.minutes ≤ 2000000
did-said name (Did row driver w minutes) s h e = rw (← some-if (bytes_eq driver name) _ s e) (grind (arith, nat_tests))
did-said name _ s h e = cc

rest-said : (name : List ℕ) (r : Row) (x : Rested) → in_past_range r ≡ true → rest_said name r ≡ Some x → IsRestInRange x
rest-said name (Rest row driver end minutes) x h e =
    rw (← some-if (bytes_eq driver name) _ x e)
    (record { end = grind (arith, ints); minutes = (grind (arith, nat_tests), grind (arith, nat_tests)) })
rest-said name _ x h e = cc

past_work-said : (name : List ℕ) (r : Row) (x : PastWorkingTime) → in_past_range r ≡ true → past_working_time name r ≡ Some x → IsPastWorkingTime x
past_work-said name (Worked row driver last weeks) x h e =
    rw (← some-if (bytes_eq driver name) _ x e) (record { last = grind (arith, nat_tests); weeks = grind (arith, nat_tests) })
past_work-said name _ x h e = cc

-- what rows in their ranges say
few-said : (f : Row → Option Activity) (rows : List Row) → length (filter_map f rows) ≤ length rows
few-said f [] = omega arith
few-said f (r ∷ rs) = here (f r) (few-said f rs)
  where
    here : (o : Option Activity) → length (filter_map f rs) ≤ length rs → length (cons_option o (filter_map f rs)) ≤ suc (length rs)
    here None more = omega arith
    here (Some s) more = omega arith

within-said : (f : Row → Option Activity) → ((r : Row) (s : Activity) → in_past_range r ≡ true → f r ≡ Some s → s.minutes ≤ 2000000) →
    (rows : List Row) → list_all in_past_range rows ≡ true → each_within 2000000 (filter_map f rows) ≡ true
within-said f said [] h = refl
within-said f said (r ∷ rs) h = here (f r) refl (within-said f said rs (grind arith))
  where
    here : (o : Option Activity) → f r ≡ o → each_within 2000000 (filter_map f rs) ≡ true → each_within 2000000 (cons_option o (filter_map f rs)) ≡ true
    here None e more = more
    here (Some s) e more = let most = said r s (grind arith) e in grind (arith, nat_tests)

lasts-said : (name : List ℕ) (rows : List Row) → list_all in_past_range rows ≡ true → each_lasts (filter_map (past_activity name) rows) ≡ true
lasts-said name [] h = refl
lasts-said name (r ∷ rs) h = here (past_activity name r) refl (lasts-said name rs (grind arith))
  where
    here : (o : Option Activity) → past_activity name r ≡ o → each_lasts (filter_map (past_activity name) rs) ≡ true →
        each_lasts (cons_option o (filter_map (past_activity name) rs)) ≡ true
    here None e more = more
    here (Some s) e more = let least = (past-said name r s (grind arith) e).0 in grind (arith, nat_tests)

-- what the first row says that says anything, if every row that says something says it so
first-said : {B : Type 0} (f : Row → Option B) (P : B → Type 0) → ((r : Row) (x : B) → in_past_range r ≡ true → f r ≡ Some x → P x) →
    (rows : List Row) → list_all in_past_range rows ≡ true → IfSome (slice_get (filter_map f rows) 0) P
first-said f P said [] h = tt
first-said {B = B} f P said (r ∷ rs) h = here (f r) refl (first-said f P said rs (grind arith))
  where
    here : (o : Option B) → f r ≡ o → IfSome (slice_get (filter_map f rs) 0) P → IfSome (slice_get (cons_option o (filter_map f rs)) 0) P
    here None g more = more
    here (Some y) g more = said r y (grind arith) g

pub are_past : (name : List ℕ) (rows : List Row) → HasPastRows rows → ArePast (past_activities name rows)
are_past name rows h =
    let few = h.few in let short = few-said (past_activity name) rows in record {
      few = omega arith;
      within = within-said (past_activity name) (λ r s i e. (past-said name r s i e).1) rows h.ranges;
      lasts = lasts-said name rows h.ranges;
    }

pub did_within : (name : List ℕ) (rows : List Row) → HasPastRows rows →
    (each_within 2000000 (did_activities name rows) ≡ true) × (length (did_activities name rows) ≤ 1048576)
did_within name rows h =
    let few = h.few in let short = few-said (did_activity name) rows in
    (within-said (did_activity name) (did-said name) rows h.ranges, omega arith)

pub rests_said : (name : List ℕ) (rows : List Row) → list_all in_past_range rows ≡ true → IfSome (slice_get (rests_of name rows) 0) IsRestInRange
rests_said name rows h = first-said (rest_said name) IsRestInRange (rest-said name) rows h

pub past_works_said : (name : List ℕ) (rows : List Row) → list_all in_past_range rows ≡ true → IfSome (slice_get (past_working_times_of name rows) 0) IsPastWorkingTime
past_works_said name rows h = first-said (past_working_time name) IsPastWorkingTime (past_work-said name) rows h

pub is_rest : (name : List ℕ) (rows : List Row) (x : Rested) → list_all in_past_range rows ≡ true → slice_get (rests_of name rows) 0 ≡ Some x → IsRestInRange x
is_rest name rows x h e = let said = rests_said name rows h in rw e at said
