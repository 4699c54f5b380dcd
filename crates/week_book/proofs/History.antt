-- The history rows and did rows of a text without faults.
use Rattle.std.proofs.Common.{◌≡◌, ◌∙◌, ℕ, ◌≤◌, Bool, true, false, ◌&&◌, if◌then◌else◌, nat_le, int_le, pos, Some, None, List, [], ◌∷◌, length, map, refl, sym, ap, inl, inr, ◌⊎◌, arith}
use Rattle.std.proofs.lemmas.Bool.{and_parts, and_from}
use Rattle.std.specs.List.{AllByRecursion, list_all, cons_option}
use Rattle.std.specs.Str.{bytes_eq}
use Rattle.std.specs.Cmp.Lexicographic.{bytes_decides}
use Rattle.minute_line.specs.Stints.{all_up_to}
use Rattle.week_book.specs.declared.rows.Row.{Row}
use Rattle.week_book.specs.declared.rows.Row.TheVariants as row
use Rattle.week_book.specs.Names.{is_name}
use Rattle.week_book.specs.Ranges.{is_did_span, is_within, range_fault, keeps_ranges}
use Rattle.week_book.specs.Keys.{key_of, double_fault}
use Rattle.week_book.specs.Pasts.{HasPastRows, in_past_range, rests_of, past_working_times_of}
use Rattle.week_book.proofs.Apart.{IsApart, AreApart, apart}
use Rattle.week_book.proofs.Faultless.{kept}
use Rattle.week_book.proofs.Activities.{zeros}

each_week : (weeks : List ℕ) → list_all (λ is_in. is_in) (map (λ m. nat_le m 10080) weeks) ≡ all_up_to 10080 weeks
each_week [] = refl
each_week (m ∷ ms) = ap (λ (b : Bool). nat_le m 10080 && b) (each_week ms)

-- the ranges that histories ask for are among those of the text
past_row : (r : Row) → keeps_ranges r ≡ true → in_past_range r ≡ true
past_row (row.Rest n driver end minutes) fits =
    let parts = and_parts (is_name driver) _ fits in
    let end_fits = and_parts (int_le end (pos 0)) _ parts.1 in
    and_from _ _ end_fits.0 (and_parts (is_within 1440 1000000 minutes) true end_fits.1).0
past_row (row.Worked n driver last weeks) fits =
    let parts = and_parts (is_name driver) _ fits in
    let worked = and_parts (nat_le last 10080) _ parts.1 in
    and_from _ _ worked.0 (sym (each_week weeks) ∙ worked.1)
past_row (row.Past n driver mark minutes) fits =
    let parts = and_parts (is_name driver) (is_within 1 2000000 minutes && true) fits in
    (and_parts (is_within 1 2000000 minutes) true parts.1).0
past_row (row.Did n driver mark minutes) fits =
    let parts = and_parts (is_name driver) (is_did_span false mark minutes && true) fits in
    (and_parts (nat_le minutes 10080) _ (and_parts (is_did_span false mark minutes) true parts.1).0).0
past_row _ fits = refl

past_rows : (rows : List Row) → list_all keeps_ranges rows ≡ true → list_all in_past_range rows ≡ true
past_rows [] fits = refl
past_rows (r ∷ rs) fits = let parts = and_parts (keeps_ranges r) _ fits in and_from _ _ (past_row r parts.0) (past_rows rs parts.1)

-- a row adds nothing to the items, or it has the key and adds one
abbrev Adds : {X : Type 0} → (List Row → List X) → List ℕ → Row → List Row → Type 0
Adds {X} items key r rs = (items (r ∷ rs) ≡ items rs) ⊎ ((key_of r ≡ Some key) × (x : X) × (items (r ∷ rs) ≡ x ∷ items rs))

-- rows apart from a row that has the key add nothing
none_more : {X : Type 0} (items : List Row → List X) (key : List ℕ) → items [] ≡ [] → ((r : Row) (rs : List Row) → Adds items key r rs)
    → (r : Row) → key_of r ≡ Some key → (rows : List Row) → AllByRecursion (IsApart r) rows → items rows ≡ []
none_more items key empty adds r is [] far = empty
none_more items key empty adds r is (s ∷ rs) far =
    elim (adds s rs) as (λ _. items (s ∷ rs) ≡ []) [
      | inl same ↦ same ∙ none_more items key empty adds r is rs far.1
      | inr more ↦ absurd (far.0 key is more.0)
    ]

-- at most one item where each row that adds one has the same key
one_item : {X : Type 0} (items : List Row → List X) (key : List ℕ) → items [] ≡ [] → ((r : Row) (rs : List Row) → Adds items key r rs)
    → (rows : List Row) → AreApart rows → length (items rows) ≤ 1
one_item items key empty adds [] far = omega (arith, ap length empty)
one_item items key empty adds (r ∷ rs) far =
    elim (adds r rs) as (λ _. length (items (r ∷ rs)) ≤ 1) [
      | inl same ↦ omega (arith, ap length same, one_item items key empty adds rs far.1)
      | inr more ↦ omega (arith, ap length more.2, ap length (none_more items key empty adds r more.0 rs far.0))
    ]

-- a row of one driver adds to the items of that driver alone
of_driver : {X : Type 0} (items : List Row → List X) (kind : ℕ) (driver name : List ℕ) (r : Row) (rs : List Row) (x : X)
    → key_of r ≡ Some (kind ∷ driver)
    → (same : Bool) → bytes_eq driver name ≡ same → items (r ∷ rs) ≡ cons_option (if same then Some x else None) (items rs)
    → Adds items (kind ∷ name) r rs
of_driver items kind driver name r rs x key true is adds =
    inr (key ∙ ap (λ (who : List ℕ). Some (kind ∷ who)) ((bytes_decides driver name).0 is), x, adds)
of_driver items kind driver name r rs x key false is adds = inl adds

rest_adds : (name : List ℕ) (r : Row) (rs : List Row) → Adds (rests_of name) (4 ∷ name) r rs
rest_adds name (row.Rest n driver end minutes) rs =
    of_driver (rests_of name) 4 driver name (row.Rest n driver end minutes) rs _ refl (bytes_eq driver name) refl refl
rest_adds name _ rs = inl refl

past_work_adds : (name : List ℕ) (r : Row) (rs : List Row) → Adds (past_working_times_of name) (5 ∷ name) r rs
past_work_adds name (row.Worked n driver last weeks) rs =
    of_driver (past_working_times_of name) 5 driver name (row.Worked n driver last weeks) rs _ refl (bytes_eq driver name) refl refl
past_work_adds name _ rs = inl refl

-- the rows of a text in which no field is outside its range and no row is a double
pub has_past_rows : (rows : List Row) → length rows ≤ 1048576 → range_fault rows ≡ None → double_fault rows ≡ None → HasPastRows rows
has_past_rows rows few ranges doubles =
    let far = apart rows doubles in
    record {
      few = few;
      ranges = past_rows rows (kept [] rows ranges);
      rests = λ name. one_item (rests_of name) (4 ∷ name) refl (rest_adds name) rows far;
      past_works = λ name. one_item (past_working_times_of name) (5 ∷ name) refl (past_work_adds name) rows far;
      zeros = λ name. zeros name [] rows ranges refl;
    }
