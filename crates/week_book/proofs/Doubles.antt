-- The first double is the first key that repeats.
use Rattle.std.proofs.Common.{◌≡◌, ◌∙◌, ℕ, Bool, true, false, if◌then◌else◌, Option, Some, None, option_map, List, [], ◌∷◌, ◌++◌, filter_map, refl, ap}
use Rattle.week_book.specs.declared.rows.Row.{Row}
use Rattle.week_book.specs.declared.keys.Keyed.{Keyed}
use Rattle.week_book.specs.declared.errors.WeekError.{WeekError}
use Rattle.week_book.specs.declared.errors.WeekError.TheVariants.{Double}
use Rattle.std.specs.List.{cons_option}
use Rattle.std.specs.Option.{option_or}
use Rattle.week_book.specs.Names.{is_among}
use Rattle.week_book.specs.Faults.{row_number, first_fault}
use Rattle.week_book.specs.Keys.{key_of, double_of, keyed_of, repeat_after}
use Rattle.week_book.proofs.Seen.{mapped_some, mapped_none}

-- a row without a key is no double
double_none : (before : List Row) (r : Row) → key_of r ≡ None → double_of before r ≡ None
double_none before r none = rw none refl

double_some : (before : List Row) (r : Row) (key : List ℕ) → key_of r ≡ Some key
    → double_of before r ≡ (if is_among (filter_map key_of before) key then Some (Double (row_number r)) else None)
double_some before r key e = rw e refl

-- with a key, or without one
choice : (seen : Bool) (n : ℕ) (rest : Option WeekError) (others : Option ℕ) → rest ≡ option_map Double others
    → option_or (if seen then Some (Double n) else None) rest ≡ option_map Double (if seen then Some n else others)
choice true n rest others same = refl
choice false n rest others same = same

step : (before : List Row) (r : Row) (ks : List Keyed) (rest : Option WeekError) (key : Option (List ℕ)) → key_of r ≡ key
    → rest ≡ option_map Double (repeat_after (filter_map key_of (before ++ r ∷ [])) ks)
    → option_or (double_of before r) rest ≡ option_map Double (repeat_after (filter_map key_of before) (cons_option (keyed_of r) ks))
step before r ks rest None e same =
    let k : keyed_of r ≡ None = ap (option_map (λ (key : List ℕ). record { row = row_number r; key = key })) e in
    rw (double_none before r e, k) (same ∙ ap (λ (seen : List (List ℕ)). option_map Double (repeat_after seen ks)) (mapped_none key_of before r e))
step before r ks rest (Some key) e same =
    let k : keyed_of r ≡ Some (record { row = row_number r; key = key }) = ap (option_map (λ (key : List ℕ). record { row = row_number r; key = key })) e in
    rw (double_some before r key e, k)
    (choice (is_among (filter_map key_of before) key) (row_number r) rest _
    (same ∙ ap (λ (seen : List (List ℕ)). option_map Double (repeat_after seen ks)) (mapped_some key_of before r key e)))

pub double_is : (before rows : List Row)
    → first_fault double_of before rows ≡ option_map Double (repeat_after (filter_map key_of before) (filter_map keyed_of rows))
double_is before [] = refl
double_is before (r ∷ rs) =
    step before r (filter_map keyed_of rs) (first_fault double_of (before ++ r ∷ []) rs) (key_of r) refl (double_is (before ++ r ∷ []) rs)
