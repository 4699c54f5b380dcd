-- No two rows without a double have the same key.
use Rattle.std.proofs.Common.{◌≡◌, ◌∙◌, ℕ, Bool, true, false, if◌then◌else◌, Option, Some, None, List, [], ◌∷◌, ◌++◌, filter_map, refl, sym}
use Rattle.std.proofs.lemmas.Bool.{false≢true, or_parts, or_right}
use Rattle.std.specs.List.{AllByRecursion}
use Rattle.std.specs.Str.{bytes_eq}
use Rattle.std.specs.Cmp.Lexicographic.{bytes_decides}
use Rattle.week_book.specs.declared.rows.Row.{Row}
use Rattle.week_book.specs.declared.errors.WeekError.{WeekError}
use Rattle.week_book.specs.Names.{is_among}
use Rattle.week_book.specs.Faults.{first_fault}
use Rattle.week_book.specs.Keys.{key_of, double_of}
use Rattle.week_book.proofs.Seen.{among_some, among_none}
use Rattle.week_book.proofs.Faultless.{neither}

-- a key of none of the rows
abbrev pub IsNew : List (List ℕ) → Row → Type 0
IsNew keys r = (key : List ℕ) → key_of r ≡ Some key → is_among keys key ≡ false

-- two rows without a common key
abbrev pub IsApart : Row → Row → Type 0
IsApart r s = (key : List ℕ) → key_of r ≡ Some key → key_of s ≡ Some key → ⊥

-- no two rows have a common key
abbrev pub AreApart : List Row → Type 0
AreApart [] = Unit {0}
AreApart (r ∷ rs) = AllByRecursion (IsApart r) rs × AreApart rs

known_case : (known : Bool) (e : WeekError) → (if known then Some e else None) ≡ None → known ≡ false
known_case true e none = absurd cc
known_case false e none = refl

new_row : (before : List Row) (r : Row) → double_of before r ≡ None → IsNew (filter_map key_of before) r
new_row before r none key is = let h = rw is at none in known_case (is_among (filter_map key_of before) key) _ h

-- new beside one more key: new before it, and another key
new_before : (before : List Row) (r s : Row) → IsNew (filter_map key_of (before ++ r ∷ [])) s → IsNew (filter_map key_of before) s
new_before before r s new key is = by_key (key_of r) refl
  where
    by_key : (other : Option (List ℕ)) → key_of r ≡ other → is_among (filter_map key_of before) key ≡ false
    by_key None none = sym (among_none key_of before r key none) ∙ new key is
    by_key (Some other) some = (or_parts _ (bytes_eq key other) (sym (among_some key_of before r other key some) ∙ new key is)).0

new_after : (before : List Row) (r s : Row) → IsNew (filter_map key_of (before ++ r ∷ [])) s → IsApart r s
new_after before r s new key of_r of_s =
    false≢true (sym (new key of_s) ∙ among_some key_of before r key key of_r ∙ or_right _ (bytes_eq key key) ((bytes_decides key key).1 refl))

each_weaker : {P Q : Row → Type 0} → ((r : Row) → P r → Q r) → (rows : List Row) → AllByRecursion P rows → AllByRecursion Q rows
each_weaker f [] h = h
each_weaker f (r ∷ rs) h = (f r h.0, each_weaker f rs h.1)

-- without a double each row is new, and no two have a common key
apart_after : (before rows : List Row) → first_fault double_of before rows ≡ None
    → AllByRecursion (IsNew (filter_map key_of before)) rows × AreApart rows
apart_after before [] none = (tt, tt)
apart_after before (r ∷ rs) none =
    let here = neither (double_of before r) _ none in
    let later = apart_after (before ++ r ∷ []) rs here.1 in
    ((new_row before r here.0, each_weaker (new_before before r) rs later.0), (each_weaker (new_after before r) rs later.0, later.1))

pub apart : (rows : List Row) → first_fault double_of [] rows ≡ None → AreApart rows
apart rows none = (apart_after [] rows none).1
