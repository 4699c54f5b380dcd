-- The first fault is that of a row before which no row has one.
use Rattle.std.proofs.Common.{◌≡◌, ◌∙◌, ℕ, Option, Some, None, List, [], ◌∷◌, ◌++◌, slice_get, refl, sym, ap, append_assoc, arith}
use Rattle.std.proofs.lemmas.List.{append-nil}
use Rattle.std.proofs.lemmas.Option.{slice_get-get_or}
use Rattle.std.specs.Option.{option_or}
use Rattle.week_book.specs.declared.rows.Row.{Row}
use Rattle.week_book.specs.declared.errors.WeekError.{WeekError}
use Rattle.week_book.specs.Names.{number_of}
use Rattle.week_book.specs.Faults.{first_fault, IsFirst}
use Rattle.week_book.proofs.Maps.{number_at, number_in}

-- the first fault is the first row's, or else that of the rows after it
pub first_is : (fault : List Row → Row → Option WeekError) (before rows : List Row) (e : WeekError) → first_fault fault before rows ≡ Some e
    → IsFirst fault before rows e
first_is fault before [] e is = absurd cc
first_is fault before (r ∷ rs) e is = by_fault (fault before r) refl is (first_is fault (before ++ r ∷ []) rs e)
  where
    by_fault : (o : Option WeekError) → fault before r ≡ o → option_or (fault before r) (first_fault fault (before ++ r ∷ []) rs) ≡ Some e
        → (first_fault fault (before ++ r ∷ []) rs ≡ Some e → IsFirst fault (before ++ r ∷ []) rs e) → IsFirst fault before (r ∷ rs) e
    by_fault (Some f) found is later =
        let h = rw found at is in
        record { earlier = []; here = r; later = rs; split = refl; is = ap (λ (b : List Row). fault b r) (append-nil before) ∙ found ∙ h; none = refl }
    by_fault None found is later =
        let h = rw found at is in
        let first = later h in
        record {
          earlier = r ∷ first.earlier;
          here = first.here;
          later = first.later;
          split = ap (λ (xs : List Row). r ∷ xs) first.split;
          is = ap (λ (b : List Row). fault b first.here) (sym (append_assoc before (r ∷ []) first.earlier)) ∙ first.is;
          none = rw found first.none;
        }

pub number_place : (names : List (List ℕ)) (name : List ℕ) (k : ℕ) → number_of names name ≡ Some k → slice_get names k ≡ Some name
number_place names name k is =
    let there = number_at 0 k names name k is (omega arith) in
    slice_get-get_or names k [] (number_in names name k is) ∙ ap Some there
