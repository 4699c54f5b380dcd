-- What a publication moves: the rows of its drivers, one after another, and no other row.
use Rattle.std.proofs.Common.{◌≡◌, ◌∙◌, ℕ, zero, suc, ℤ, Bool, true, false, ◌||◌, cond, not, ap, sym, subst, refl, List, [], ◌∷◌, map, Some, option_map, find, filter}
use Rattle.std.specs.Prelude.{slice_get}
use Rattle.std.specs.List.{IsDistinct, AllByRecursion}
use Rattle.std.specs.Str.{bytes_eq}
use Rattle.std.proofs.lemmas.Slice.Eq.{bytes_eq-Decides}
use Rattle.std.proofs.lemmas.Option.{same_Some}
use Rattle.desk_keeper.specs.Tables.{DriverFields, RowFields, AreNamedOnce}
use Rattle.desk_keeper.specs.Changes.{put, with_row, row_after, moved_on}
use Rattle.desk_keeper.specs.Laws.{is_named, rows_of_others, PublicationMovesItsDrivers}

-- what is put is found by the test that it is put by
found_put : {X : Type 0} (p : X → Bool) (x : X) (xs : List X) → p x ≡ true → find p (put p x xs) ≡ Some x
found_put p x [] passes = rw passes refl
found_put p x (y ∷ ys) passes =
    (elim (p y) as (λ b. p y ≡ b → find p (cond b (x ∷ ys) (y ∷ put p x ys)) ≡ Some x) [
      | true ↦ λ _. rw passes refl
      | false ↦ λ (e : p y ≡ false). rw e (found_put p x ys passes)
    ]) refl

-- a test that passes neither what is put nor what it replaces finds what it found
found_beside : {X : Type 0} (p q : X → Bool) (x : X) (xs : List X) → q x ≡ false → ((y : X) → p y ≡ true → q y ≡ false) → find q (put p x xs) ≡ find q xs
found_beside p q x [] new replaced = rw new refl
found_beside p q x (y ∷ ys) new replaced =
    (elim (p y) as (λ b. p y ≡ b → find q (cond b (x ∷ ys) (y ∷ put p x ys)) ≡ find q (y ∷ ys)) [
      | true ↦ λ (e : p y ≡ true). rw (new, replaced y e) refl
      | false ↦ λ _. ap (cond (q y) (Some y)) (found_beside p q x ys new replaced)
    ]) refl

-- and those that pass it are the same
filtered_beside : {X : Type 0} (p q : X → Bool) (x : X) (xs : List X) → q x ≡ false → ((y : X) → p y ≡ true → q y ≡ false) → filter q (put p x xs) ≡ filter q xs
filtered_beside p q x [] new replaced = rw new refl
filtered_beside p q x (y ∷ ys) new replaced =
    (elim (p y) as (λ b. p y ≡ b → filter q (cond b (x ∷ ys) (y ∷ put p x ys)) ≡ filter q (y ∷ ys)) [
      | true ↦ λ (e : p y ≡ true). rw (new, replaced y e) refl
      | false ↦ λ _. ap (λ l. cond (q y) (y ∷ l) l) (filtered_beside p q x ys new replaced)
    ]) refl

neither : (a b : Bool) → (a || b) ≡ false → (a ≡ false) × (b ≡ false)
neither false b e = (refl, e)
neither true b e = cc

either_way : (a b : Bool) → b ≡ true → (a || b) ≡ true
either_way false b e = e
either_way true b e = refl

swapped_by : (a b : List ℕ) (r : Bool) → bytes_eq b a ≡ r → bytes_eq a b ≡ false → r ≡ false
swapped_by a b true e differs =
    let same : b ≡ a = (bytes_eq-Decides b a).0 e in
    let alike : bytes_eq a b ≡ true = (bytes_eq-Decides a b).1 (sym same) in cc
swapped_by a b false e differs = refl

swapped : (a b : List ℕ) → bytes_eq a b ≡ false → bytes_eq b a ≡ false
swapped a b differs = swapped_by a b (bytes_eq b a) refl differs

-- who has one name has not another
has_not : (one other name : List ℕ) → bytes_eq one other ≡ false → bytes_eq name one ≡ true → bytes_eq name other ≡ false
has_not one other name differs e = let same : name ≡ one = (bytes_eq-Decides name one).0 e in rw same differs

-- a driver who is none of those moved on keeps what was kept
found_of_others : (monday : ℤ) (drivers : List DriverFields) (rows : List RowFields) (name : List ℕ) → is_named drivers name ≡ false
    → find (λ row. bytes_eq row.driver name) (moved_on monday drivers rows) ≡ find (λ row. bytes_eq row.driver name) rows
found_of_others monday [] rows name out = refl
found_of_others monday (driver ∷ drivers) rows name out =
    let both = neither (bytes_eq driver.name name) (is_named drivers name) out in
    found_of_others monday drivers (with_row (row_after monday driver) rows) name both.1
    ∙ found_beside (λ other. bytes_eq other.driver driver.name) (λ row. bytes_eq row.driver name) (row_after monday driver) rows both.0
    (λ row e. has_not driver.name name row.driver both.0 e)

-- a name that none of the drivers has
not_named : (name : List ℕ) (drivers : List DriverFields) → AllByRecursion (λ y. bytes_eq name y ≡ false) (map (λ d. d.name) drivers) → is_named drivers name ≡ false
not_named name [] others = refl
not_named name (driver ∷ drivers) others = rw (swapped name driver.name others.0, not_named name drivers others.1) refl

-- the first of distinct drivers is moved on, and the rest leave it
found_first : (monday : ℤ) (driver : DriverFields) (drivers : List DriverFields) (rows : List RowFields)
    → AllByRecursion (λ y. bytes_eq driver.name y ≡ false) (map (λ d. d.name) drivers)
    → find (λ row. bytes_eq row.driver driver.name) (moved_on monday drivers (with_row (row_after monday driver) rows)) ≡ Some (row_after monday driver)
found_first monday driver drivers rows others =
    found_of_others monday drivers (with_row (row_after monday driver) rows) driver.name (not_named driver.name drivers others)
    ∙ found_put (λ row. bytes_eq row.driver driver.name) (row_after monday driver) rows ((bytes_eq-Decides driver.name driver.name).1 refl)

-- each of distinct drivers is moved on
found_of_theirs : (monday : ℤ) (drivers : List DriverFields) (rows : List RowFields) (k : ℕ) (driver : DriverFields) → AreNamedOnce drivers → slice_get drivers k ≡ Some driver
    → find (λ row. bytes_eq row.driver driver.name) (moved_on monday drivers rows) ≡ Some (row_after monday driver)
unfolding IsDistinct
found_of_theirs monday [] rows k driver once there = cc
found_of_theirs monday (first ∷ drivers) rows zero driver once there =
    subst (λ d. find (λ row. bytes_eq row.driver d.name) (moved_on monday drivers (with_row (row_after monday first) rows)) ≡ Some (row_after monday d)) (same_Some first driver there)
    (found_first monday first drivers rows once.0)
found_of_theirs monday (first ∷ drivers) rows (suc k) driver once there = found_of_theirs monday drivers (with_row (row_after monday first) rows) k driver once.1 there

-- the rows of others stay where one after another of the drivers is moved on
rows_stay : (monday : ℤ) (all drivers : List DriverFields) (rows : List RowFields) → AllByRecursion (λ d. is_named all d.name ≡ true) drivers
    → rows_of_others all (moved_on monday drivers rows) ≡ rows_of_others all rows
rows_stay monday all [] rows theirs = refl
rows_stay monday all (driver ∷ drivers) rows theirs =
    rows_stay monday all drivers (with_row (row_after monday driver) rows) theirs.1
    ∙ filtered_beside (λ other. bytes_eq other.driver driver.name) (λ row. not (is_named all row.driver)) (row_after monday driver) rows (ap not theirs.0)
    (λ row e. let same : row.driver ≡ driver.name = (bytes_eq-Decides row.driver driver.name).0 e in ap (λ name. not (is_named all name)) same ∙ ap not theirs.0)

named_more : (first : DriverFields) (all drivers : List DriverFields) → AllByRecursion (λ d. is_named all d.name ≡ true) drivers → AllByRecursion (λ d. is_named (first ∷ all) d.name ≡ true) drivers
named_more first all [] theirs = tt
named_more first all (driver ∷ drivers) theirs =
    (either_way (bytes_eq first.name driver.name) (is_named all driver.name) theirs.0, named_more first all drivers theirs.1)

-- each of the drivers is named among them
all_named : (drivers : List DriverFields) → AllByRecursion (λ d. is_named drivers d.name ≡ true) drivers
all_named [] = tt
all_named (driver ∷ drivers) =
    (ap (λ b. b || is_named drivers driver.name) ((bytes_eq-Decides driver.name driver.name).1 refl), named_more driver drivers drivers (all_named drivers))

pub publication_moves_its_drivers : PublicationMovesItsDrivers
publication_moves_its_drivers draft tables once = record {
  theirs = λ k driver there. ap (option_map (λ row. row.kept)) (found_of_theirs draft.monday draft.drivers tables.histories k driver once there);
  others = λ name out. ap (option_map (λ row. row.kept)) (found_of_others draft.monday draft.drivers tables.histories name out);
  rows = rows_stay draft.monday draft.drivers draft.drivers tables.histories (all_named draft.drivers);
}
