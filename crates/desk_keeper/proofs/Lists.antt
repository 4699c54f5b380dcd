-- Lists seen through a view of their elements: the first that passes, one put in its place, those that pass, one more.
use Rattle.std.proofs.Common.{◌≡◌, ℕ, ◌+◌, ◌<◌, ◌≤◌, Bool, true, false, cond, not, refl, ap, ◌∙◌, List, [], ◌∷◌, ◌++◌, map, length, Some, None, option_map, arith, add_comm, add-one, position, Result, Ok, Err, OnOk}
use Rattle.std.specs.Prelude.{find, filter}
use Rattle.std.specs.List.{position_or_len}
use Rattle.std.proofs.Math.ListN.{set}
use borrow.Author.Tests.{ltb-true, ltb-false}
use lib.Dec.{ltb}
use Rattle.desk_keeper.specs.Changes.{put}

pub find-map : {X Y : Type 0} (f : X → Y) (p : Y → Bool) (xs : List X) → option_map f (find (λ x. p (f x)) xs) ≡ find p (map f xs)
find-map f p [] = refl
find-map f p (x ∷ xs) =
    elim (p (f x)) as (λ b. option_map f (cond b (Some x) (find (λ y. p (f y)) xs)) ≡ cond b (Some (f x)) (find p (map f xs))) [ true ↦ refl | false ↦ find-map f p xs ]

pub filter-map : {X Y : Type 0} (f : X → Y) (p : Y → Bool) (xs : List X) → map f (filter (λ x. p (f x)) xs) ≡ filter p (map f xs)
filter-map f p [] = refl
filter-map f p (x ∷ xs) =
    elim (p (f x)) as (λ b. map f (cond b (x ∷ filter (λ y. p (f y)) xs) (filter (λ y. p (f y)) xs)) ≡ cond b (f x ∷ filter p (map f xs)) (filter p (map f xs)))
    [ true ↦ ap (λ l. f x ∷ l) (filter-map f p xs) | false ↦ filter-map f p xs ]

pub put-map : {X Y : Type 0} (f : X → Y) (p : Y → Bool) (x : X) (xs : List X) → map f (put (λ y. p (f y)) x xs) ≡ put p (f x) (map f xs)
put-map f p x [] = refl
put-map f p x (y ∷ ys) =
    elim (p (f y)) as (λ b. map f (cond b (x ∷ ys) (y ∷ put (λ z. p (f z)) x ys)) ≡ cond b (f x ∷ map f ys) (f y ∷ put p (f x) (map f ys)))
    [ true ↦ refl | false ↦ ap (λ l. f y ∷ l) (put-map f p x ys) ]

one_in : {X : Type 0} (y x : X) (i : ℕ) (ys : List X) → set (y ∷ ys) (1 + i) x ≡ y ∷ set ys i x
one_in y x i ys = rw (add_comm 1 i, add-one) refl

-- at the place of the first that passes
pub put-found : {X : Type 0} (p : X → Bool) (x : X) (xs : List X) → position_or_len p xs < length xs → set xs (position_or_len p xs) x ≡ put p x xs
put-found p x [] here = absurd (omega arith)
put-found p x (y ∷ ys) here =
    (elim (p y) as (λ b. cond (not b) (1 + position_or_len p ys) 0 < length (y ∷ ys) → set (y ∷ ys) (cond (not b) (1 + position_or_len p ys) 0) x ≡ cond b (x ∷ ys) (y ∷ put p x ys)) [
      | true ↦ λ _. refl
      | false ↦ λ (h : 1 + position_or_len p ys < length (y ∷ ys)). one_in y x (position_or_len p ys) ys ∙ ap (λ l. y ∷ l) (put-found p x ys (omega arith))
    ]) here

-- at the end where none passes
pub put-absent : {X : Type 0} (p : X → Bool) (x : X) (xs : List X) → length xs ≤ position_or_len p xs → xs ++ x ∷ [] ≡ put p x xs
put-absent p x [] absent = refl
put-absent p x (y ∷ ys) absent =
    (elim (p y) as (λ b. length (y ∷ ys) ≤ cond (not b) (1 + position_or_len p ys) 0 → (y ∷ ys) ++ x ∷ [] ≡ cond b (x ∷ ys) (y ∷ put p x ys)) [
      | true ↦ λ (h : length (y ∷ ys) ≤ 0). absurd (omega arith)
      | false ↦ λ (h : length (y ∷ ys) ≤ 1 + position_or_len p ys). ap (λ l. y ∷ l) (put-absent p x ys (omega arith))
    ]) absent

-- put at the place that a search by the test finds
put_by : {X : Type 0} (p : X → Bool) (x : X) (xs : List X) (i : ℕ) (b : Bool) → ltb (position_or_len p xs) (length xs) ≡ b
    → Some i ≡ cond b (Some (position_or_len p xs)) None → set xs i x ≡ put p x xs
put_by p x xs i true is e = let same : i ≡ position_or_len p xs = cc in rw same (put-found p x xs (ltb-true _ _ is))
put_by p x xs i false is e = cc

pub put_there : {X : Type 0} (p : X → Bool) (x : X) (xs : List X) (i : ℕ) → Some i ≡ position p xs → set xs i x ≡ put p x xs
put_there p x xs i e = put_by p x xs i (ltb (position_or_len p xs) (length xs)) refl e

-- put at the end where a search by the test finds no place
end_by : {X : Type 0} (p : X → Bool) (x : X) (xs : List X) (b : Bool) → ltb (position_or_len p xs) (length xs) ≡ b
    → None ≡ cond b (Some (position_or_len p xs)) None → xs ++ x ∷ [] ≡ put p x xs
end_by p x xs true is e = cc
end_by p x xs false is e = put-absent p x xs (ltb-false _ _ is)

pub put_last : {X : Type 0} (p : X → Bool) (x : X) (xs : List X) → None ≡ position p xs → xs ++ x ∷ [] ≡ put p x xs
put_last p x xs e = end_by p x xs (ltb (position_or_len p xs) (length xs)) refl e

-- what follows from what holds on success
pub on_ok : {A E : Type 0} {P Q : Type 0} (r : Result A E) → (P → Q) → OnOk r P → OnOk r Q
on_ok (Ok x) f p = f p
on_ok (Err e) f p = p
