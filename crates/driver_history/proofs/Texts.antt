-- A text with one more row.
use Rattle.std.proofs.Common.{◌≡◌, ℕ, ◌+◌, ◌≤◌, true, leb, inl, inr, List, [], ◌∷◌, ◌++◌, length, refl, arith, append-nil, length-append, le-leb}
use Rattle.std.specs.List.{list_all}
use Rattle.std.proofs.lemmas.Bool.{cases_Bool}
use Rattle.std.proofs.lemmas.Bool.Decides.{nat_tests}
use Rattle.std.proofs.lemmas.List.Elements.{filter_map-append}
use Rattle.std.specs.Str.{bytes_eq}
use Rattle.week_book.specs.declared.rows.Row.{Row}
use Rattle.week_book.specs.declared.rows.Row.TheVariants.{Past, Did}
use Rattle.week_book.specs.declared.rows.Word.{Word}
use Rattle.week_book.specs.Pasts.{did_activity, rest_said, past_working_time, Activity, rests_of, past_working_times_of, did_activities, in_past_range, each_lasts, zero_first, HasPastRows}

ranges-append : (xs ys : List Row) → list_all in_past_range xs ≡ true → list_all in_past_range ys ≡ true → list_all in_past_range (xs ++ ys) ≡ true
ranges-append [] ys h g = g
ranges-append (x ∷ xs) ys h g = grind (arith, ranges-append xs ys)

lasts-append : (xs ys : List Activity) → each_lasts xs ≡ true → each_lasts ys ≡ true → each_lasts (xs ++ ys) ≡ true
lasts-append [] ys h g = g
lasts-append (x ∷ xs) ys h g = grind (arith, lasts-append xs ys)

zeros-append : (xs ys : List Activity) → zero_first xs ≡ true → each_lasts ys ≡ true → zero_first (xs ++ ys) ≡ true
zeros-append [] [] h g = refl
zeros-append [] (y ∷ ys) h g = grind (arith, nat_tests)
zeros-append (x ∷ xs) ys h g = grind (arith, lasts-append xs ys)

-- no rest row or worked row among them, and a minute in each did row
pub record Adds (ys : List Row) : Type 0 where
  pub ranges : list_all in_past_range ys ≡ true
  pub rests : (name : List ℕ) → rests_of name ys ≡ []
  pub past_works : (name : List ℕ) → past_working_times_of name ys ≡ []
  pub lasts : (name : List ℕ) → each_lasts (did_activities name ys) ≡ true

pub text-append : (xs ys : List Row) → HasPastRows xs → length xs + length ys ≤ 1048576 → Adds ys → HasPastRows (xs ++ ys)
text-append xs ys h few a = record {
  few = omega (arith, length-append xs ys);
  ranges = ranges-append xs ys h.ranges a.ranges;
  rests = λ (name : List ℕ). rw (filter_map-append (rest_said name) xs ys, a.rests name, append-nil (rests_of name xs)) (h.rests name);
  past_works = λ (name : List ℕ). rw (filter_map-append (past_working_time name) xs ys, a.past_works name, append-nil (past_working_times_of name xs)) (h.past_works name);
  zeros = λ (name : List ℕ). rw (filter_map-append (did_activity name) xs ys) (zeros-append (did_activities name xs) (did_activities name ys) (h.zeros name) (a.lasts name));
}

pub adds-past : (row : ℕ) (driver : List ℕ) (w : Word) (minutes : ℕ) → 1 ≤ minutes → minutes ≤ 2000000 → Adds (Past row driver w minutes ∷ [])
adds-past row driver w minutes l h =
    let low : leb 1 minutes ≡ true = le-leb 1 minutes l in
    let high : leb minutes 2000000 ≡ true = le-leb minutes 2000000 h in
    record { ranges = rw (low, high) refl; rests = λ (name : List ℕ). refl; past_works = λ (name : List ℕ). refl; lasts = λ (name : List ℕ). refl }

pub adds-did : (row : ℕ) (driver : List ℕ) (w : Word) (minutes : ℕ) → 1 ≤ minutes → minutes ≤ 10080 → Adds (Did row driver w minutes ∷ [])
adds-did row driver w minutes l h =
    let low : leb 1 minutes ≡ true = le-leb 1 minutes l in
    let high : leb minutes 10080 ≡ true = le-leb minutes 10080 h in
    record {
      ranges = rw high refl;
      rests = λ (name : List ℕ). refl;
      past_works = λ (name : List ℕ). refl;
      lasts = λ (name : List ℕ). elim (cases_Bool (bytes_eq driver name)) [
        | inl t ↦ rw (t, low) refl
        | inr f ↦ rw f refl
      ];
    }
