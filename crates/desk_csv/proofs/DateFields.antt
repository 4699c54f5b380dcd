-- The Monday and the stamp of a field, from what minute_line answers.
use Rattle.std.proofs.Common.{◌≡◌, ◌∙◌, ◌↔◌, ℕ, ℤ, pos, Bool, true, false, List, Option, Some, None, IsSome, IfSome, Ok, Err, if◌then◌else◌, refl, sym, ap}
use Rattle.std.specs.Option.{ok_or}
use Rattle.std.proofs.Math.Dec.{T, T_prop}
use Rattle.std.proofs.Math.Bool.{Bool-set}
use Rattle.std.proofs.Math.Nat.{ℕ_set}
use Rattle.std.proofs.lemmas.Bool.{eq-eqb, false≢true, false_from_ne_true}
use Rattle.jiff_core.specs.Calendar.{weekday_number, IsBetween}
use Rattle.minute_line.specs.Answers.{Gives}
use Rattle.minute_line.specs.DateText.{IsMondayText, IsStampText, text_day, stamp_minutes}
use Rattle.minute_line.specs.declared.dates.Monday.{Monday}
use Rattle.desk_csv.specs.declared.errors.CsvError.{CsvError}
use Rattle.desk_csv.specs.declared.errors.CsvError.TheVariants.{Memory}
use Rattle.desk_csv.specs.DateTests.{is_day_text, is_stamp_text, monday_of, where_true}
use Rattle.desk_csv.specs.Fields.{monday_said}
use Rattle.desk_csv.proofs.DateLemmas.{stamp_test, stamp_fact, day_fact, day_test}

true_of : (b : Bool) → T b → b ≡ true
true_of true t = refl
true_of false t = absurd t

where_true-some : {A : Type 0} (b : Bool) (make : b ≡ true → Option A) (x : A) (e : b ≡ true) → make e ≡ Some x → where_true b make ≡ Some x
unfolding where_true
where_true-some true make x e is = ap make (Bool-set _ _ refl e) ∙ is
where_true-some false make x e is = cc e

where_true-given : {A : Type 0} (b : Bool) (make : b ≡ true → Option A) (x : A) → where_true b make ≡ Some x → (e : b ≡ true) × (make e ≡ Some x)
unfolding where_true
where_true-given true make x h = (refl, h)
where_true-given false make x h = cc h

between_prop : (low high z : ℤ) → IsProp (IsBetween low high z)
between_prop low high z = hlevel T_prop

-- the facts of a Monday tell no Mondays apart
same_monday : (day : ℤ) (a b : IsBetween (pos 10957) (pos 47485) day) (p q : weekday_number day ≡ 0)
    → ◌≡◌ {A = Option Monday} (Some (record { day = day; day_in = a; is_monday = p })) (Some (record { day = day; day_in = b; is_monday = q }))
same_monday day a b p q =
    λ i. Some (record { day = day; day_in = between_prop (pos 10957) (pos 47485) day a b i; is_monday = ℕ_set _ _ p q i })

-- a Monday is the one of its day number
pub monday_again : (m : Monday) → monday_of m.day ≡ Some m
unfolding monday_of
monday_again m =
    where_true-some _ _ m (true_of _ m.day_in.0.le) (
    where_true-some _ _ m (true_of _ m.day_in.1.le) (where_true-some _ _ m (eq-eqb _ _ m.is_monday) (same_monday m.day _ m.day_in _ m.is_monday))
    )

some_same : {A : Type 0} (x y : A) → ◌≡◌ {A = Option A} (Some x) (Some y) → x ≡ y
some_same x y h = cc h

-- the Monday of a day number has that number
pub monday_day : (day : ℤ) (m : Monday) → monday_of day ≡ Some m → m.day ≡ day
unfolding monday_of
monday_day day m h =
    let low = where_true-given _ _ m h in
    let high = where_true-given _ _ m low.1 in
    let zero = where_true-given _ _ m high.1 in
    sym (ap (λ (x : Monday). x.day) (some_same _ m zero.1))

-- a text that is no Monday gives none
no_monday : (t : List ℕ) (is : Bool) (o : Option Monday) → is_day_text t ≡ is → monday_of (text_day t) ≡ o → ¬ (IsMondayText t)
    → (if is then o else None) ≡ None
no_monday t false o same given none = refl
no_monday t true None same given none = refl
no_monday t true (Some m) same given none =
    let day = day_fact t same in
    absurd (none (day.0, day.1, rw (monday_day (text_day t) m given) at m.is_monday))

-- the Monday of a text is the one that its test gives
pub monday_of_text : (t : List ℕ) (o : Option Monday) → IsSome o ↔ IsMondayText t → IfSome o (λ m. m.day ≡ text_day t) → o ≡ monday_said t
unfolding monday_said
monday_of_text t (Some m) some is = rw (day_test t (some.0 refl), ← is, monday_again m) refl
monday_of_text t None some is = sym (no_monday t _ _ refl refl (λ h. false≢true (some.1 h)))

-- the stamp of a field
pub stamp_in_field : (day : ℤ) (t : List ℕ) (e : CsvError) (o : Option ℤ) → IsSome o ↔ IsStampText t → IfSome o (λ x. x ≡ stamp_minutes day t)
    → Gives Memory (λ x. x) (ok_or o e) (if is_stamp_text t then Ok (stamp_minutes day t) else Err e)
stamp_in_field day t e (Some x) some is = rw (stamp_test t (some.0 refl), is) refl
stamp_in_field day t e None some is =
    let none : is_stamp_text t ≡ false = false_from_ne_true _ (λ h. false≢true (some.1 (stamp_fact t h))) in
    λ memory. rw none refl
