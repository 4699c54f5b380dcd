-- What is gathered of the drivers' histories.
use Rattle.std.proofs.Common.{◌≡◌, ◌⊎◌, ◌∙◌, inl, inr, refl, sym, ap, arith, ℕ, zero, suc, ◌<◌, List, [], ◌∷◌, ◌++◌, length, slice_get, Option, Some, None, Result, Ok, Err, IsOk, IfOk, map, append_assoc}
use Rattle.std.specs.Option.{option_or}
use Rattle.std.proofs.lemmas.List.{append-nil, length-map}
use Rattle.minute_line.specs.declared.lines.History.{History}
use Rattle.minute_line.specs.Histories.{Fields, fields_of}
use Rattle.week_book.specs.declared.rows.Row.{Row}
use Rattle.week_book.specs.declared.weeks.Driver.{Driver}
use Rattle.driver_history.specs.declared.errors.HistoryError.{HistoryError}
use Rattle.driver_history.specs.Reading.{past_said as history_in}
use Rattle.desk_core.specs.declared.refusals.Refusal.{Refusal}
use Rattle.desk_core.specs.declared.refusals.Refusal.TheVariants as because
use Rattle.desk_core.specs.declared.refusals.Stop.{Stop}
use Rattle.desk_core.specs.Refusing.{◌>>=◌, Meets, refuse}
use Rattle.desk_core.specs.Planning.{Gathered, nobody, with_driver, all_said, past_or_refusal, pasts_said, histories_said}
use Rattle.desk_core.specs.Laws.{EachIsRead, AreTheirs, IsFirstWithout, IsFirstRefused}

-- what was said before, and what came next
pub then_ok : {A B : Type 0} (said : Result A Refusal) (next : A → Result B Refusal) (y : B) → (said >>= next) ≡ Ok y → (x : A) × (said ≡ Ok x) × (next x ≡ Ok y)
then_ok (Ok x) next y h = (x, refl, h)
then_ok (Err e) next y h = cc h

-- what was refused, at first or next
then_err : {A B : Type 0} (said : Result A Refusal) (next : A → Result B Refusal) (e : Refusal) → (said >>= next) ≡ Err e
    → (said ≡ Err e) ⊎ ((x : A) × (said ≡ Ok x) × (next x ≡ Err e))
then_err (Ok x) next e h = inr (x, refl, h)
then_err (Err f) next e h = let same : f ≡ e = cc in inl (ap Err same)

-- each of these drivers' rows make a history or are none
all_read : (rows : List Row) (g after : Gathered) (drivers : List Driver) → pasts_said rows g drivers ≡ Ok after → EachIsRead rows drivers
all_read rows g after [] h k driver there = cc
all_read rows g after (d ∷ ds) h zero driver there =
    let first = then_ok (past_or_refusal rows d.name) _ after h in
    let same : d ≡ driver = cc in rw (← same, first.1) refl
all_read rows g after (d ∷ ds) h (suc k) driver there =
    let first = then_ok (past_or_refusal rows d.name) _ after h in
    all_read rows (with_driver g d.name first.0) after ds first.2 k driver there

-- no driver is missing, and these histories come after those so far
pub record Gathers (rows : List Row) (g : Gathered) (drivers : List Driver) (after : Gathered) : Type 0 where
  pub none_before : g.missing ≡ None
  pub more : List Fields
  pub past : after.past ≡ g.past ++ more
  pub each : length more ≡ length drivers
  pub theirs : AreTheirs rows drivers more

gathers_step : (rows : List Row) (g after : Gathered) (d : Driver) (ds : List Driver) (past : Option Fields) → past_or_refusal rows d.name ≡ Ok past
    → Gathers rows (with_driver g d.name past) ds after → Gathers rows g (d ∷ ds) after
gathers_step rows g after d ds (Some history) e rest = record {
  none_before = rest.none_before;
  more = history ∷ rest.more;
  past = rest.past ∙ append_assoc g.past (history ∷ []) rest.more;
  each = ap suc rest.each;
  theirs = theirs;
}
  where
    theirs : AreTheirs rows (d ∷ ds) (history ∷ rest.more)
    theirs zero driver fields there that = let same : d ≡ driver = cc in let is : history ≡ fields = cc in rw (← same, ← is) e
    theirs (suc k) driver fields there that = rest.theirs k driver fields there that
gathers_step rows g after d ds None e rest = no_driver g.missing rest.none_before
  where
    no_driver : (missing : Option (List ℕ)) → option_or missing (Some d.name) ≡ None → Gathers rows g (d ∷ ds) after
    no_driver None h = cc h
    no_driver (Some name) h = cc h

gathers : (rows : List Row) (g after : Gathered) (drivers : List Driver) → pasts_said rows g drivers ≡ Ok after → after.missing ≡ None → Gathers rows g drivers after
gathers rows g after [] h none =
    let same : g ≡ after = cc in record {
      none_before = ap (λ (x : Gathered). x.missing) same ∙ none;
      more = [];
      past = ap (λ (x : Gathered). x.past) (sym same) ∙ sym (append-nil g.past);
      each = refl;
      theirs = λ k driver history there that. cc;
    }
gathers rows g after (d ∷ ds) h none =
    let first = then_ok (past_or_refusal rows d.name) _ after h in
    gathers_step rows g after d ds first.0 first.1 (gathers rows (with_driver g d.name first.0) after ds first.2 none)

-- the driver who is missing was so before, or is the first of these who has no history
AreMissing : List Row → Gathered → List Driver → List ℕ → Type 0
AreMissing rows g drivers name = (g.missing ≡ Some name) ⊎ ((g.missing ≡ None) × IsFirstWithout rows drivers name)

missing_step : (rows : List Row) (g : Gathered) (d : Driver) (ds : List Driver) (name : List ℕ) (past : Option Fields) → past_or_refusal rows d.name ≡ Ok past
    → AreMissing rows (with_driver g d.name past) ds name → AreMissing rows g (d ∷ ds) name
unfolding AreMissing
missing_step rows g d ds name (Some history) e (inl before) = inl before
missing_step rows g d ds name (Some history) e (inr (none, first)) = inr (
  none,
  record {
    number = suc first.number;
    driver = first.driver;
    there = first.there;
    named = first.named;
    without = first.without;
    before = before;
  },
)
  where
    before : (k : ℕ) (other : Driver) → k < suc first.number → slice_get (d ∷ ds) k ≡ Some other
        → (found : Fields) × (past_or_refusal rows other.name ≡ Ok (Some found))
    before zero other below there = let same : d ≡ other = cc in (history, rw (← same) e)
    before (suc k) other below there = first.before k other (omega arith) there
missing_step rows g d ds name None e (inl now) = by_before g.missing refl now
  where
    by_before : (missing : Option (List ℕ)) → g.missing ≡ missing → option_or missing (Some d.name) ≡ Some name → AreMissing rows g (d ∷ ds) name
    by_before (Some x) is now = inl (is ∙ now)
    by_before None is now = let same : d.name ≡ name = cc in inr (
      is,
      record {
        number = 0;
        driver = d;
        there = refl;
        named = same;
        without = rw (← same) e;
        before = λ k other below there. absurd (omega arith);
      },
    )
missing_step rows g d ds name None e (inr (none, first)) = by_before g.missing none
  where
    by_before : (missing : Option (List ℕ)) → option_or missing (Some d.name) ≡ None → AreMissing rows g (d ∷ ds) name
    by_before None h = cc h
    by_before (Some x) h = cc h

missing : (rows : List Row) (g after : Gathered) (drivers : List Driver) (name : List ℕ) → pasts_said rows g drivers ≡ Ok after → after.missing ≡ Some name
    → AreMissing rows g drivers name
unfolding AreMissing
missing rows g after [] name h some =
    let same : g ≡ after = cc in inl (ap (λ (x : Gathered). x.missing) same ∙ some)
missing rows g after (d ∷ ds) name h some =
    let first = then_ok (past_or_refusal rows d.name) _ after h in
    missing_step rows g d ds name first.0 first.1 (missing rows (with_driver g d.name first.0) after ds name first.2 some)

all_ok : (g : Gathered) (m : Option (List ℕ)) (past : List Fields) → g.missing ≡ m → all_said g ≡ Ok past → (g.missing ≡ None) × (g.past ≡ past)
all_ok g (Some name) past is h = let bad : all_said g ≡ Err (because.NoHistory name) = rw is refl in cc
all_ok g None past is h = let same : all_said g ≡ Ok g.past = rw is refl in (is, cc)

all_err : (g : Gathered) (m : Option (List ℕ)) (e : Refusal) → g.missing ≡ m → all_said g ≡ Err e → (name : List ℕ) × (g.missing ≡ Some name) × (e ≡ because.NoHistory name)
all_err g (Some name) e is h = let same : all_said g ≡ Err (because.NoHistory name) = rw is refl in (name, is, cc)
all_err g None e is h = let bad : all_said g ≡ Ok g.past = rw is refl in cc

pub each_has_its_history : (rows : List Row) (drivers : List Driver) (past : List Fields) → histories_said rows drivers ≡ Ok past
    → (length past ≡ length drivers) × AreTheirs rows drivers past
each_has_its_history rows drivers past h =
    let all = then_ok (pasts_said rows nobody drivers) all_said past h in
    let ok = all_ok all.0 all.0.missing past refl all.2 in
    let g = gathers rows nobody all.0 drivers all.1 ok.0 in
    let same : past ≡ g.more = cc (ok.1, g.past) in
    rw same (g.each, g.theirs)

-- a refusal that is said of a driver's rows is of that driver
refused_of : (rows : List Row) (name : List ℕ) (r : Result (Option Fields) HistoryError) (e : Refusal) → refuse (because.Past name) r ≡ Err e
    → (error : HistoryError) × (e ≡ because.Past name error)
refused_of rows name (Ok past) e h = cc h
refused_of rows name (Err error) e h = (error, cc)

-- the first driver whose rows are refused
pub first_refused : (rows : List Row) (g : Gathered) (drivers : List Driver) (e : Refusal) → pasts_said rows g drivers ≡ Err e
    → (name : List ℕ) × (error : HistoryError) × (e ≡ because.Past name error) × IsFirstRefused rows drivers name error
first_refused rows g [] e h = cc h
first_refused rows g (d ∷ ds) e h = elim (then_err (past_or_refusal rows d.name) (λ past. pasts_said rows (with_driver g d.name past) ds) e h) [
  | inl here ↦
      let of = refused_of rows d.name (history_in d.name rows) e here in (
        d.name,
        of.0,
        of.1,
        record {
          number = 0;
          driver = d;
          there = refl;
          named = refl;
          refused = here ∙ ap Err of.1;
          before = λ k other below there. absurd (omega arith);
        },
      )
  | inr later ↦ first_later rows d ds e later.0 later.1 (first_refused rows (with_driver g d.name later.0) ds e later.2)
]
  where
    first_later : (rows : List Row) (d : Driver) (ds : List Driver) (e : Refusal) (past : Option Fields) → past_or_refusal rows d.name ≡ Ok past
        → (name : List ℕ) × (error : HistoryError) × (e ≡ because.Past name error) × IsFirstRefused rows ds name error
        → (name : List ℕ) × (error : HistoryError) × (e ≡ because.Past name error) × IsFirstRefused rows (d ∷ ds) name error
    first_later rows d ds e past is (name, error, told, first) = (
      name,
      error,
      told,
      record {
        number = suc first.number;
        driver = first.driver;
        there = first.there;
        named = first.named;
        refused = first.refused;
        before = before;
      },
    )
      where
        before : (k : ℕ) (other : Driver) → k < suc first.number → slice_get (d ∷ ds) k ≡ Some other → IsOk (past_or_refusal rows other.name)
        before zero other below there = let same : d ≡ other = cc in rw (← same, is) refl
        before (suc k) other below there = first.before k other (omega arith) there

pub first_without_is_named : (rows : List Row) (drivers : List Driver) (name : List ℕ) → histories_said rows drivers ≡ Err (because.NoHistory name)
    → IsFirstWithout rows drivers name × EachIsRead rows drivers
unfolding AreMissing
first_without_is_named rows drivers name h = elim (then_err (pasts_said rows nobody drivers) all_said (because.NoHistory name) h) [
  | inl refused ↦ let first = first_refused rows nobody drivers (because.NoHistory name) refused in let told = first.2 in cc
  | inr all ↦
      let named = all_err all.0 all.0.missing (because.NoHistory name) refl all.2 in
      let told = named.2 in
      let same : named.0 ≡ name = cc in
      (of_missing (missing rows nobody all.0 drivers name all.1 (named.1 ∙ ap Some same)), all_read rows nobody all.0 drivers all.1)
]
  where
    of_missing : AreMissing rows nobody drivers name → IsFirstWithout rows drivers name
    of_missing (inl before) = cc before
    of_missing (inr (none, first)) = first

same_first : (rows : List Row) (drivers : List Driver) (one name : List ℕ) (cause error : HistoryError) → one ≡ name → cause ≡ error
    → IsFirstRefused rows drivers one cause → IsFirstRefused rows drivers name error
same_first rows drivers one name cause error n e first = rw (← n, ← e) first

pub first_refused_is_told : (rows : List Row) (drivers : List Driver) (name : List ℕ) (error : HistoryError)
    → histories_said rows drivers ≡ Err (because.Past name error) → IsFirstRefused rows drivers name error
first_refused_is_told rows drivers name error h = elim (then_err (pasts_said rows nobody drivers) all_said (because.Past name error) h) [
  | inl refused ↦
      let first = first_refused rows nobody drivers (because.Past name error) refused in
      let told = first.2 in
      let named : first.0 ≡ name = cc in
      let caused : first.1 ≡ error = cc in
      same_first rows drivers first.0 name first.1 error named caused first.3
  | inr all ↦ let named = all_err all.0 all.0.missing (because.Past name error) refl all.2 in let told = named.2 in cc
]

-- the histories that were read are one a driver
pub one_each : (rows : List Row) (drivers : List Driver) (g : Gathered) (read : Result (List History) Stop) → pasts_said rows nobody drivers ≡ Ok g
    → Meets (λ past. map fields_of past) read (all_said g) → IfOk read (λ past. length past ≡ length drivers)
one_each rows drivers g (Ok past) said meets =
    let all : histories_said rows drivers ≡ Ok (map fields_of past) = rw said meets in
    let law = each_has_its_history rows drivers (map fields_of past) all in
    omega (arith, law.0, length-map past fields_of)
one_each rows drivers g (Err stop) said meets = tt
