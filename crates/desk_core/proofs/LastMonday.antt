-- The week of a text begins on a Monday of the years 2000 to 2099: on 2099-12-28 at the latest.
use Rattle.std.proofs.Common.{◌≡◌, refl, ap, arith, ℕ, pos, ◌≤ℤ◌, List, [], ◌∷◌, Option, Some, None, Result, Ok, Err, Bool, true, false, if◌then◌else◌, codes}
use Rattle.std.specs.Option.{ok_or, option_map_or}
use Rattle.std.specs.Str.{bytes_eq, is_utf8}
use Rattle.jiff_core.specs.Calendar.{day_count}
use Rattle.jiff_core.proofs.SignedLemmas.{signed_arith}
use Rattle.jiff_core.proofs.CalendarLemmas.{day_count-lt_year, days_from_civil-day_count, weekday_number-parts}
use Rattle.jiff_core.proofs.MarchLemmas.{day_count-early}
use Rattle.minute_line.specs.declared.dates.Monday.{Monday}
use Rattle.minute_line.specs.DateText.{IsDateText, four_at, two_at, text_day}
use Rattle.week_book.specs.declared.rows.Row.{Row}
use Rattle.week_book.specs.declared.rows.Row.TheVariants as row
use Rattle.week_book.specs.declared.weeks.Week.{Week}
use Rattle.week_book.specs.declared.errors.WeekError.{WeekError}
use Rattle.week_book.specs.Checking.{fault_of, week_made, week_of}
use Rattle.desk_csv.specs.declared.errors.Form.{Form}
use Rattle.desk_csv.specs.declared.errors.CsvError.{CsvError}
use Rattle.desk_csv.specs.declared.errors.CsvError.TheVariants as fault
use Rattle.desk_csv.specs.DateTests.{is_day_text, monday_of}
use Rattle.desk_csv.specs.Fields.{Record, ◌>>=◌, field, counted, number_at, monday_said, monday_at}
use Rattle.desk_csv.specs.RowKinds.{week_at, row_at}
use Rattle.desk_csv.specs.Reading.{first_monday, rows_from, rows_in, rows_of, records_of}
use Rattle.desk_csv.proofs.Begun.{bind_ok, ok_same}
use Rattle.desk_csv.proofs.DateFields.{monday_day}
use Rattle.desk_csv.proofs.DateLemmas.{day_fact}

day_count-2100 : day_count (pos 2100) 1 1 ≡ 4_419_435
day_count-2100 = day_count-early (pos 2100) 12099 1 1 refl (omega arith) (omega arith) (omega arith)

last_day : (t : List ℕ) → IsDateText 2000 2099 t → text_day t ≤ℤ pos 47481
unfolding IsDateText
last_day t h =
    omega (
      arith,
      signed_arith,
      day_count-2100,
      days_from_civil-day_count (pos (four_at t 0)) (two_at t 5) (two_at t 8),
      day_count-lt_year (pos (four_at t 0)) (two_at t 5) (two_at t 8) (pos 2100) 1 1 h.2 (omega arith) (omega (arith, signed_arith, h.1)),
    )

last_monday : (m : Monday) → m.day ≤ℤ pos 47481 → m.day ≤ℤ pos 47478
last_monday m h = omega (arith, signed_arith, m.day_in.0, m.is_monday, weekday_number-parts m.day)

some_ok : (o : Option Monday) (e : CsvError) (m : Monday) → ok_or o e ≡ Ok m → o ≡ Some m
some_ok (Some x) e m h = ap Some (ok_same x m h)
some_ok None e m h = cc h

-- the Monday of a text that is a day
of_text : (t : List ℕ) (is : Bool) (m : Monday) → is_day_text t ≡ is → (if is then monday_of (text_day t) else None) ≡ Some m → m.day ≤ℤ pos 47478
of_text t true m same h =
    let day : m.day ≡ text_day t = monday_day (text_day t) m h in
    last_monday m (rw day (last_day t (day_fact t same).1))
of_text t false m same h = cc h

of_said : (t : List ℕ) (m : Monday) → monday_said t ≡ Some m → m.day ≤ℤ pos 47478
unfolding monday_said
of_said t m h = of_text t (is_day_text t) m refl h

of_field : (n k : ℕ) (fields : Record) (m : Monday) → monday_at n k fields ≡ Ok m → m.day ≤ℤ pos 47478
unfolding monday_at
of_field n k fields m h = of_said (field k fields) m (some_ok (monday_said (field k fields)) (fault.Stamp n k) m h)

-- a week row has such a Monday
abbrev HasMonday : Row → Type 0
HasMonday (row.Week n monday load night grid) = monday.day ≤ℤ pos 47478
HasMonday _ = Unit {0}

of_week : (n : ℕ) (fields : Record) (x : Row) → week_at n fields ≡ Ok x → HasMonday x
unfolding week_at
of_week n fields x h =
    let count = bind_ok (counted n 5 fields) _ x h in
    let monday = bind_ok (monday_at n 2 fields) _ x count.2 in
    let load = bind_ok (number_at n 3 fields) _ x monday.2 in
    let night = bind_ok (number_at n 4 fields) _ x load.2 in
    let grid = bind_ok (number_at n 5 fields) _ x night.2 in
    rw (← ok_same (row.Week n monday.0 load.0 night.0 grid.0) x grid.2) (of_field n 2 fields monday.0 monday.1)

-- rows begin with such a row
abbrev BeginWell : List Row → Type 0
BeginWell [] = Unit {0}
BeginWell (x ∷ rows) = HasMonday x

of_first : (form : Form) (day : _) (fields : Record) (x : Row) → bytes_eq (field 1 fields) (codes "week") ≡ true → row_at form day 1 fields ≡ Ok x → HasMonday x
unfolding row_at
of_first form day fields x week h = of_week 1 fields x (rw week at h)

if_ok : {A : Type 0} (test : Bool) (read : Result A CsvError) (e : CsvError) (x : A) → (if test then read else Err e) ≡ Ok x → (test ≡ true) × (read ≡ Ok x)
if_ok true read e x h = (refl, h)
if_ok false read e x h = cc h

of_records : (form : Form) (rs : List Record) (monday : Monday) (rows : List Row) → first_monday rs ≡ Ok monday → rows_from form monday.day 1 rs ≡ Ok rows → BeginWell rows
unfolding first_monday rows_from
of_records form [] monday rows h is = cc h
of_records form (r ∷ rs) monday rows h is =
    let week = if_ok (bytes_eq (field 1 r) (codes "week")) (counted 1 5 r >>= λ count. monday_at 1 2 r) (fault.Word 1) monday h in
    let first = bind_ok (row_at form monday.day 1 r) _ rows is in
    let rest = bind_ok (rows_from form monday.day 2 rs) _ rows first.2 in
    rw (← ok_same (first.0 ∷ rest.0) rows rest.2) (of_first form monday.day r first.0 week.0 first.1)

of_rows : (form : Form) (rs : List Record) (rows : List Row) → rows_in form rs ≡ Ok rows → BeginWell rows
unfolding rows_in
of_rows form rs rows h =
    let monday = bind_ok (first_monday rs) _ rows h in
    of_records form rs monday.0 rows monday.1 monday.2

week_ok : (x y : Week) → ◌≡◌ {A = Result Week WeekError} (Ok x) (Ok y) → x ≡ y
week_ok x y h = cc h

of_made : (rows all : List Row) (week : Week) → BeginWell rows → week_made all rows ≡ Ok week → week.monday.day ≤ℤ pos 47478
of_made [] all week begin h = cc h
of_made (row.Week n monday load night grid ∷ rows) all week begin h = rw (← week_ok _ week h) begin
of_made (x ∷ rows) all week begin h = cc h

no_fault : (o : Option WeekError) (made : Result Week WeekError) (week : Week) → option_map_or Err o made ≡ Ok week → made ≡ Ok week
no_fault None made week h = h
no_fault (Some e) made week h = cc h

-- the week of a text that is read
pub monday_in_time : (form : Form) (text : List ℕ) (rows : List Row) (week : Week) → rows_of form text ≡ Ok rows → week_of rows ≡ Ok week → week.monday.day ≤ℤ pos 47478
monday_in_time form text rows week read made =
    let valid = if_ok (is_utf8 text) (rows_in form (records_of text)) (fault.Utf8 _) rows read in
    of_made rows rows week (of_rows form (records_of text) rows valid.1) (no_fault (fault_of rows) (week_made rows rows) week made)
