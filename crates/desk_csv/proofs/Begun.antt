-- Rows read one after the other, as a loop does.
use Rattle.std.proofs.Common.{◌≡◌, ◌∙◌, ℕ, suc, ◌+◌, List, [], ◌∷◌, ◌++◌, length, Option, Some, None, Result, Ok, Err, ℤ, refl, ap, arith}
use Rattle.minute_line.specs.declared.dates.Monday.{Monday}
use Rattle.week_book.specs.declared.rows.Row.{Row}
use Rattle.desk_csv.specs.declared.errors.Form.{Form}
use Rattle.desk_csv.specs.declared.errors.CsvError.{CsvError}
use Rattle.desk_csv.specs.declared.errors.CsvError.TheVariants as fault
use Rattle.desk_csv.specs.Fields.{Record, ◌>>=◌}
use Rattle.desk_csv.specs.RowKinds.{row_at}
use Rattle.desk_csv.specs.Reading.{rows_from, first_monday, monday_for, rows_in}

-- these rows were read of these records, and stamps count from this Monday
abbrev pub Begun : Form → List Record → List Row → Option Monday → Type 0
Begun form past rows None = (past ≡ []) × (rows ≡ [])
Begun form past rows (Some monday) = (first_monday past ≡ Ok monday) × (rows_from form monday.day 1 past ≡ Ok rows)

-- what was read, and what came next
pub bind_ok : {A B : Type 0} (read : Result A CsvError) (next : A → Result B CsvError) (y : B) → (read >>= next) ≡ Ok y → (x : A) × (read ≡ Ok x) × (next x ≡ Ok y)
bind_ok (Ok x) next y h = (x, refl, h)
bind_ok (Err e) next y h = cc h

pub ok_same : {A : Type 0} (x y : A) → ◌≡◌ {A = Result A CsvError} (Ok x) (Ok y) → x ≡ y
ok_same x y h = cc h

rows_first : (form : Form) (day : ℤ) (n : ℕ) (p : Record) (past : List Record) (row : Row) (rows : List Row)
    → row_at form day n p ≡ Ok row → rows_from form day (n + 1) past ≡ Ok rows → rows_from form day n (p ∷ past) ≡ Ok (row ∷ rows)
unfolding rows_from
rows_first form day n p past row rows is rest = rw (is, rest) refl

-- one more row
rows_more : (form : Form) (day : ℤ) (n : ℕ) (past : List Record) (rows : List Row) (r : Record) (row : Row)
    → rows_from form day n past ≡ Ok rows → row_at form day (n + length past) r ≡ Ok row → rows_from form day n (past ++ r ∷ []) ≡ Ok (rows ++ row ∷ [])
unfolding rows_from
rows_more form day n [] rows r row h is =
    let at : n + 0 ≡ n = omega arith in
    rw (← ok_same [] rows h, rw at at is) refl
rows_more form day n (p ∷ past) rows r row h is =
    let first = bind_ok (row_at form day n p) _ rows h in
    let rest = bind_ok (rows_from form day (n + 1) past) _ rows first.2 in
    let at : n + suc (length past) ≡ n + 1 + length past = omega arith in
    let more = rows_more form day (n + 1) past rest.0 r row rest.1 (rw at at is) in
    rows_first form day n p (past ++ r ∷ []) first.0 (rest.0 ++ row ∷ []) first.1 more
    ∙ ap (λ (t : List Row). Ok (t ++ row ∷ [])) (ok_same (first.0 ∷ rest.0) rows rest.2)

-- the next record has a fault
rows_fault : (form : Form) (day : ℤ) (n : ℕ) (past : List Record) (rows : List Row) (r : Record) (more : List Record) (e : CsvError)
    → rows_from form day n past ≡ Ok rows → row_at form day (n + length past) r ≡ Err e → rows_from form day n (past ++ r ∷ more) ≡ Err e
unfolding rows_from
rows_fault form day n [] rows r more e h is =
    let at : n + 0 ≡ n = omega arith in
    rw (rw at at is) refl
rows_fault form day n (p ∷ past) rows r more e h is =
    let first = bind_ok (row_at form day n p) _ rows h in
    let rest = bind_ok (rows_from form day (n + 1) past) _ rows first.2 in
    let at : n + suc (length past) ≡ n + 1 + length past = omega arith in
    let fails = rows_fault form day (n + 1) past rest.0 r more e rest.1 (rw at at is) in
    rw (first.1, fails) refl

-- each record has one row
rows_length : (form : Form) (day : ℤ) (n : ℕ) (past : List Record) (rows : List Row) → rows_from form day n past ≡ Ok rows → length rows ≡ length past
unfolding rows_from
rows_length form day n [] rows h = rw (← ok_same [] rows h) refl
rows_length form day n (p ∷ past) rows h =
    let first = bind_ok (row_at form day n p) _ rows h in
    let rest = bind_ok (rows_from form day (n + 1) past) _ rows first.2 in
    rw (← ok_same (first.0 ∷ rest.0) rows rest.2) (ap suc (rows_length form day (n + 1) past rest.0 rest.1))

-- records after the first change no Monday
first_more : (past more : List Record) (monday : Monday) → first_monday past ≡ Ok monday → first_monday (past ++ more) ≡ Ok monday
unfolding first_monday
first_more [] more monday h = cc h
first_more (p ∷ past) more monday h = h

pub begun_length : (form : Form) (past : List Record) (rows : List Row) (first : Option Monday) → Begun form past rows first → length rows ≡ length past
begun_length form past rows None h = rw (h.0, h.1) refl
begun_length form past rows (Some monday) h = rows_length form monday.day 1 past rows h.1

-- a record was read as a row
pub begun_more : (form : Form) (past : List Record) (rows : List Row) (first : Option Monday) (r : Record) (monday : Monday) (row : Row)
    → Begun form past rows first → monday_for first r ≡ Ok monday → row_at form monday.day (length past + 1) r ≡ Ok row
    → Begun form (past ++ r ∷ []) (rows ++ row ∷ []) (Some monday)
unfolding rows_from
begun_more form past rows None r monday row h found is = rw (h.0, h.1) (found, rw (rw h.0 at is) refl)
begun_more form past rows (Some m) r monday row h found is =
    let same = ok_same m monday found in
    let at : length past + 1 ≡ 1 + length past = omega arith in
    let begun : Begun form past rows (Some monday) = rw (← same) h in
    (first_more past (r ∷ []) monday begun.0, rows_more form monday.day 1 past rows r row begun.1 (rw at at is))

-- a record has no Monday where stamps need one
pub begun_no_monday : (form : Form) (past : List Record) (rows : List Row) (first : Option Monday) (r : Record) (more : List Record) (e : CsvError)
    → Begun form past rows first → monday_for first r ≡ Err e → rows_in form (past ++ r ∷ more) ≡ Err e
unfolding rows_in first_monday
begun_no_monday form past rows None r more e h found = rw (h.0, found) refl
begun_no_monday form past rows (Some m) r more e h found = cc found

-- a record has a fault
pub begun_fault : (form : Form) (past : List Record) (rows : List Row) (first : Option Monday) (r : Record) (more : List Record) (monday : Monday) (e : CsvError)
    → Begun form past rows first → monday_for first r ≡ Ok monday → row_at form monday.day (length past + 1) r ≡ Err e
    → rows_in form (past ++ r ∷ more) ≡ Err e
unfolding rows_in rows_from first_monday
begun_fault form past rows None r more monday e h found is = rw (h.0, found, rw h.0 at is) refl
begun_fault form past rows (Some m) r more monday e h found is =
    let same = ok_same m monday found in
    let at : length past + 1 ≡ 1 + length past = omega arith in
    let begun : Begun form past rows (Some monday) = rw (← same) h in
    rw (first_more past (r ∷ more) monday begun.0, rows_fault form monday.day 1 past rows r more e begun.1 (rw at at is)) refl

-- all records were read
pub begun_all : (form : Form) (past : List Record) (rows : List Row) (monday : Monday) → Begun form past rows (Some monday) → rows_in form past ≡ Ok rows
unfolding rows_in
begun_all form past rows monday h = rw (h.0, h.1) refl

-- there was none
pub begun_none : (form : Form) (past : List Record) (rows : List Row) → Begun form past rows None → rows_in form past ≡ Err (fault.Word 1)
unfolding rows_in first_monday
begun_none form past rows h = rw h.0 refl
