-- What is so of each row that a record is read as: its number, and a word of the form.
use Rattle.std.proofs.Common.{◌≡◌, ℕ, ℤ, ◌+◌, Bool, true, false, List, [], ◌∷◌, Result, Ok, Err, IfOk, if◌then◌else◌, refl, codes}
use Rattle.std.specs.List.{list_all}
use Rattle.std.specs.Str.{bytes_eq}
use Rattle.std.proofs.lemmas.Bool.{and_from, eq-eqb}
use Rattle.minute_line.specs.declared.dates.Monday.{Monday}
use Rattle.week_book.specs.declared.rows.Row.{Row}
use Rattle.week_book.specs.declared.rows.Row.TheVariants as row
use Rattle.week_book.specs.Faults.{row_number}
use Rattle.week_book.specs.Texts.{is_week, is_planned, is_checked, begins_with_week}
use Rattle.desk_csv.specs.declared.errors.Form.{Form}
use Rattle.desk_csv.specs.declared.errors.Form.TheVariants.{Plan, Check}
use Rattle.desk_csv.specs.declared.errors.CsvError.{CsvError}
use Rattle.desk_csv.specs.declared.errors.CsvError.TheVariants as fault
use Rattle.desk_csv.specs.declared.errors.CsvError.TheVariants.{Memory}
use Rattle.minute_line.specs.Answers.{Gives}
use Rattle.desk_csv.specs.Fields.{Record, ◌>>=◌, field, counted, number_at, numbers_at, monday_at, stamp_at}
use Rattle.desk_csv.specs.RowKinds.{week_at, place_at, leg_at, driver_at, rest_at, worked_at, marked_at, past_at, did_at, order_at, own_row_at, row_at}
use Rattle.desk_csv.specs.Reading.{first_monday, rows_from, rows_in, are_rows, are_numbered}
use Rattle.desk_csv.proofs.Begun.{bind_ok, ok_same}

-- a value that was read has the property
abbrev pub Yields : {A : Type 0} → (A → Type 0) → Result A CsvError → Type 0
Yields P (Ok x) = P x
Yields P (Err e) = Unit {0}

-- what comes next has the property, whatever was read before
after : {A B : Type 0} (P : B → Type 0) (read : Result A CsvError) (next : A → Result B CsvError) → ((x : A) → Yields P (next x)) → Yields P (read >>= next)
after P (Ok x) next h = h x
after P (Err e) next h = tt

-- the first of four words that fits, or else the rest
choice : (P : Row → Type 0) (a b c d : Bool) (w x y z rest : Result Row CsvError) → Yields P w → Yields P x → Yields P y → Yields P z → Yields P rest
    → Yields P (if a then w else if b then x else if c then y else if d then z else rest)
choice P true b c d w x y z rest h i j k l = h
choice P false true c d w x y z rest h i j k l = i
choice P false false true d w x y z rest h i j k l = j
choice P false false false true w x y z rest h i j k l = k
choice P false false false false w x y z rest h i j k l = l

alone : (P : Row → Type 0) (a : Bool) (w : Result Row CsvError) (e : CsvError) → Yields P w → Yields P (if a then w else Err e)
alone P true w e h = h
alone P false w e h = tt

-- a row that a text of the form may have
abbrev pub may_have : Form → Row → Bool
may_have Plan = is_planned
may_have Check = is_checked

-- the row has this number and a word of the form
pub record Belongs (form : Form) (n : ℕ) (r : Row) : Type 0 where
  pub number : row_number r ≡ n
  pub word : may_have form r ≡ true

in_both : (form : Form) (r : Row) → is_planned r ≡ true → is_checked r ≡ true → may_have form r ≡ true
in_both Plan r p q = p
in_both Check r p q = q

week_yields : (P : Row → Type 0) (n : ℕ) (fields : Record) → ((monday : Monday) (load night grid : ℕ) → P (row.Week n monday load night grid)) → Yields P (week_at n fields)
unfolding week_at
week_yields P n fields h =
    after P (counted n 5 fields) _ (λ count. after P (monday_at n 2 fields) _ (λ monday. after P (number_at n 3 fields) _ (λ load.
    after P (number_at n 4 fields) _ (λ night. after P (number_at n 5 fields) _ (λ grid. h monday load night grid)))))

place_belongs : (n : ℕ) (fields : Record) → Yields (Belongs Plan n) (place_at n fields)
unfolding place_at
place_belongs n fields = after (Belongs Plan n) (counted n 2 fields) _ (λ count. record { number = refl; word = refl })

leg_belongs : (n : ℕ) (fields : Record) → Yields (Belongs Plan n) (leg_at n fields)
unfolding leg_at
leg_belongs n fields =
    let P = Belongs Plan n in
    after P (counted n 5 fields) _ (λ count. after P (number_at n 4 fields) _ (λ minutes. after P (number_at n 5 fields) _ (λ cents. record { number = refl; word = refl })))

driver_belongs : (n : ℕ) (fields : Record) → Yields (Belongs Plan n) (driver_at n fields)
unfolding driver_at
driver_belongs n fields =
    let P = Belongs Plan n in
    after P (counted n 4 fields) _ (λ count. after P (number_at n 3 fields) _ (λ capacity. after P (number_at n 4 fields) _ (λ fee. record { number = refl; word = refl })))

order_belongs : (day : ℤ) (n : ℕ) (fields : Record) → Yields (Belongs Plan n) (order_at day n fields)
unfolding order_at
order_belongs day n fields =
    let P = Belongs Plan n in
    after P (counted n 8 fields) _ (λ count. after P (stamp_at day n 4 fields) _ (λ opens. after P (stamp_at day n 5 fields) _ (λ closes.
    after P (number_at n 6 fields) _ (λ service. after P (number_at n 7 fields) _ (λ kg. after P (number_at n 8 fields) _ (λ price. record { number = refl; word = refl }))))))

did_belongs : (n : ℕ) (fields : Record) → Yields (Belongs Check n) (did_at n fields)
unfolding did_at
did_belongs n fields =
    let P = Belongs Check n in
    after P (marked_at n fields) _ (λ said. after P (number_at n 4 fields) _ (λ minutes. record { number = refl; word = refl }))

rest_belongs : (form : Form) (day : ℤ) (n : ℕ) (fields : Record) → Yields (Belongs form n) (rest_at day n fields)
unfolding rest_at
rest_belongs form day n fields =
    let P = Belongs form n in
    after P (counted n 4 fields) _ (λ count. after P (stamp_at day n 3 fields) _ (λ end. after P (number_at n 4 fields) _ (λ minutes.
    record { number = refl; word = in_both form (row.Rest n (field 2 fields) end minutes) refl refl })))

worked_belongs : (form : Form) (n : ℕ) (fields : Record) → Yields (Belongs form n) (worked_at n fields)
unfolding worked_at
worked_belongs form n fields =
    let P = Belongs form n in
    after P (counted n 19 fields) _ (λ count. after P (number_at n 3 fields) _ (λ last. after P (numbers_at n 4 16 fields) _ (λ weeks.
    record { number = refl; word = in_both form (row.Worked n (field 2 fields) last weeks) refl refl })))

past_belongs : (form : Form) (n : ℕ) (fields : Record) → Yields (Belongs form n) (past_at n fields)
unfolding past_at
past_belongs form n fields =
    let P = Belongs form n in
    after P (marked_at n fields) _ (λ said. after P (number_at n 4 fields) _ (λ minutes.
    record { number = refl; word = in_both form (row.Past n (field 2 fields) said minutes) refl refl }))

own_belongs : (form : Form) (day : ℤ) (n : ℕ) (fields : Record) → Yields (Belongs form n) (own_row_at form day n fields)
unfolding own_row_at
own_belongs Plan day n fields =
    let is = λ (w : List ℕ). bytes_eq (field 1 fields) w in
    choice (Belongs Plan n) (is (codes "place")) (is (codes "leg")) (is (codes "driver")) (is (codes "order"))
    (place_at n fields) (leg_at n fields) (driver_at n fields) (order_at day n fields) (Err (fault.Word n))
    (place_belongs n fields) (leg_belongs n fields) (driver_belongs n fields) (order_belongs day n fields) tt
own_belongs Check day n fields = alone (Belongs Check n) (bytes_eq (field 1 fields) (codes "did")) (did_at n fields) (fault.Word n) (did_belongs n fields)

row_belongs : (form : Form) (day : ℤ) (n : ℕ) (fields : Record) → Yields (Belongs form n) (row_at form day n fields)
unfolding row_at
row_belongs form day n fields =
    let is = λ (w : List ℕ). bytes_eq (field 1 fields) w in
    choice (Belongs form n) (is (codes "week")) (is (codes "rest")) (is (codes "worked")) (is (codes "past"))
    (week_at n fields) (rest_at day n fields) (worked_at n fields) (past_at n fields) (own_row_at form day n fields)
    (week_yields (Belongs form n) n fields (λ monday load night grid. record { number = refl; word = in_both form (row.Week n monday load night grid) refl refl }))
    (rest_belongs form day n fields) (worked_belongs form n fields) (past_belongs form n fields) (own_belongs form day n fields)

-- rows that were read have words of the form, and are numbered
rows_belong : (form : Form) (day : ℤ) (n : ℕ) (rs : List Record) (rows : List Row) → rows_from form day n rs ≡ Ok rows
    → (list_all (may_have form) rows ≡ true) × (are_numbered n rows ≡ true)
unfolding rows_from
rows_belong form day n [] rows h = rw (← ok_same [] rows h) (refl, refl)
rows_belong form day n (r ∷ rs) rows h =
    let first = bind_ok (row_at form day n r) _ rows h in
    let rest = bind_ok (rows_from form day (n + 1) rs) _ rows first.2 in
    let one : Belongs form n first.0 = rw first.1 at (row_belongs form day n r) in
    let more = rows_belong form day (n + 1) rs rest.0 rest.1 in
    rw (← ok_same (first.0 ∷ rest.0) rows rest.2) (and_from _ _ one.word more.0, and_from _ _ (eq-eqb _ _ one.number) more.1)

week_row : (form : Form) (day : ℤ) (r : Record) → bytes_eq (field 1 r) (codes "week") ≡ true → Yields (λ x. is_week x ≡ true) (row_at form day 1 r)
unfolding row_at
week_row form day r e = rw e (week_yields (λ x. is_week x ≡ true) 1 r (λ monday load night grid. refl))

if_ok : {A : Type 0} (test : Bool) (read : Result A CsvError) (e : CsvError) (x : A) → (if test then read else Err e) ≡ Ok x → test ≡ true
if_ok true read e x h = refl
if_ok false read e x h = cc h

-- the first row is a week row
week_first : (form : Form) (rs : List Record) (monday : Monday) (rows : List Row) → first_monday rs ≡ Ok monday → rows_from form monday.day 1 rs ≡ Ok rows
    → begins_with_week rows ≡ true
unfolding first_monday rows_from
week_first form [] monday rows h is = cc h
week_first form (r ∷ rs) monday rows h is =
    let week = if_ok (bytes_eq (field 1 r) (codes "week")) (counted 1 5 r >>= λ count. monday_at 1 2 r) (fault.Word 1) monday h in
    let first = bind_ok (row_at form monday.day 1 r) _ rows is in
    let rest = bind_ok (rows_from form monday.day 2 rs) _ rows first.2 in
    let one : is_week first.0 ≡ true = rw first.1 at (week_row form monday.day r week) in
    rw (← ok_same (first.0 ∷ rest.0) rows rest.2) one

words_of : (form : Form) (rows : List Row) → begins_with_week rows ≡ true → list_all (may_have form) rows ≡ true → are_rows form rows ≡ true
words_of Plan rows p q = and_from _ _ p q
words_of Check rows p q = and_from _ _ p q

-- what a text's rows have for words and numbers
pub record WellRead (form : Form) (rows : List Row) : Type 0 where
  pub words : are_rows form rows ≡ true
  pub numbers : are_numbered 1 rows ≡ true

pub well_read : (form : Form) (rs : List Record) (result : Result (List Row) CsvError) → Gives Memory (λ rows. rows) result (rows_in form rs)
    → IfOk result (WellRead form)
unfolding rows_in
well_read form rs (Ok rows) h =
    let first = bind_ok (first_monday rs) _ rows h in
    let all = rows_belong form first.0.day 1 rs rows first.2 in
    record { words = words_of form rows (week_first form rs first.0 rows first.1 first.2) all.0; numbers = all.1 }
well_read form rs (Err e) h = tt

pub words : (form : Form) (result : Result (List Row) CsvError) → IfOk result (WellRead form) → IfOk result (λ rows. are_rows form rows ≡ true)
words form (Ok rows) h = h.words
words form (Err e) h = tt

pub numbers : (form : Form) (result : Result (List Row) CsvError) → IfOk result (WellRead form) → IfOk result (λ rows. are_numbered 1 rows ≡ true)
numbers form (Ok rows) h = h.numbers
numbers form (Err e) h = tt
