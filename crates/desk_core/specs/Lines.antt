-- The line that says why a command is refused.
use Rattle.std.specs.Prelude.{◌≡◌, ℕ, ℤ, Option, Some, None, IfSome, List, [], ◌∷◌, codes}
use Rattle.std.specs.Fmt.{decimal}
use Rattle.minute_line.specs.Writing.{with_line}
use Rattle.minute_line.specs.DateWriting.{IsDayText}
use Rattle.desk_csv.specs.declared.errors.CsvError.{CsvError}
use Rattle.desk_csv.specs.declared.errors.CsvError.TheVariants as csv
use Rattle.week_book.specs.declared.errors.What.{What}
use Rattle.week_book.specs.declared.errors.What.TheVariants.{Places, Legs, Drivers as Lorries, Orders}
use Rattle.week_book.specs.declared.errors.WeekError.{WeekError}
use Rattle.week_book.specs.declared.errors.WeekError.TheVariants as week
use Rattle.driver_history.specs.declared.errors.HistoryError.{HistoryError}
use Rattle.driver_history.specs.declared.errors.HistoryError.TheVariants as past
use Rattle.driver_history.specs.declared.errors.LineError.{LineError}
use Rattle.driver_history.specs.declared.errors.LineError.TheVariants as line
use Rattle.desk_core.specs.declared.refusals.Refusal.{Refusal}
use Rattle.desk_core.specs.declared.refusals.Refusal.TheVariants.{Long, Csv, Week, Past, Line, Published, NoDraft, Stale, Moved, Kept, Later, NoHistory, DraftsFull}

-- the line for a keeper that failed
abbrev pub keeper_fault_line : List ℕ
keeper_fault_line = codes "refused keeper\n"

-- a line's words, each as its bytes
abbrev pub Words : Type 0
Words = List (List ℕ)

-- why a text has no rows
abbrev pub csv_words : CsvError → Words
csv_words (csv.Utf8 byte) = codes "utf8" ∷ decimal byte ∷ []
csv_words (csv.Word row) = codes "word" ∷ decimal row ∷ []
csv_words (csv.Fields row n) = codes "fields" ∷ decimal row ∷ decimal n ∷ []
csv_words (csv.Number row field) = codes "number" ∷ decimal row ∷ decimal field ∷ []
csv_words (csv.Stamp row field) = codes "stamp" ∷ decimal row ∷ decimal field ∷ []
csv_words csv.Memory = []

-- what there is too much of
abbrev pub what_word : What → List ℕ
what_word Places = codes "places"
what_word Legs = codes "legs"
what_word Lorries = codes "drivers"
what_word Orders = codes "orders"

-- why rows make no week
abbrev pub week_words : WeekError → Words
week_words (week.Count what n) = codes "count" ∷ what_word what ∷ decimal n ∷ []
week_words week.NoDepot = codes "depot" ∷ []
week_words (week.Range row field) = codes "range" ∷ decimal row ∷ decimal field ∷ []
week_words (week.Double row) = codes "double" ∷ decimal row ∷ []
week_words (week.Unknown row field) = codes "unknown" ∷ decimal row ∷ decimal field ∷ []
week_words week.Memory = []

-- why a driver's history rows make no history
abbrev pub past_words : HistoryError → Words
past_words past.NoRest = codes "rest" ∷ []
past_words past.NoWorked = codes "worked" ∷ []
past_words (past.LateWeekly row) = codes "weekly" ∷ decimal row ∷ []
past_words (past.TwoOffs row) = codes "off" ∷ decimal row ∷ []
past_words (past.NotToMonday sum needed) = codes "sum" ∷ decimal sum ∷ decimal needed ∷ []
past_words (past.OverLong minutes) = codes "long" ∷ decimal minutes ∷ []
past_words past.Memory = []

-- why a driver's did rows make no line
abbrev pub line_words : LineError → Words
line_words (line.TwoOffs row) = codes "off" ∷ decimal row ∷ []
line_words (line.TooLong minutes) = codes "long" ∷ decimal minutes ∷ []
line_words line.Memory = []

-- the Monday that a refusal names, if it names one
abbrev pub named_monday : Refusal → Option ℤ
named_monday (Published monday receipt) = Some monday.day
named_monday (NoDraft monday) = Some monday.day
named_monday (Later name monday) = Some monday.day
named_monday (DraftsFull monday) = Some monday.day
named_monday _ = None

-- why a command is refused, with the text of the Monday that is named
abbrev pub refusal_words : List ℕ → Refusal → Words
refusal_words day Long = codes "long" ∷ []
refusal_words day (Csv error) = csv_words error
refusal_words day (Week error) = week_words error
refusal_words day (Past name error) = codes "past" ∷ name ∷ past_words error
refusal_words day (Line name error) = codes "line" ∷ name ∷ line_words error
refusal_words day (Published monday receipt) = codes "published" ∷ day ∷ codes "receipt" ∷ decimal receipt ∷ []
refusal_words day (NoDraft monday) = codes "draft" ∷ day ∷ []
refusal_words day (Stale named now) = codes "stale" ∷ decimal named ∷ decimal now ∷ []
refusal_words day (Moved name) = codes "moved" ∷ name ∷ []
refusal_words day (Kept name) = codes "kept" ∷ name ∷ []
refusal_words day (Later name monday) = codes "later" ∷ name ∷ day ∷ []
refusal_words day (NoHistory name) = codes "history" ∷ name ∷ []
refusal_words day (DraftsFull monday) = codes "full" ∷ day ∷ []

-- the text is the line of a refusal; the Monday that it names, if any, stands there as YYYY-MM-DD
abbrev pub IsRefusalText : Refusal → List ℕ → Type 0
IsRefusalText refusal text = (day : List ℕ) × IfSome (named_monday refusal) (λ monday. IsDayText monday day)
    × (text ≡ with_line [] (codes "refused") (refusal_words day refusal))
