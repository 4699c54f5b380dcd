-- What a text comes to, or why it is refused.
use Rattle.std.specs.Prelude.{◌≡◌, ⊤, ℕ, Result, Ok, Err, List}
use Rattle.desk_csv.specs.declared.errors.Form.{Form}
use Rattle.desk_csv.specs.Reading.{rows_of}
use Rattle.week_book.specs.declared.rows.Row.{Row}
use Rattle.desk_core.specs.declared.refusals.Refusal.{Refusal}
use Rattle.desk_core.specs.declared.refusals.Refusal.TheVariants as because
use Rattle.desk_core.specs.declared.refusals.Stop.{Stop}
use Rattle.desk_core.specs.declared.refusals.Stop.TheVariants.{Refused, Fault, Memory}

-- a command came to this value or to this refusal, as said, unless memory was wanted
abbrev pub Meets : {A B : Type 0} → (A → B) → Result A Stop → Result B Refusal → Type 0
Meets view (Ok value) said = said ≡ Ok (view value)
Meets view (Err (Refused refusal)) said = said ≡ Err refusal
Meets view (Err Fault) said = ⊥
Meets view (Err Memory) said = ⊤

infixl 10 ◌>>=◌
-- what comes next, unless the text is refused
abbrev pub ◌>>=◌ : {A B : Type 0} → Result A Refusal → (A → Result B Refusal) → Result B Refusal
(Ok x) >>= next = next x
(Err refusal) >>= next = Err refusal

-- an error as the refusal that it is
abbrev pub refuse : {A E : Type 0} → (E → Refusal) → Result A E → Result A Refusal
refuse because (Ok x) = Ok x
refuse because (Err error) = Err (because error)

-- the rows of a text
abbrev pub rows_said : Form → List ℕ → Result (List Row) Refusal
rows_said form text = refuse because.Csv (rows_of form text)
