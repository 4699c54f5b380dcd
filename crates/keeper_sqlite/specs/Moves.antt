-- What an older text of a history is moved to.
use Rattle.std.specs.Prelude.{◌≡◌, ⊤, ℕ, List, Result, Ok, Err}
use Rattle.minute_line.specs.Histories.{fields_of}
use Rattle.minute_line.specs.Debts.{with_own_debt}
use Rattle.minute_line.specs.Spelling.{older_spelling, spelling}
use Rattle.minute_line.specs.declared.lines.History.{History}
use Rattle.keeper_sqlite.specs.declared.errors.OpenError.{OpenError}
use Rattle.keeper_sqlite.specs.declared.errors.OpenError.TheVariants.{Fault, Text, Version, Memory}

-- the text is a history's text of today, and the older one its text without its debt, which is that of its last weekly rest
abbrev pub IsMoved : List ℕ → List ℕ → Type 0
IsMoved older text =
    (history : History) × (older ≡ older_spelling (fields_of history)) × (text ≡ spelling (fields_of history))
    × (fields_of history ≡ with_own_debt (fields_of history))

-- the answer is the text of that history with the debt of its last weekly rest, or memory was wanted
abbrev pub MovesTo : History → Result (List ℕ) OpenError → Type 0
MovesTo history (Ok text) = text ≡ spelling (with_own_debt (fields_of history))
MovesTo history (Err Memory) = ⊤
MovesTo history (Err Fault) = ⊥
MovesTo history (Err Text) = ⊥
MovesTo history (Err (Version n)) = ⊥
