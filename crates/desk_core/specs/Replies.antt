-- What a command over a keeper comes to, and what it counts.
use Rattle.std.specs.Prelude.{◌≡◌, ⊤, ℕ, List, Option, Some, None, IfSome, Result, Ok, Err}
use Rattle.desk_io.specs.Device.{counted_up}
use Rattle.desk_keeper.specs.Tables.{Tables}
use Rattle.desk_core.specs.declared.refusals.Refusal.{Refusal}
use Rattle.desk_core.specs.declared.refusals.Stop.{Stop}
use Rattle.desk_core.specs.declared.refusals.Stop.TheVariants.{Refused, Fault, Memory}

-- a command came to this value or to this refusal, as is said of the tables where they are told, unless the keeper failed or
-- memory was wanted
abbrev pub Comes : {A B : Type 0} → (A → B) → Result A Stop → Option Tables → (Tables → Result B Refusal → Type 0) → Type 0
Comes view (Ok value) told says = IfSome told (λ tables. says tables (Ok (view value)))
Comes view (Err (Refused refusal)) told says = IfSome told (λ tables. says tables (Err refusal))
Comes view (Err Fault) told says = ⊤
Comes view (Err Memory) told says = ⊤

-- a keeper was asked, and its answer is what the tables hold where they are told, unless it failed or memory was wanted
abbrev pub Hears : {A B : Type 0} → (A → B) → Result A Stop → Option Tables → (Tables → B) → Type 0
Hears view (Ok answer) told holds = IfSome told (λ tables. view answer ≡ holds tables)
Hears view (Err (Refused refusal)) told holds = ⊥
Hears view (Err Fault) told holds = ⊤
Hears view (Err Memory) told holds = ⊤

-- a step is done to the tables, where they are told; whether they are told does not change
abbrev pub IsDone : (Tables → Result (List ℕ) Refusal → Tables → Type 0) → Option Tables → Result (List ℕ) Refusal → Option Tables → Type 0
IsDone step None reply after = after ≡ None
IsDone step (Some before) reply after = (tables : Tables) × (after ≡ Some tables) × step before reply tables

-- a command came to a step of the machine; or the keeper failed or memory was wanted, and nothing changes
abbrev pub IsOutcome : (Tables → Result (List ℕ) Refusal → Tables → Type 0) → Option Tables → Result (List ℕ) Stop → Option Tables → Type 0
IsOutcome step before (Ok text) after = IsDone step before (Ok text) after
IsOutcome step before (Err (Refused refusal)) after = IsDone step before (Err refusal) after
IsOutcome step before (Err Fault) after = after ≡ before
IsOutcome step before (Err Memory) after = after ≡ before

-- how many of a keeper's calls failed, after a command: it ends with the first that does
abbrev pub failed_by : {A : Type 0} → ℕ → Result A Stop → ℕ
failed_by faults (Ok value) = faults
failed_by faults (Err (Refused refusal)) = faults
failed_by faults (Err Fault) = counted_up faults
failed_by faults (Err Memory) = faults
