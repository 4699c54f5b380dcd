-- What a keeper's calls answer, change and count.
use Rattle.std.specs.Prelude.{◌≡◌, ⊤, ℕ, Option, IfSome, option_map, Result, Ok, Err}
use Rattle.desk_io.specs.Device.{counted_up}
use Rattle.desk_keeper.specs.Tables.{Tables}
use Rattle.desk_keeper.specs.declared.keeper.KeeperError.{KeeperError}
use Rattle.desk_keeper.specs.declared.keeper.KeeperError.TheVariants.{Fault, Memory}

-- a call answers what the tables say, where they are told; the view of an answer is what the tables hold of it
abbrev pub Answers : {A B : Type 0} → (A → B) → Option Tables → (Tables → B) → Result A KeeperError → Type 0
Answers view told said (Ok answer) = IfSome told (λ tables. view answer ≡ said tables)
Answers view told said (Err error) = ⊤

-- a call that is done makes this of the tables, and one that fails changes nothing; whether they are told does not change
abbrev pub Changes : {A : Type 0} → Option Tables → (Tables → Tables) → Result A KeeperError → Option Tables → Type 0
Changes before change (Ok answer) after = after ≡ option_map change before
Changes before change (Err error) after = after ≡ before

-- how many calls failed, after one more
abbrev pub failed_calls : {A : Type 0} → ℕ → Result A KeeperError → ℕ
failed_calls faults (Ok answer) = faults
failed_calls faults (Err Fault) = counted_up faults
failed_calls faults (Err Memory) = faults
