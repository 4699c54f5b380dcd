-- What the keeper in memory keeps, when it fails, and what it counts.
use Rattle.std.specs.Prelude.{◌≡◌, ◌==◌, Bool, true, false, map, Result, Ok, Err}
use Rattle.std.specs.List.{list_any}
use Rattle.desk_io.specs.Device.{counted_up}
use Rattle.desk_keeper.specs.Tables.{Tables, RowFields, kept_fields}
use Rattle.desk_keeper.specs.Records.{draft_fields, issue_fields}
use Rattle.desk_keeper.specs.declared.keeper.KeeperError.{KeeperError}
use Rattle.desk_keeper.specs.declared.keeper.KeeperError.TheVariants.{Fault, Memory}
use Rattle.desk_keeper.specs.declared.memory.KeptRow.{KeptRow}
use Rattle.desk_keeper.specs.declared.memory.MemoryKeeper.{MemoryKeeper}

-- the fields of a row
abbrev pub row_fields : KeptRow → RowFields
row_fields row = record { driver = row.driver; kept = kept_fields row.kept }

-- the tables that it keeps
abbrev pub tables_of : MemoryKeeper → Tables
tables_of keeper = record {
  histories = map row_fields keeper.histories;
  drafts = map draft_fields keeper.drafts;
  issues = map issue_fields keeper.issues;
}

-- whether the next call is to fail
abbrev pub fails_next : MemoryKeeper → Bool
fails_next keeper = list_any (λ n. n == counted_up keeper.calls) keeper.fails

-- a call fails by a fault exactly where it is to fail
abbrev pub FaultsWhere : {A : Type 0} → Bool → Result A KeeperError → Type 0
FaultsWhere fails (Ok answer) = fails ≡ false
FaultsWhere fails (Err Fault) = fails ≡ true
FaultsWhere fails (Err Memory) = fails ≡ false

-- a call was counted, and which calls are to fail stays
pub record CountsCall (old new : MemoryKeeper) : Type 0 where
  pub calls : new.calls ≡ counted_up old.calls
  pub fails : new.fails ≡ old.fails
