-- What a run works with, as far as it is told: a source, a sink and a keeper, each with its count of faults.
use Rattle.std.specs.Prelude.{◌≡◌, ℕ, List, Option}
use Rattle.desk_keeper.specs.Tables.{Tables}

-- a source or a sink: the bytes that it has left or that it holds, where it tells them, and its count of faults
pub record Device : Type 0 where
  pub bytes : Option (List ℕ)
  pub faults : ℕ

-- a keeper: its tables, where it tells them, and its count of faults
pub record Shelf : Type 0 where
  pub tables : Option Tables
  pub faults : ℕ

-- all that a run works with
pub record Office : Type 0 where
  pub source : Device
  pub sink : Device
  pub shelf : Shelf

-- a device that tells this
abbrev pub device : Option (List ℕ) → ℕ → Device
device bytes faults = record { bytes = bytes; faults = faults }

-- a keeper that tells this
abbrev pub shelf : Option Tables → ℕ → Shelf
shelf tables faults = record { tables = tables; faults = faults }

-- a source, a sink and a keeper
abbrev pub office : Device → Device → Shelf → Office
office source sink kept = record { source = source; sink = sink; shelf = kept }
