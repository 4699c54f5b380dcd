-- What a keeper keeps, without where it lies in memory. A Monday is its day number.
use Rattle.std.specs.Prelude.{ℕ, ℤ, List, map, Option, option_map}
use Rattle.std.specs.List.{IsDistinct}
use Rattle.std.specs.Str.{bytes_eq}
use Rattle.minute_line.specs.Histories.{Fields, fields_of}
use Rattle.desk_keeper.specs.declared.records.Kept.{Kept}
use Rattle.desk_keeper.specs.declared.records.DraftDriver.{DraftDriver}

-- a history, and the Monday that it leads up to
pub record KeptFields : Type 0 where
  pub monday : ℤ
  pub past : Fields

-- the fields of a kept history
abbrev pub kept_fields : Kept → KeptFields
kept_fields kept = record { monday = kept.monday.day; past = fields_of kept.past }

-- a driver of a draft: what was kept of the driver as the draft was made, and the history after the planned week
pub record DriverFields : Type 0 where
  pub name : List ℕ
  pub seen : Option KeptFields
  pub next : Fields

-- the fields of a driver of a draft
abbrev pub driver_fields : DraftDriver → DriverFields
driver_fields driver = record { name = driver.name; seen = option_map kept_fields driver.seen; next = fields_of driver.next }

-- a plan of a week that is no order yet
pub record DraftFields : Type 0 where
  pub monday : ℤ
  pub revision : ℕ
  pub drivers : List DriverFields
  pub report : List ℕ
  pub export : List ℕ

-- a published plan
pub record IssueFields : Type 0 where
  pub receipt : ℕ
  pub monday : ℤ
  pub revision : ℕ
  pub report : List ℕ
  pub export : List ℕ

-- a driver, and what is kept of the driver
pub record RowFields : Type 0 where
  pub driver : List ℕ
  pub kept : KeptFields

-- the histories of drivers, the drafts of weeks, and the issues in the order of their receipts
pub record Tables : Type 0 where
  pub histories : List RowFields
  pub drafts : List DraftFields
  pub issues : List IssueFields

-- no two drivers of a draft have one name
abbrev pub AreNamedOnce : List DriverFields → Type 0
AreNamedOnce drivers = IsDistinct bytes_eq (map (λ driver. driver.name) drivers)
