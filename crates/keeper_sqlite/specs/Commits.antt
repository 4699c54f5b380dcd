-- What a call within a transaction leaves of what is committed, and what a query answers.
use Rattle.std.specs.Prelude.{◌≡◌, ⊤, ℕ, ◌≤◌, List, Result, Ok, Err}
use Rattle.sqlite_value.specs.Order.{Row}
use Rattle.sqlite_trees.specs.Tree.{Trees}
use Rattle.sqlite_trees.specs.View.{doubt}
use Rattle.sqlite_resolve.specs.declared.compiled.Compiled.{Compiled}
use Rattle.sqlite.specs.Effect.{Database, Reads}
use Rattle.sqlite.specs.Listing.{understood, reads_listing, IsSourceOf}
use Rattle.sqlite.specs.State.{State, HasCleanDisk, KeepsCommit}

-- nothing is committed, and a crash leaves what it could leave before, as long as the disk gives back what was written
pub record CommitsNothing (old new : State) : Type 0 where
  pub clean : doubt old.is_clean ≤ doubt new.is_clean
  pub kept : HasCleanDisk new → KeepsCommit old new
  pub crash : HasCleanDisk new → (db : Trees) → new.may_leave db → old.may_leave db

-- after a call that fails, what is committed is what was committed before it, as long as the disk gives back what was written
abbrev pub KeepsCommitted : {A E : Type 0} → Result A E → State → State → Type 0
KeepsCommitted (Ok answer) old new = ⊤
KeepsCommitted (Err error) old new = HasCleanDisk new → KeepsCommit old new

-- the rows that a query shows of a database
abbrev pub Answers : List ℕ → Row → Database → List Row → Type 0
Answers sql params shown rows =
    (query : Compiled) × (understood shown.schema sql ≡ Ok query) × (source : Database) × IsSourceOf (reads_listing shown.schema sql) shown source × Reads query.command source params rows
