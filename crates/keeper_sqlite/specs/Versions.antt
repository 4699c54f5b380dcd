-- The version that a store tells of its texts.
use Rattle.std.specs.Prelude.{◌≡◌, ◌⊎◌, ◌≤◌, ℤ, pos, List, [], ◌∷◌, length, codes}
use Rattle.sqlite_value.specs.declared.value.Value.TheVariants.{Int}
use Rattle.sqlite_value.specs.Order.{Row, column}
use Rattle.sqlite.specs.Effect.{Database}
use Rattle.keeper_sqlite.specs.Commits.{Answers}

-- one row tells the version that it holds, and several tell version 0
abbrev pub TellVersion : List Row → ℤ → Type 0
TellVersion rows version = ((row : Row) × (rows ≡ row ∷ []) × (column row 0 ≡ Int version)) ⊎ ((2 ≤ length rows) × (version ≡ pos 0))

-- the table `format` of a database tells that version
abbrev pub IsStoredVersion : Database → ℤ → Type 0
IsStoredVersion shown version = (rows : List Row) × Answers (codes "SELECT version FROM format") [] shown rows × TellVersion rows version
