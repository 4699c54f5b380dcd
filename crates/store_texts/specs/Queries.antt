-- Which texts only read.
use Rattle.std.specs.Prelude.{ℕ, Bool, true, false, List, ◌&&◌, length, ◌==◌, Ok, Err}
use Rattle.sqlite_ast.specs.declared.Statement.{Statement}
use Rattle.sqlite_ast.specs.declared.Statement.TheVariants.{Select}
use Rattle.sqlite_resolve.specs.Lowering.{Checked}
use Rattle.sqlite_resolve.specs.Compile.{first}
use Rattle.sqlite_syntax.specs.declared.statement.Parsed.{Parsed}

-- the statement is a query
abbrev pub is_select : Statement → Bool
is_select (Select query) = true
is_select _ = false

-- what was read of a text is a query that does not ask for the time
abbrev pub is_reading : Checked Parsed → Bool
is_reading (Ok parsed) = is_select parsed.statement && length parsed.formats == 0
is_reading (Err error) = false

-- a text that is a query, and does not ask for the time
unfoldable pub only_reads : List ℕ → Bool
only_reads sql = is_reading (first sql)
