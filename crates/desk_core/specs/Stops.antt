-- Why a command stops where a reader of its text does.
use Rattle.std.specs.Prelude.{ℕ, List}
use Rattle.desk_csv.specs.declared.errors.CsvError.{CsvError}
use Rattle.desk_csv.specs.declared.errors.CsvError.TheVariants as csv
use Rattle.week_book.specs.declared.errors.WeekError.{WeekError}
use Rattle.week_book.specs.declared.errors.WeekError.TheVariants as week
use Rattle.driver_history.specs.declared.errors.HistoryError.{HistoryError}
use Rattle.driver_history.specs.declared.errors.HistoryError.TheVariants as past
use Rattle.driver_history.specs.declared.errors.LineError.{LineError}
use Rattle.driver_history.specs.declared.errors.LineError.TheVariants as line
use Rattle.desk_keeper.specs.declared.keeper.KeeperError.{KeeperError}
use Rattle.desk_keeper.specs.declared.keeper.KeeperError.TheVariants as keeper
use Rattle.desk_core.specs.declared.refusals.Refusal.TheVariants as because
use Rattle.desk_core.specs.declared.refusals.Stop.{Stop}
use Rattle.desk_core.specs.declared.refusals.Stop.TheVariants.{Refused, Fault, Memory}

-- the keeper failed, unless memory was wanted
abbrev pub keeper_stop : KeeperError → Stop
keeper_stop keeper.Fault = Fault
keeper_stop keeper.Memory = Memory

-- a text without rows is refused, unless memory was wanted
abbrev pub csv_stop : CsvError → Stop
csv_stop csv.Memory = Memory
csv_stop error = Refused (because.Csv error)

-- rows that make no week are refused, unless memory was wanted
abbrev pub week_stop : WeekError → Stop
week_stop week.Memory = Memory
week_stop error = Refused (because.Week error)

-- history rows that make no history are refused, unless memory was wanted
abbrev pub past_stop : List ℕ → HistoryError → Stop
past_stop name past.Memory = Memory
past_stop name error = Refused (because.Past name error)

-- did rows that make no line are refused, unless memory was wanted
abbrev pub line_stop : List ℕ → LineError → Stop
line_stop name line.Memory = Memory
line_stop name error = Refused (because.Line name error)
