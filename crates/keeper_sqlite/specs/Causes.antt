-- Which causes are faults of the store.
use Rattle.std.specs.Prelude.{ℕ}
use Rattle.desk_io.specs.Device.{counted_up}
use Rattle.sqlite.specs.declared.error.Error.{Error}
use Rattle.sqlite.specs.declared.error.Error.TheVariants.{SqliteFailure}
use Rattle.sqlite.specs.declared.error.ErrorCode.TheVariants.{OutOfMemory}
use Rattle.desk_keeper.specs.declared.keeper.KeeperError.{KeeperError}
use Rattle.desk_keeper.specs.declared.keeper.KeeperError.TheVariants.{Fault, Memory as NoMemory}
use Rattle.keeper_sqlite.specs.declared.causes.Cause.{Cause}
use Rattle.keeper_sqlite.specs.declared.causes.Cause.TheVariants.{Refused, Unreadable, Memory as WantOfMemory}

-- the cause that a refusal of `sqlite` is
abbrev pub cause_of : Error → Cause
cause_of (SqliteFailure OutOfMemory) = WantOfMemory
cause_of _ = Refused

-- every cause but want of memory is a fault
abbrev pub error_of : Cause → KeeperError
error_of Refused = Fault
error_of Unreadable = Fault
error_of WantOfMemory = NoMemory

-- the count of faults after an answer for that cause
abbrev pub faults_after : ℕ → Cause → ℕ
faults_after faults Refused = counted_up faults
faults_after faults Unreadable = counted_up faults
faults_after faults WantOfMemory = faults
