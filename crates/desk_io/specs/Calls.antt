-- What one read and one write do.
use Rattle.std.specs.Prelude.{◌≡◌, ℕ, ◌<◌, ◌≤◌, List, take, length, Option}
use Rattle.desk_io.specs.Device.{counted_up, GivesBytes, Takes, NothingLeft}
use Rattle.desk_io.specs.declared.device.Got.{Got}
use Rattle.desk_io.specs.declared.device.Got.TheVariants as got
use Rattle.desk_io.specs.declared.device.Put.{Put}
use Rattle.desk_io.specs.declared.device.Put.TheVariants as put

-- a read puts the first bytes left at the front of the buffer, or nothing is left, or it fails and gives none
abbrev pub Reads : Option (List ℕ) → List ℕ → Got → Option (List ℕ) → Type 0
Reads before buffer (got.Bytes n) after = (0 < n) × (n ≤ length buffer) × GivesBytes before (take n buffer) after
Reads before buffer got.End after = NothingLeft before × (after ≡ before)
Reads before buffer got.Failed after = after ≡ before

-- how many reads failed, after one more
abbrev pub failed_reads : ℕ → Got → ℕ
failed_reads faults (got.Bytes n) = faults
failed_reads faults got.End = faults
failed_reads faults got.Failed = counted_up faults

-- a write appends the first of the bytes, or it fails and appends none
abbrev pub Writes : Option (List ℕ) → List ℕ → Put → Option (List ℕ) → Type 0
Writes before bytes (put.Took n) after = (0 < n) × (n ≤ length bytes) × Takes before (take n bytes) after
Writes before bytes put.Failed after = after ≡ before

-- how many writes failed, after one more
abbrev pub failed_writes : ℕ → Put → ℕ
failed_writes faults (put.Took n) = faults
failed_writes faults put.Failed = counted_up faults
