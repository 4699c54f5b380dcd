-- What a whole read answers, and what it and a whole write count.
use Rattle.std.specs.Prelude.{◌≡◌, ℕ, ◌+◌, ◌<◌, ◌≤◌, List, length, Result, Ok, Err}
use Rattle.desk_io.specs.Device.{counted_up}
use Rattle.desk_io.specs.declared.whole.TheConstants.{READ_PIECE}
use Rattle.desk_io.specs.declared.whole.ReadError.{ReadError}
use Rattle.desk_io.specs.declared.whole.ReadError.TheVariants.{Fault, TooLong, Memory}

-- the given bytes are the answer; or they are more than the limit, by one read at most; or the read ended before that
abbrev pub ReadsUpTo : ℕ → List ℕ → Result (List ℕ) ReadError → Type 0
ReadsUpTo limit given (Ok bytes) = (bytes ≡ given) × (length given ≤ limit)
ReadsUpTo limit given (Err TooLong) = (limit < length given) × (length given ≤ limit + READ_PIECE)
ReadsUpTo limit given (Err Fault) = length given ≤ limit
ReadsUpTo limit given (Err Memory) = length given ≤ limit

-- how many reads failed, after a whole read: it ends with the first that does
abbrev pub failed_by_end : ℕ → Result (List ℕ) ReadError → ℕ
failed_by_end faults (Ok bytes) = faults
failed_by_end faults (Err Fault) = counted_up faults
failed_by_end faults (Err TooLong) = faults
failed_by_end faults (Err Memory) = faults

-- how many writes failed, after a whole write: it ends with the first that does
abbrev pub failed_by_last : {A E : Type 0} → ℕ → Result A E → ℕ
failed_by_last faults (Ok _) = faults
failed_by_last faults (Err _) = counted_up faults
