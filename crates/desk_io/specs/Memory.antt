-- What the source in memory answers, and what it is afterwards.
use Rattle.std.specs.Prelude.{◌≡◌, ℕ, ◌+◌, ◌-◌, ◌==◌, Bool, List, length, drop, min, if◌then◌else◌}
use Rattle.std.specs.List.{list_any}
use Rattle.desk_io.specs.Device.{counted_up}
use Rattle.desk_io.specs.declared.device.Got.{Got}
use Rattle.desk_io.specs.declared.device.Got.TheVariants as got
use Rattle.desk_io.specs.declared.memory.MemorySource.{MemorySource}

-- the bytes that the source has left
abbrev pub bytes_left : MemorySource → List ℕ
bytes_left s = drop s.at s.bytes

-- whether the next call is to fail
abbrev pub fails_next : MemorySource → Bool
fails_next s = list_any (λ n. n == counted_up s.calls) s.fails

-- what a read into a buffer of that length answers; a call that is to fail fails at the end too
abbrev pub read_answer : MemorySource → ℕ → Got
read_answer s room =
    if fails_next s then got.Failed
    else (if length s.bytes - s.at == 0 then got.End else got.Bytes (min (min s.piece room) (length s.bytes - s.at)))

-- how many bytes were given, after an answer
abbrev pub moved : ℕ → Got → ℕ
moved at (got.Bytes n) = at + n
moved at got.End = at
moved at got.Failed = at

-- the source after a read: the call is counted, and all else that the answer does not change stays
pub record ReadFrom (old new : MemorySource) (answer : Got) : Type 0 where
  pub bytes : new.bytes ≡ old.bytes
  pub place : new.at ≡ moved old.at answer
  pub piece : new.piece ≡ old.piece
  pub calls : new.calls ≡ counted_up old.calls
  pub fails : new.fails ≡ old.fails
