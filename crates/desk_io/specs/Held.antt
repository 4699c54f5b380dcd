-- What the sink in memory answers, and what it is afterwards.
use Rattle.std.specs.Prelude.{◌≡◌, ℕ, ◌+◌, ◌==◌, ◌||◌, Bool, List, ◌++◌, [], take, length, min, if◌then◌else◌}
use Rattle.std.specs.List.{list_any}
use Rattle.desk_io.specs.Device.{counted_up}
use Rattle.desk_io.specs.declared.device.Put.{Put}
use Rattle.desk_io.specs.declared.device.Put.TheVariants as put
use Rattle.desk_io.specs.declared.memory.MemorySink.{MemorySink}

-- whether the next call is to fail, or has no room
abbrev pub refuses_next : MemorySink → Bool
refuses_next s = (s.room == 0) || list_any (λ n. n == counted_up s.calls) s.fails

-- what a write of so many bytes answers
abbrev pub write_answer : MemorySink → ℕ → Put
write_answer s wanted = if refuses_next s then put.Failed else put.Took (min (min s.piece wanted) s.room)

-- the bytes that an answer says were appended
abbrev pub taken : List ℕ → Put → List ℕ
taken bytes (put.Took n) = take n bytes
taken bytes put.Failed = []

-- the sink after a write: the call is counted, and all else that the answer does not change stays
pub record WroteTo (old new : MemorySink) (bytes : List ℕ) (answer : Put) : Type 0 where
  pub held : new.held.items ≡ old.held.items ++ taken bytes answer
  pub room : new.room + length (taken bytes answer) ≡ old.room
  pub piece : new.piece ≡ old.piece
  pub calls : new.calls ≡ counted_up old.calls
  pub fails : new.fails ≡ old.fails
