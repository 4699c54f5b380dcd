-- What sources and sinks over std's readers and writers do, where the bytes of these are known.
use Rattle.std.specs.Prelude.{ℕ, ⊤, List, take, Option}
use Rattle.std.specs.Io.KnownBytes.{Appends, Consumes, IsAtEnd, Keeps}
use Rattle.desk_io.specs.declared.device.Got.{Got}
use Rattle.desk_io.specs.declared.device.Got.TheVariants as got
use Rattle.desk_io.specs.declared.device.Put.{Put}
use Rattle.desk_io.specs.declared.device.Put.TheVariants as put

-- the reader lost the bytes that the source gave and no other; the source ends where the reader was at its end
abbrev pub PassesOn : Option (List ℕ) → List ℕ → Got → Option (List ℕ) → Type 0
PassesOn before buffer (got.Bytes n) after = Consumes before after (take n buffer)
PassesOn before buffer got.End after = IsAtEnd before
PassesOn before buffer got.Failed after = Keeps before after

-- the writer got the bytes that the sink took and no other; after a failed flush some may be out
abbrev pub HandsOn : Option (List ℕ) → List ℕ → Put → Option (List ℕ) → Type 0
HandsOn before bytes (put.Took n) after = Appends before after (take n bytes)
HandsOn before bytes put.Failed after = ⊤
