use Rattle.std.proofs.Common.{◌≡◌, ◌≤◌, ◌<◌, ◌+◌, ◌-◌, length, take, drop, ap, Some, rules, arith}
use Rattle.desk_io.proofs.Joined.{read_more}
use Rattle.desk_io.proofs.memory.MemorySourceSource.read.Goals as goal

pub returns-clause-bytes : goal.returns-clause-bytes
returns-clause-bytes c =
    let s = c.args.self.now in
    let n = c.min-n.result in
    let copied : c.copy_from_slice.new.self ≡ take (s.at + n - s.at) (drop s.at s.bytes) = search rules in
    let some : 0 < n = search rules in
    let fits : n + s.at ≤ length s.bytes = search rules in
    let more = read_more s.at n (s.at + n) s.bytes c.copy_from_slice.new.self c.args.buf.now (omega arith) copied fits in
    (some, more.0, ap Some more.1)
