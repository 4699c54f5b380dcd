use Rattle.std.proofs.Common.{◌≡◌, ℕ, ◌+◌, ◌-◌, ◌<◌, length, get_or}
use Rattle.label_arena.proofs.turning.taken_after.Given as goal

abbrev pub invariant-counting : goal.invariant-counting
invariant-counting l = (k : ℕ) × (k + l.after < length l.order) × (get_or l.order k 0 ≡ l.number)

abbrev pub decreases-counting : goal.decreases-counting
decreases-counting l = length l.order - l.after
