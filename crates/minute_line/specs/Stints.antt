-- Which lists of stints are the line of a week, and which the line of a history.
use Rattle.std.specs.Prelude.{ℕ, Bool, true, false, not, ◌&&◌, ◌||◌, nat_le, nat_eq, List, [], ◌∷◌}
use Rattle.minute_line.specs.declared.marks.Stint.{Stint}
use Rattle.minute_line.specs.Marks.{is_off, is_rest, is_weekly}

-- an Off stint has any kind, an on-duty one is Plain
abbrev pub has_own_kind : Stint → Bool
has_own_kind s = is_off s.mark || not (is_rest s.kind)

-- it has a minute, and is not Off beside a stint that is
abbrev pub may_follow : Bool → Stint → Bool
may_follow after_off s = nat_le 1 s.minutes && (has_own_kind s && not (after_off && is_off s.mark))

-- each stint may follow the one before it
abbrev pub each_follows : Bool → List Stint → Bool
each_follows after_off [] = true
each_follows after_off (s ∷ ss) = may_follow after_off s && each_follows (is_off s.mark) ss

-- an Off stint of no minute, which declares the kind of a history's open run
abbrev pub only_declares : Stint → Bool
only_declares s = is_off s.mark && nat_eq s.minutes 0

-- the stints of a line: the first one alone may be Off with no minute
abbrev pub is_line : List Stint → Bool
is_line [] = true
is_line (s ∷ ss) = (only_declares s || may_follow false s) && each_follows (is_off s.mark) ss

-- the stints of a history: each has a minute, none is Weekly, and the last is on duty
abbrev pub is_past : Bool → List Stint → Bool
is_past after_off [] = not after_off
is_past after_off (s ∷ ss) = (may_follow after_off s && not (is_weekly s.kind)) && is_past (is_off s.mark) ss

-- each number is at most so much
abbrev pub all_up_to : ℕ → List ℕ → Bool
all_up_to most [] = true
all_up_to most (n ∷ ns) = nat_le n most && all_up_to most ns
