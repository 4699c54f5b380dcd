-- What a seat holds.
use Rattle.std.specs.Prelude.{◌≡◌, ℕ, zero, suc, ◌≤◌, false, nat_lt, length, List, [], ◌∷◌, ◌++◌, Option, None, Some, if◌then◌else◌}
use Rattle.atomic_table.specs.Table.{turned}
use Rattle.label_arena.specs.Counting.{times, top}
use Rattle.label_arena.specs.Rule.{Seated}

-- the numbers of a seat's slots, in the order in which it took them
abbrev pub numbers : {S : Type 0} → List (ℕ × S) → List ℕ
numbers [] = []
numbers (x ∷ xs) = numbers xs ++ x.0 ∷ []

-- a slot whose chunk was taken out, before those of others
abbrev pub held_before : {T : Type 0} → ℕ → Option (List T) → List ℕ → List ℕ
held_before n None rest = n ∷ rest
held_before n (Some chunk) rest = rest

-- the numbers of the slots whose chunks a seat has taken out, the newest first
abbrev pub held_of : {T : Type 0} → List (ℕ × Option (List T)) → List ℕ
held_of [] = []
held_of (x ∷ xs) = held_before x.0 x.1 (held_of xs)

-- the slot's chunk is out, or empty
abbrev pub IsEmptied : {T : Type 0} → Option (List T) → Type 0
IsEmptied None = Unit {0}
IsEmptied (Some chunk) = chunk ≡ []

-- each chunk that lies in a slot is empty
abbrev pub AreEmptied : {T : Type 0} → List (ℕ × Option (List T)) → Type 0
AreEmptied [] = Unit {0}
AreEmptied (x ∷ xs) = IsEmptied x.1 × AreEmptied xs

-- each slot has an empty chunk
abbrev pub AllHaveEmpty : {T : Type 0} → List (ℕ × Option (List T)) → Type 0
AllHaveEmpty [] = Unit {0}
AllHaveEmpty (x ∷ xs) = (x.1 ≡ Some []) × AllHaveEmpty xs

-- the slots after so many turns, each of which puts the first behind the others
abbrev pub turned_by : {S : Type 0} → ℕ → List (ℕ × S) → List (ℕ × S)
turned_by zero xs = xs
turned_by (suc k) xs = turned (turned_by k xs)

-- what a seat keeps until its round is closed: one part, the numbers of its slots in their order, with room for all of
-- them, and the slots of just those numbers that it drew and that have one
pub record HoldsSeat {T : Type 0} (me : Seated T) (order : List ℕ) (slots room : ℕ) : Type 0 where
  pub one_part : me.0.parts ≡ 1
  pub away : me.0.has_returned ≡ false
  pub seat : me.0.is_rest ≡ false
  pub in_order : order ≡ numbers me.1
  pub roomy : slots ≤ room
  pub short : length order ≤ top me.0.drawn
  pub once : (n : ℕ) → times n me.0.drawn ≤ 1
  pub own : (n : ℕ) → times n (numbers me.1) ≡ (if nat_lt n slots then times n me.0.drawn else 0)
  pub empty : AreEmptied me.1
