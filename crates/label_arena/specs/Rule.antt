-- The rule of the shared table. Word 0 is the counter, and slot n has the chunk of the number n.
use Rattle.std.specs.Prelude.{◌+◌, ◌≡◌, ℕ, ◌-◌, ◌<◌, ◌≤◌, Bool, true, false, List, [], ◌∷◌, ◌++◌, length, slice_index, Option, Some, if◌then◌else◌}
use mathlib.Core.Option.{some}
use lib.ListN.{get_elem?}
use Rattle.atomic_table.specs.Table.{State, Me, Step, Act, keeps, gives, chain}
use Rattle.label_arena.specs.declared.views.View.{View}
use Rattle.label_arena.specs.Counting.{times, once_below, beyond, top, total}

-- the view of a seat, by its parts, what it drew, and whether it brought its slots back
abbrev pub seat_view : ℕ → List ℕ → Bool → View
seat_view parts drawn back = record { parts = parts; drawn = drawn; has_returned = back; is_rest = false }

-- the view with the parts that no seat has
abbrev pub rest_view : ℕ → View
rest_view parts = record { parts = parts; drawn = []; has_returned = true; is_rest = true }

-- the parts of a seat
abbrev pub seat_parts : View → ℕ
seat_parts v = if v.is_rest then 0 else v.parts

-- the slot is at home, with an empty chunk
abbrev pub IsHome : {T : Type 0} → State (Option (List T)) View → ℕ → Type 0
IsHome s n = get_elem? s.homes n ≡ some (some (Some []))

-- what holds of each view
pub record Fits (slots : ℕ) (v : View) : Type 0 where
  -- each part allows one number that has no slot
  pub past : beyond slots v.drawn ≤ v.parts
  -- a view without parts has drawn nothing
  pub spent : v.parts ≡ 0 → v.drawn ≡ []
  -- nor has the rest
  pub idle : v.is_rest ≡ true → v.drawn ≡ []

-- the rule of a round of so many seats
pub record IsRoundState {T : Type 0} (seats : ℕ) (s : State (Option (List T)) View) : Type 0 where
  pub one_word : length s.words ≡ 1
  pub few : length s.homes < 4294967296
  -- the parts of all views, and those of the seats
  pub whole : total (λ v. v.parts) s.views ≡ 4294967296
  pub seated : total seat_parts s.views ≤ seats
  -- what was drawn are the numbers below the counter, each once
  pub each_once : (x : ℕ) → total (λ v. times x v.drawn) s.views ≡ once_below x (slice_index s.words 0)
  pub past : total (λ v. beyond (length s.homes) v.drawn) s.views ≡ slice_index s.words 0 - length s.homes
  pub each_view : (id : ℕ) (v : View) → get_elem? s.views id ≡ some v → Fits (length s.homes) v
  -- the slots that are not drawn are at home, and so are those of a view that brought them back
  pub untaken : (n : ℕ) → slice_index s.words 0 ≤ n → n < length s.homes → IsHome s n
  pub returned : (id : ℕ) (v : View) → get_elem? s.views id ≡ some v → v.has_returned ≡ true →
      (n : ℕ) → 0 < times n v.drawn → n < length s.homes → IsHome s n

-- a seat's view, and the slots that it has
abbrev pub Seated : Type 0 → Type 0
Seated T = Me (Option (List T)) View

-- claim: the number found is drawn. It is above all that this seat drew before, and the slot of that number, where there
-- is one, passes to the seat
abbrev pub draws : {T : Type 0} → Step (Option (List T)) → Seated T → ℕ → Seated T → Type 0
draws st m n m' =
    (m'.0 ≡ seat_view m.0.parts (m.0.drawn ++ n ∷ []) false) × (top m.0.drawn ≤ n)
    × (n < st.slots → m'.1 ≡ (n, Some []) ∷ m.1) × (st.slots ≤ n → m'.1 ≡ m.1)

-- split: the rest has one part less
abbrev pub rest_after : View → View
rest_after v = rest_view (v.parts - 1)

-- split: the new seat has one part and has drawn nothing
abbrev pub new_seat : View → View
new_seat v = seat_view 1 [] false

-- join: one seat takes what another drew, and its parts
abbrev pub joined : View → View → View
joined v w = seat_view (v.parts + w.parts) (v.drawn ++ w.drawn) true

-- join: the other is spent
abbrev pub spent_view : View
spent_view = seat_view 0 [] true

-- home: the slots pass back to the table, and the seat keeps what it drew
abbrev pub brings_home : {T : Type 0} → Seated T → Seated T → Type 0
brings_home m m' = (m'.0 ≡ seat_view m.0.parts m.0.drawn true) × (m'.1 ≡ [])

-- the slots of a list pass back, one after another
abbrev pub give_all : {S : Type 0} → List (ℕ × S) → Act S
give_all [] = keeps
give_all (x ∷ xs) = chain gives (give_all xs)
