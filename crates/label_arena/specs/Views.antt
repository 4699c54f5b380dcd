-- What contracts see of a round and of a seat.
use Rattle.std.specs.Prelude.{◌≡◌, ℕ, List, [], refl}
use Rattle.std.specs.Coded.{Coded, code_by, coded×, coded_ℕ, coded_list}
use Rattle.atomic_table.specs.Seated.{TableId, table_id_coded}

-- what tells one round from another
abbrev pub RoundName : Type 0
RoundName = TableId

-- a round: its name, the number of its chunks, and the number of its seats
pub record RoundView : Type 0 where
  pub name : RoundName
  pub chunks : ℕ
  pub seats : ℕ

-- a round's view is told by its fields
abbrev pub round_code : Coded RoundView
round_code = code_by (RoundName × (ℕ × ℕ)) (coded× table_id_coded (coded× coded_ℕ coded_ℕ))
    (λ r. (r.name, (r.chunks, r.seats))) (λ p. record { name = p.0; chunks = p.1.0; seats = p.1.1 }) (λ _. refl)

-- a seat: the name of its round, the numbers that it drew, and the numbers of the chunks that it holds, the newest first
pub record SeatView : Type 0 where
  pub name : RoundName
  pub drawn : List ℕ
  pub held : List ℕ

-- a seat's view is told by its fields
abbrev pub seat_code : Coded SeatView
seat_code = code_by (RoundName × (List ℕ × List ℕ)) (coded× table_id_coded (coded× (coded_list coded_ℕ) (coded_list coded_ℕ)))
    (λ s. (s.name, (s.drawn, s.held))) (λ p. record { name = p.0; drawn = p.1.0; held = p.1.1 }) (λ _. refl)

-- a seat of the round that has drawn nothing yet and holds nothing
abbrev pub IsNew : RoundName → SeatView → Type 0
IsNew name seat = seat ≡ record { name = name; drawn = []; held = [] }

-- a seat of the round that holds nothing
abbrev pub IsReady : RoundName → SeatView → Type 0
IsReady name seat = (seat.name ≡ name) × (seat.held ≡ [])
