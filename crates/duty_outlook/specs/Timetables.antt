-- Timetables: acts with the minutes at which they start, under the road, the windows, the lorry's capacity and the end of the
-- week, but under no hours rule and with any waiting between them.
use Rattle.std.specs.Prelude.{◌≡◌, ℕ, ◌+◌, ◌≤◌, ◌||◌, Bool, true, not, List, [], ◌∷◌, ℤ, pos, ◌+ℤ◌, ◌-ℤ◌}
use Rattle.minute_line.specs.declared.lines.TheConstants.{WEEK_MINUTES}
use Rattle.week_book.specs.declared.weeks.Week.{Week}
use Rattle.duty_plan.specs.declared.duties.Act.{Act}
use Rattle.duty_plan.specs.declared.duties.Act.TheVariants.{Leg, Serve, Load}
use Rattle.duty_plan.specs.declared.pricing.Prices.{Prices}
use Rattle.duty_plan.specs.Acts.{minutes_of, cents_of_act, place_by, can_be_done, may_start, used_by, serves_order, order_of_act}
use Rattle.duty_plan.specs.PartialDuties.{PartialDuty, may_carry}
use Rattle.duty_plan.specs.Duties.{worth}
use Rattle.duty_plan.specs.Values.{price_at}

-- an act, and the week minute at which it starts
pub record Stop : Type 0 where
  pub start : ℕ
  pub act : Act

-- the act serves no order that is done
abbrev pub is_undone : (ℕ → Bool) → Act → Bool
is_undone done (Leg to) = true
is_undone done (Serve order) = not (done order)
is_undone done Load = true

-- the orders that are done, after one more act
abbrev pub done_by : (ℕ → Bool) → Act → ℕ → Bool
done_by done act order = serves_order order act || done order

-- the act may be done at the place, from that minute on, where so many kg were served since the last load act
pub record MayDo (week : Week) (capacity : ℕ) (done : ℕ → Bool) (place start load : ℕ) (act : Act) : Type 0 where
  pub road : can_be_done week place act ≡ true
  pub window : may_start week act start ≡ true
  pub late : start + minutes_of week place act ≤ WEEK_MINUTES
  pub room : may_carry week capacity true load act ≡ true
  pub undone : is_undone done act ≡ true

-- the stops, the oldest first, are a timetable from a place and a minute, where so many kg were served since the last load act
-- and these orders are done: each act may be done when it starts, and the last one ends at the depot
abbrev pub IsTimetable : Week → ℕ → (ℕ → Bool) → ℕ → ℕ → ℕ → List Stop → Type 0
IsTimetable week capacity done place at load [] = place ≡ 0
IsTimetable week capacity done place at load (stop ∷ rest) =
    (at ≤ stop.start) × MayDo week capacity done place stop.start load stop.act
    × IsTimetable week capacity (done_by done stop.act) (place_by stop.act place) (stop.start + minutes_of week place stop.act)
    (used_by week stop.act load) rest

-- what an act saves that begins at a place: the price of the order that it serves, less the cents of a leg
abbrev pub saved_by : Week → Prices → ℕ → Act → ℤ
saved_by week prices place act = pos (worth (price_at prices) (order_of_act act)) -ℤ pos (cents_of_act week place act)

-- what the stops save
abbrev pub saving : Week → Prices → ℕ → List Stop → ℤ
saving week prices place [] = pos 0
saving week prices place (stop ∷ rest) =
    saved_by week prices place stop.act +ℤ saving week prices (place_by stop.act place) rest

-- the kg that count as served since the last load act: before any load act a number that leaves no room
abbrev pub load_after : Week → ℕ → PartialDuty → ℕ
load_after week capacity [] = capacity + 1
load_after week capacity (step ∷ before) = used_by week step.act (load_after week capacity before)

-- the orders that are done after a partial duty: those that it serves, and others that are barred
abbrev pub done_after : (ℕ → Bool) → PartialDuty → ℕ → Bool
done_after barred [] order = barred order
done_after barred (step ∷ before) order = done_by (done_after barred before) step.act order
