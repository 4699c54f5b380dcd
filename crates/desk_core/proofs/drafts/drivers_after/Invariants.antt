use Rattle.std.proofs.Common.{◌≡◌, ℕ, ◌<◌, map, take, length, option_map}
use Rattle.desk_keeper.specs.Tables.{kept_fields, driver_fields}
use Rattle.desk_core.proofs.DraftDrivers.{IsMadeAt}
use Rattle.desk_core.proofs.drafts.drivers_after.Given as goal

abbrev pub invariant-loop-i : goal.invariant-loop-i
invariant-loop-i l = record {
  each : length l.drivers ≡ l.i;
  names : map (λ driver. driver.name) (map driver_fields l.drivers) ≡ map (λ driver. driver.name) (take l.i l.case.week.drivers);
  theirs : (k : ℕ) → k < l.i → IsMadeAt l.case l.duties (map (option_map kept_fields) l.seen) l.drivers k;
}
