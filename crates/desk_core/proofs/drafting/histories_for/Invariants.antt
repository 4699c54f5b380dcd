use Rattle.std.proofs.Common.{◌≡◌, drop, take, [], map, option_map, length, IfSome}
use Rattle.minute_line.specs.Histories.{fields_of}
use Rattle.desk_keeper.specs.Tables.{kept_fields}
use Rattle.desk_keeper.specs.Entries.{history_in}
use Rattle.desk_core.specs.Drafting.{all_planned_with}
use Rattle.desk_core.proofs.OwnHistories.{HoldsBelow}
use Rattle.desk_core.proofs.drafting.histories_for.Given as goal

abbrev pub invariant-loop-i : goal.invariant-loop-i
invariant-loop-i g l = record {
  tables : g.B.Keeper.tables l.keeper ≡ g.B.Keeper.tables l.fn.keeper;
  counts : g.B.Keeper.faults l.keeper ≡ g.B.Keeper.faults l.fn.keeper;
  planned : IfSome (g.B.Keeper.tables l.fn.keeper) (λ t.
      all_planned_with l.monday.day t (map fields_of l.past) (drop l.i l.drivers) (map (option_map fields_of) (drop l.i l.pasts))
      ≡ all_planned_with l.monday.day t [] l.drivers (map (option_map fields_of) l.pasts));
  seen : IfSome (g.B.Keeper.tables l.fn.keeper) (λ t.
      map (option_map kept_fields) l.seen ≡ map (λ driver. history_in t driver.name) (take l.i l.drivers));
  each : (length l.past ≡ l.i) × (length l.seen ≡ l.i);
  own : HoldsBelow (map (option_map fields_of) l.pasts) (map fields_of l.past) l.i;
}
