use Rattle.std.proofs.Common.{◌≡◌, true, ◌++◌, drop, filter_map}
use Rattle.std.specs.List.{list_all}
use Rattle.week_book.specs.Ranges.{keeps_ranges}
use Rattle.week_book.specs.Numbers.{leg_in, order_in, drivers_of, unknown_fault}
use Rattle.week_book.proofs.numbering.make_tables.Given as goal

abbrev pub invariant-loop-row : goal.invariant-loop-row
invariant-loop-row l =
    let later = drop l.row-index l.rows in
    record {
      ranges : list_all keeps_ranges later ≡ true;
      known : unknown_fault l.places l.drivers later ≡ unknown_fault l.places l.drivers l.rows;
      places : l.tables.places ≡ l.places;
      legs : l.tables.legs ++ filter_map (leg_in l.places) later ≡ filter_map (leg_in l.places) l.rows;
      drivers : l.tables.drivers ++ drivers_of later ≡ drivers_of l.rows;
      orders : l.tables.orders ++ filter_map (order_in l.places) later ≡ filter_map (order_in l.places) l.rows;
    }
