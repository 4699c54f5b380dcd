use Rattle.std.proofs.Common.{◌≡◌, ℕ, ◌≤◌, IfOk, List, [], length, filter_map, subst, ap, arith}
use Rattle.week_book.specs.declared.errors.What.TheVariants.{Places}
use Rattle.week_book.specs.Numbers.{order_in, place_in, place_names}
use Rattle.week_book.specs.Checking.{count_fault}
use Rattle.week_book.proofs.Faultless.{neither, limited, is_place, kept}
use Rattle.week_book.proofs.checking.check_rows.Goals as goal

pub make_tables-requires-clause-few : goal.make_tables-requires-clause-few
make_tables-requires-clause-few c =
    let rows = c.args.rows.now in
    let few : length (place_names rows) ≤ 64 =
    limited Places place_in is_place rows (neither (count_fault Places rows) _ c.in_ok-check_counts.ensures).0 in
    omega (arith, ap length c.in_ok-places.ensures, few)

pub make_tables-requires-clause-ranges : goal.make_tables-requires-clause-ranges
make_tables-requires-clause-ranges c = kept [] c.args.rows.now c.in_ok-check_ranges.ensures

pub returns-clause-orders : goal.returns-clause-orders
returns-clause-orders c =
    subst (λ (places : List (List ℕ)). IfOk c.make_tables.result (λ tables. tables.orders ≡ filter_map (order_in places) c.args.rows.now))
    c.in_ok-places.ensures c.make_tables.ensures.orders
