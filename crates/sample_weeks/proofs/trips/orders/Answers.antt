use Rattle.std.proofs.Common.{◌≡◌, true, [], ◌∷◌, refl, rules}
use Rattle.std.specs.Str.{bytes_eq}
use Rattle.week_book.specs.declared.weeks.Order.{Order}
use Rattle.week_book.specs.Names.{is_name}
use Rattle.week_book.specs.Weeks.{IsOrder}
use Rattle.sample_weeks.proofs.OneDriver.{all-one, distinct-one, each-one}
use Rattle.sample_weeks.proofs.trips.orders.Goals as goal

pub returns : goal.returns
returns c =
    let order : Order = record { name = 65 ∷ []; place = 1; opens = c.args.opens; closes = c.args.closes; service = 30; kg = 12000; price = 9000 } in
    let items : c.push.new.self ≡ order ∷ [] = search rules in
    rw items (
      refl,
      all-one (IsOrder 2) order (search rules),
      record {
        formed = all-one (λ name. is_name name ≡ true) (65 ∷ []) refl;
        distinct = distinct-one bytes_eq (65 ∷ []);
      },
      each-one (λ (o : Order). o.place ≡ 1) order refl,
      refl,
    )
