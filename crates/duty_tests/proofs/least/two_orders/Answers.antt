use Rattle.std.proofs.Common.{◌≡◌, true, [], ◌∷◌, refl, rules}
use Rattle.std.specs.Str.{bytes_eq}
use Rattle.week_book.specs.declared.weeks.Order.{Order}
use Rattle.week_book.specs.Names.{is_name}
use Rattle.week_book.specs.Weeks.{IsOrder}
use Rattle.sample_weeks.proofs.OneDriver.{all-two, distinct-two, each-two}
use Rattle.duty_tests.proofs.least.two_orders.Goals as goal

pub returns : goal.returns
returns c =
    let a : Order = record { name = 65 ∷ []; place = 1; opens = 480; closes = 720; service = 30; kg = 12000; price = 9000 } in
    let b : Order = record { name = 66 ∷ []; place = 1; opens = 480; closes = 720; service = 30; kg = 6000; price = 4500 } in
    let items : c.push-2.new.self ≡ a ∷ b ∷ [] = search rules in
    rw items (
      refl,
      all-two (IsOrder 2) a b (search rules) (search rules),
      record {
        formed = all-two (λ name. is_name name ≡ true) (65 ∷ []) (66 ∷ []) refl refl;
        distinct = distinct-two bytes_eq (65 ∷ []) (66 ∷ []) refl;
      },
      each-two (λ (o : Order). o.place ≡ 1) a b refl refl,
    )
