use Rattle.std.proofs.Common.{◌≡◌, true, [], ◌∷◌, refl, rules}
use Rattle.std.specs.Str.{bytes_eq}
use Rattle.week_book.specs.declared.weeks.Driver.{Driver}
use Rattle.week_book.specs.Names.{is_name}
use Rattle.week_book.specs.Weeks.{IsDriver}
use Rattle.sample_weeks.proofs.OneDriver.{all-one, distinct-one, each-one}
use Rattle.sample_weeks.proofs.trips.drivers.Goals as goal

pub returns : goal.returns
returns c =
    let driver : Driver = record { name = 68 ∷ 49 ∷ []; capacity = 24000; fee = 2000 } in
    let items : c.push.new.self ≡ driver ∷ [] = search rules in
    rw items (
      refl,
      all-one IsDriver driver (search rules),
      record {
        formed = all-one (λ name. is_name name ≡ true) (68 ∷ 49 ∷ []) refl;
        distinct = distinct-one bytes_eq (68 ∷ 49 ∷ []);
      },
      each-one (λ (d : Driver). d.fee ≡ 2000) driver refl,
    )
