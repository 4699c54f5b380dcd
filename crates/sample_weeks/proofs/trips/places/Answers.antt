use Rattle.std.proofs.Common.{◌≡◌, true, [], ◌∷◌, refl, rules}
use Rattle.std.specs.Str.{bytes_eq}
use Rattle.week_book.specs.Names.{is_name}
use Rattle.sample_weeks.proofs.OneDriver.{all-two, distinct-two}
use Rattle.sample_weeks.proofs.trips.places.Goals as goal

pub returns : goal.returns
returns c =
    let items : c.push-2.new.self ≡ (72 ∷ 85 ∷ 66 ∷ []) ∷ (80 ∷ []) ∷ [] = search rules in
    rw items (
      refl,
      record {
        formed = all-two (λ name. is_name name ≡ true) (72 ∷ 85 ∷ 66 ∷ []) (80 ∷ []) refl refl;
        distinct = distinct-two bytes_eq (72 ∷ 85 ∷ 66 ∷ []) (80 ∷ []) refl;
      },
    )
