use Rattle.std.proofs.Common.{◌≡◌, [], ◌∷◌, refl, rules}
use Rattle.week_book.specs.declared.weeks.Leg.{Leg}
use Rattle.week_book.specs.Weeks.{IsLeg, same_ends}
use Rattle.sample_weeks.proofs.OneDriver.{all-two, distinct-two, each-two}
use Rattle.sample_weeks.proofs.trips.legs.Goals as goal

pub returns : goal.returns
returns c =
    let there : Leg = record { from = 0; to = 1; minutes = 60; cents = 3000 } in
    let back : Leg = record { from = 1; to = 0; minutes = 60; cents = 3000 } in
    let items : c.push-2.new.self ≡ there ∷ back ∷ [] = search rules in
    rw items (
      refl,
      all-two (IsLeg 2) there back (search rules) (search rules),
      distinct-two same_ends there back refl,
      each-two (λ (l : Leg). l.cents ≡ 3000) there back refl refl,
    )
