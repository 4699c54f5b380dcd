-- Which key the row of an item has: its kind, and the item's name or ends.
use Rattle.std.proofs.Common.{◌≡◌, ◌∙◌, ℕ, true, ◌==◌, Some, List, ◌∷◌, ◌++◌, refl, ap}
use Rattle.std.proofs.lemmas.Bool.{eqb-true, and_parts}
use Rattle.std.specs.Option.{IfSome}
use Rattle.std.specs.Cmp.Lexicographic.{bytes_decides}
use Rattle.week_book.specs.declared.rows.Row.{Row}
use Rattle.week_book.specs.declared.rows.Row.TheVariants as row
use Rattle.week_book.specs.declared.weeks.Leg.{Leg}
use Rattle.week_book.specs.Names.{number_of}
use Rattle.week_book.specs.Keys.{key_of}
use Rattle.week_book.specs.Numbers.{place_in, driver_in, leg_in, order_in, unknown_name}
use Rattle.week_book.specs.Weeks.{same_ends}
use Rattle.week_book.proofs.Maps.{number_same}
use Rattle.week_book.proofs.Items.{Links}
use Rattle.week_book.proofs.Faultless.{neither}
use Rattle.week_book.proofs.Sound.{known_parts, IsSound, known_number}

pub place_key : (r : Row) → IfSome (place_in r) (λ name. key_of r ≡ Some (1 ∷ name))
place_key (row.Place n name) = refl
place_key _ = tt

pub driver_key : (r : Row) → IfSome (driver_in r) (λ driver. key_of r ≡ Some (3 ∷ driver.name))
driver_key (row.Driver n name capacity fee) = refl
driver_key _ = tt

pub order_key : (places : List (List ℕ)) (r : Row) → IfSome (order_in places r) (λ order. key_of r ≡ Some (6 ∷ order.name))
order_key places (row.Order n name place opens closes service kg price) = refl
order_key places _ = tt

-- the names of a leg's ends
pub record Ends (places : List (List ℕ)) (r : Row) (x : Leg) : Type 0 where
  pub from : List ℕ
  pub to : List ℕ
  pub key : key_of r ≡ Some (2 ∷ (from ++ (44 ∷ to)))
  pub from_is : number_of places from ≡ Some x.from
  pub to_is : number_of places to ≡ Some x.to

pub leg_ends : (places drivers : List (List ℕ)) (r : Row) → IsSound places drivers r → IfSome (leg_in places r) (Ends places r)
leg_ends places drivers (row.Leg n from to minutes cents) good =
    let known = known_parts places drivers (row.Leg n from to minutes cents) good.known in
    let names = neither (unknown_name places n 2 from) (unknown_name places n 3 to) known.0 in
    record {
      from = from;
      to = to;
      key = refl;
      from_is = known_number places n 2 from names.0;
      to_is = known_number places n 3 to names.1;
    }
leg_ends places drivers _ good = tt

-- two names with one number are one name
one_name : (names : List (List ℕ)) (p q : List ℕ) (a b : ℕ) → number_of names p ≡ Some a → number_of names q ≡ Some b → (a == b) ≡ true → p ≡ q
one_name names p q a b is_a is_b same = (bytes_decides p q).0 (number_same names p q b (is_a ∙ ap Some (eqb-true a b same)) is_b)

-- two legs with the same ends come from rows with a common key
pub leg_links : (places : List (List ℕ)) → Links (Ends places) same_ends
leg_links places r s x y a b same =
    let parts = and_parts (x.from == y.from) (x.to == y.to) same in
    let from = one_name places a.from b.from x.from y.from a.from_is b.from_is parts.0 in
    let to = one_name places a.to b.to x.to y.to a.to_is b.to_is parts.1 in
    let key = a.key ∙ ap (λ (p : List ℕ). Some (2 ∷ (p ++ (44 ∷ a.to)))) from ∙ ap (λ (q : List ℕ). Some (2 ∷ (b.from ++ (44 ∷ q)))) to in
    (2 ∷ (b.from ++ (44 ∷ b.to)), key, b.key)
