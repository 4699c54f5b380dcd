-- All heads are 0.
use Rattle.std.proofs.Common.{ℕ, List, length, refl, ap, ◌∙◌}
use Rattle.std.proofs.lemmas.List.{length-replicate}
use Rattle.duty_pricing.proofs.Beginning.{none-chained}
use Rattle.duty_pricing.proofs.emptying.make_store.Goals as goal

pub returns : goal.returns
returns c =
    let minutes = c.in_ok-vec.ensures.items_if_clones_equal (λ y h. h) in
    let cells = c.in_ok-vec-2.ensures.items_if_clones_equal (λ y h. h) in
    record {
      none = c.in_ok-with_room.ensures;
      no_chunk = c.in_ok-with_room-2.ensures;
      unknown = refl;
      chained = none-chained c.in_ok-vec.field-0.items c.in_ok-vec-2.field-0.items 10081 21632 minutes cells;
      room = record {
        minutes = ap (λ (xs : List ℕ). length xs) minutes ∙ length-replicate {A = ℕ} 10081 0;
        cells = ap (λ (xs : List ℕ). length xs) cells ∙ length-replicate {A = ℕ} 21632 0;
      };
    }
