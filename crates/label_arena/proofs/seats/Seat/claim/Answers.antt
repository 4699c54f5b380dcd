use Rattle.std.proofs.Common.{rules, All, ◌≡◌, ℕ, ◌<◌, List, [], ◌∷◌, ◌++◌, sym, ap, subst, refl, ◌∙◌, arith}
use Rattle.std.specs.Prelude.{Some, None}
use Rattle.atomic_table.specs.Table.{rest}
use Rattle.label_arena.specs.Holding.{held_of}
use Rattle.label_arena.proofs.Counts.{none_beyond, below_all}
use Rattle.label_arena.proofs.Claiming.{claims}
use Rattle.label_arena.proofs.Seating.{seat_full, seat_claimed, found_empty}
use Rattle.label_arena.proofs.seats.Seat.claim.Goals as goal

pub fetch_add-number-requires : goal.fetch_add-number-requires
fetch_add-number-requires g c =
    let self = c.self.invariant in
    let round = c.round.invariant in
    let drawn : c.args.self.now.drawn ≡ c.self.inside.token.me.0.drawn = sym (ap (λ s. s.drawn) c.self.view_is) in
    let chunks : c.args.round.now.chunks ≡ c.round.inside.table.shared.table_id.slots = sym (round.1 ∙ ap (λ r. r.chunks) c.round.view_is) in
    let part = self.one_part in (
      search rules,
      omega arith,
      claims _ _ _ _ _ (omega arith) (rw (← drawn, ← chunks) (none_beyond _ _ c.requires.open)) self.seat,
    )

pub invariant_of-self : goal.invariant_of-self
invariant_of-self g c =
    let told = c.fetch_add-number.ensures in
    let round = c.round.invariant in
    let name : c.self.inside.token.table_id ≡ c.round.inside.table.shared.table_id = search rules in
    rw told.0 (seat_full _ _ _ _ _ _ c.fetch_add-number.result c.self.invariant told.2.0 told.2.1 (rw name (omega arith)) (told.2.3 (omega arith)))

pub exchange-requires : goal.exchange-requires
exchange-requires g c =
    let told = c.fetch_add-number.ensures in
    let round = c.round.invariant in
    let taken = told.2.2 (omega arith) in (search rules, (Some [], taken ∙ ap (λ l. (c.fetch_add-number.result, Some []) ∷ l) (sym (ap rest taken))))

pub invariant_of-self-2 : goal.invariant_of-self-2
invariant_of-self-2 g c =
    let told = c.fetch_add-number.ensures in
    let swapped = c.exchange.ensures in
    let push = c.push_reserved.ensures in
    let round = c.round.invariant in
    let n : ℕ = c.fetch_add-number.result in
    let name : c.self.inside.token.table_id ≡ c.round.inside.table.shared.table_id = search rules in
    let below : n < c.self.inside.token.table_id.slots = rw name (omega arith) in
    let slots : c.exchange.new.seat.table_id ≡ c.self.inside.token.table_id = swapped.0 ∙ told.0 in
    rw slots (seat_claimed _ _ _ _ _ _ _ _ n c.self.invariant (ap (λ m. m.0) swapped.3 ∙ told.2.0) told.2.1 below (omega (arith, push.capacity))
    (ap (λ m. m.1) swapped.3 ∙ ap (λ l. (n, None) ∷ rest l) (told.2.2 (omega arith))) push.items)

pub returns-clause-answer : goal.returns-clause-answer
returns-clause-answer g c =
    let told = c.fetch_add-number.ensures in
    let swapped = c.exchange.ensures in
    let round = c.round.invariant in
    let n : ℕ = c.fetch_add-number.result in
    let taken = told.2.2 (omega arith) in
    let chunks : c.round.inside.chunks ≡ c.args.round.now.chunks = ap (λ r. r.chunks) c.round.view_is in
    let drawn : c.self.inside.token.me.0.drawn ≡ c.args.self.now.drawn = ap (λ s. s.drawn) c.self.view_is in
    let held : held_of c.self.inside.token.me.1 ≡ c.args.self.now.held = ap (λ s. s.held) c.self.view_is in (
      n,
      (
        ap (λ m. m.0.drawn) swapped.3 ∙ (ap (λ v. v.drawn) told.2.0 ∙ ap (λ (l : List ℕ). l ++ n ∷ []) drawn),
        subst (λ l. All (λ x. x < n) l) drawn (below_all n _ told.2.1),
      ),
      (
        subst (λ m. n < m) chunks c.if-number-round.false,
        refl,
        found_empty _ n _ _ _ _ _ swapped.2 taken c.in-Some.is,
        ap (λ m. held_of m.1) swapped.3 ∙ (ap (λ l. n ∷ held_of (rest l)) taken ∙ ap (λ (l : List ℕ). n ∷ l) held),
      ),
    )
