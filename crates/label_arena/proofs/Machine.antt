-- The laws of the claim machine, by what each of its steps keeps.
use Rattle.std.proofs.Common.{All, ◌≡◌, inl, inr, ℕ, zero, suc, ◌+◌, ◌<◌, ◌≤◌, List, [], ◌∷◌, ◌++◌, set, sym, ap, subst, ◌∙◌, refl, arith, Some, slice_get}
use Rattle.std.specs.Prelude.{remove}
use mathlib.Core.Logic.{dite}
use native.Mathlib.Decide.{dec_le, ℕ_discrete}
use Rattle.std.proofs.lemmas.Bool.Decides.{nat_tests}
use Rattle.label_arena.specs.Counting.{times, once_below, total, without}
use Rattle.label_arena.specs.Machine.{ClaimSeat, ClaimState, ClaimStep, claims, takes, gives, splits, joins, idle_seat, IsAtStart, Claims, Takes, Gives, Splits, Joins, Steps, Runs}
use Rattle.label_arena.specs.Laws.{DrawsOnce, HasOneHolder, HoldsChunksAlone, FindsNextAtHome, DrawsAllBeforeFull}
use Rattle.label_arena.proofs.Counts.{total_snoc, times_snoc, times-append, times_self, times_else, once_suc, once_pos, once_is_one, once_le}
use Rattle.label_arena.proofs.Placed.{total_put, total_least, total-remove, has_share, get-set_else}

without_le : (x n : ℕ) (xs : List ℕ) → times x (without n xs) ≤ times x xs
without_le x n [] = omega arith
without_le x n (y ∷ ys) = let rest = without_le x n ys in grind (arith, nat_tests)

-- what the seat holds it drew
abbrev Drew : ClaimSeat → Type 0
Drew seat = (x : ℕ) → times x seat.held ≤ times x seat.drawn

-- each seat drew what it holds
abbrev AllDrew : List ClaimSeat → Type 0
AllDrew [] = Unit {0}
AllDrew (seat ∷ rest) = Drew seat × AllDrew rest

drew_at : (seats : List ClaimSeat) (i : ℕ) (seat : ClaimSeat) → AllDrew seats → slice_get seats i ≡ Some seat → Drew seat
drew_at [] i seat all at = absurd (cc)
drew_at (x ∷ xs) zero seat all at = let same : x ≡ seat = cc in subst Drew same all.0
drew_at (x ∷ xs) (suc i) seat all at = drew_at xs i seat all.1 at

drew_set : (seats : List ClaimSeat) (i : ℕ) (seat : ClaimSeat) → AllDrew seats → Drew seat → AllDrew (set seats i seat)
drew_set [] i seat all drew = tt
drew_set (x ∷ xs) zero seat all drew = (drew, all.1)
drew_set (x ∷ xs) (suc i) seat all drew = (all.0, drew_set xs i seat all.1 drew)

drew_snoc : (seats : List ClaimSeat) (seat : ClaimSeat) → AllDrew seats → Drew seat → AllDrew (seats ++ seat ∷ [])
drew_snoc [] seat all drew = (drew, tt)
drew_snoc (x ∷ xs) seat all drew = (all.0, drew_snoc xs seat all.1 drew)

drew_remove : (seats : List ClaimSeat) (i : ℕ) → AllDrew seats → AllDrew (remove seats i)
drew_remove [] zero all = tt
drew_remove [] (suc i) all = tt
drew_remove (x ∷ xs) zero all = all.1
drew_remove (x ∷ xs) (suc i) all = (all.0, drew_remove xs i all.1)

abbrev drawn_times : ℕ → ClaimSeat → ℕ
drawn_times x seat = times x seat.drawn

abbrev held_times : ℕ → ClaimSeat → ℕ
held_times x seat = times x seat.held

-- what every step keeps
record Keeps (state : ClaimState) : Type 0 where
  draws : (x : ℕ) → total (drawn_times x) state.seats ≡ once_below x state.counter
  holds : (x : ℕ) → total (held_times x) state.seats ≤ 1
  within : (x : ℕ) → state.chunks ≤ x → total (held_times x) state.seats ≡ 0
  drew : AllDrew state.seats

claim_keeps : (place : ℕ) (old new : ClaimState) → Keeps old → Claims place old new → Keeps new
claim_keeps place old new k did =
    let seat = did.0 in let at = did.1 in
    let c : ℕ = old.counter in
    let after : ClaimSeat = record { drawn = seat.drawn ++ c ∷ []; held = seat.held } in
    subst Keeps (sym did.2) record {
      draws = λ x. (let all = k.draws x in let sum = total_put (drawn_times x) old.seats place seat after at in
          omega (arith, times_snoc x c seat.drawn, once_suc x c));
      holds = λ x. (let all = k.holds x in let sum = total_put (held_times x) old.seats place seat after at in omega arith);
      within = λ x le. (let all = k.within x le in let sum = total_put (held_times x) old.seats place seat after at in omega arith);
      drew = drew_set old.seats place after k.drew (λ x. let drew = drew_at old.seats place seat k.drew at x in omega (arith, times_snoc x c seat.drawn));
    }

take_keeps : (place number : ℕ) (old new : ClaimState) → Keeps old → Takes place number old new → Keeps new
take_keeps place number old new k did =
    let seat = did.0 in let at = did.1 in let below = did.2 in let drew_it = did.3 in let home = did.4 in
    let after : ClaimSeat = record { drawn = seat.drawn; held = number ∷ seat.held } in
    subst Keeps (sym did.5) record {
      draws = λ x. (let all = k.draws x in let sum = total_put (drawn_times x) old.seats place seat after at in omega arith);
      holds = λ x. (let all = k.holds x in let sum = total_put (held_times x) old.seats place seat after at in dite (ℕ_discrete x number)
          (λ e. let none : total (held_times x) old.seats ≡ 0 = ap (λ y. total (held_times y) old.seats) e ∙ home in
          let one : times x (number ∷ seat.held) ≡ 1 + times x seat.held = ap (λ y. times x (y ∷ seat.held)) (sym e) ∙ times_self x seat.held in omega arith)
          (λ ne. let less = times_else x number seat.held ne in omega arith));
      within = λ x le. (let all = k.within x le in let sum = total_put (held_times x) old.seats place seat after at in
          let less = times_else x number seat.held (λ e. omega arith) in omega arith);
      drew = drew_set old.seats place after k.drew (λ x. let drew = drew_at old.seats place seat k.drew at x in dite (ℕ_discrete x number)
          (λ e. let least = total_least (held_times x) old.seats place seat at in
          let none : total (held_times x) old.seats ≡ 0 = ap (λ y. total (held_times y) old.seats) e ∙ home in
          let had : 0 < times x seat.drawn = subst (λ y. 0 < times y seat.drawn) (sym e) drew_it in
          let one : times x (number ∷ seat.held) ≡ 1 + times x seat.held = ap (λ y. times x (y ∷ seat.held)) (sym e) ∙ times_self x seat.held in omega arith)
          (λ ne. let less = times_else x number seat.held ne in omega arith));
    }

give_keeps : (place number : ℕ) (old new : ClaimState) → Keeps old → Gives place number old new → Keeps new
give_keeps place number old new k did =
    let seat = did.0 in let at = did.1 in
    let after : ClaimSeat = record { drawn = seat.drawn; held = without number seat.held } in
    subst Keeps (sym did.3) record {
      draws = λ x. (let all = k.draws x in let sum = total_put (drawn_times x) old.seats place seat after at in omega arith);
      holds = λ x. (let all = k.holds x in let sum = total_put (held_times x) old.seats place seat after at in let less = without_le x number seat.held in omega arith);
      within = λ x le. (let all = k.within x le in let sum = total_put (held_times x) old.seats place seat after at in let less = without_le x number seat.held in omega arith);
      drew = drew_set old.seats place after k.drew (λ x. let drew = drew_at old.seats place seat k.drew at x in let less = without_le x number seat.held in omega arith);
    }

split_keeps : (old new : ClaimState) → Keeps old → Splits old new → Keeps new
split_keeps old new k did = subst Keeps (sym did) record {
  draws = λ x. (let all = k.draws x in let sum = total_snoc (drawn_times x) old.seats idle_seat in omega arith);
  holds = λ x. (let all = k.holds x in let sum = total_snoc (held_times x) old.seats idle_seat in omega arith);
  within = λ x le. (let all = k.within x le in let sum = total_snoc (held_times x) old.seats idle_seat in omega arith);
  drew = drew_snoc old.seats idle_seat k.drew (λ x. omega arith);
}

join_keeps : (ending place : ℕ) (old new : ClaimState) → Keeps old → Joins ending place old new → Keeps new
join_keeps ending place old new k did =
    let last = did.0 in let seat = did.1 in let at = did.3 in
    let after : ClaimSeat = record { drawn = seat.drawn ++ last.drawn; held = seat.held } in
    let seats : List ClaimSeat = set old.seats place after in
    let there : slice_get seats ending ≡ Some last = get-set_else old.seats place ending after did.4 ∙ did.2 in
    let bare : (x : ℕ) → times x last.held ≡ 0 = λ x. ap (times x) did.5 in
    subst Keeps (sym did.6) record {
      draws = λ x. (let all = k.draws x in let one = total_put (drawn_times x) old.seats place seat after at in
          let two = total-remove (drawn_times x) seats ending last there in omega (arith, times-append x seat.drawn last.drawn));
      holds = λ x. (let all = k.holds x in let none = bare x in let one = total_put (held_times x) old.seats place seat after at in
          let two = total-remove (held_times x) seats ending last there in omega arith);
      within = λ x le. (let all = k.within x le in let none = bare x in let one = total_put (held_times x) old.seats place seat after at in
          let two = total-remove (held_times x) seats ending last there in omega arith);
      drew = drew_remove seats ending (drew_set old.seats place after k.drew (λ x. let drew = drew_at old.seats place seat k.drew at x in omega (arith, times-append x seat.drawn last.drawn)));
    }

step_keeps : (step : ClaimStep) (old new : ClaimState) → Keeps old → Steps step old new → Keeps new
step_keeps (claims place) old new k did = claim_keeps place old new k did
step_keeps (takes place number) old new k did = take_keeps place number old new k did
step_keeps (gives place number) old new k did = give_keeps place number old new k did
step_keeps splits old new k did = split_keeps old new k did
step_keeps (joins ending place) old new k did = join_keeps ending place old new k did

runs_keep : (steps : List ClaimStep) (old new : ClaimState) → Keeps old → Runs steps old new → Keeps new
runs_keep [] old new k did = subst Keeps (sym did) k
runs_keep (step ∷ rest) old new k did = runs_keep rest did.0 new (step_keeps step old did.0 k did.1) did.2

idle_at_start : (seats : List ClaimSeat) → All (λ seat. seat ≡ idle_seat) seats → ((x : ℕ) → (total (drawn_times x) seats ≡ 0) × (total (held_times x) seats ≡ 0)) × AllDrew seats
idle_at_start [] all = ((λ x. (refl, refl)), tt)
idle_at_start (seat ∷ rest) all =
    let here : seat ≡ idle_seat = all 0 seat (omega arith) in
    let later = idle_at_start rest (λ k d lt. all (suc k) d (omega arith)) in (
      (λ x. let drew : times x seat.drawn ≡ 0 = ap (drawn_times x) here in let held : times x seat.held ≡ 0 = ap (held_times x) here in let more = later.0 x in (omega arith, omega arith)),
      ((λ x. let held : times x seat.held ≡ 0 = ap (held_times x) here in omega arith), later.1),
    )

start_keeps : (start : ClaimState) → IsAtStart start → Keeps start
start_keeps start at = let idle = idle_at_start start.seats at.1 in let zero_counter = at.0 in record {
  draws = λ x. (let none = idle.0 x in let bare : once_below x start.counter ≡ 0 = ap (once_below x) zero_counter ∙ none_below x in omega arith);
  holds = λ x. (let none = idle.0 x in omega arith);
  within = λ x le. (idle.0 x).1;
  drew = idle.1;
}
  where
    none_below : (x : ℕ) → once_below x 0 ≡ 0
    none_below x = grind (arith, nat_tests)

keeps_after : (steps : List ClaimStep) (start state : ClaimState) → IsAtStart start → Runs steps start state → Keeps state
keeps_after steps start state at runs = runs_keep steps start state (start_keeps start at) runs

pub draws_once : DrawsOnce
draws_once steps start state at runs number = (keeps_after steps start state at runs).draws number

pub holds_chunks_alone : HoldsChunksAlone
holds_chunks_alone steps start state at runs number le = (keeps_after steps start state at runs).within number le

pub has_one_holder : HasOneHolder
has_one_holder steps start state at runs number below =
    let k = keeps_after steps start state at runs in
    let most = k.holds number in dite (dec_le 1 (total (held_times number) state.seats))
    (λ held. inr (let share = has_share (held_times number) state.seats held most in
    let seat = share.1.value in
    let least = total_least (held_times number) state.seats share.0 seat share.1.at_place in
    let some = share.1.some in
    let drew = drew_at state.seats share.0 seat k.drew share.1.at_place number in
    let drawn = total_least (drawn_times number) state.seats share.0 seat share.1.at_place in
    let all = k.draws number in let once = once_le number state.counter in
    (share.0, record { seat = seat; at_place = share.1.at_place; holds = omega arith; drew = omega arith; alone = share.1.others })))
    (λ none. inl (omega arith))

-- what nobody drew nobody holds
held_by_none : (x : ℕ) (seats : List ClaimSeat) → AllDrew seats → total (drawn_times x) seats ≡ 0 → total (held_times x) seats ≡ 0
held_by_none x [] all none = refl
held_by_none x (seat ∷ rest) all none = let here = all.0 x in let later = held_by_none x rest all.1 (omega arith) in omega arith

pub finds_next_at_home : FindsNextAtHome
finds_next_at_home steps start state at runs =
    let k = keeps_after steps start state at runs in held_by_none state.counter state.seats k.drew (k.draws state.counter ∙ none_at state.counter)
  where
    none_at : (c : ℕ) → once_below c c ≡ 0
    none_at c = grind (arith, nat_tests)

pub draws_all_before_full : DrawsAllBeforeFull
draws_all_before_full steps start state at runs place past seat here le drew number below =
    let k = keeps_after steps start state at runs in
    let least = total_least (drawn_times past) state.seats place seat here in
    let all = k.draws past in
    let reached : past < state.counter = once_pos past state.counter (omega arith) in
    let it = k.draws number in let one = once_is_one number state.counter (omega arith) in omega arith
