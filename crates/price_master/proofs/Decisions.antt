-- What a path of decisions forces and bars.
use Rattle.std.proofs.Common.{◌≡◌, ◌≢◌, ◌&&◌, not, ℕ, ◌<◌, Bool, true, false, cond, List, length, refl, ◌∙◌, arith, eqb}
use Rattle.std.proofs.lemmas.Bool.Decides.{nat_tests}
use Rattle.duty_plan.specs.declared.deciding.Pairs.{Pairs}
use Rattle.duty_plan.specs.declared.nodes.Decision.{Decision}
use Rattle.duty_plan.specs.declared.deciding.Pair.{Pair}
use Rattle.duty_plan.specs.declared.deciding.Pair.TheVariants.{Free, Forced, Barred}
use Rattle.duty_plan.specs.Values.{pair_at, ArePairsOf, forced_by, barred_by, is_pair}
use Rattle.week_book.specs.declared.weeks.Week.{Week}

-- the three answers of a decision
abbrev pub pair_of : Bool → Bool → Pair
pair_of f b = cond f Forced (cond b Barred Free)

pub is-forced : (f b : Bool) → pair_of f b ≡ Forced → f ≡ true
is-forced true b h = refl
is-forced false true h = cc
is-forced false false h = cc

pub is-barred : (f b : Bool) → pair_of f b ≡ Barred → (f ≡ false) × (b ≡ true)
is-barred true b h = cc
is-barred false true h = (refl, refl)
is-barred false false h = cc

pub is-free : (f b : Bool) → pair_of f b ≡ Free → (f ≡ false) × (b ≡ false)
is-free true b h = cc
is-free false true h = cc
is-free false false h = (refl, refl)

pub is-pair : (k q d o : ℕ) → is_pair k q d o ≡ true → (k ≡ d) × (q ≡ o)
is-pair k q d o h = (grind (arith, nat_tests), grind (arith, nat_tests))

pub pair-same : (d o : ℕ) → is_pair d o d o ≡ true
pair-same d o = grind (arith, nat_tests)

pub other-pair : (k q d o : ℕ) → (not (eqb k d) && eqb q o) ≡ true → (k ≢ d) × (q ≡ o)
other-pair k q d o h = (grind (arith, nat_tests), grind (arith, nat_tests))

-- what is Forced or Barred by a path
pub path-forced : (week : Week) (path : List Decision) (pairs : Pairs) (k q : ℕ) →
    k < length week.drivers → q < length week.orders → ArePairsOf week path pairs → forced_by k q path ≡ true → pair_at pairs k q ≡ Forced
path-forced week path pairs k q a b p f = p.each k q a b ∙ rw f refl

pub path-barred : (week : Week) (path : List Decision) (pairs : Pairs) (k q : ℕ) →
    k < length week.drivers → q < length week.orders → ArePairsOf week path pairs → forced_by k q path ≡ false → barred_by k q path ≡ true →
    pair_at pairs k q ≡ Barred
path-barred week path pairs k q a b p f g = p.each k q a b ∙ rw (f, g) refl
