use Rattle.std.proofs.Common.{◌≡◌, List, [], ◌∷◌, length, ℤ, pos, neg_ℤ, Result, Ok, Err, IfOk, refl, sym, subst, arith}
use Rattle.std.proofs.lemmas.Int.{ints}
use Rattle.minute_line.specs.declared.many.Memory.{Memory}
use Rattle.sample_weeks.proofs.OneDriver.{each-two}
use Rattle.price_master.specs.Valuing.{IsModest, AreModest}
use Rattle.pool_tests.proofs.choosing.least_values.Goals as goal

modest : IsModest (neg_ℤ (pos 10000))
modest = record { low = omega (arith, ints); high = omega (arith, ints) }

both : (values : Result (List ℤ) Memory) → IfOk values (λ list. list ≡ neg_ℤ (pos 10000) ∷ neg_ℤ (pos 10000) ∷ []) →
    IfOk values (λ list. (length list ≡ 2) × AreModest list)
both (Ok list) h =
    let each : AreModest (neg_ℤ (pos 10000) ∷ neg_ℤ (pos 10000) ∷ []) =
    each-two IsModest (neg_ℤ (pos 10000)) (neg_ℤ (pos 10000)) modest modest in
    subst (λ values. (length values ≡ 2) × AreModest values) (sym h) (refl, each)
both (Err want) h = tt

pub returns : goal.returns
returns c = both c.from_slice.result c.from_slice.ensures
