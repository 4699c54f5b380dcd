-- A bettered partial duty may be forgotten: what it could still become, the better one becomes with listed stays, inside the same pairs and
-- at no larger value.
use Rattle.std.proofs.Common.{◌≡◌, ℕ, ◌-◌, Bool, ◌||◌, List, [], ◌∷◌, ◌++◌, length, refl, ap, sym, subst, ◌∙◌, arith, ℤ, pos, ◌-ℤ◌, ◌≤ℤ◌}
use Rattle.duty_plan.specs.declared.duties.Act.{Act}
use Rattle.duty_plan.specs.declared.plans.Case.{Case}
use Rattle.duty_plan.specs.declared.deciding.Pairs.{Pairs}
use Rattle.duty_plan.specs.declared.pricing.Prices.{Prices}
use Rattle.duty_plan.specs.Acts.{order_of_act, serves_order}
use Rattle.duty_plan.specs.PartialDuties.{PartialDuty, serves}
use Rattle.duty_plan.specs.Duties.{IsCase, cost_after, orders_of, worth}
use Rattle.duty_plan.specs.Values.{price_at, IsInside, reduced_cost}
use Rattle.duty_plan.specs.Labels.{forced_orders}
use Rattle.dominance.specs.Completions.{acts_of, IsCompletion, delayed}
use Rattle.dominance.specs.Forgetting.{KeepsValueInside, MayForget, MayForgetWithin, ShiftKeepsValue}
use Rattle.dominance.proofs.Simulating.{simulate, keeps_completions, simulate_within}
use Rattle.dominance.proofs.Shifting.{lists_completions}

head-same : (x y : Act) (xs ys : List Act) → x ∷ xs ≡ y ∷ ys → x ≡ y
head-same x y xs ys e = cc

tail-same : (x y : Act) (xs ys : List Act) → x ∷ xs ≡ y ∷ ys → xs ≡ ys
tail-same x y xs ys e = cc

serves-same : (o : ℕ) (partial more listed : PartialDuty) → acts_of listed ≡ acts_of more → serves o (listed ++ partial) ≡ serves o (more ++ partial)
serves-same o partial [] [] e = refl
serves-same o partial [] (s ∷ listed) e = cc
serves-same o partial (s ∷ more) [] e = cc
serves-same o partial (s ∷ more) (t ∷ listed) e =
    let here : serves_order o t.act ≡ serves_order o s.act = ap (serves_order o) (head-same t.act s.act (acts_of listed) (acts_of more) e) in
    let rest : serves o (listed ++ partial) ≡ serves o (more ++ partial) = serves-same o partial more listed (tail-same t.act s.act (acts_of listed) (acts_of more) e) in
    ap (λ (x : Bool). x || serves o (listed ++ partial)) here ∙ ap (λ (x : Bool). serves_order o s.act || x) rest

orders-same : (partial more listed : PartialDuty) → acts_of listed ≡ acts_of more → orders_of (listed ++ partial) ≡ orders_of (more ++ partial)
orders-same partial [] [] e = refl
orders-same partial [] (s ∷ listed) e = cc
orders-same partial (s ∷ more) [] e = cc
orders-same partial (s ∷ more) (t ∷ listed) e =
    let here : order_of_act t.act ≡ order_of_act s.act = ap order_of_act (head-same t.act s.act (acts_of listed) (acts_of more) e) in
    let rest : orders_of (listed ++ partial) ≡ orders_of (more ++ partial) = orders-same partial more listed (tail-same t.act s.act (acts_of listed) (acts_of more) e) in
    ap (λ (x : List ℕ). x ++ orders_of (listed ++ partial)) here ∙ ap (λ (x : List ℕ). order_of_act s.act ++ x) rest

pub shift_keeps : ShiftKeepsValue
shift_keeps case driver partial more listed s = record {
  value = λ prices.
      ap (λ (x : ℕ). pos x -ℤ pos (worth (price_at prices) (orders_of (listed ++ partial)))) s.cost
      ∙ ap (λ (x : List ℕ). pos (cost_after case driver (more ++ partial)) -ℤ pos (worth (price_at prices) x)) (orders-same partial more listed s.acts);
  inside = λ pairs i. record {
    forced = λ o l h. serves-same o partial more listed s.acts ∙ i.forced o l h;
    barred = λ o l h. serves-same o partial more listed s.acts ∙ i.barred o l h;
  };
}

lengths-same : (more listed : PartialDuty) → acts_of listed ≡ acts_of more → length listed ≡ length more
lengths-same [] [] e = refl
lengths-same [] (s ∷ listed) e = cc
lengths-same (s ∷ more) [] e = cc
lengths-same (s ∷ more) (t ∷ listed) e = omega (arith, lengths-same more listed (tail-same t.act s.act (acts_of listed) (acts_of more) e))

-- a completion that does the same acts is as good once its stays are listed
as-good : (case : Case) (driver : ℕ) (pairs : Pairs) (prices : Prices) (better worse more waited : PartialDuty) → IsCase case →
    IsCompletion case driver better waited → acts_of waited ≡ acts_of more → IsInside case.week pairs driver (waited ++ better) →
    reduced_cost case driver prices (waited ++ better) ≤ℤ reduced_cost case driver prices (more ++ worse) →
    KeepsValueInside case driver pairs prices worse more better
as-good case driver pairs prices better worse more waited c done acts inside low =
    let t = lists_completions case driver better waited c done in
    let k = shift_keeps case driver better waited t.0 t.1 in
    record {
      later = t.0;
      listed = t.1.listed_stays;
      completes = t.2;
      steps = lengths-same waited t.0 t.1.acts ∙ lengths-same more waited acts;
      inside = k.inside pairs inside;
      value = subst (λ (x : ℤ). x ≤ℤ reduced_cost case driver prices (more ++ worse)) (sym (k.value prices)) low;
    }

pub may_forget : MayForget
may_forget case driver pairs prices a b better worse more c lf ls la lb fa fb h done inside =
    let forced = forced_orders case.week pairs driver in
    let s = simulate case driver prices forced a b better worse more c lf ls la lb fa fb h done.lawful in
    as-good case driver pairs prices better worse more (delayed (b.clock.at - a.clock.at) more) c
    (keeps_completions case driver prices forced a b better worse more c lf ls la lb fa fb h done) s.acts (s.inside pairs refl inside) s.value

pub may_forget_within : MayForgetWithin
may_forget_within case driver pairs prices reach a b better worse more c lf ls la lb fa fb u r h done inside =
    let forced = forced_orders case.week pairs driver in
    let s = simulate_within case driver prices forced reach a b better worse more c lf ls la lb fa fb h (r more done inside) done.lawful in
    as-good case driver pairs prices better worse more (delayed (b.clock.at - a.clock.at) more) c
    (record { lawful = s.lawful; home = s.place ∙ done.home }) s.acts (s.inside pairs refl u inside) s.value
