-- The workers are written back whole.
use Rattle.std.proofs.Common.{◌≡◌, All, ap, length, sym, subst, ◌∙◌, arith}
use Rattle.std.proofs.Math.ListN.{drop}
use Rattle.label_arena.specs.Counting.{times, total}
use Rattle.label_arena.specs.Views.{IsReady}
use Rattle.duty_plan.specs.Duties.{EachOf}
use Rattle.duty_pricing.specs.Finding.{IsEmpty}
use Rattle.pricing_pool.specs.Working.{HasAnswerOfClass, HasEnded, HaveClasses}
use Rattle.pricing_pool.proofs.Elements.{taken}
use Rattle.pricing_pool.proofs.Ending.{all-empty, all-ready, ended-round, have-classes}
use Rattle.pricing_pool.proofs.shared.price_shared.Goals as goal

pub answers_of-requires : goal.answers_of-requires
answers_of-requires g c =
    let olds = c.in_ok-workers.workers in
    let news = c.work_all.new.workers in
    let ended = subst (λ ws. EachOf (HasEnded c.args.asked.now ws) news) c.deref_mut.ensures.value c.work_all.ensures.worked in
    let whole = taken news (drop (length news) olds.items) olds.len (omega (arith, c.work_all.ensures.count, olds.ok.0)) in
    let seen : c.deref.result.now ≡ news = c.deref.ensures.value ∙ whole in
    let count : length news ≡ length c.args.asked.now.case.now.week.drivers =
    omega (arith, c.work_all.ensures.count, ap length c.deref_mut.ensures.value, c.in_ok-workers.ensures.count, c.requires.drivers) in
    subst HaveClasses (sym seen)
    (have-classes c.args.asked.now c.args.classes.now olds.items news c.in_ok-workers.ensures.staff ended count c.requires.classes)

pub release-requires-clause-workers : goal.release-requires-clause-workers
release-requires-clause-workers g c =
    let olds = c.in_ok-workers.workers in
    let news = c.work_all.new.workers in
    let ended = subst (λ ws. EachOf (HasEnded c.args.asked.now ws) news) c.deref_mut.ensures.value c.work_all.ensures.worked in
    let whole = taken news (drop (length news) olds.items) olds.len (omega (arith, c.work_all.ensures.count, olds.ok.0)) in
    subst (All (λ w. IsEmpty w.scratch)) (sym whole) (all-empty c.args.asked.now olds.items news ended)

pub returns-clause-ready : goal.returns-clause-ready
returns-clause-ready g c =
    let olds = c.in_ok-workers.workers in
    let news = c.work_all.new.workers in
    let name = c.args.asked.now.round.now.name in
    let ended = subst (λ ws. EachOf (HasEnded c.args.asked.now ws) news) c.deref_mut.ensures.value c.work_all.ensures.worked in
    let whole = taken news (drop (length news) olds.items) olds.len (omega (arith, c.work_all.ensures.count, olds.ok.0)) in
    c.in_ok-seats.ensures.ready name
    (subst (All (λ w. IsReady name w.seat)) (sym whole) (all-ready c.args.asked.now olds.items news ended))

pub returns-clause-round : goal.returns-clause-round
returns-clause-round g c counter once =
    let olds = c.in_ok-workers.workers in
    let news = c.work_all.new.workers in
    let ended = subst (λ ws. EachOf (HasEnded c.args.asked.now ws) news) c.deref_mut.ensures.value c.work_all.ensures.worked in
    let whole = taken news (drop (length news) olds.items) olds.len (omega (arith, c.work_all.ensures.count, olds.ok.0)) in
    let seen : c.deref.result.now ≡ news = c.deref.ensures.value ∙ whole in
    let answers = c.in_ok-answers.answers in
    let count : length news ≡ length c.args.asked.now.case.now.week.drivers =
    omega (arith, c.work_all.ensures.count, ap length c.deref_mut.ensures.value, c.in_ok-workers.ensures.count, c.requires.drivers) in
    ended-round c.args.asked.now c.args.classes.now olds.items news answers c.in_ok-workers.ensures.staff ended count
    (c.in_ok-answers.ensures.count ∙ ap length seen)
    (subst (λ ws. EachOf (HasAnswerOfClass ws) answers) seen c.in_ok-answers.ensures.found)
    c.requires.classes counter
    (λ x. ap (total (λ w. times x w.seat.drawn)) (sym whole) ∙ (sym (c.in_ok-seats.ensures.drawn x) ∙ once x))
