-- The cleared outlook is filled, and the scale and the barred orders stay.
use Rattle.std.proofs.Common.{List, length, ap, sym, subst, ◌∙◌, arith, ℕ}
use Rattle.week_book.specs.declared.weeks.Driver.{Driver}
use Rattle.duty_plan.specs.Duties.{capacity_or_none}
use Rattle.duty_outlook.specs.declared.outlooks.Scale.{Scale}
use Rattle.duty_outlook.specs.Covering.{AreDone, is_barred_for}
use Rattle.duty_outlook.proofs.Lists.{found-item}
use Rattle.duty_outlook.proofs.Filled.{filled-blank}
use Rattle.duty_outlook.proofs.outlooks.Outlook.fill.Goals as goal

pub fill_all-requires : goal.fill_all-requires
fill_all-requires c =
    filled-blank c.args.case.now.week c.args.prices.now c.clear.new.self c.requires.case.week c.requires.prices c.clear.ensures.blank

pub returns : goal.returns
returns c =
    let low = c.requires.driver in
    let few = ap (λ (drivers : List Driver). length drivers) c.as_slice.ensures in
    let lorry = found-item _ _ _ _ _ c.as_slice.ensures (omega (arith, low, few)) c.index-as_slice-driver.is in
    record {
      filled = c.fill_all.ensures.filled;
      capacity = ap (λ (scale : Scale). scale.capacity) (c.fill_all.ensures.same.scale ∙ c.clear.ensures.same.scale)
          ∙ (c.scale_of-self.ensures ∙ sym (ap capacity_or_none lorry));
      barred = subst (λ (x : ℕ). AreDone x (is_barred_for c.args.case.now.week c.args.pairs.now c.args.driver))
          (sym (c.fill_all.ensures.same.barred ∙ c.clear.ensures.same.barred)) c.barred_orders-self.ensures;
    }
