-- Each act is admitted by the row as it was raised last.
use Rattle.std.proofs.Common.{arith}
use Rattle.duty_plan.specs.declared.duties.Act.{Act}
use Rattle.duty_plan.specs.declared.duties.Act.TheVariants.{Leg, Serve, Load}
use Rattle.duty_outlook.specs.Outlooks.{AdmitsRow}
use Rattle.duty_outlook.proofs.Raising.{grows-on, row-up}
use Rattle.duty_outlook.proofs.Filled.{row-covers}
use Rattle.duty_outlook.proofs.outlooks.Outlook.best_row.Goals as goal

pub returns : goal.returns
returns c f =
    let week = c.args.week.now in
    let prices = c.args.prices.now in
    let spot = c.args.spot in
    let depot = c.raise_depot.new.row in
    let legs = c.raise_legs.new.row in
    let row = c.raise_services.new.row in
    let more = grows-on depot legs row c.raise_legs.ensures.grows c.raise_services.ensures.grows in
    row-covers week c.args.self.now.scale.capacity c.args.self.now.scale.unit prices spot c.later_row-row.result row f.is_week f.is_prices
    (c.later_row-row.ensures week prices f) (grows-on c.later_row-row.result depot row c.raise_depot.ensures.grows more)
    (λ e level l. omega (arith, more level l, c.raise_depot.ensures.home e level l))
    (λ act. elim act as (λ (act : Act). AdmitsRow week c.args.self.now.scale.capacity c.args.self.now.scale.unit prices spot act row) [
      | Leg to ↦
          row-up week c.args.self.now.scale.capacity c.args.self.now.scale.unit prices spot (Leg to) legs row c.raise_services.ensures.grows
          (c.raise_legs.ensures.admits to prices f)
      | Serve number ↦ c.raise_services.ensures.admits f number
      | Load ↦
          row-up week c.args.self.now.scale.capacity c.args.self.now.scale.unit prices spot Load depot row more
          (c.raise_depot.ensures.admits prices f)
    ])
