use Rattle.std.proofs.Common.{ℕ, ap, ◌∙◌}
use Rattle.std.specs.Int.{bit_at}
use Rattle.duty_plan.specs.PartialDuties.{serves}
use Rattle.duty_plan.proofs.Bits.{served_bits}
use Rattle.duty_plan.proofs.OfficeSteps.{anew}
use Rattle.duty_plan.proofs.office.serves_anew.Goals as goal

pub returns-in-Serve : goal.returns-in-Serve
returns-in-Serve c = λ before e.
    rw c.in-Serve.is
    (anew c.args.served c.in-Serve.order (serves c.in-Serve.order before)
    (ap (λ (bits : ℕ). bit_at bits c.in-Serve.order) e ∙ served_bits c.in-Serve.order before))
