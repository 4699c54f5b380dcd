use Rattle.minute_line.specs.declared.marks.Kind.TheVariants.{Plain}
use Rattle.duty_plan.specs.PartialDuties.{line_after}
use Rattle.hours_rules.proofs.Faults.{fault-off}
use Rattle.duty_plan.proofs.laws.rest_is_free.Goals as goal

pub returns : goal.returns
returns c = λ past week partial n. fault-off 0 past n Plain (line_after week partial)
