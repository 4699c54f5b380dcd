use Rattle.std.proofs.Common.{◌∙◌, ap, sym, List, rules}
use Rattle.std.proofs.lemmas.Slice.Eq.{slice_eq-Decides}
use Rattle.duty_plan.specs.declared.duties.Duty.{Duty}
use Rattle.duty_plan.specs.declared.duties.Step.{Step}
use Rattle.price_master.proofs.pooling.is_same.Goals as goal

abbrev of_steps : List Step → Duty
of_steps steps = record { steps = steps }

pub returns : goal.returns
returns c =
    let decides = slice_eq-Decides (λ (a b : Step). search rules) c.as_slice.result.now c.as_slice-2.result.now c.eq.result c.eq.ensures in (
      λ e. ap of_steps (sym c.as_slice.ensures ∙ decides.0 e ∙ c.as_slice-2.ensures),
      λ e. decides.1 (c.as_slice.ensures ∙ ap (λ (d : Duty). d.steps) e ∙ sym c.as_slice-2.ensures),
    )
