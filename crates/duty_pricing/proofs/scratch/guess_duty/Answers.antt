-- The duty that was found has few enough steps to be kept.
use Rattle.duty_pricing.proofs.Answering.{choice-few, some-choice}
use Rattle.duty_pricing.proofs.scratch.guess_duty.Goals as goal

pub copy-requires : goal.copy-requires
copy-requires c =
    choice-few c.args.case.now c.args.driver c.args.pairs.now c.steps.result.now c.requires.case
    (some-choice c.args.case.now c.args.driver c.args.pairs.now c.args.prices.now c.find-found.result _ _ c.find-found.ensures.some c.if-is_none.ensures c.steps.ensures)
