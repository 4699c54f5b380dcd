use Rattle.cheap_plans.proofs.LawfulGuesses.{all-lawful}
use Rattle.cheap_plans.proofs.guessing.ask.Goals as goal

pub pool_guesses-requires-clause-lawful : goal.pool_guesses-requires-clause-lawful
pool_guesses-requires-clause-lawful g c =
    all-lawful c.args.case.now c.args.pairs.now c.in_ok-guesses.guesses c.as_slice.result.now c.in_ok-guesses.ensures.guesses c.as_slice.ensures
