use Rattle.label_arena.proofs.Machine.{draws_once, has_one_holder, holds_chunks_alone, finds_next_at_home, draws_all_before_full}
use Rattle.label_arena.proofs.laws.claim_machine.Goals as goal

pub returns-clause-once : goal.returns-clause-once
returns-clause-once c = draws_once

pub returns-clause-holder : goal.returns-clause-holder
returns-clause-holder c = has_one_holder

pub returns-clause-chunks : goal.returns-clause-chunks
returns-clause-chunks c = holds_chunks_alone

pub returns-clause-full : goal.returns-clause-full
returns-clause-full c = draws_all_before_full

pub returns-clause-next : goal.returns-clause-next
returns-clause-next c = finds_next_at_home
