use Rattle.store_texts.proofs.Computed.{draft_reads}
use Rattle.store_texts.proofs.queries.draft_query.Goals as goal

pub returns-clause-reads : goal.returns-clause-reads
returns-clause-reads c = draft_reads
