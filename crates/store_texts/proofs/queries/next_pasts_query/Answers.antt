use Rattle.store_texts.proofs.Computed.{next_pasts_reads}
use Rattle.store_texts.proofs.queries.next_pasts_query.Goals as goal

pub returns-clause-reads : goal.returns-clause-reads
returns-clause-reads c = next_pasts_reads
