use Rattle.store_texts.proofs.Computed.{seen_pasts_reads}
use Rattle.store_texts.proofs.queries.seen_pasts_query.Goals as goal

pub returns-clause-reads : goal.returns-clause-reads
returns-clause-reads c = seen_pasts_reads
