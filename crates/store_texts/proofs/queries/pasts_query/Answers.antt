use Rattle.store_texts.proofs.Computed.{pasts_reads}
use Rattle.store_texts.proofs.queries.pasts_query.Goals as goal

pub returns-clause-reads : goal.returns-clause-reads
returns-clause-reads c = pasts_reads
