use Rattle.store_texts.proofs.Computed.{version_reads}
use Rattle.store_texts.proofs.queries.version_query.Goals as goal

pub returns-clause-reads : goal.returns-clause-reads
returns-clause-reads c = version_reads
