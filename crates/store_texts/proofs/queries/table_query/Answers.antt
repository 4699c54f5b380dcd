use Rattle.store_texts.proofs.Computed.{table_reads}
use Rattle.store_texts.proofs.queries.table_query.Goals as goal

pub returns-clause-reads : goal.returns-clause-reads
returns-clause-reads c = table_reads
