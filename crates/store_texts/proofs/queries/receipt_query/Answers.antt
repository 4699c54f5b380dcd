use Rattle.store_texts.proofs.Computed.{receipt_reads}
use Rattle.store_texts.proofs.queries.receipt_query.Goals as goal

pub returns-clause-reads : goal.returns-clause-reads
returns-clause-reads c = receipt_reads
