use Rattle.store_texts.proofs.Computed.{drivers_reads}
use Rattle.store_texts.proofs.queries.drivers_query.Goals as goal

pub returns-clause-reads : goal.returns-clause-reads
returns-clause-reads c = drivers_reads
