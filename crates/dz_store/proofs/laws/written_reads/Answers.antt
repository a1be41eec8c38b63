use Rattle.dz_store.proofs.PayloadLemmas.{kept_reads, forgotten_reads}
use Rattle.dz_store.proofs.laws.written_reads.Goals as goal

pub returns : goal.returns
returns c = (kept_reads, forgotten_reads)
