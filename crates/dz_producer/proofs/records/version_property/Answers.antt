use Rattle.dz_producer.proofs.MakingLemmas.{version_is}
use Rattle.dz_producer.proofs.records.version_property.Goals as goal

pub uncached-requires-clause-rdata : goal.uncached-requires-clause-rdata
uncached-requires-clause-rdata c = version_is
