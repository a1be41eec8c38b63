use Rattle.dz_producer.proofs.MakingLemmas.{pointer_is}
use Rattle.dz_producer.proofs.records.pointer.Goals as goal

pub uncached-requires-clause-rdata : goal.uncached-requires-clause-rdata
uncached-requires-clause-rdata c = rw c.wire.ensures.wire (pointer_is c.as_ref.result c.wire.ensures.name)
