use Rattle.dz_producer.proofs.MakingLemmas.{server_is}
use Rattle.dz_producer.proofs.records.name_server.Goals as goal

pub hourly-requires-clause-rdata : goal.hourly-requires-clause-rdata
hourly-requires-clause-rdata c = rw c.invalid.ensures server_is
