use Rattle.std.proofs.Common.{◌∙◌}
use Rattle.dz_producer.proofs.MakingLemmas.{soa_is}
use Rattle.dz_producer.proofs.records.soa.Goals as goal

pub hourly-requires-clause-rdata : goal.hourly-requires-clause-rdata
hourly-requires-clause-rdata c = rw (c.as_slice.ensures.value ∙ c.in_ok-rdata.ensures) (soa_is c.args.serial)
