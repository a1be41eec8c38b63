use Rattle.std.proofs.Common.{◌∙◌}
use Rattle.dz_zone.specs.Version.{zone_of}
use Rattle.dz_zonemd.specs.Digested.{digested}
use Rattle.dz_producer.proofs.MakingLemmas.{digest_is, digest_made}
use Rattle.dz_producer.proofs.records.digest.Goals as goal

pub hourly-requires-clause-rdata : goal.hourly-requires-clause-rdata
hourly-requires-clause-rdata c = rw (c.as_slice.ensures.value ∙ c.in_ok-rdata.ensures)
    (digest_is c.args.serial (digested c.args.apex.now (zone_of c.args.apex.now c.args.records.items).records))

pub returns : goal.returns
returns c = digest_made c.args.apex.now c.args.serial c.args.records.items _ c.hourly.result
    (c.as_slice.ensures.value ∙ c.in_ok-rdata.ensures) c.hourly.ensures
