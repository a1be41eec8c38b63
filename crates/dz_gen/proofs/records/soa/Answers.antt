use Rattle.std.proofs.Common.{◌≡◌, [], rules}
use Rattle.dz_gen.specs.Records.{soa}
use Rattle.dz_gen.proofs.MadeLemmas.{server_text, host_text, soa_is}
use Rattle.dz_gen.proofs.records.soa.Goals as goal

pub named-requires : goal.named-requires
named-requires c = server_text

pub named-requires-2 : goal.named-requires-2
named-requires-2 c = host_text

pub hourly-requires-clause-rdata : goal.hourly-requires-clause-rdata
hourly-requires-clause-rdata c =
    let is : c.put_times.new.rdata.items ≡ (soa [] c.args.serial).rdata = search rules in
    rw is (soa_is c.args.serial)
