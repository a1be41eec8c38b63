use Rattle.std.proofs.Common.{◌≡◌, rules}
use Rattle.dz_name.specs.Name.{wire_of}
use Rattle.dz_gen.specs.Records.{zone}
use Rattle.dz_gen.proofs.MadeLemmas.{pointer_is}
use Rattle.dz_gen.proofs.records.node.Goals as goal

pub hourly-requires-clause-rdata : goal.hourly-requires-clause-rdata
hourly-requires-clause-rdata c =
    let is : c.in_ok-rdata.rdata.items ≡ wire_of (zone c.args.k) = search rules in
    rw is (pointer_is c.args.k c.requires.some c.requires.few)
