use Rattle.std.proofs.Common.{◌≡◌, rules}
use Rattle.std.specs.Prelude.{codes}
use Rattle.dz_name.specs.Name.{wire_of}
use Rattle.dz_gen.specs.Texts.{named}
use Rattle.dz_gen.proofs.MadeLemmas.{server_text, server_is}
use Rattle.dz_gen.proofs.records.name_server.Goals as goal

pub named-requires : goal.named-requires
named-requires c = server_text

pub hourly-requires-clause-rdata : goal.hourly-requires-clause-rdata
hourly-requires-clause-rdata c =
    let is : c.in_ok-rdata.rdata.items ≡ wire_of (named (codes "ns.invalid.")) = search rules in
    rw is server_is
