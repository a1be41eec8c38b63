use Rattle.std.proofs.Common.{◌≡◌, ◌∷◌, ◌++◌, rules}
use Rattle.sha2.specs.Sha512.{sha384}
use Rattle.dz_name.specs.Numbers.{four}
use Rattle.dz_zone.specs.Version.{zone_of}
use Rattle.dz_zonemd.specs.Digested.{digested}
use Rattle.dz_gen.proofs.MadeLemmas.{digest_is}
use Rattle.dz_gen.proofs.records.digest.Goals as goal

pub hourly-requires-clause-rdata : goal.hourly-requires-clause-rdata
unfolding four
hourly-requires-clause-rdata c =
    let octets = digested c.args.apex.now (zone_of c.args.apex.now c.args.records.items).records in
    let is : c.put_digest.new.rdata.items ≡ four c.args.serial ++ (1 ∷ 1 ∷ sha384 octets) = search rules in
    rw is (digest_is c.args.serial octets)
