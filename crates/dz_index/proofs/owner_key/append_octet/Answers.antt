use Rattle.std.proofs.Common.{take}
use Rattle.dz_index.proofs.OwnerKeyLemmas.{behind_two, behind_one}
use Rattle.dz_index.proofs.owner_key.append_octet.Goals as goal

pub returns-then-octet-lt2-clause-octets : goal.returns-then-octet-lt2-clause-octets
returns-then-octet-lt2-clause-octets c = behind_two (take c.args.begin c.args.octets.now) _ _ c.args.octet
    c.if-octet-lt2.true c.append_at-end.ensures.octets c.append_at.ensures.octets

pub returns-else-octet-lt2-clause-octets : goal.returns-else-octet-lt2-clause-octets
returns-else-octet-lt2-clause-octets c = behind_one
    (take c.args.begin c.args.octets.now) _ c.args.octet c.if-octet-lt2.false c.append_at-else-octet-lt2.ensures.octets
