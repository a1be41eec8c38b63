use Rattle.dz_index.proofs.KeyLemmas.{octet_two, octet_one}
use Rattle.dz_index.proofs.sort_key.put_octet.Goals as goal

pub returns-then-octet-lt2-clause-octets : goal.returns-then-octet-lt2-clause-octets
returns-then-octet-lt2-clause-octets c = octet_two c.args.end c.args.octet c.args.octets.now _ _ c.requires.room
    c.if-octet-lt2.true c.put.ensures c.put-then-octet-lt2.ensures

pub returns-else-octet-lt2-clause-octets : goal.returns-else-octet-lt2-clause-octets
returns-else-octet-lt2-clause-octets c = octet_one c.args.end c.args.octet c.args.octets.now _ c.requires.room
    c.if-octet-lt2.false c.put-else-octet-lt2.ensures
