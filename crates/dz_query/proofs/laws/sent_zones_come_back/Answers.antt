use Rattle.dz_query.proofs.SendingLemmas.{zone_back}
use Rattle.dz_query.proofs.laws.sent_zones_come_back.Goals as goal

pub returns : goal.returns
returns c = zone_back
