use Rattle.std.proofs.Common.{rules}
use Rattle.dz_store.specs.Payload.{reads}
use Rattle.dz_store.proofs.places.PlacesRecordIndex.is_payload.Goals as goal

pub returns-then-payload-gt-MOST : goal.returns-then-payload-gt-MOST
unfolding reads
returns-then-payload-gt-MOST c = search rules

pub returns-then-is_some : goal.returns-then-is_some
unfolding reads
returns-then-is_some c = search rules

pub returns : goal.returns
unfolding reads
returns c = search rules
