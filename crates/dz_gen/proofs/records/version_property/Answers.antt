use Rattle.dz_gen.proofs.MadeLemmas.{version_text, version_is, version_made}
use Rattle.dz_gen.proofs.records.version_property.Goals as goal

pub named-requires : goal.named-requires
named-requires c = version_text

pub from_parts-requires-clause-rdata : goal.from_parts-requires-clause-rdata
from_parts-requires-clause-rdata c = version_is

pub returns : goal.returns
returns c = version_made c.from_parts.result c.named.result c.named.ensures c.from_parts.ensures
