use Rattle.dz_message.proofs.RdataLemmas.{no_octets}
use Rattle.dz_message.proofs.read.read_field.Goals as goal

pub returns-in-CharacterString-2-clause-reads : goal.returns-in-CharacterString-2-clause-reads
returns-in-CharacterString-2-clause-reads g c =
    rw c.in-CharacterString-2.is (no_octets c.args.message.now c.args.span.at c.args.span.end _ c.if-span.false)
