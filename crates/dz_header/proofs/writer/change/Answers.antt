use Rattle.dz_header.specs.Writing.{changed}
use Rattle.dz_header.proofs.WriterLemmas.{written_changed}
use Rattle.dz_header.proofs.writer.change.Goals as goal

pub returns-clause-room : goal.returns-clause-room
unfolding changed
returns-clause-room c = c.put_at.ensures.octets

pub returns-clause-written : goal.returns-clause-written
returns-clause-written c =
    written_changed c.args.at c.args.pair.now c.args.octets.now.items c.put_at.new.octets.items c.args.len
    (returns-clause-room c) c.requires.within
