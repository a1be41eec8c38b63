use Rattle.std.proofs.Common.{rules}
use Rattle.dz_header.specs.Writing.{octets_with}
use Rattle.dz_header.proofs.WriterLemmas.{joined_at, room_at}
use Rattle.dz_header.proofs.writer.append.Goals as goal

pub returns-in-None-clause-octets : goal.returns-in-None-clause-octets
unfolding octets_with
returns-in-None-clause-octets c = search rules

pub returns-in-Some-clause-octets : goal.returns-in-Some-clause-octets
returns-in-Some-clause-octets c =
    rw c.in-Some.is
    (joined_at c.args.limit c.in-Some.at c.args.octets.now.items c.place.new.octets.items c.args.more.now _
    (c.requires.within _ c.in-Some.is) c.requires.room c.place.ensures.end c.place.ensures.octets)

pub returns-in-Some-clause-front : goal.returns-in-Some-clause-front
returns-in-Some-clause-front c =
    room_at c.args.limit c.in-Some.at c.args.octets.now.items c.place.new.octets.items c.args.more.now _
    (c.requires.within _ c.in-Some.is) c.requires.room c.place.ensures.end c.place.ensures.octets c.place.ensures.none
