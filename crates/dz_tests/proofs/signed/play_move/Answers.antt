use Rattle.dz_fleet.proofs.GivenLemmas.{given_later}
use Rattle.dz_tests.proofs.signed.play_move.Goals as goal

pub end-requires-2-clause-given : goal.end-requires-2-clause-given
end-requires-2-clause-given g c = given_later c.due-other.new.provisioned.reading.list
    c.due-member.new.provisioned.reading.list c.due-other.result c.due-member.ensures.seen c.due-other.ensures.given

pub end-requires-3-clause-given : goal.end-requires-3-clause-given
end-requires-3-clause-given g c = given_later c.due-member.new.provisioned.reading.list
    c.end-2.new.provisioned.reading.list c.due-member.result c.end-2.ensures.seen c.due-member.ensures.given
