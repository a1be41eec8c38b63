use Rattle.std.proofs.Common.{arith}
use Rattle.dz_timer.proofs.TournamentLemmas.{first_node, first_read}
use Rattle.dz_timer.proofs.tournament.Tournament.first.Goals as goal

pub returns-clause-least : goal.returns-clause-least
returns-clause-least c =
    let nodes = c.self.inside.nodes.items in
    let answer = first_node nodes c.self.inside.count c.self.invariant (omega arith) in
    rw (← c.self.view_is, first_read nodes c.index.result.now (omega (arith, c.self.invariant.size)) c.index.ensures)
    answer.least

pub returns-clause-moment : goal.returns-clause-moment
returns-clause-moment c =
    let nodes = c.self.inside.nodes.items in
    let answer = first_node nodes c.self.inside.count c.self.invariant (omega arith) in
    rw (← c.self.view_is, first_read nodes c.index.result.now (omega (arith, c.self.invariant.size)) c.index.ensures)
    answer.moment
