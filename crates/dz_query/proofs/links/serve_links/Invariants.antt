use Rattle.std.proofs.Common.{◌≡◌, ◌≤◌, false, None, length}
use mathlib.Core.List.{IsPrefix}
use Rattle.dz_query.specs.Links.{links_told, AreVisits}
use Rattle.dz_query.specs.Served.{excused}
use Rattle.dz_query.proofs.links.serve_links.Given as goal

abbrev pub invariant-links : goal.invariant-links
invariant-links g l =
    (l.reading.is_out ≡ false)
    × (l.reading.book ≡ l.initial.reading.book)
    × IsPrefix l.initial.reading.list l.reading.list
    × (g.A.Acceptor.out l.acceptor ≡ None)
    × AreVisits l.starved l.downstream (excused l.unheard g.E.Ear.may_fail) (g.C.Clock.may_give l.initial.clock)
    (length l.initial.reading.list) l.reading.list
    (links_told (g.A.Acceptor.links l.initial.acceptor) l.initial.reading.sights (g.C.Clock.given l.initial.clock))
    (links_told (g.A.Acceptor.links l.acceptor) l.reading.sights (g.C.Clock.given l.clock))
    × (g.A.Acceptor.faults l.initial.acceptor ≤ g.A.Acceptor.faults l.acceptor)
    × (g.C.Clock.may_give l.clock ≡ g.C.Clock.may_give l.initial.clock)
    × (g.C.Clock.may_stop l.clock ≡ g.C.Clock.may_stop l.initial.clock)
