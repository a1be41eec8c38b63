use Rattle.std.proofs.Common.{◌≡◌, ◌≤◌, false, length}
use mathlib.Core.List.{IsPrefix}
use Rattle.dz_header.specs.declared.writer.TheConstants.{BUFFER_OCTETS}
use Rattle.dz_query.specs.Served.{excused}
use Rattle.dz_query.specs.Session.{told, HasAnswered}
use Rattle.dz_query.proofs.datagrams.serve_datagrams.Given as goal

abbrev pub invariant-packets : goal.invariant-packets
invariant-packets g l =
    (l.reading.is_out ≡ false)
    × (l.reading.book ≡ l.initial.reading.book)
    × IsPrefix l.initial.reading.list l.reading.list
    × HasAnswered l.lost (excused l.unheard g.E.Ear.may_fail) (g.C.Clock.may_give l.initial.clock)
    (length l.initial.reading.list) l.reading.list
    (told (g.D.Datagrams.received l.initial.device) (g.D.Datagrams.sent l.initial.device)
    (g.D.Datagrams.faults l.initial.device) l.initial.reading.sights (g.C.Clock.given l.initial.clock))
    (told (g.D.Datagrams.received l.device) (g.D.Datagrams.sent l.device)
    (g.D.Datagrams.faults l.device) l.reading.sights (g.C.Clock.given l.clock))
    × (g.D.Datagrams.faults l.initial.device ≤ g.D.Datagrams.faults l.device)
    × (g.C.Clock.may_give l.clock ≡ g.C.Clock.may_give l.initial.clock)
    × (g.C.Clock.may_stop l.clock ≡ g.C.Clock.may_stop l.initial.clock)
    × (length l.request.items ≡ BUFFER_OCTETS)
