use Rattle.std.proofs.Common.{◌≡◌, ◌≤◌, false, length}
use mathlib.Core.List.{IsPrefix}
use Rattle.dz_header.specs.declared.writer.TheConstants.{BUFFER_OCTETS}
use Rattle.dz_query.specs.Served.{excused}
use Rattle.dz_query.specs.Stream.{flow}
use Rattle.dz_query.specs.inner.Coming.{IsFlowing}
use Rattle.dz_query.proofs.stream.serve_stream_outward.Given as goal

abbrev pub invariant-messages : goal.invariant-messages
invariant-messages g l =
    (l.reading.is_out ≡ false)
    × (l.reading.book ≡ l.initial.reading.book)
    × IsPrefix l.initial.reading.list l.reading.list
    × IsFlowing l.downstream (excused l.unheard g.E.Ear.may_fail) (g.C.Clock.may_give l.initial.clock)
    (length l.initial.reading.list) l.reading.list l.peer
    (flow (g.L.Source.given l.initial.link) (g.L.Sink.held l.initial.link) l.initial.reading.sights
    (g.C.Clock.given l.initial.clock))
    (flow (g.L.Source.given l.link) (g.L.Sink.held l.link) l.reading.sights (g.C.Clock.given l.clock))
    × (g.L.Source.faults l.initial.link ≤ g.L.Source.faults l.link)
    × (g.C.Clock.may_give l.clock ≡ g.C.Clock.may_give l.initial.clock)
    × (g.C.Clock.may_stop l.clock ≡ g.C.Clock.may_stop l.initial.clock)
    × (length l.request.items ≡ BUFFER_OCTETS)
