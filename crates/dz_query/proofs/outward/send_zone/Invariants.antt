use Rattle.std.proofs.Common.{◌≡◌, length}
use Rattle.dz_header.specs.declared.writer.TheConstants.{BUFFER_OCTETS}
use Rattle.dz_query.specs.inner.Sending.{IsGoing}
use Rattle.dz_query.proofs.outward.send_zone.Given as goal

abbrev pub invariant-messages : goal.invariant-messages
invariant-messages g l = record {
  going : IsGoing l.initial.outgoing l.outgoing (g.S.Sink.held l.initial.sink) (g.S.Sink.held l.sink);
  beside : g.S.Sink.beside l.sink ≡ g.S.Sink.beside l.initial.sink;
  faults : g.S.Sink.faults l.sink ≡ g.S.Sink.faults l.initial.sink;
  room : length l.room.items ≡ BUFFER_OCTETS;
}

abbrev pub decreases-messages : goal.decreases-messages
decreases-messages g l = length l.outgoing
