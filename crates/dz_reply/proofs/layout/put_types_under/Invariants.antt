use Rattle.std.proofs.Common.{◌≡◌, ◌≤◌, ◌-◌, drop, length}
use Rattle.dz_name.specs.Words.{Name}
use Rattle.dz_reply.specs.Layout.{entries, entries_octets, owner_octets}
use Rattle.dz_reply.specs.inner.Owner.{owner_shown}
use Rattle.dz_header.specs.Writing.{also}
use Rattle.dz_reply.proofs.layout.put_types_under.Given as goal

abbrev pub invariant-types : goal.invariant-types
invariant-types l = record {
  within : l.begin ≤ length l.records;
  octets : (question owner : Name) → owner_shown l.shown ≡ owner_octets question owner
      → also l.writer.writing (entries_octets question (entries owner (drop l.begin l.records)))
      ≡ also l.initial.writer.writing (entries_octets question (entries owner l.records));
}

abbrev pub decreases-types : goal.decreases-types
decreases-types l = length l.records - l.begin
