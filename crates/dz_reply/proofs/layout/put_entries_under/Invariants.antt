use Rattle.std.proofs.Common.{◌≡◌, drop}
use Rattle.std.specs.Prelude.{◌≢◌}
use Rattle.std.specs.List.{flat_map}
use Rattle.dz_name.specs.Words.{Name}
use Rattle.dz_reply.proofs.LayoutLemmas.{entry_in}
use Rattle.dz_reply.specs.Layout.{least_ttl, owner_octets}
use Rattle.dz_reply.specs.inner.Owner.{owner_shown}
use Rattle.dz_header.specs.Writing.{also}
use Rattle.dz_reply.proofs.layout.put_entries_under.Given as goal

abbrev pub invariant-records : goal.invariant-records
invariant-records l = record {
  least : l.kind ≢ 46 → l.ttl ≡ least_ttl l.kind l.records;
  octets : (question owner : Name) → owner_shown l.shown ≡ owner_octets question owner
      → also l.writer.writing (flat_map (entry_in question owner l.records) (drop l.rr-index l.records))
      ≡ also l.initial.writer.writing (flat_map (entry_in question owner l.records) l.records);
}
