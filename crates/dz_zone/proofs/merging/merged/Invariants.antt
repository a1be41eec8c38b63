use Rattle.std.proofs.Common.{◌≡◌, ◌+◌, ◌-◌, ◌≤◌, ◌++◌, length, drop}
use Rattle.dz_record.specs.Record.{record_order}
use Rattle.dz_zone.specs.inner.Overlay.{IsOverlay}
use Rattle.dz_zone.specs.inner.Revising.{IsMerged, flags_of, revised_of}
use Rattle.dz_zone.proofs.merging.merged.Given as goal

abbrev pub invariant-base : goal.invariant-base
invariant-base l = record {
  within : l.place ≤ length l.flags;
  made : IsMerged l.merging;
  overlay : IsOverlay record_order (flags_of (drop l.place l.base.records) (drop l.place l.flags)) l.added.keys;
  whole : l.merging.records ++ revised_of (drop l.place l.base.records) (drop l.place l.flags) l.added.keys
      ≡ revised_of l.base.records l.flags l.fn.added.keys;
}

abbrev pub decreases-base : goal.decreases-base
decreases-base l = (length l.flags - l.place) + length l.added.keys
