use Rattle.std.proofs.Common.{◌≡◌, ℕ, ◌<◌, get_or, take}
use Rattle.dz_record.specs.Record.{Record, IsRecord}
use Rattle.dz_zone.specs.inner.Kinds.{kinds_of}
use Rattle.dz_zone.proofs.kinds.kinds_of.Given as goal

abbrev pub invariant-records : goal.invariant-records
invariant-records l = record {
  kinds : l.kinds ≡ kinds_of l.apex (take l.record-index l.records);
  held : (k : ℕ) (d : Record) → k < l.record-index → IsRecord (get_or l.records k d);
}
