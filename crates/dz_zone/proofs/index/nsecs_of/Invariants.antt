use Rattle.std.proofs.Common.{ℕ, ◌<◌, get_or}
use Rattle.dz_record.specs.Record.{Record, IsRecord}
use Rattle.dz_zone.proofs.NsecLemmas.{AreUpto}
use Rattle.dz_zone.proofs.index.nsecs_of.Given as goal

abbrev pub invariant-records : goal.invariant-records
invariant-records l = record {
  nsecs : AreUpto l.place l.records l.nsecs.items;
  held : (k : ℕ) (d : Record) → k < l.place → IsRecord (get_or l.records k d);
}
