use Rattle.std.proofs.Common.{inl, inr, ⊎_elim, ap}
use Rattle.dz_disk.specs.RecordLog.{records}
use Rattle.dz_store.specs.Payload.{reads}
use Rattle.dz_store.specs.Store.{kept}
use Rattle.dz_store.proofs.FileLemmas.{readable, all_readable}
use Rattle.dz_store.proofs.laws.crash_keeps.Goals as goal

pub returns : goal.returns
returns c = λ before last file zone reads_last left.
    ⊎_elim (λ same. inl (ap (kept zone) same)) (λ more. inr (ap (kept zone) more)) (c.one_joins.ensures reads
    (records reads before) last file (all_readable before) (readable last reads_last) left)
