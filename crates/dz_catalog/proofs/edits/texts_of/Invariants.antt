use Rattle.std.proofs.Common.{◌≡◌, map, take}
use Rattle.dz_catalog.proofs.edits.texts_of.Given as goal

abbrev pub invariant-records : goal.invariant-records
invariant-records l = l.texts.items ≡ map (λ r. r.rdata) (take l.found-index l.records)
