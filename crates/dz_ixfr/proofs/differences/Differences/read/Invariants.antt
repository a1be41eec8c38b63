use Rattle.std.proofs.Common.{◌≡◌, ◌++◌, length, Ok}
use Rattle.std.specs.Vec.Iter.{into_iter_items}
use Rattle.dz_ixfr.proofs.FedLemmas.{Reads}
use Rattle.dz_ixfr.proofs.differences.Differences.read.Given as goal

-- what was taken and what is left are all records
abbrev pub invariant-records : goal.invariant-records
invariant-records l =
    (l.self.held ≡ l.fn.self.held)
    × (l.self.fed ++ into_iter_items l.rest ≡ l.fn.self.fed ++ l.fn.records.items)
    × Reads l.fn.self.held (Ok l.progress) l.self.fed

abbrev pub decreases-records : goal.decreases-records
decreases-records l = length (into_iter_items l.rest)
