use Rattle.std.proofs.Common.{◌≡◌, ◌++◌, length}
use Rattle.std.specs.Vec.Iter.{into_iter_items}
use Rattle.dz_record.specs.Records.{distinct}
use Rattle.dz_axfr.specs.inner.Sifted.{IsKnown}
use Rattle.dz_axfr.proofs.kept.sifted.Given as goal

-- what is kept, followed by what is left, has the same distinct records as all of them
abbrev pub invariant-rest : goal.invariant-rest
invariant-rest l =
    IsKnown l.seen.keys l.records.items
    × (distinct (l.records.items ++ into_iter_items l.rest) ≡ distinct (l.fn.records.items ++ l.fn.more.items))

abbrev pub decreases-rest : goal.decreases-rest
decreases-rest l = length (into_iter_items l.rest)
