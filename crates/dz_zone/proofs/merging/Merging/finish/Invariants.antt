use Rattle.std.proofs.Common.{◌≡◌, ◌++◌, length}
use Rattle.dz_zone.specs.inner.Revising.{IsMerged}
use Rattle.dz_zone.proofs.merging.Merging.finish.Given as goal

abbrev pub invariant-added : goal.invariant-added
invariant-added l = record {
  made : IsMerged l.self;
  all : l.self.records ++ l.added.keys ≡ l.fn.self.records ++ l.fn.added.keys;
}

abbrev pub decreases-added : goal.decreases-added
decreases-added l = length l.added.keys
