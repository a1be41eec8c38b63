use Rattle.std.proofs.Common.{◌≡◌, ◌++◌, take}
use Rattle.dz_zone.proofs.merging.share_all.Given as goal

abbrev pub invariant-more : goal.invariant-more
invariant-more l = l.records.items ≡ l.fn.records.items ++ take l.found-index l.more
