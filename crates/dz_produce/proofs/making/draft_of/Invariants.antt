use Rattle.std.proofs.Common.{take}
use Rattle.std.specs.Option.{option_copied}
use Rattle.dz_produce.specs.inner.Makings.{IsDrafted, making_of}
use Rattle.dz_produce.proofs.making.draft_of.Given as goal

abbrev pub invariant-added : goal.invariant-added
invariant-added l = IsDrafted (making_of l.apex 0 (option_copied l.change) (take l.node-index l.added)) l.draft
