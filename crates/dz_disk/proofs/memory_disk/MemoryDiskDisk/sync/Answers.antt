use Rattle.std.proofs.Common.{◌≡◌, ap, subst, ◌∙◌, ◌++◌, ◌∷◌, []}
use Rattle.dz_disk.specs.MemoryDisk.{state_of, MayLeave}
use Rattle.dz_disk.specs.declared.memory_disk.DiskAct.TheVariants.{Synced}
use Rattle.dz_disk.proofs.ActLemmas.{synced_left}
use Rattle.dz_disk.proofs.memory_disk.MemoryDiskDisk.sync.Goals as goal

pub returns-in-Ok-clause-crash : goal.returns-in-Ok-clause-crash
returns-in-Ok-clause-crash c = λ x may.
    let same : state_of c.settle.new.self
    ≡ state_of (record c.args.self.now { acts = c.args.self.now.acts ++ Synced ∷ [] }) =
    ap state_of c.in-Ok.ensures.ok
    ∙ ap (λ d. state_of (record d { acts = d.acts ++ Synced ∷ [] })) c.next.ensures.calls in
    synced_left c.args.self.now.begun c.args.self.now.acts x (subst (λ s. MayLeave s x) same may)
