use Rattle.std.proofs.Common.{◌∙◌, [], ◌∷◌, refl, sym, inl, inr}
use Rattle.dz_store.specs.declared.fault.StoreFault.TheVariants.{DiskFault, OutOfMemory}
use Rattle.dz_provision.specs.Keeping.{save}
use Rattle.dz_provision.specs.inner.Tasks.{kept_as}
use Rattle.dz_provision.proofs.TaskLemmas.{stopped_one, left_none}
use Rattle.dz_provision.proofs.keep.save_holding.Goals as goal

pub returns-in_default-clause-stopped : goal.returns-in_default-clause-stopped
returns-in_default-clause-stopped g c =
    stopped_one g.D.Disk.file g.D.Disk.faults c.args.store.now c.args.store.now
    (save (kept_as c.args.holding.now)) c.args.holding.now.zone OutOfMemory refl (inr refl) tt

pub returns-then-has_failed-clause-stopped : goal.returns-then-has_failed-clause-stopped
returns-then-has_failed-clause-stopped g c =
    stopped_one g.D.Disk.file g.D.Disk.faults c.args.store.now c.args.store.now
    (save (kept_as c.args.holding.now)) c.args.holding.now.zone DiskFault refl (inl refl) (
      sym c.has_failed.ensures.failed ∙ c.if-has_failed.true,
      inl (sym c.has_failed.ensures.failed ∙ c.if-has_failed.true),
    )

pub returns-then-has_failed-clause-crash : goal.returns-then-has_failed-clause-crash
returns-then-has_failed-clause-crash g c =
    left_none g.D.Disk.file g.D.Disk.faults g.D.Disk.may_leave g.D.Disk.clock g.D.Disk.left_from c.args.store.now
    (save (kept_as c.args.holding.now) ∷ [])
    (λ x left. g.met.D.Disk.now_alone c.args.store.now.disk x left) c.has_failed.ensures.sure

pub returns-in_default-clause-crash : goal.returns-in_default-clause-crash
returns-in_default-clause-crash g c =
    left_none g.D.Disk.file g.D.Disk.faults g.D.Disk.may_leave g.D.Disk.clock g.D.Disk.left_from c.args.store.now
    (save (kept_as c.args.holding.now) ∷ [])
    (λ x left. g.met.D.Disk.now_alone c.args.store.now.disk x left) c.has_failed.ensures.sure
