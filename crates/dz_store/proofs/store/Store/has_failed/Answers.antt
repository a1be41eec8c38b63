use Rattle.std.proofs.Common.{sym, ap, subst, ◌∙◌}
use Rattle.dz_store.proofs.store.Store.has_failed.Goals as goal

pub returns-clause-sure : goal.returns-clause-sure
returns-clause-sure g c = λ able f told x may.
    let settled = c.has_failed.ensures.settled (ap (λ s. s.has_failed) c.self.view_is ∙ able) f
    (ap (λ s. g.D.Disk.file s.disk) c.self.view_is ∙ told) in
    settled.sure x (subst (λ s. g.D.Disk.may_leave s.disk x) (sym c.self.view_is) may)
