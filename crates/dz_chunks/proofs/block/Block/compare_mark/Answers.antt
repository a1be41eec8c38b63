use Rattle.std.proofs.Common.{rules, subst, refl}
use Rattle.dz_chunks.specs.inner.Chunked.{AreMarks}
use Rattle.dz_chunks.proofs.MarkLemmas.{by_mark}
use Rattle.dz_chunks.proofs.block.Block.compare_mark.Goals as goal

pub returns-in_default-clause-value : goal.returns-in_default-clause-value
returns-in_default-clause-value g c =
    let are : AreMarks g.K.Lead.lead c.self.inside.marks 16 c.args.self.now =
    subst (λ es. AreMarks g.K.Lead.lead c.self.inside.marks 16 es) c.self.view_is c.self.invariant.0 in
    λ d. by_mark g.K.Ord.cmp g.K.Lead.lead g.met.K.Lead.decides c.self.inside.marks c.args.self.now c.args.place
    c.args.key.now d c.compare_lead.result
    are c.self.invariant.1 c.requires.behind c.requires.mark c.requires.within c.requires.short _ _
    c.compare_lead.ensures.value refl (search rules)
