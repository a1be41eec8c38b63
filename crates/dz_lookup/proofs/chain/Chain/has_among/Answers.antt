use Rattle.std.proofs.Common.{arith, ◌∙◌, sym, []}
use Rattle.dz_lookup.specs.inner.Links.{no_record}
use Rattle.dz_lookup.proofs.LinkLemmas.{among_here, among_more}
use Rattle.dz_lookup.proofs.chain.Chain.has_among.Goals as goal

pub returns-then-same : goal.returns-then-same
returns-then-same c =
    sym (among_here c.args.self.now c.records.number c.args.upto c.args.rr.now c.record.result.now ([], no_record)
    c.records-test.true c.requires (c.record.ensures ([], no_record)) (sym c.same.ensures ∙ c.if-same.true))

pub records-preserved : goal.records-preserved
records-preserved c =
    among_more c.args.self.now c.records.number c.args.rr.now c.record.result.now ([], no_record)
    (omega (arith, c.records-test.true, c.requires)) (c.record.ensures ([], no_record))
    (sym c.same.ensures ∙ c.if-same.false) c.records.invariant
