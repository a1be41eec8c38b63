use Rattle.std.proofs.Common.{arith, sym, ◌∙◌, refl}
use Rattle.dz_reply.proofs.LayoutLemmas.{also_more, also_done, also_full, all_entries, entry_in, entry_least}
use Rattle.dz_reply.proofs.TypeLemmas.{too_many}
use Rattle.dz_reply.proofs.layout.put_entries_under.Goals as goal

pub returns-then-is_too_many : goal.returns-then-is_too_many
returns-then-is_too_many c q o h =
    too_many q o c.args.records.now c.args.writer.now.writing _
    (c.is_too_many.ensures c.if-is_too_many.true) c.overflow.ensures.writing

pub records-init : goal.records-init
records-init c = record { least = λ e. absurd (e refl); octets = λ q o h. refl }

pub returns-then-is_over : goal.returns-then-is_over
returns-then-is_over c q o h =
    rw (all_entries q o c.args.records.now)
    (also_full _ _ _ _ (sym c.is_over.ensures ∙ c.if-is_over.true) (c.records.invariant.octets q o h))

pub records-preserved : goal.records-preserved
records-preserved c = record {
  least = entry_least c.args.records.now _ _ c.rr-item.result c.kind-kind.ensures.kind c.ttl_of-ttl.ensures;
  octets = λ q o h.
      also_more _ _ _ (entry_in q o c.args.records.now) c.args.records.now c.records.rr-index c.rr-item.result
      (omega arith) c.rr-item.is
      (c.records.invariant.octets q o h) (rw c.ttl_of-ttl.ensures at (c.put_entry_under.ensures q o h));
}

pub returns : goal.returns
returns c q o h =
    rw (all_entries q o c.args.records.now)
    (also_done _ _ (entry_in q o c.args.records.now) c.args.records.now c.records.rr-index (omega arith)
    (c.records.invariant.octets q o h))
