use Rattle.std.proofs.Common.{◌∙◌, ap}
use Rattle.dz_header.specs.Writing.{also}
use Rattle.dz_reply.proofs.LayoutLemmas.{entry_written, entry_at_once}
use Rattle.dz_reply.proofs.layout.put_entry_under.Goals as goal

pub returns-then-ttl : goal.returns-then-ttl
returns-then-ttl c q o h =
    entry_at_once q o c.args.ttl c.args.rr.now _ _ _ (c.put_shown.ensures ∙ ap (also c.args.writer.now.writing) h)
    (rw c.behind_owner.ensures at c.put.ensures.writing) (c.if-ttl.true ∙ c.ttl.ensures)

pub returns : goal.returns
returns c q o h =
    entry_written q o c.args.ttl c.args.rr.now _ _ _ _ _ (c.put_shown.ensures ∙ ap (also c.args.writer.now.writing) h)
    (rw c.kind_and_class.ensures at c.put-2.ensures.writing) (rw c.four.ensures at c.put-3.ensures.writing)
    (rw c.sized_rdata.ensures at c.put-4.ensures.writing)
