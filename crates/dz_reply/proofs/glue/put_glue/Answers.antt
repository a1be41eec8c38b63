use Rattle.std.proofs.Common.{arith, ◌%◌, ◌∙◌, length, ap, sym}
use Rattle.dz_reply.specs.Answer.{glue, glue_of}
use Rattle.dz_reply.proofs.GlueLemmas.{counted, counted_all, written, written_all, over_no}
use Rattle.dz_reply.proofs.LayoutLemmas.{also_full}
use Rattle.dz_reply.proofs.glue.put_glue.Goals as goal

pub returns-then-is_over-clause-written : goal.returns-then-is_over-clause-written
unfolding glue
returns-then-is_over-clause-written c =
    also_full _ _ _ _ (sym c.is_over.ensures ∙ c.if-is_over.true) c.servers.invariant.written

pub returns-then-is_over-clause-count : goal.returns-then-is_over-clause-count
returns-then-is_over-clause-count c = λ some. over_no _ (sym c.is_over.ensures ∙ c.if-is_over.true) some

pub servers-preserved : goal.servers-preserved
servers-preserved c = record {
  written = written (glue_of c.args.version.now) c.args.question.now c.args.servers.now c.servers.server-index
      c.args.writer.now.writing c.servers.writer.writing _ c.server-item.result c.servers-test.true c.server-item.is
      (rw c.server_addresses-addresses.ensures at c.put_one.ensures) c.servers.invariant.written;
  count = counted (glue_of c.args.version.now) c.args.servers.now c.servers.server-index c.servers.count
      c.count_one.result c.server-item.result c.servers-test.true c.server-item.is
      (c.count_one.ensures.value ∙ ap (λ rs. length rs % 65536) c.server_addresses-addresses.ensures)
      c.servers.invariant.count;
  small = omega arith;
}

pub returns-clause-written : goal.returns-clause-written
unfolding glue
returns-clause-written c = written_all (glue_of c.args.version.now) c.args.question.now c.args.servers.now
    c.servers.server-index c.args.writer.now.writing c.servers.writer.writing c.servers-test.false
    c.servers.invariant.written

pub returns-clause-count : goal.returns-clause-count
unfolding glue
returns-clause-count c = λ some. counted_all (glue_of c.args.version.now) c.args.servers.now c.servers.server-index
    c.servers.count c.servers-test.false c.servers.invariant.small c.servers.invariant.count
