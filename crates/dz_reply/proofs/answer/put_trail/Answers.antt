use Rattle.std.proofs.Common.{arith, [], ap}
use Rattle.dz_header.specs.Writing.{also}
use Rattle.dz_lookup.specs.inner.Links.{no_record}
use Rattle.dz_reply.specs.Layout.{entries_octets}
use Rattle.dz_reply.proofs.TrailLemmas.{written_more, written_all, from_start}
use Rattle.dz_reply.proofs.answer.put_trail.Goals.{then-number-len, else-number-len}
use Rattle.dz_reply.proofs.answer.put_trail.Goals as goal

pub trail-init : goal.trail-init
trail-init c = record {
  name = λ d some. c.first-name.ensures d some;
  octets =
      ap (λ rs. also c.args.writer.now.writing (entries_octets c.args.question.now rs)) (from_start c.args.chain.now);
}

pub trail-preserved : goal.trail-preserved
trail-preserved c = record {
  name = λ d more. elim c.if-number-len.branch [
    | then-number-len w ↦ rw w.name-is (w.target-name.ensures.next d more)
    | else-number-len w ↦ absurd (omega (arith, w.if-number-len.false, more, c.len.ensures.value))
  ];
  octets = written_more c.args.question.now c.args.chain.now c.trail.number c.args.writer.now.writing
      c.trail.writer.writing _ ([], no_record) (omega (arith, c.len-number-end.ensures.value))
      (c.put_step.ensures ([], no_record)) c.trail.invariant.octets;
}

pub returns : goal.returns
returns c = written_all c.args.question.now c.args.chain.now c.trail.number c.args.writer.now.writing
    c.trail.writer.writing (omega (arith, c.len-number-end.ensures.value)) c.trail.invariant.octets

pub returns-then-len-eq0 : goal.returns-then-len-eq0
returns-then-len-eq0 c =
    written_all c.args.question.now c.args.chain.now 0 c.args.writer.now.writing c.args.writer.now.writing
    (omega (arith, c.len.ensures.value, c.if-len-eq0.true))
    (ap (λ rs. also c.args.writer.now.writing (entries_octets c.args.question.now rs)) (from_start c.args.chain.now))
