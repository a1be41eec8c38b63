use Rattle.std.proofs.Common.{arith, [], refl}
use Rattle.dz_lookup.specs.inner.Links.{no_record}
use Rattle.dz_reply.proofs.SignedLemmas.{written_more, written_all}
use Rattle.dz_reply.proofs.signed.put_secure_trail.Goals.{then-number-len, else-number-len}
use Rattle.dz_reply.proofs.signed.put_secure_trail.Goals as goal

pub trail-init : goal.trail-init
trail-init c = record { name = λ d some. c.first-name.ensures d some; octets = refl }

pub trail-preserved : goal.trail-preserved
trail-preserved c = record {
  name = λ d more. elim c.if-number-len.branch [
    | then-number-len w ↦ rw w.name-is (w.target-name.ensures.next d more)
    | else-number-len w ↦ absurd (omega (arith, w.if-number-len.false, more, c.len.ensures.value))
  ];
  octets = written_more c.args.signing.now.version.now.records c.args.signing.now.bare c.args.signing.now.question.now
      c.args.chain.now c.trail.number c.args.writer.now.writing c.trail.writer.writing _ ([], no_record)
      (omega (arith, c.len-number-end.ensures.value))
      (c.put_secure_step.ensures ([], no_record)) c.trail.invariant.octets;
}

pub returns : goal.returns
returns c = written_all c.args.signing.now.version.now.records c.args.signing.now.bare
    c.args.signing.now.question.now c.args.chain.now c.trail.number c.args.writer.now.writing c.trail.writer.writing
    (omega (arith, c.len-number-end.ensures.value)) c.trail.invariant.octets

pub returns-then-len-eq0 : goal.returns-then-len-eq0
returns-then-len-eq0 c =
    written_all c.args.signing.now.version.now.records c.args.signing.now.bare
    c.args.signing.now.question.now c.args.chain.now 0 c.args.writer.now.writing c.args.writer.now.writing
    (omega (arith, c.len.ensures.value, c.if-len-eq0.true)) refl
