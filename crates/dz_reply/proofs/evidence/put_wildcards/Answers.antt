use Rattle.std.proofs.Common.{arith, [], ◌∙◌, ap, refl}
use Rattle.dz_lookup.specs.inner.Links.{no_record}
use Rattle.dz_reply.specs.Secure.{gain, wildcard_set}
use Rattle.dz_reply.proofs.EvidenceLemmas.{step_more, step_all}
use Rattle.dz_reply.proofs.evidence.put_wildcards.Goals as goal

pub trail-preserved : goal.trail-preserved
trail-preserved c = record {
  name = λ d more. c.target-name.ensures.next d more;
  gained = step_more c.args.version.now.records c.args.chain.now c.trail.number ([], no_record) c.args.authority.now
      c.trail.authority c.put.new.self (omega (arith, c.len-number-end.ensures.value))
      (c.put.ensures.gain ∙ ap (gain c.trail.authority) (c.wildcard_set.ensures
      ∙ (λ i. wildcard_set c.args.version.now.records (
        c.trail.invariant.name ([], no_record)
            (omega (arith, c.len-number-end.ensures.value)) i,
        c.record.ensures ([], no_record) i,
      ))))
      c.trail.invariant.gained;
  few = omega (arith, c.trail.invariant.few, c.put.ensures.more);
}

pub returns-clause-gain : goal.returns-clause-gain
returns-clause-gain c = step_all c.args.version.now.records c.args.chain.now c.trail.number c.args.authority.now
    c.trail.authority (omega (arith, c.len-number-end.ensures.value)) c.trail.invariant.gained

pub returns-then-len-eq0-clause-gain : goal.returns-then-len-eq0-clause-gain
returns-then-len-eq0-clause-gain c = step_all c.args.version.now.records c.args.chain.now 0 c.args.authority.now
    c.args.authority.now (omega (arith, c.len.ensures.value, c.if-len-eq0.true)) refl
