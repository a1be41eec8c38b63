use Rattle.std.proofs.Common.{rules, ◌∙◌, ap}
use Rattle.dz_provision.specs.Held.{Held}
use Rattle.dz_provision.proofs.HeldLemmas.{heard_seen}
use Rattle.dz_provision.proofs.AloudLemmas.{heard_aloud, fault_aloud, heard_witness}
use Rattle.dz_provision.proofs.provisioner.Provisioner.hear_seen.Goals as goal
use Rattle.dz_provision.proofs.provisioner.Provisioner.hear_seen.Goals.{in-Ok, in-Err}

pub returns-clause-heard : goal.returns-clause-heard
returns-clause-heard g c =
    elim c.match-hear.branch [
      | in-Ok w ↦ rw w.result-is (heard_seen _ _ c.args.peer.now c.args.zone.now (w.in-Ok.heard, w.in-Ok.told) _
          (c.is_seen.ensures.whole (search rules)) w.in-Ok.ensures.heard)
      | in-Err w ↦ rw w.result-is (w.in-Err.ensures.cause (search rules))
    ]

pub returns-clause-witnessed : goal.returns-clause-witnessed
returns-clause-witnessed g c =
    elim c.match-hear.branch [
      | in-Ok w ↦ rw w.result-is
          (heard_witness _ _ c.args.peer.now c.args.zone.now w.in-Ok.heard w.in-Ok.told _ _ _ _ w.in-Ok.ensures.heard
          (c.is_seen.ensures.whole (search rules)) w.of.ensures
          (c.of-before.ensures ∙ ap (λ (h : Held). h.core) c.self.view_is)
          (ap (λ (h : Held). h.core) c.self-2.view_is))
      | in-Err w ↦ rw w.result-is tt
    ]

pub returns-clause-made : goal.returns-clause-made
returns-clause-made g c =
    elim c.match-hear.branch [
      | in-Ok w ↦ rw w.result-is
          (heard_aloud _ _ c.args.peer.now c.args.zone.now w.in-Ok.heard _ w.in-Ok.told w.in-Ok.ensures.heard)
      | in-Err w ↦ rw w.result-is (fault_aloud _ _ _ c.args.peer.now c.args.zone.now _ w.in-Err.ensures.heard)
    ]
