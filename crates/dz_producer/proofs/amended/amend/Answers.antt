use Rattle.std.proofs.Common.{sym, ◌∙◌, ap}
use Rattle.dz_serial.specs.Serial.{is_newer}
use Rattle.dz_producer.proofs.AmendFaultLemmas.{old_fault, label_fault, twice_dropped, not_listed}
use Rattle.dz_producer.proofs.amended.amend.Goals as goal

pub returns-then-not-newer-clause-made : goal.returns-then-not-newer-clause-made
returns-then-not-newer-clause-made c = old_fault c.args.old.now c.args.serial c.args.dropped.now c.args.added.now
    (ap (λ k. is_newer k c.args.serial) (sym c.held_serial.ensures) ∙ (sym c.newer.ensures ∙ c.if-not-newer.true))

pub returns-in_default-clause-made : goal.returns-in_default-clause-made
returns-in_default-clause-made c =
    label_fault c.args.old.now c.args.serial c.args.dropped.now c.args.added.now
    (ap (λ k. is_newer k c.args.serial) (sym c.held_serial.ensures) ∙ (sym c.newer.ensures ∙ c.if-not-newer.false))
    (twice_dropped c.args.old.now c.args.dropped.now (rw c.in_default.is at c.in_ok-labels.ensures))

pub returns-then-not-branch-clause-made : goal.returns-then-not-branch-clause-made
returns-then-not-branch-clause-made c =
    label_fault c.args.old.now c.args.serial c.args.dropped.now c.args.added.now
    (ap (λ k. is_newer k c.args.serial) (sym c.held_serial.ensures) ∙ (sym c.newer.ensures ∙ c.if-not-newer.false))
    (not_listed c.args.old.now c.args.dropped.now c.nodes.result.now (c.nodes.ensures.nodes ∙ c.in_ok-listing.ensures)
    (sym c.in_ok-are_listed.ensures ∙ c.if-not-branch.true))
