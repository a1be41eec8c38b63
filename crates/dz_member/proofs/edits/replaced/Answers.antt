use Rattle.std.proofs.Common.{subst, List, take, arith}
use Rattle.std.proofs.lemmas.List.{take_all}
use Rattle.dz_name.specs.Words.{Name}
use Rattle.dz_member.specs.inner.Edits.{IsReplaced}
use Rattle.dz_member.proofs.EditedLemmas.{next_is, replaced_first}
use Rattle.dz_member.proofs.edits.replaced.Goals as goal

pub zones-init : goal.zones-init
zones-init c = rw c.in_ok-replaced.ensures (replaced_first c.args.members.now.value c.args.others.now c.requires.order)

pub zones-preserved : goal.zones-preserved
zones-preserved c =
    rw (
      next_is c.args.zones.now c.zones.zone-index c.zone-item.result c.zones-test.true c.zone-item.is,
      c.in_ok-replaced-2.ensures.ok,
    )
    (c.in_ok-next.ensures c.args.members.now.value (take c.zones.zone-index c.args.zones.now)
    (rw c.deref.ensures c.zones.invariant))

pub returns : goal.returns
returns c = subst (λ (zs : List Name). IsReplaced c.args.members.now.value c.args.others.now zs c.zones.replaced.value)
    (take_all c.zones.zone-index c.args.zones.now (omega (arith, c.zones-test.false))) c.zones.invariant
