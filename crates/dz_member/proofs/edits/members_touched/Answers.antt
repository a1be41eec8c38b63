use Rattle.std.proofs.Common.{subst, List, take, arith}
use Rattle.std.proofs.lemmas.List.{take_all}
use Rattle.dz_name.specs.Words.{Name}
use Rattle.dz_member.specs.inner.Edits.{IsTouched}
use Rattle.dz_member.proofs.EditedLemmas.{next_is, touched_first}
use Rattle.dz_member.proofs.edits.members_touched.Goals as goal

pub zones-init : goal.zones-init
zones-init c = rw c.empty-touched.ensures (touched_first c.args.fold.now)

pub zones-preserved : goal.zones-preserved
zones-preserved c =
    rw (next_is c.args.zones.now c.zones.zone-index c.zone-item.result c.zones-test.true c.zone-item.is)
    (c.in_ok-touched.ensures (take c.zones.zone-index c.args.zones.now) c.zones.invariant)

pub returns : goal.returns
returns c = subst (λ (zs : List Name). IsTouched c.args.fold.now zs c.zones.touched)
    (take_all c.zones.zone-index c.args.zones.now (omega (arith, c.zones-test.false))) c.zones.invariant
