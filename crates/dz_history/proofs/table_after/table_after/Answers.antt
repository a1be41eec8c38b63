use Rattle.std.proofs.Common.{map, ◌∙◌, ap}
use Rattle.std.specs.Prelude.{fold}
use Rattle.std.proofs.lemmas.Result.{IfOk-weaker}
use Rattle.dz_name.specs.Name.{canonical_order}
use Rattle.dz_history.specs.After.{slot_after}
use Rattle.dz_history.proofs.ChangeLemmas.{changes_table}
use Rattle.dz_history.proofs.SlotLemmas.{rises_by, shown_zones, slots_shown}
use Rattle.dz_history.proofs.table_after.table_after.Goals as goal

pub returns-then-len-le-FEW-clause-table : goal.returns-then-len-le-FEW-clause-table
returns-then-len-le-FEW-clause-table c =
    let s = c.args.before.now in
    IfOk-weaker c.table_changed.result _ _
    (λ t e. e ∙ changes_table s c.args.fold.now c.args.changes.now c.requires.state
    c.memberships-memberships.ensures.fold c.requires.listed)
    (rw c.table.ensures at c.table_changed.ensures)

pub from_shared-requires : goal.from_shared-requires
from_shared-requires c =
    let s = c.args.before.now in
    let ms = c.memberships-memberships.result in
    rw c.in_ok-slots.ensures (rises_by (λ slot. slot.zone) canonical_order _
    (rw (shown_zones s s.fold.config ms) c.memberships-memberships.ensures.order))

pub returns-clause-table : goal.returns-clause-table
returns-clause-table c =
    let s = c.args.before.now in
    let ms = c.memberships-memberships.result in
    c.in_ok-new.ensures.ok ∙ (c.in_ok-from_shared.ensures ∙ (c.in_ok-slots.ensures
    ∙ (slots_shown s s.fold.config c.args.fold.now.config ms
    ∙ ap (map (slot_after s)) c.memberships-memberships.ensures.members)))
