use Rattle.std.proofs.Common.{[], refl, sym, ◌∙◌, ap}
use Rattle.dz_script.specs.Script.{goes_on}
use Rattle.dz_run.specs.Kept.{core_in}
use Rattle.dz_run.specs.Replaying.{list_in, bad_line}
use Rattle.dz_run.proofs.KeptLemmas.{opening_by, running_by, was_opening, was_running, group_behind, group_read}
use Rattle.dz_run.proofs.KeptLemmas.{group_bad, turned_silently, turned_wanting, turned_from}
use Rattle.dz_run.proofs.LeadLemmas.{none_first}
use Rattle.dz_run.proofs.replaying.Replaying.take_group.Goals as goal

pub returns-then-is_running : goal.returns-then-is_running
returns-then-is_running g c =
    let runs = running_by c.args.self.now.state
    (was_running _ _ (c.is_running.ensures c.requires) c.if-is_running.true) in
    turned_from c.args.self.now c.args.self.now _ _ _ c.end_badly.result
    (group_behind _ runs.0 c.args.number c.args.name c.args.group runs.1) refl refl c.end_badly.ensures

pub returns-in-Err : goal.returns-in-Err
returns-in-Err g c =
    let opens = was_opening _ _ (c.is_running.ensures c.requires) c.if-is_running.false in
    let next = opening_by c.self.inside.opening c.add_group.new.self (core_in c.self.inside.stage)
    (rw (← c.self.view_is) at opens) in
    rw (← c.self.view_is) (turned_wanting _ _ _ refl refl (none_first _ _ (ap list_in next)))

pub returns-in-Ok-true : goal.returns-in-Ok-true
returns-in-Ok-true g c =
    let over = rw (← c.self.view_is) at c.requires in
    let opens = rw (← c.self.view_is) at (was_opening _ _ (c.is_running.ensures c.requires) c.if-is_running.false) in
    let is = opening_by c.self.inside.opening c.self.inside.opening (core_in c.self.inside.stage) opens in
    let next = opening_by c.self.inside.opening c.add_group.new.self (core_in c.self.inside.stage) opens in
    rw (← c.self.view_is) (turned_silently _ _ _
    (group_read _ c.self.inside.opening c.add_group.new.self c.args.number c.args.name c.args.group is
    (rw c.in-Ok-true.field-0-test at c.in-Ok-true.ensures) ∙ ap (λ s. goes_on [] s) (sym next)) refl refl over)

pub returns-in-Ok-false : goal.returns-in-Ok-false
returns-in-Ok-false g c =
    let opens = rw (← c.self.view_is) at (was_opening _ _ (c.is_running.ensures c.requires) c.if-is_running.false) in
    let is = opening_by c.self.inside.opening c.self.inside.opening (core_in c.self.inside.stage) opens in
    let next = opening_by c.self.inside.opening c.add_group.new.self (core_in c.self.inside.stage) opens in
    rw (← c.self.view_is)
    (turned_from _ _ _ _ _ c.end_badly-in-Ok-false.result (group_bad _ c.self.inside.opening c.add_group.new.self
    c.args.number c.args.name c.args.group is (rw c.in-Ok-false.field-0-test at c.in-Ok-false.ensures)
    ∙ ap (λ s. bad_line s c.args.number) (sym next)) refl refl c.end_badly-in-Ok-false.ensures)
