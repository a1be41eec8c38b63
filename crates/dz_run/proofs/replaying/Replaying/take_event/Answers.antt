use Rattle.std.proofs.Common.{refl, sym, ◌∙◌, ap}
use Rattle.dz_fleet.specs.Core.{opened_core}
use Rattle.dz_run.specs.Kept.{Shown, core_in}
use Rattle.dz_run.proofs.KeptLemmas.{opening_by, running_by, was_opening, was_running, event_none, event_first}
use Rattle.dz_run.proofs.KeptLemmas.{event_further, has_config, turned_from, turned_wanting}
use Rattle.dz_run.proofs.LeadLemmas.{none_first}
use Rattle.dz_run.proofs.replaying.Replaying.take_event.Goals as goal

pub returns-then-is_running : goal.returns-then-is_running
returns-then-is_running g c =
    let runs = running_by c.args.self.now.state
    (was_running _ _ (c.is_running.ensures c.requires.goes) c.if-is_running.true) in
    turned_from c.args.self.now c.args.self.now _ _ _ c.go_on.result
    (event_further c.args.self.now.state runs.0 c.args.number c.args.moment c.args.event runs.1) refl refl
    (c.go_on.ensures runs.0 runs.1)

pub returns-then-is_empty : goal.returns-then-is_empty
returns-then-is_empty g c =
    let opens = was_opening _ _ (c.is_running.ensures c.requires.goes) c.if-is_running.false in
    let is = ap (λ (x : Shown). x.state) (sym c.self.view_is)
    ∙ opening_by c.self.inside.opening c.self.inside.opening (core_in c.self.inside.stage)
    (rw (← c.self.view_is) at opens) in
    turned_from c.args.self.now c.args.self.now _ _ _ c.end_badly.result
    (event_none c.args.self.now.state c.self.inside.opening c.args.number c.args.moment c.args.event is
    (sym c.is_empty.ensures ∙ c.if-is_empty.true)) refl refl c.end_badly.ensures

pub returns-in-Err : goal.returns-in-Err
returns-in-Err g c = turned_wanting c.args.self.now c.begin.new.self _ c.in-Err.ensures.err.0 c.in-Err.ensures.err.1
    (none_first _ _ c.in-Err.ensures.none)

pub returns-in-Ok : goal.returns-in-Ok
returns-in-Ok g c =
    let opens = was_opening _ _ (c.is_running.ensures c.requires.goes) c.if-is_running.false in
    let is = ap (λ (x : Shown). x.state) (sym c.self.view_is)
    ∙ opening_by c.self.inside.opening c.self.inside.opening (core_in c.self.inside.stage)
    (rw (← c.self.view_is) at opens) in
    let begun = c.in-Ok.ensures.ok in
    let some =
    has_config c.args.self.now.state c.self.inside.opening is (sym c.is_empty.ensures ∙ c.if-is_empty.false) in
    turned_from c.args.self.now c.begin.new.self _ _ _ c.go_on-in-Ok.result
    (event_first c.args.self.now.state c.self.inside.opening c.args.number c.args.moment c.args.event is some)
    begun.written begun.faults
    (c.go_on-in-Ok.ensures (opened_core c.self.inside.opening) (begun.begun c.self.inside.opening is))
