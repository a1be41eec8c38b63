use Rattle.std.proofs.Common.{rules, ◌≡◌, sym, ◌∙◌, map, append-nil}
use Rattle.std.proofs.lemmas.List.Elements.{recursion_from_All}
use Rattle.std.specs.Prelude.{drop}
use Rattle.std.specs.Option.{option_map}
use Rattle.dz_member.specs.Membership.{shown, settings_at, IsNumbered}
use Rattle.dz_member.specs.Process.{in_zone_order}
use Rattle.dz_member.specs.inner.Happened.{change_of}
use Rattle.dz_member.specs.inner.Walk.{judge_of, pair_of}
use Rattle.dz_member.proofs.OrderLemmas.{sorted_rise}
use Rattle.dz_member.proofs.SpotLemmas.{steps, spots_end, first_behind, left_of, held_of}
use Rattle.dz_member.proofs.WalkedLemmas.{parts_of, is_some_map, walked_members, walked_changes}
use Rattle.dz_member.proofs.walk.walk.Goals as goal

pub zones-init : goal.zones-init
zones-init c =
    let fold = c.args.fold.now in
    let catalog = (settings_at fold.config c.args.turn.number).name in
    let ns = in_zone_order c.args.listing.now in
    record {
      held = c.held-held.ensures.order;
      listed = sorted_rise c.args.listing.now c.nodes-nodes.ensures.listing.zones;
      numbered = recursion_from_All (IsNumbered fold.config) _ c.held-held.ensures.numbered;
      kept = search rules;
      configured = search rules;
      members = rw (c.in_ok-with_capacity.ensures.items) (walked_members fold catalog c.args.turn.position c.held-held.result ns c.held-held.ensures.members);
      changes = rw (c.new.ensures.items) (walked_changes fold catalog c.args.turn.position c.held-held.result ns c.held-held.ensures.members);
    }

pub zones-smaller : goal.zones-smaller
zones-smaller c =
    let fold = c.args.fold.now in
    let judge = judge_of fold (settings_at fold.config c.args.turn.number).name c.args.turn.position in
    let ns = in_zone_order c.args.listing.now in
    let inv = c.zones.invariant in
    let p = pair_of c.in-Some.pair in
    let first = sym (rw (c.first.ensures, c.node_by_zone.ensures, first_behind ns c.zones.at) at c.in-Some.ensures) in
    let s =
    steps judge c.zones.held (drop c.zones.at ns) p (map (shown fold.config) c.zones.processed.members.items)
    (map (change_of fold.config) c.zones.processed.changes.items) _ _ (inv.held, inv.listed) first inv.members
    inv.changes in
    let next : drop c.behind-at.result ns ≡ left_of p (drop c.zones.at ns) =
    rw (is_some_map (λ r. r.now) c.in-Some.pair.node, ← c.is_some-in-Some.ensures)
    (rw c.nodes-nodes.ensures.nodes at c.behind-at.ensures) in
    let on : c.pass.new.held ≡ held_of p c.zones.held =
    rw (is_some_map (λ r. r.now) c.in-Some.pair.member, ← c.is_some.ensures) c.pass.ensures in
    rw (next, on) s.goes.less

pub zones-preserved : goal.zones-preserved
zones-preserved c =
    let fold = c.args.fold.now in
    let judge = judge_of fold (settings_at fold.config c.args.turn.number).name c.args.turn.position in
    let ns = in_zone_order c.args.listing.now in
    let inv = c.zones.invariant in
    let p = pair_of c.in-Some.pair in
    let o = option_map (λ r. r.now) c.node_by_zone.result in
    let first = sym (rw (c.first.ensures, c.node_by_zone.ensures, first_behind ns c.zones.at) at c.in-Some.ensures) in
    let s =
    steps judge c.zones.held (drop c.zones.at ns) p (map (shown fold.config) c.zones.processed.members.items)
    (map (change_of fold.config) c.zones.processed.changes.items) _ _ (inv.held, inv.listed) first inv.members
    inv.changes in
    let next : drop c.behind-at.result ns ≡ left_of p (drop c.zones.at ns) =
    rw (is_some_map (λ r. r.now) c.in-Some.pair.node, ← c.is_some-in-Some.ensures)
    (rw c.nodes-nodes.ensures.nodes at c.behind-at.ensures) in
    let on : c.pass.new.held ≡ held_of p c.zones.held =
    rw (is_some_map (λ r. r.now) c.in-Some.pair.member, ← c.is_some.ensures) c.pass.ensures in
    let parts = parts_of (IsNumbered fold.config) c.zones.held o p
    (sym (rw (c.first.ensures) at c.in-Some.ensures)) inv.numbered in
    record {
      held = rw on s.goes.held;
      listed = rw next s.goes.listed;
      numbered = rw on parts.1;
      kept = c.in_ok-add_pair.ensures.numbered inv.kept;
      configured = c.in_ok-add_pair.ensures.configured inv.configured;
      members = rw (c.in_ok-add_pair.ensures.members, next, on) s.members_on;
      changes = rw (c.in_ok-add_pair.ensures.changes, next, on) s.changes_on;
    }

pub returns-clause-members : goal.returns-clause-members
returns-clause-members c =
    let fold = c.args.fold.now in
    let catalog = (settings_at fold.config c.args.turn.number).name in
    let judge = judge_of fold catalog c.args.turn.position in
    let ns = in_zone_order c.args.listing.now in
    let e = spots_end judge c.zones.held (drop c.zones.at ns)
    (rw (c.first.ensures, c.node_by_zone.ensures, first_behind ns c.zones.at) at (sym c.in_default.ensures)) in
    sym (append-nil (map (shown fold.config) c.zones.processed.members.items)) ∙ (rw e at c.zones.invariant.members)

pub returns-clause-changes : goal.returns-clause-changes
returns-clause-changes c =
    let fold = c.args.fold.now in
    let catalog = (settings_at fold.config c.args.turn.number).name in
    let judge = judge_of fold catalog c.args.turn.position in
    let ns = in_zone_order c.args.listing.now in
    let e = spots_end judge c.zones.held (drop c.zones.at ns)
    (rw (c.first.ensures, c.node_by_zone.ensures, first_behind ns c.zones.at) at (sym c.in_default.ensures)) in
    sym (append-nil (map (change_of fold.config) c.zones.processed.changes.items))
    ∙ (rw e at c.zones.invariant.changes)
