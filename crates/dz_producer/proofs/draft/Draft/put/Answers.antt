use Rattle.std.proofs.Common.{◌≡◌, ℕ, ◌+◌, ◌-◌, ◌^◌, min, ◌∙◌, ap, not}
use Rattle.std.specs.List.{list_any}
use Rattle.dz_name.specs.Name.{same_name}
use Rattle.dz_producer.proofs.DraftLemmas.{put_one, first_known, first_new}
use Rattle.dz_producer.proofs.draft.Draft.put.Goals as goal

pub returns-then-label-clause-draft : goal.returns-then-label-clause-draft
returns-then-label-clause-draft c nodes draft =
    put_one c.args.self.now _ nodes c.args.node.now c.to_name.result (c.to_name.ensures ∙ c.as_ref.ensures) draft
    c.in_ok-label.ensures.updates.0 c.in_ok-zone.ensures.updates.0 c.saturating_add-self.ensures
    (c.saturating_add-self-2.ensures
    ∙ ap (λ (n : ℕ). min (c.args.self.now.records + n) (2 ^ 64 - 1)) c.record_count.ensures.count)

pub returns-else-label-clause-draft : goal.returns-else-label-clause-draft
returns-else-label-clause-draft c nodes draft =
    put_one c.args.self.now _ nodes c.args.node.now c.to_name.result (c.to_name.ensures ∙ c.as_ref.ensures) draft
    c.in_ok-label.ensures.updates.0 c.in_ok-zone.ensures.updates.0 c.saturating_add-self.ensures
    (c.saturating_add-self-2.ensures
    ∙ ap (λ (n : ℕ). min (c.args.self.now.records + n) (2 ^ 64 - 1)) c.record_count.ensures.count)

pub returns-then-label-clause-alone : goal.returns-then-label-clause-alone
returns-then-label-clause-alone c nodes draft =
    let zone : c.in_ok-zone.zone ≡ not (list_any (λ n. same_name n.zone c.args.node.now.zone) nodes) =
    c.in_ok-zone.ensures.added
    ∙ rw (c.to_name.ensures ∙ c.as_ref.ensures) (ap not (draft.zones c.args.node.now.zone)) in
    first_new c.in_ok-label.label c.in_ok-zone.zone _ _
    (c.in_ok-label.ensures.added ∙ ap not (draft.labels c.args.node.now.label)) c.if-label.true zone

pub returns-else-label-clause-alone : goal.returns-else-label-clause-alone
returns-else-label-clause-alone c nodes draft = first_known c.in_ok-label.label _ _
    (c.in_ok-label.ensures.added ∙ ap not (draft.labels c.args.node.now.label)) c.if-label.false
