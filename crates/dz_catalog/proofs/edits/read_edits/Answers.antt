use Rattle.std.proofs.Common.{◌∙◌, List, sym, inr}
use Rattle.std.proofs.lemmas.Result.{IfOk-weaker}
use Rattle.dz_member.specs.declared.edit.Edit.{Edit}
use Rattle.dz_catalog.specs.Broken.{no_version, version_twice, other_version}
use Rattle.dz_catalog.specs.inner.Labels.{AreReadAt, has_twins}
use Rattle.dz_catalog.proofs.ReadLemmas.{read_all, are_edits, nodes_edited, not_broken, many_nodes, broken_for}
use Rattle.dz_catalog.proofs.ReadLemmas.{some_from, none_from, version_true, twins_true}
use Rattle.dz_catalog.proofs.edits.read_edits.Goals as goal

pub returns-then-is_version_bad-clause-none : goal.returns-then-is_version_bad-clause-none
returns-then-is_version_bad-clause-none c =
    let apex = c.args.version.now.apex in
    let after = c.args.version.now.records in
    inr (broken_for apex after
    (version_true (no_version apex after) (version_twice apex after) (other_version apex after) (has_twins apex after)
    (sym c.if-is_version_bad.ensures)))

pub returns-in_ok-labels-in-Some-clause-edits : goal.returns-in_ok-labels-in-Some-clause-edits
returns-in_ok-labels-in-Some-clause-edits c =
    IfOk-weaker c.edits_at.result _ _
    (λ o m. some_from _ o m (λ es read. are_edits c.args.version.now.apex c.args.version.now.records
    c.in_ok-labels-in-Some.labels.keys es.items read)) c.edits_at.ensures

pub returns-in_ok-labels-in-Some-clause-nodes : goal.returns-in_ok-labels-in-Some-clause-nodes
returns-in_ok-labels-in-Some-clause-nodes c none =
    let apex = c.args.version.now.apex in
    let before = c.args.before.now.records in
    let after = c.args.version.now.records in
    let apart = rw c.in-Some.is at c.in_ok-records_apart.ensures.apart in
    let all = λ (es : List Edit) (read : AreReadAt apex after c.in_ok-labels-in-Some.labels.keys es).
    read_all apex before after es c.in_ok-labels-in-Some.labels.keys c.in-Some.apart.gone.items
    c.in-Some.apart.come.items c.records-olds.ensures.valid.rises c.records-news.ensures.valid.rises read
    apart.0 apart.1 (rw (c.to_name.ensures ∙ c.apex.ensures) at c.in_ok-labels-in-Some.ensures) in
    IfOk-weaker c.edits_at.result _ _
    (λ o m. some_from _ o m (λ es read. rw c.requires.apex (nodes_edited apex before after es.items (all es.items read)
    (rw c.requires.apex at none)))) c.edits_at.ensures

pub returns-in_ok-labels-in-Some-clause-unbroken : goal.returns-in_ok-labels-in-Some-clause-unbroken
returns-in_ok-labels-in-Some-clause-unbroken c none =
    let apex = c.args.version.now.apex in
    let before = c.args.before.now.records in
    let after = c.args.version.now.records in
    let apart = rw c.in-Some.is at c.in_ok-records_apart.ensures.apart in
    let all = λ (es : List Edit) (read : AreReadAt apex after c.in_ok-labels-in-Some.labels.keys es).
    read_all apex before after es c.in_ok-labels-in-Some.labels.keys c.in-Some.apart.gone.items
    c.in-Some.apart.come.items c.records-olds.ensures.valid.rises c.records-news.ensures.valid.rises read
    apart.0 apart.1 (rw (c.to_name.ensures ∙ c.apex.ensures) at c.in_ok-labels-in-Some.ensures) in
    IfOk-weaker c.edits_at.result _ _
    (λ o m. some_from _ o m (λ es read. not_broken apex before after es.items (all es.items read)
    (rw c.requires.apex at none) (sym c.if-is_version_bad.ensures)))
    c.edits_at.ensures

pub returns-in_ok-labels-in-Some-clause-count : goal.returns-in_ok-labels-in-Some-clause-count
returns-in_ok-labels-in-Some-clause-count c =
    IfOk-weaker c.edits_at.result _ _
    (λ o m. some_from _ o m (λ es read.
    many_nodes c.args.version.now.apex c.args.version.now.records c.records-news.ensures.valid.rises))
    c.edits_at.ensures

pub returns-in_ok-labels-in-Some-clause-none : goal.returns-in_ok-labels-in-Some-clause-none
returns-in_ok-labels-in-Some-clause-none c =
    let apex = c.args.version.now.apex in
    let after = c.args.version.now.records in
    IfOk-weaker c.edits_at.result _ _
    (λ o m. none_from _ o m (λ t. inr (broken_for apex after
    (twins_true (no_version apex after) (version_twice apex after) (other_version apex after) (has_twins apex after)
    t)))) c.edits_at.ensures
