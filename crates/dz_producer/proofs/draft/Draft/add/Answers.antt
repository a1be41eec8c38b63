use Rattle.std.proofs.Common.{ℕ, ◌∙◌, ◌+◌, ◌++◌, [], ◌∷◌, ap, sym}
use Rattle.dz_producer.proofs.DraftLemmas.{group_bad, name_bad, not_alone, many_bad, is_usable, usable_more}
use Rattle.dz_producer.proofs.DraftLemmas.{spent_more, no_fault}
use Rattle.dz_producer.proofs.RecordLemmas.{all_append}
use Rattle.dz_producer.specs.Draft.{IsHeld, node_size, saturated}
use Rattle.dz_producer.proofs.draft.Draft.add.Goals.{then-branch-via-then-branch}
use Rattle.dz_producer.proofs.draft.Draft.add.Goals.{then-branch-via-else-branch+then-is_node_long}
use Rattle.dz_producer.proofs.draft.Draft.add.Goals.{then-not-branch-via-then-not-branch}
use Rattle.dz_producer.proofs.draft.Draft.add.Goals.{then-not-branch-via-else-not-branch+then-is_full}
use Rattle.dz_producer.proofs.draft.Draft.add.Goals as goal

pub returns-then-branch : goal.returns-then-branch
returns-then-branch c s nodes good =
    elim c.then-branch.branch [
      | then-branch-via-then-branch w ↦
          group_bad c.args.apex.now nodes c.args.node.now (sym c.in_ok-has_bad_group.ensures ∙ w.if-branch.true)
      | then-branch-via-else-branch+then-is_node_long w ↦
          name_bad c.args.apex.now nodes c.args.node.now (sym w.is_node_long.ensures.long ∙ w.if-is_node_long.true)
    ]

pub returns-then-not-branch : goal.returns-then-not-branch
returns-then-not-branch c s nodes good =
    elim c.then-not-branch.branch [
      | then-not-branch-via-then-not-branch w ↦ not_alone c.args.apex.now nodes c.args.node.now c.in_ok-put.field-0
          (c.in_ok-put.ensures.alone nodes good.draft) w.if-not-branch.true
      | then-not-branch-via-else-not-branch+then-is_full w ↦
          many_bad c.args.apex.now nodes c.args.node.now c.put.new.self w.is_full.result
          (c.in_ok-put.ensures.draft nodes good.draft) w.is_full.ensures w.if-is_full.true
    ]

pub returns-then-self-le-SURE : goal.returns-then-self-le-SURE
returns-then-self-le-SURE c s nodes good =
    let put = c.in_ok-put.ensures.draft nodes good.draft in
    let usable = usable_more c.args.apex.now nodes c.args.node.now c.put.new.self
    c.in_ok-has_bad_group.field-0 c.is_node_long.result c.in_ok-put.field-0 c.is_full.result
    (is_usable c.args.apex.now s nodes good.faultless) put
    c.in_ok-has_bad_group.ensures c.if-branch.false c.is_node_long.ensures.long c.if-is_node_long.false
    (c.in_ok-put.ensures.alone nodes good.draft) c.if-not-branch.false c.is_full.ensures c.if-is_full.false in
    let grown = c.spend.ensures.octets
    ∙ ap (λ (n : ℕ). saturated (n + node_size c.args.apex.now c.args.node.now)) c.in_ok-put.ensures.octets in
    let held = all_append IsHeld nodes (c.args.node.now ∷ []) good.held (c.spend.ensures.held, tt) in
    let few = spent_more c.args.apex.now nodes c.args.node.now c.args.self.now.octets c.spend.new.self.octets
    good.octets grown c.if-self-le-SURE.true in (
      record {
        draft = c.spend.ensures.draft (nodes ++ c.args.node.now ∷ []) put;
        octets = grown;
        held = c.spend.ensures.held;
      },
      c.if-self-le-SURE.true,
      no_fault c.args.apex.now (nodes ++ c.args.node.now ∷ []) held usable few,
    )
