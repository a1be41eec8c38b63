use Rattle.std.proofs.Common.{◌∙◌, sym}
use Rattle.std.specs.BTreeSet.{contains}
use Rattle.dz_name.specs.Name.{label_order}
use Rattle.dz_member.specs.declared.listing.Node.{Node}
use Rattle.dz_produce.proofs.ChangeLemmas.{kept_more, left_out}
use Rattle.dz_produce.proofs.change.put_left.Goals.{then-contains+in_ok-put, else-contains}
use Rattle.dz_produce.proofs.change.put_left.Goals as goal

pub nodes-preserved : goal.nodes-preserved
nodes-preserved c =
    let p = λ (n : Node). contains label_order c.args.left.now n.label in
    let node = c.node-item.result in
    elim c.if-contains.branch [
      | then-contains+in_ok-put w ↦
          let more = kept_more p c.args.nodes.now c.nodes.node-index node c.nodes-test.true c.node-item.is
          (sym c.contains.ensures ∙ w.if-contains.true) in
          let draft = w.in_ok-put.ensures.draft _ c.nodes.invariant.draft in
          rw (w.draft-is, more)
          (record { draft = draft; octets = w.in_ok-put.ensures.octets ∙ c.nodes.invariant.octets })
      | else-contains w ↦
          let same = left_out p c.args.nodes.now c.nodes.node-index node c.nodes-test.true c.node-item.is
          (sym c.contains.ensures ∙ w.if-contains.false) in
          rw (w.draft-is, same) c.nodes.invariant
    ]
