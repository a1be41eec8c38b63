use Rattle.std.proofs.Common.{◌≡◌, take}
use Rattle.std.specs.Prelude.{filter}
use Rattle.std.specs.BTreeSet.{contains}
use Rattle.dz_name.specs.Name.{label_order}
use Rattle.dz_producer.specs.Draft.{IsDraft}
use Rattle.dz_produce.proofs.change.put_left.Given as goal

abbrev pub invariant-nodes : goal.invariant-nodes
invariant-nodes l = record {
  draft : IsDraft (filter (λ n. contains label_order l.left n.label) (take l.node-index l.nodes)) l.draft;
  octets : l.draft.octets ≡ l.initial.draft.octets;
}
