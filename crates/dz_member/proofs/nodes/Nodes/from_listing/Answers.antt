use Rattle.std.proofs.Common.{◌∙◌, ap}
use Rattle.dz_member.specs.inner.Nodes.{nodes_of, entries_of}
use Rattle.dz_member.proofs.NodesLemmas.{nodes_back, kept_nodes, sorted_nodes}
use Rattle.dz_member.proofs.nodes.Nodes.from_listing.Goals as goal

pub from_entries-requires : goal.from_entries-requires
from_entries-requires c = rw (c.in_ok-entries.ensures, c.into_nodes.ensures.nodes) (sorted_nodes c.args.listing c.into_nodes.ensures.listing.labels)

pub invariant_of-result : goal.invariant_of-result
invariant_of-result c = kept_nodes c.args.listing c.in_ok-entries-2.entries c.into_nodes.ensures.listing.labels
    (c.in_ok-entries-2.ensures ∙ (c.in_ok-entries.ensures ∙ ap entries_of c.into_nodes.ensures.nodes))

pub returns : goal.returns
returns c =
    ap nodes_of (c.in_ok-entries-2.ensures ∙ (c.in_ok-entries.ensures ∙ ap entries_of c.into_nodes.ensures.nodes))
    ∙ nodes_back c.args.listing
