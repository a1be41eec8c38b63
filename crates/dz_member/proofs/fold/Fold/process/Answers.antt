use Rattle.std.proofs.Common.{◌≡◌, ◌∙◌, subst, List}
use Rattle.std.proofs.lemmas.Result.{IfOk-weaker}
use Rattle.dz_name.specs.Words.{Name}
use Rattle.dz_member.specs.declared.listing.Node.{Node}
use Rattle.dz_member.specs.Process.{process, changes, EachZone}
use Rattle.dz_member.specs.inner.Kept.{catalog_at}
use Rattle.dz_member.proofs.KeptLemmas.{zones_rise}
use Rattle.dz_member.proofs.NumberLemmas.{number_names, HasNumber}
use Rattle.dz_member.proofs.fold.Fold.process.Goals as goal

named : (c : goal.After-with) → HasNumber c.args.self.now.config c.args.catalog.now c.configured_number-number.result
named c = number_names c.args.self.now.config c.args.catalog.now c.configured_number-number.result
    c.configured_number-number.ensures.number

pub from_shared-requires : goal.from_shared-requires
from_shared-requires c = zones_rise _ _ c.in_ok-processed.ensures.order

nodes_are : (c : goal.In_ok-nodes-2) → c.in_ok-nodes-2.nodes.value ≡ c.args.listing
nodes_are c = c.in_ok-nodes-2.ensures.ok ∙ c.in_ok-nodes.ensures

pub with-requires-clause-members : goal.with-requires-clause-members
with-requires-clause-members c =
    rw (c.in_ok-members-2.ensures.ok, c.in_ok-members.ensures.members, nodes_are c) c.in_ok-processed.ensures.members

pub with-requires-clause-changes : goal.with-requires-clause-changes
with-requires-clause-changes c = rw (nodes_are c) c.in_ok-processed.ensures.changes

pub with-requires-clause-listing : goal.with-requires-clause-listing
with-requires-clause-listing c = rw (nodes_are c) c.in_ok-processed.ensures.listing

pub with-requires-clause-numbered : goal.with-requires-clause-numbered
with-requires-clause-numbered c =
    rw (c.in_ok-members-2.ensures.ok, c.in_ok-members.ensures.members) c.in_ok-processed.ensures.numbered

pub with-requires-clause-few : goal.with-requires-clause-few
with-requires-clause-few c = rw (c.in_ok-members-2.ensures.ok) c.in_ok-members.ensures.few

pub returns-clause-fold : goal.returns-clause-fold
returns-clause-fold c =
    let name = (named c).is in
    let nodes : c.in_ok-nodes-2.nodes.value ≡ c.args.listing = c.in_ok-nodes-2.ensures.ok ∙ c.in_ok-nodes.ensures in
    IfOk-weaker c.with.result _ _ (λ r e. e ∙ (λ i. process c.args.self.now (name i) (nodes i) c.args.position))
    c.with.ensures.fold

pub returns-clause-changes : goal.returns-clause-changes
returns-clause-changes c =
    let name = (named c).is in
    let nodes : c.in_ok-nodes-2.nodes.value ≡ c.args.listing = c.in_ok-nodes-2.ensures.ok ∙ c.in_ok-nodes.ensures in
    IfOk-weaker c.with.result _ _ (λ r e. e ∙ (λ i. changes c.args.self.now (name i) (nodes i) c.args.position))
    c.with.ensures.changes

pub returns-clause-each : goal.returns-clause-each
returns-clause-each c =
    let name = (named c).is in
    let nodes : c.in_ok-nodes-2.nodes.value ≡ c.args.listing = c.in_ok-nodes-2.ensures.ok ∙ c.in_ok-nodes.ensures in
    IfOk-weaker c.with.result _ _
    (λ r e. subst (λ (z : Name). EachZone c.args.self.now z c.args.listing c.args.position r.0 r.1) name
    (subst (λ (ns : List Node). EachZone c.args.self.now (catalog_at c.args.self.now c.configured_number-number.result)
    ns c.args.position r.0 r.1) nodes e))
    c.with.ensures.each
