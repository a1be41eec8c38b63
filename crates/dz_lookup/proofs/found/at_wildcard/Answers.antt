use Rattle.std.proofs.Common.{◌∙◌, ap}
use Rattle.dz_runs.specs.Runs.{records_of}
use Rattle.dz_lookup.proofs.FoundLemmas.{node_answers}
use Rattle.dz_lookup.proofs.Within.{exists_all}
use Rattle.dz_lookup.proofs.found.at_wildcard.Goals as goal

pub returns-then-missing_labels-eq0-clause-found : goal.returns-then-missing_labels-eq0-clause-found
returns-then-missing_labels-eq0-clause-found g c =
    let zone = c.args.version.now.records in
    node_answers zone c.args.kind c.args.wildcard.now _ _ c.at_node.ensures
    (c.node_of_wildcard-node.ensures.node.records_are ∙ ap (records_of zone) c.as_ref.ensures)
    (exists_all zone c.args.wildcard.now c.missing_labels.result
    (rw c.as_ref-2.ensures at c.missing_labels.ensures) c.if-missing_labels-eq0.true)
