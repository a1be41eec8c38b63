use Rattle.dz_runs.proofs.NodeLemmas.{run_node}
use Rattle.dz_runs.proofs.runs.node_of_run.Goals as goal

pub returns : goal.returns
returns c = λ d.
    let zone = c.args.version.now.records in
    rw (rw c.records.ensures.records at c.between.ensures)
    (run_node zone c.args.run.now.begin c.args.run.now.end d c.records.ensures.valid.rises c.requires)
