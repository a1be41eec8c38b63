use Rattle.std.proofs.Common.{◌∙◌, ◌≡◌, sym, ap, subst, get_or}
use Rattle.dz_record.specs.Record.{Record}
use Rattle.dz_runs.specs.Node.{IsNodeOf}
use Rattle.dz_runs.proofs.runs.node_at.Goals as goal

pub returns-then-same-clause-node : goal.returns-then-same-clause-node
returns-then-same-clause-node g c =
    let zone = c.args.version.now.records in
    let r = c.index-records-run.result in
    let is : r ≡ get_or zone c.in_ok-run.run'.begin r =
    rw c.records-records.ensures.records at c.index-records-run.is in
    let same = c.same.ensures.equal.0 c.if-same.true in
    let owner : (get_or zone c.in_ok-run.run'.begin r).owner ≡ c.args.name.now =
    ap (λ (x : Record). x.owner) (sym is) ∙ (sym c.owner_ref.ensures ∙ same) in
    subst (λ n. IsNodeOf zone n c.node_of_run.result.place c.node_of_run.result.records.now) owner
    (c.node_of_run.ensures r)
