use Rattle.std.proofs.Common.{◌∙◌, length, ◌≡◌}
use Rattle.std.proofs.lemmas.List.{length-map}
use Rattle.dz_record.specs.Record.{Record}
use Rattle.dz_index.specs.Rows.{total}
use Rattle.dz_zone.specs.Version.{owners_of}
use Rattle.dz_runs.proofs.InOrder.{owner_run}
use Rattle.dz_runs.proofs.NodeLemmas.{begin_upto_end, first_begin, end_end, node_kinds}
use Rattle.dz_runs.proofs.runs.node_of.Goals as goal

pub between-requires-clause-order : goal.between-requires-clause-order
between-requires-clause-order g c =
    let zone = c.args.version.now.records in
    let long : total c.index.result.now ≡ length zone =
    c.index.ensures.total_is ∙ length-map zone (λ (r : Record). r.owner) in
    begin_upto_end zone c.args.name.now c.run_of-run.result.begin c.run_of-run.result.end
    (rw long at c.run_of-run.ensures.begins)
    (first_begin zone c.args.name.now c.run_of-run.result.begin
    (c.run_of-run.ensures.begin (owners_of zone) c.index.ensures))
    (end_end zone c.args.name.now c.run_of-run.result.end (c.run_of-run.ensures.end (owners_of zone) c.index.ensures))

pub returns-clause-point : goal.returns-clause-point
returns-clause-point g c =
    first_begin c.args.version.now.records c.args.name.now c.run_of-run.result.begin
    (c.run_of-run.ensures.begin (owners_of c.args.version.now.records) c.index.ensures)

pub returns-clause-records : goal.returns-clause-records
returns-clause-records g c =
    let zone = c.args.version.now.records in
    let long : total c.index.result.now ≡ length zone =
    c.index.ensures.total_is ∙ length-map zone (λ (r : Record). r.owner) in
    rw c.records-records.ensures.records at c.between.ensures
    ∙ owner_run zone c.args.name.now c.run_of-run.result.begin c.run_of-run.result.end
    c.records-records.ensures.valid.rises (rw long at c.run_of-run.ensures.begins)
    (rw long at c.run_of-run.ensures.ends)
    (first_begin zone c.args.name.now c.run_of-run.result.begin
    (c.run_of-run.ensures.begin (owners_of zone) c.index.ensures))
    (end_end zone c.args.name.now c.run_of-run.result.end (c.run_of-run.ensures.end (owners_of zone) c.index.ensures))

pub returns-clause-kinds : goal.returns-clause-kinds
returns-clause-kinds g c = rw (returns-clause-records g c)
    (node_kinds c.args.version.now.records c.args.name.now c.records-records.ensures.valid.rises)
