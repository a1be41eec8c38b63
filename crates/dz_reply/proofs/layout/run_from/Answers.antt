use Rattle.std.proofs.Common.{◌∙◌, ap, drop}
use Rattle.std.proofs.lemmas.List.{get_or_default}
use Rattle.dz_record.specs.Record.{Record}
use Rattle.dz_runs.specs.Runs.{of_type}
use Rattle.dz_reply.proofs.layout.run_from.Goals as goal

pub returns : goal.returns
returns c = λ d.
    let first : Record = c.index-records-begin.result in
    rw (c.kind.ensures.kind, c.split_at.ensures.back) at c.of_type.ensures
    ∙ ap (λ (r : Record). of_type r.kind (drop c.args.begin c.args.records.now)) (c.index-records-begin.is
    ∙ get_or_default c.args.records.now c.args.begin first d c.requires.within)
