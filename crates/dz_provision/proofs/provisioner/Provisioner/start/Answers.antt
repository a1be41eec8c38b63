use Rattle.std.proofs.Common.{rules, ◌∙◌, arith}
use Rattle.dz_provision.proofs.StartLemmas.{start_table, start_logged}
use Rattle.dz_provision.proofs.provisioner.Provisioner.start.Goals as goal

pub stage-requires-clause-table : goal.stage-requires-clause-table
stage-requires-clause-table g c =
    c.in-Ok.ensures.table ∙ rw (c.requires.publisher.0, c.in-Ok.ensures.entry) (start_table c.args.config)

pub invariant_of-result : goal.invariant_of-result
invariant_of-result g c =
    let logged = start_logged c.args.config (g.K.Sink.held c.args.output)
    (λ text is. let empty = c.requires.output.0 in rw is at empty) in (
      search rules,
      search rules,
      search rules,
      rw (c.in-Ok.ensures.fleet, c.requires.starved) logged,
      search rules,
      rw c.in-Ok.ensures.fleet (omega arith),
    )
