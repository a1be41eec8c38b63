use Rattle.std.proofs.Common.{rules, ◌∙◌}
use Rattle.std.specs.Ordering.{is_lt, is_le, nat_cmp}
use Rattle.std.proofs.lemmas.Fn.{always_returns_same}
use Rattle.dz_record.specs.Record.{Record}
use Rattle.dz_runs.proofs.RunLemmas.{points_rise}
use Rattle.dz_runs.proofs.NodeLemmas.{kinds_before, kinds_upto, type_run}
use Rattle.dz_runs.proofs.runs.of_type.Goals as goal

pub between-requires-clause-order : goal.between-requires-clause-order
between-requires-clause-order c =
    points_rise (λ (r : Record). nat_cmp r.kind c.args.kind) c.args.node.now _ _ c.partition_point-begin.ensures.bound
    (c.partition_point-begin.ensures.partitioned (λ (r : Record). is_lt (nat_cmp r.kind c.args.kind))
    (always_returns_same _ _ _ (λ a r f h. search rules)) (kinds_before c.args.node.now c.args.kind c.requires))
    (c.partition_point-end.ensures.partitioned (λ (r : Record). is_le (nat_cmp r.kind c.args.kind))
    (always_returns_same _ _ _ (λ a r f h. search rules)) (kinds_upto c.args.node.now c.args.kind c.requires))

pub returns : goal.returns
returns c =
    c.between.ensures
    ∙ type_run c.args.node.now c.args.kind _ _ c.partition_point-begin.ensures.bound
    c.partition_point-end.ensures.bound
    (c.partition_point-begin.ensures.partitioned (λ (r : Record). is_lt (nat_cmp r.kind c.args.kind))
    (always_returns_same _ _ _ (λ a r f h. search rules)) (kinds_before c.args.node.now c.args.kind c.requires))
    (c.partition_point-end.ensures.partitioned (λ (r : Record). is_le (nat_cmp r.kind c.args.kind))
    (always_returns_same _ _ _ (λ a r f h. search rules)) (kinds_upto c.args.node.now c.args.kind c.requires))
