use Rattle.std.proofs.Common.{rules, ◌∙◌, take}
use Rattle.std.specs.Ordering.{is_lt, is_le}
use Rattle.std.proofs.lemmas.Fn.{always_returns_same}
use Rattle.dz_name.specs.Name.{label_order}
use Rattle.dz_name.specs.Numbers.{two}
use Rattle.dz_record.specs.Record.{Record}
use Rattle.dz_runs.proofs.RunLemmas.{points_rise, partitioned_lt, partitioned_le}
use Rattle.dz_secure.proofs.SignatureLemmas.{covers_run}
use Rattle.dz_secure.proofs.signature.covering_type.Goals as goal

pub between-requires-clause-order : goal.between-requires-clause-order
between-requires-clause-order c =
    points_rise (λ (r : Record). label_order (take 2 r.rdata) (two c.args.kind)) c.args.records.now _ _
    c.partition_point-begin.ensures.bound
    (c.partition_point-begin.ensures.partitioned (λ (r : Record).
    is_lt (label_order (take 2 r.rdata) (two c.args.kind))) (always_returns_same _ _ _ (λ a r f h. search rules))
    (partitioned_lt (λ (r : Record). label_order (take 2 r.rdata) (two c.args.kind)) c.args.records.now
    (c.requires (two c.args.kind))))
    (c.partition_point-end.ensures.partitioned (λ (r : Record). is_le (label_order (take 2 r.rdata) (two c.args.kind)))
    (always_returns_same _ _ _ (λ a r f h. search rules)) (partitioned_le (λ (r : Record).
    label_order (take 2 r.rdata) (two c.args.kind)) c.args.records.now (c.requires (two c.args.kind))))

pub returns : goal.returns
returns c =
    c.between.ensures
    ∙ covers_run c.args.records.now c.args.kind _ _ c.partition_point-begin.ensures.bound
    c.partition_point-end.ensures.bound
    (c.partition_point-begin.ensures.partitioned (λ (r : Record).
    is_lt (label_order (take 2 r.rdata) (two c.args.kind))) (always_returns_same _ _ _ (λ a r f h. search rules))
    (partitioned_lt (λ (r : Record). label_order (take 2 r.rdata) (two c.args.kind)) c.args.records.now
    (c.requires (two c.args.kind))))
    (c.partition_point-end.ensures.partitioned (λ (r : Record). is_le (label_order (take 2 r.rdata) (two c.args.kind)))
    (always_returns_same _ _ _ (λ a r f h. search rules)) (partitioned_le (λ (r : Record).
    label_order (take 2 r.rdata) (two c.args.kind)) c.args.records.now (c.requires (two c.args.kind))))
