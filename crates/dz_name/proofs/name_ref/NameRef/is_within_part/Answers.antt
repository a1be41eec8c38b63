use Rattle.std.proofs.Common.{arith, ap, length}
use Rattle.dz_name.proofs.PartLemmas.{part_within}
use Rattle.dz_name.proofs.WithinLemmas.{none_left, next_left, left_first, left_is}
use Rattle.dz_name.proofs.name_ref.NameRef.is_within_part.Goals as goal

pub labels-init : goal.labels-init
labels-init c = none_left _ _ _ c.wire-rest.ensures.name c.wire-rest.ensures.wire

pub behind_label-rest-requires-clause-whole : goal.behind_label-rest-requires-clause-whole
behind_label-rest-requires-clause-whole c = left_first _ _ _ c.labels.invariant

pub labels-preserved : goal.labels-preserved
labels-preserved c =
    next_left _ _ _ _ c.labels.invariant
    (omega (arith, c.labels-test.true, ap length c.behind-suffix.ensures.wire)) c.behind_label-rest.ensures

pub returns-clause-value : goal.returns-clause-value
returns-clause-value c =
    left_is _ _ _ _ _ c.labels.invariant c.behind-suffix.ensures.name c.behind-suffix.ensures.wire
    (omega (arith, c.labels-test.false)) c.eq.ensures

pub returns-clause-suffix : goal.returns-clause-suffix
returns-clause-suffix c = part_within _ _ _ (returns-clause-value c)
