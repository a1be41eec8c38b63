use Rattle.std.proofs.Common.{arith, drop}
use Rattle.std.specs.Prelude.{nat_le}
use Rattle.dz_name.proofs.OrderLemmas.{few_labels}
use Rattle.dz_lookup.proofs.Within.{apart_is, look_is, no_look}
use Rattle.dz_lookup.proofs.beside.labels_apart_at.Goals as goal

pub returns-then-place-records-clause-apart : goal.returns-then-place-records-clause-apart
returns-then-place-records-clause-apart g c = λ d k le.
    look_is c.args.records.now (drop k c.args.name.now) c.args.place c.index-records-place.result d
    (nat_le c.labels_apart.result k) c.if-place-records.true c.index-records-place.is
    (apart_is c.args.name.now c.index-records-place.result.owner c.labels_apart.result k c.labels_apart.ensures.within
    (rw c.owner_ref.ensures at c.labels_apart.ensures.encloses)
    (rw c.owner_ref.ensures at c.labels_apart.ensures.longest) le)

pub returns-else-place-records-clause-apart : goal.returns-else-place-records-clause-apart
returns-else-place-records-clause-apart g c = λ d k le.
    no_look c.args.records.now (drop k c.args.name.now) c.args.place d 255 k c.if-place-records.false
    (omega (arith, le, few_labels c.args.name.now c.wire.ensures.name))
