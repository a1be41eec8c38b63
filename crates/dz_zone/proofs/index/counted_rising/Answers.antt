use Rattle.std.proofs.Common.{◌≡◌, ◌+◌, ◌<◌, length, get_or, take, arith, ◌∙◌, ap}
use Rattle.std.proofs.lemmas.List.{length-map, take_all}
use Rattle.dz_index.proofs.OrderLemmas.{one_more_owner}
use Rattle.dz_zone.specs.Version.{owners_of}
use Rattle.dz_zone.proofs.OwnerLemmas.{owner_at}
use Rattle.dz_index.specs.Index.{order_behind}
use Rattle.dz_zone.proofs.RisingLemmas.{owner_there, more_rise, all_rise}
use Rattle.dz_zone.proofs.index.counted_rising.Goals as goal

pub records-init : goal.records-init
records-init g c = record {
  is = c.in_ok-index.ensures;
  long = c.in_ok-index.ensures.total_is;
  up = λ k d within. absurd (omega arith);
}

pub rises_at-requires-clause-owners : goal.rises_at-requires-clause-owners
rises_at-requires-clause-owners g c =
    let records = c.args.records.now in
    let at = c.records.place in
    let is = owner_there records at c.index-records-place.result c.owner_ref.result
    (omega arith) c.index-records-place.is c.owner_ref.ensures in
    c.in_ok-order.ensures.order (take at (owners_of records)) c.records.invariant.is
    ∙ ap (λ n. order_behind (take at (owners_of records)) n) is

pub records-preserved : goal.records-preserved
records-preserved g c =
    let records = c.args.records.now in
    let owners = owners_of records in
    let at = c.records.place in
    let name = c.owner_ref.result in
    let within : at < length owners = omega (arith, length-map records (λ r. r.owner)) in
    let is : name ≡ get_or owners at name = owner_at records
    at c.index-records-place.result name (omega arith) c.index-records-place.is c.owner_ref.ensures in
    let order = c.rises_at.ensures.order c.if-not-rises_at.false in
    record {
      is = rw (one_more_owner owners at name within is)
          (c.in_ok-order.ensures.index (take at owners) c.records.invariant.is order);
      long = c.in_ok-order.ensures.total order ∙ ap (λ n. n + 1) c.records.invariant.long;
      up = more_rise records at c.records.invariant.up (c.rises_at.ensures.rises c.if-not-rises_at.false);
    }

pub returns : goal.returns
returns g c =
    let records = c.args.records.now in
    record {
      rises = all_rise records c.records.place c.records.invariant.up (omega arith);
      indexed = rw (take_all c.records.place (owners_of records) (omega (arith, length-map records (λ r. r.owner))))
          at c.records.invariant.is;
    }
