use Rattle.std.proofs.Common.{◌≡◌, ◌+◌, ◌<◌, length, get_or, take, arith, ◌∙◌, ap}
use Rattle.std.specs.Ordering.{is_gt}
use Rattle.std.proofs.lemmas.List.{length-map}
use Rattle.dz_index.proofs.OrderLemmas.{is_last, not_behind, one_more_owner}
use Rattle.dz_zone.specs.Version.{owners_of}
use Rattle.dz_zone.proofs.OwnerLemmas.{owners_in_order, owner_at}
use Rattle.dz_zone.proofs.index.counted_index.Goals as goal

pub records-preserved : goal.records-preserved
records-preserved g c =
    let records = c.args.records.now in
    let owners = owners_of records in
    let at = c.records.record-index in
    let name = c.owner_ref.result in
    let within : at < length owners = omega (arith, length-map records (λ r. r.owner)) in
    let is : name ≡ get_or owners at name =
    owner_at records at c.record-item.result name (omega arith) c.record-item.is c.owner_ref.ensures in
    let last = not_behind (take at owners) name
    (is_last owners at name (owners_in_order records c.requires.rises) within is) in
    let order = ap is_gt (c.in_ok-put.ensures.order (take at owners) c.records.invariant.is) ∙ last in
    record {
      is = rw (one_more_owner owners at name within is)
          (c.in_ok-put.ensures.index (take at owners) c.records.invariant.is order);
      long = c.in_ok-put.ensures.total order ∙ ap (λ n. n + 1) c.records.invariant.long;
    }
