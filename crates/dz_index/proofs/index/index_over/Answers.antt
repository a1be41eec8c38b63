use Rattle.std.proofs.Common.{◌≡◌, ◌+◌, ◌<◌, length, get_or, take, arith, ◌∙◌, ap}
use Rattle.std.specs.Ordering.{is_gt}
use Rattle.dz_index.proofs.OrderLemmas.{is_last, not_behind, one_more_owner}
use Rattle.dz_index.proofs.index.index_over.Goals as goal

pub owners-preserved : goal.owners-preserved
owners-preserved g c =
    let owners = c.args.owners.items in
    let at = c.owners.owner-index in
    let name = c.as_ref.result in
    let within : at < length owners = omega arith in
    let is : name ≡ get_or owners at name =
    rw (← c.as_ref.ensures) at (rw c.deref-owner-items.ensures.value at c.owner-item.is) in
    let last = not_behind (take at owners) name (is_last owners at name c.requires.order within is) in
    let order = ap is_gt (c.in_ok-put.ensures.order (take at owners) c.owners.invariant.is) ∙ last in
    record {
      is = rw (one_more_owner owners at name within is)
          (c.in_ok-put.ensures.index (take at owners) c.owners.invariant.is order);
      long = c.in_ok-put.ensures.total order ∙ ap (λ n. n + 1) c.owners.invariant.long;
    }
