use Rattle.std.proofs.Common.{arith, ◌≡◌, ◌∙◌, sym, ap, subst, length}
use Rattle.dz_index.specs.Rows.{Rows, total}
use Rattle.dz_index.specs.inner.Kept.{IsKept}
use Rattle.dz_index.specs.inner.Portion.{IsPlaces}
use Rattle.dz_index.proofs.RunLemmas.{joined_few, joined_kept}
use Rattle.dz_index.proofs.index.Index.joined.Goals as goal

pub with_run-requires-clause-few : goal.with_run-requires-clause-few
with_run-requires-clause-few c =
    let kept : IsKept c.args.self = rw c.self.view_is at c.self.invariant in
    let theirs : IsKept c.args.other.now = rw c.other.view_is at c.other.invariant in
    let few = joined_few c.args.self c.args.other.now c.args.portion kept theirs c.requires.portion in
    omega (arith, few, ap (λ (r : Rows). length r.keys) c.self.view_is, c.requires.few)

pub invariant_of-result : goal.invariant_of-result
invariant_of-result c =
    let mine : Rows = record { keys = c.self.inside.keys; firsts = c.self.inside.firsts.items } in
    let theirs : Rows = record { keys = c.other.inside.keys; firsts = c.other.inside.firsts.items } in
    let are : IsPlaces theirs.firsts c.args.portion =
    subst (λ (r : Rows). IsPlaces r.firsts c.args.portion) (sym c.other.view_is) c.requires.portion in
    let records : c.total-total.result ≡ total mine = c.total-total.ensures ∙ sym (ap total c.self.view_is) in
    let firsts = rw (c.as_slice.ensures.value, records) at c.in_ok-extend_places.ensures in
    rw (c.in_ok-with_run.ensures, firsts)
    (joined_kept mine theirs c.args.portion c.self.invariant c.other.invariant are)
