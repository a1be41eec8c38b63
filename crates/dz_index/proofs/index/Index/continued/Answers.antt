use Rattle.std.proofs.Common.{arith, ◌≡◌, ◌<◌, ◌∙◌, sym, ap, subst, length, take}
use Rattle.dz_index.specs.Rows.{Rows, total, count}
use Rattle.dz_index.specs.inner.Kept.{IsKept}
use Rattle.dz_index.specs.inner.Portion.{IsPlaces}
use Rattle.dz_index.proofs.RunLemmas.{continued_few, continued_kept}
use Rattle.dz_index.proofs.index.Index.continued.Goals as goal

pub with_run-requires-clause-few : goal.with_run-requires-clause-few
with_run-requires-clause-few c =
    let kept : IsKept c.args.self = rw c.self.view_is at c.self.invariant in
    let theirs : IsKept c.args.other.now = rw c.other.view_is at c.other.invariant in
    let few =
    continued_few c.args.self c.args.other.now c.args.portion kept theirs c.requires.portion c.requires.some in
    omega (arith, few, ap (λ (r : Rows). length r.keys) c.self.view_is, c.requires.few)

pub invariant_of-result : goal.invariant_of-result
invariant_of-result c =
    let mine : Rows = record { keys = c.self.inside.keys; firsts = c.self.inside.firsts.items } in
    let theirs : Rows = record { keys = c.other.inside.keys; firsts = c.other.inside.firsts.items } in
    let some : 0 < count mine = omega (arith, ap (λ (r : Rows). length r.keys) c.self.view_is, c.requires.some) in
    let are : IsPlaces theirs.firsts c.args.portion =
    subst (λ (r : Rows). IsPlaces r.firsts c.args.portion) (sym c.other.view_is) c.requires.portion in
    let records : c.total-total.result ≡ total mine = c.total-total.ensures ∙ sym (ap total c.self.view_is) in
    let rest : c.pop.new.self.items ≡ take (count mine) mine.firsts = c.pop.ensures.rest
    ∙ ap (λ n. take n mine.firsts) (omega (arith, c.self.invariant.long, c.self.inside.firsts.ok.0)) in
    let firsts = rw (rest, c.as_slice.ensures.value, records) at c.in_ok-extend_places.ensures in
    rw (c.in_ok-with_run.ensures, firsts)
    (continued_kept mine theirs c.args.portion c.self.invariant c.other.invariant are some)
