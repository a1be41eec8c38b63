use Rattle.std.proofs.Common.{◌∙◌, ◌≡◌, sym, ap, Less}
use Rattle.std.specs.Ordering.{is_gt}
use Rattle.dz_index.specs.SortKey.{key_of}
use Rattle.dz_index.specs.inner.Kept.{IsKept, last_compared}
use Rattle.dz_index.proofs.AddingLemmas.{index_repeated, index_added, order_is, last_of, other_less, equal_some}
use Rattle.dz_index.proofs.index.Index.put.Goals as goal

pub returns-in_ok-add-in-Less-clause-order : goal.returns-in_ok-add-in-Less-clause-order
returns-in_ok-add-in-Less-clause-order g c = λ owners index.
    let kept : IsKept c.args.self.now = rw c.self.view_is at c.self.invariant in
    rw (c.octets.ensures.value ∙ c.set.ensures) at c.last_cmp-order.ensures.value
    ∙ order_is owners c.args.self.now kept index c.args.name.now

pub returns-in_ok-add-in-Less-clause-index : goal.returns-in_ok-add-in-Less-clause-index
returns-in_ok-add-in-Less-clause-index g c = λ owners index _.
    let kept : IsKept c.args.self.now = rw c.self.view_is at c.self.invariant in
    let key = c.octets-in-Less.result.now in
    let is : key ≡ key_of c.args.name.now = c.octets-in-Less.ensures.value ∙ c.set.ensures in
    let less : Less ≡ last_compared c.args.self.now (key_of c.args.name.now) =
    rw (c.octets.ensures.value ∙ c.set.ensures) at c.in-Less.ensures.value in
    let last = last_of owners c.args.self.now kept index c.args.name.now
    (ap is_gt (sym (less ∙ order_is owners c.args.self.now kept index c.args.name.now))) in
    rw c.in_ok-add-in-Less.ensures.value
    (index_added owners c.args.self.now c.args.name.now kept index key is last
    (other_less c.args.self.now key (rw (sym is) at less)))

pub returns-in-Equal-clause-order : goal.returns-in-Equal-clause-order
returns-in-Equal-clause-order g c = λ owners index.
    let kept : IsKept c.args.self.now = rw c.self.view_is at c.self.invariant in
    rw (c.octets.ensures.value ∙ c.set.ensures) at c.last_cmp-order.ensures.value
    ∙ order_is owners c.args.self.now kept index c.args.name.now

pub returns-in-Equal-clause-index : goal.returns-in-Equal-clause-index
returns-in-Equal-clause-index g c = λ owners index _.
    let kept : IsKept c.args.self.now = rw c.self.view_is at c.self.invariant in
    let told = equal_some c.args.self.now (key_of c.args.name.now)
    (rw (c.octets.ensures.value ∙ c.set.ensures) at c.in-Equal.ensures.value) in
    rw c.repeat.ensures (index_repeated owners c.args.self.now c.args.name.now kept index told.0 told.1)

pub returns-in-Greater-clause-order : goal.returns-in-Greater-clause-order
returns-in-Greater-clause-order g c = λ owners index.
    let kept : IsKept c.args.self.now = rw c.self.view_is at c.self.invariant in
    rw (c.octets.ensures.value ∙ c.set.ensures) at c.last_cmp-order.ensures.value
    ∙ order_is owners c.args.self.now kept index c.args.name.now
