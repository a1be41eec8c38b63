use Rattle.std.proofs.Common.{◌∙◌, sym, ap, get_or}
use Rattle.std.specs.Ordering.{is_gt}
use Rattle.std.proofs.lemmas.Bool.{false≢true}
use Rattle.dz_index.specs.inner.Kept.{IsKept, last_compared}
use Rattle.dz_index.proofs.AddingLemmas.{order_is}
use Rattle.dz_index.proofs.RunLemmas.{first_key, index_less, index_equal, total_less, total_equal}
use Rattle.dz_index.proofs.index.Index.with_run.Goals as goal
use Rattle.dz_index.proofs.index.Index.with_run.Goals.{in-Less+in_ok-index-in-Less, in-Equal+in_ok-index-in-Equal}
use Rattle.dz_index.proofs.index.Index.with_run.Goals.{in-Greater}

pub returns-clause-order : goal.returns-clause-order
returns-clause-order g c = λ owners others d mine theirs.
    let kept : IsKept c.args.self = rw c.self.view_is at c.self.invariant in
    let others_kept : IsKept c.args.other.now = rw c.other.view_is at c.other.invariant in
    let portion = c.portion-portion.result in
    let first = rw c.portion-portion.ensures.begin
    at (first_key others c.args.other.now portion others_kept theirs c.portion-portion.ensures.portion d) in
    c.last_cmp_of-order.ensures.value
    ∙ (ap (last_compared c.args.self) first ∙ order_is owners c.args.self kept mine (get_or others c.args.begin d))

pub returns-clause-index : goal.returns-clause-index
returns-clause-index g c =
    let kept : IsKept c.args.self = rw c.self.view_is at c.self.invariant in
    let others_kept : IsKept c.args.other.now = rw c.other.view_is at c.other.invariant in
    let portion = c.portion-portion.result in
    let are = c.portion-portion.ensures.portion in
    elim c.match-order.branch [
      | in-Less+in_ok-index-in-Less w ↦ λ owners others mine theirs _.
          rw (
            w.index-is,
            w.in_ok-index-in-Less.ensures,
            ← c.portion-portion.ensures.begin,
            ← c.portion-portion.ensures.end,
          )
          (index_less c.args.self c.args.other.now portion kept others_kept are owners others mine theirs
          w.in-Less.ensures.value)
      | in-Equal+in_ok-index-in-Equal w ↦ λ owners others mine theirs _.
          rw (
            w.index-is,
            w.in_ok-index-in-Equal.ensures,
            ← c.portion-portion.ensures.begin,
            ← c.portion-portion.ensures.end,
          )
          (index_equal c.args.self c.args.other.now portion kept others_kept are owners others mine theirs
          w.in-Equal.ensures.value)
      | in-Greater w ↦ λ owners others mine theirs h. absurd (false≢true (sym h ∙ ap is_gt w.in-Greater.is))
    ]

pub returns-clause-total : goal.returns-clause-total
returns-clause-total g c =
    let kept : IsKept c.args.self = rw c.self.view_is at c.self.invariant in
    let others_kept : IsKept c.args.other.now = rw c.other.view_is at c.other.invariant in
    let portion = c.portion-portion.result in
    let are = c.portion-portion.ensures.portion in
    elim c.match-order.branch [
      | in-Less+in_ok-index-in-Less w ↦ λ _.
          rw (
            w.index-is,
            w.in_ok-index-in-Less.ensures,
            ← c.portion-portion.ensures.begin,
            ← c.portion-portion.ensures.end,
          )
          (total_less c.args.self c.args.other.now portion kept others_kept are)
      | in-Equal+in_ok-index-in-Equal w ↦ λ _.
          rw (
            w.index-is,
            w.in_ok-index-in-Equal.ensures,
            ← c.portion-portion.ensures.begin,
            ← c.portion-portion.ensures.end,
          )
          (total_equal c.args.self c.args.other.now portion kept others_kept are w.in-Equal.ensures.value)
      | in-Greater w ↦ λ h. absurd (false≢true (sym h ∙ ap is_gt w.in-Greater.is))
    ]
