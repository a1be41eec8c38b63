use Rattle.std.proofs.Common.{inl, inr, refl}
use Rattle.dz_history.specs.inner.Changed.{after_change}
use Rattle.dz_history.proofs.table_changed.with_change.Goals as goal

pub returns-in_ok-new-in-Added : goal.returns-in_ok-new-in-Added
unfolding after_change
returns-in_ok-new-in-Added c =
    rw (
      c.in_ok-new-in-Added.ensures.ok,
      c.in_ok-with_slot-in-Added.ensures,
      c.deref.ensures,
      c.in_ok-slot-in-Added.ensures,
    )
    (elim c.in-Added.is [
      | inl added ↦ rw added.1 refl
      | inr others ↦ elim others [ inl reset ↦ rw reset.1 refl | inr moved ↦ rw moved.2 refl ]
    ])

pub returns-in_ok-new-in-Removed : goal.returns-in_ok-new-in-Removed
unfolding after_change
returns-in_ok-new-in-Removed c =
    rw (
      c.in_ok-new-in-Removed.ensures.ok,
      c.in_ok-without_slot-in-Removed.ensures,
      c.deref-in-Removed.ensures,
      c.in-Removed.is,
    )
    refl

pub returns-in-Moved : goal.returns-in-Moved
unfolding after_change
returns-in-Moved c = elim c.in-Moved.is [
  | inl moved ↦ rw moved.2 refl
  | inr others ↦ elim others [ inl clash ↦ rw clash.1 refl | inr regrouped ↦ rw regrouped.1 refl ]
]
