-- The laws of what a transfer changes.
use Rattle.std.proofs.Common.{◌≡◌, ◌≢◌, refl, sym, ◌∙◌, ap, inl, inr, Some, None}
use Rattle.std.specs.Prelude.{Option, ◌==◌}
use Rattle.std.specs.Option.{option_map}
use Rattle.std.proofs.lemmas.Bool.{cases_Bool, eqb-true}
use Rattle.dz_member.specs.Membership.{MemberOf}
use Rattle.dz_history.specs.State.{State, member_at}
use Rattle.dz_history.specs.After.{counted, slot_from, slot_after}
use Rattle.dz_history.specs.Laws.{BrokenKeeps, BeginsEmpty, RefusedKeeps}
use Rattle.dz_history.proofs.StateLemmas.{taken_catalog, listed_err, refused_stays}

pub broken : BrokenKeeps
unfolding counted
broken s catalog number moment zone reason at e =
    let is = taken_catalog s catalog moment number _ (sym at)
    ∙ ap counted (listed_err s number catalog zone reason e) in
    rw is record { fold = refl; table = refl }

pub refusal : RefusedKeeps
unfolding counted
refusal s zone moment fault = rw (refused_stays s zone moment fault) record { fold = refl; table = refl }

empty_from : (s : State) (m : MemberOf) (o : Option MemberOf)
    → option_map (λ before. before.incarnation) o ≢ Some m.incarnation → (slot_from s m o).version ≡ None
empty_from s m None ne = refl
empty_from s m (Some before) ne = elim (cases_Bool (before.incarnation == m.incarnation)) [
  | inl t ↦ absurd (ne (ap Some (eqb-true before.incarnation m.incarnation t)))
  | inr f ↦ rw f refl
]

pub empty : BeginsEmpty
unfolding slot_after
empty s m ne = empty_from s m (member_at s m.zone) ne
