-- The last transfer after one more, and what is held of its zone.
use Rattle.std.proofs.Common.{◌≡◌, ◌<◌, ℕ, true, List, [], ◌∷◌, ◌++◌, length, Option, Some, None, refl, sym, subst}
use Rattle.std.proofs.Common.{◌∙◌, arith}
use Rattle.std.specs.Prelude.{IsSome}
use Rattle.std.specs.Option.{ForSome}
use Rattle.std.proofs.lemmas.List.Sums.{fold-append}
use Rattle.dz_name.specs.Words.{Octets}
use Rattle.dz_take.specs.Transfer.{Decision, up_to_date, new, refused}
use Rattle.dz_take.specs.Fit.{Fits}
use Rattle.dz_take.proofs.FitLemmas.{outcomes_fit}
use Rattle.dz_settings.specs.declared.config.Policy.{Policy}
use Rattle.dz_take.specs.declared.outcome.TakeFault.{TakeFault}
use Rattle.dz_history.specs.declared.entry.Entry.{Entry}
use Rattle.dz_history.specs.declared.entry.Entry.TheVariants.{Setup, Transfer}
use Rattle.dz_history.specs.declared.entry.Taken.{Taken}
use Rattle.dz_history.specs.State.{State, IsState, catalog_at, incarnation_at, held_at, policy_at, stands}
use Rattle.dz_history.specs.After.{after, step, transfer_of, decision_of}
use Rattle.dz_history.specs.Legal.{CanFollow, IsLegal, IsApproved, IsTakeable}
use Rattle.dz_history.proofs.KeptLemmas.{held_new, held_same, fold_of_member, stands_by_fold}
use Rattle.dz_history.proofs.ListLemmas.{after_more, count_is, by_entries}
use Rattle.dz_history.proofs.StandsLemmas.{stands_catalog}
use Rattle.dz_history.proofs.PlaceLemmas.{stands_zero}
use Rattle.dz_job.specs.Job.{JobOf}
use Rattle.dz_fleet.specs.declared.fleet.Last.{Last}
use Rattle.dz_fleet.specs.Core.{entry_for}
use Rattle.dz_fleet.specs.Last.{last_in, last_of, IsRefreshed}
use Rattle.dz_fleet.proofs.StateLemmas.{state_step, state_opened}
use Rattle.dz_fleet.proofs.TakeLemmas.{stands_some}

abbrev told_of : JobOf → Last
told_of job = record { zone = job.flight.zone; moment = job.flight.moment }

pub last_after : (list : List Entry) (job : JobOf) (octets : Octets)
    → Some (told_of job) ≡ last_of (list ++ entry_for job octets ∷ [])
last_after list job octets = sym (fold-append last_in None list (entry_for job octets ∷ []))

-- ---- after a transfer that could be taken
still_stands : (s : State) (t : Taken) (o : Option ℕ) → o ≡ catalog_at s t.zone → stands s t.zone t.incarnation ≡ true
    → stands (step s (Transfer t)) t.zone t.incarnation ≡ true
still_stands s t None e h =
    stands_by_fold (step s (Transfer t)) s t.zone t.incarnation (fold_of_member s t (sym e)) ∙ h
still_stands s t (Some number) e h =
    let zero = stands_zero s t.zone t.incarnation number e h in
    subst (λ i. stands (step s (Transfer t)) t.zone i ≡ true) zero (stands_catalog s t t.zone number e).1

held_if : (s : State) (t : Taken) → decision_of s t ≡ up_to_date → IsSome (held_at s t.zone)
unfolding decision_of
held_if s t d = subst (Fits (transfer_of s t)) d (outcomes_fit (transfer_of s t) t.octets)

never : (p : Option Policy) (fault : TakeFault) → IsApproved p (refused fault) → ⊥
never None fault a = a
never (Some p) fault a = a

held_by : (s : State) (t : Taken) (d : Decision) → decision_of s t ≡ d → IsState s → IsSome (incarnation_at s t.zone)
    → IsApproved (policy_at s t.zone) d → IsSome (held_at (step s (Transfer t)) t.zone)
held_by s t up_to_date d ok some approved = rw (held_same s t ok some d) (held_if s t d)
held_by s t (new zone) d ok some approved = rw (held_new s t zone ok some d) refl
held_by s t (refused fault) d ok some approved = absurd (never (policy_at s t.zone) fault approved)

refreshed_by : (s : State) (t : Taken) → IsState s → IsTakeable s t
    → IsRefreshed (step s (Transfer t)) (record { zone = t.zone; moment = t.moment })
refreshed_by s t ok takes = record {
  moment = takes.moment;
  begun =
      stands_some (step s (Transfer t)) t.zone t.incarnation
      (still_stands s t (catalog_at s t.zone) refl takes.stands);
  held = held_by s t (decision_of s t) refl ok (stands_some s t.zone t.incarnation takes.stands) takes.approved;
}

-- ---- after each list that can come about
record Lasts (es : List Entry) : Type 0 where
  state : 0 < length es → IsState (after es)
  last : ForSome (last_of es) (IsRefreshed (after es))

none_before : (es : List Entry) (last : Last) → length es ≡ 0 → last_of es ≡ Some last → ⊥
none_before [] last none e = cc e
none_before (e ∷ es) last none is = omega (arith, none)

lasts_more : (es : List Entry) (e : Entry) → IsLegal es → CanFollow (after es) e → Lasts es → Lasts (es ++ e ∷ [])
unfolding step
lasts_more es (Setup config) legal c l = record {
  state = λ some. rw (after_more es (Setup config)) (state_opened config c.1);
  last = λ last e. absurd (none_before es last (omega (arith, count_is es legal, c.0))
      (sym (fold-append last_in None es (Setup config ∷ [])) ∙ e));
}
lasts_more es (Transfer t) legal c l =
    let ok : IsState (after es) = l.state (omega (arith, count_is es legal, c.0)) in
    record {
      state = λ some. rw (after_more es (Transfer t))
          (state_step (after es) t ok (stands_some (after es) t.zone t.incarnation c.1.stands));
      last = λ last e.
          let same : record { zone = t.zone; moment = t.moment } ≡ last =
          (let q : Some (record { zone = t.zone; moment = t.moment }) ≡ Some last =
          sym (fold-append last_in None es (Transfer t ∷ [])) ∙ e in cc) in
          rw (after_more es (Transfer t), ← same) (refreshed_by (after es) t ok c.1);
    }

pub last_refreshed : (es : List Entry) → IsLegal es → ForSome (last_of es) (IsRefreshed (after es))
last_refreshed es legal = (by_entries Lasts (record {
  state = λ some. absurd (omega (arith, some));
  last = λ last e. absurd (let q : None ≡ Some last = e in cc);
}) lasts_more es legal).last
