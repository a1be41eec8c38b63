-- What zones wait for after a transfer that is taken.
use Rattle.std.proofs.Common.{◌≡◌, ℕ, ◌<◌, ◌≤◌, List, map, take, length, refl, sym, ◌∙◌, ap, arith, Some, None, Ok}
use Rattle.std.proofs.Common.{Err}
use Rattle.std.specs.Prelude.{Option, Result, slice_get}
use Rattle.std.specs.List.{AllByRecursion}
use Rattle.std.proofs.lemmas.List.{length-append, length-map, length-take-le}
use Rattle.dz_member.specs.declared.change.Change.{Change}
use Rattle.dz_member.specs.declared.listing.Node.{Node}
use Rattle.dz_member.specs.declared.listing.Broken.{Broken as Reason}
use Rattle.dz_catalog.specs.Listing.{listing_of}
use Rattle.dz_take.specs.Transfer.{Decision, up_to_date, new, refused}
use Rattle.dz_zone.specs.Version.{Zone}
use Rattle.dz_timer.specs.Values.{ValuesOf}
use Rattle.dz_history.specs.declared.aftermath.Aftermath.{Aftermath}
use Rattle.dz_history.specs.declared.aftermath.Aftermath.TheVariants.{Member, Broken, Changes}
use Rattle.dz_history.specs.declared.entry.Taken.{Taken}
use Rattle.dz_history.specs.declared.entry.Entry.TheVariants.{Transfer}
use Rattle.dz_history.specs.State.{State, IsState, catalog_at}
use Rattle.dz_history.specs.After.{step, decision_of, aftermath_of, aftermath_from, catalog_aftermath}
use Rattle.dz_history.specs.After.{listing_aftermath}
use Rattle.dz_history.specs.Places.{seats, IsApart}
use Rattle.dz_history.proofs.StepLemmas.{config_step}
use Rattle.dz_history.proofs.StandsLemmas.{came_by}
use Rattle.dz_history.proofs.ApartLemmas.{apart_step}
use Rattle.dz_history.proofs.KeptLemmas.{fold_of_member, fold_up_to_date, fold_refused, fold_broken, seats_by_fold}
use Rattle.dz_history.proofs.KeptLemmas.{primaries_by_fold}
use Rattle.dz_history.proofs.PlaceLemmas.{seats_size}
use Rattle.dz_job.specs.Job.{JobOf}
use Rattle.dz_fleet.specs.Values.{carried, relisted_values, values_after}
use Rattle.dz_fleet.proofs.WaitLemmas.{AreWaiting}
use Rattle.dz_fleet.proofs.RelistLemmas.{waiting_relisted}

-- ---- where no listing was processed, all members stay
abbrev NoChanges : Aftermath → Type 0
NoChanges aftermath = (cs : List Change) → aftermath ≡ Changes cs → ⊥

by_listing : (s : State) (t : Taken) (zone : Zone) (r : Result (List Node) Reason) → decision_of s t ≡ new zone
    → listing_of zone.apex zone.records ≡ r → NoChanges (listing_aftermath s t.zone r)
    → (step s (Transfer t)).fold ≡ s.fold
by_listing s t zone (Ok nodes) d e h = absurd (h _ refl)
by_listing s t zone (Err reason) d e h = fold_broken s t zone reason d e

by_decision : (s : State) (t : Taken) (d : Decision) → decision_of s t ≡ d → NoChanges (catalog_aftermath s t.zone d)
    → (step s (Transfer t)).fold ≡ s.fold
by_decision s t up_to_date e h = fold_up_to_date s t e
by_decision s t (refused fault) e h = fold_refused s t fault e
by_decision s t (new zone) e h = by_listing s t zone (listing_of zone.apex zone.records) e refl h

by_catalog : (s : State) (t : Taken) (o : Option ℕ) → catalog_at s t.zone ≡ o
    → NoChanges (aftermath_from s t.zone (decision_of s t) o) → (step s (Transfer t)).fold ≡ s.fold
by_catalog s t None e h = fold_of_member s t e
by_catalog s t (Some number) e h = by_decision s t (decision_of s t) refl h

fold_stays : (s : State) (t : Taken) → NoChanges (aftermath_of s t.zone (decision_of s t))
    → (step s (Transfer t)).fold ≡ s.fold
unfolding aftermath_of
fold_stays s t h = by_catalog s t (catalog_at s t.zone) refl h

waiting_fold : (s t : State) (jobs : List JobOf) (values : List ValuesOf) → t.fold ≡ s.fold → AreWaiting s jobs values
    → AreWaiting t jobs values
waiting_fold s t jobs values same waits place seat there =
    let before = waits place seat (sym (ap (λ xs. slice_get xs place) (seats_by_fold t s same)) ∙ there) in
    record { busy = before.busy; turn = rw (primaries_by_fold t s seat.zone same) before.turn }

pub record AreRenewed (t : State) (jobs : List JobOf) (values : List ValuesOf) : Type 0 where
  pub sized : length values ≡ length (seats t)
  pub waits : AreWaiting t jobs values

relisted_size : (s t : State) (values : List ValuesOf) → t.fold.config ≡ s.fold.config
    → length s.fold.config ≤ length values → length (relisted_values s values t.fold.members) ≡ length (seats t)
unfolding relisted_values
relisted_size s t values config fits =
    let a = length-append (take (length s.fold.config) values) (map (carried s values) t.fold.members) in
    let b = length-take-le (length s.fold.config) values fits in
    let c = length-map t.fold.members (carried s values) in
    let d = seats_size t in
    let e : length t.fold.config ≡ length s.fold.config = ap length config in
    omega arith

renewed_by_aftermath : (s : State) (t : Taken) (jobs : List JobOf) (values : List ValuesOf) (aftermath : Aftermath)
    → aftermath_of s t.zone (decision_of s t) ≡ aftermath → IsState s → IsState (step s (Transfer t)) → IsApart s
    → 0 < s.count
    → AllByRecursion (λ j. j.flight.incarnation < s.count) jobs → length values ≡ length (seats s)
    → AreWaiting s jobs values
    → AreRenewed (step s (Transfer t)) jobs (values_after s values aftermath (step s (Transfer t)).fold.members)
renewed_by_aftermath s t jobs values Member e ok later apart some old sized waits =
    let same = fold_stays s t (λ cs h. let f : Member ≡ Changes cs = sym e ∙ h in cc) in
    record {
      sized = sized ∙ sym (ap length (seats_by_fold (step s (Transfer t)) s same));
      waits = waiting_fold s (step s (Transfer t)) jobs values same waits;
    }
renewed_by_aftermath s t jobs values (Broken reason) e ok later apart some old sized waits =
    let same = fold_stays s t (λ cs h. let f : Broken reason ≡ Changes cs = sym e ∙ h in cc) in
    record {
      sized = sized ∙ sym (ap length (seats_by_fold (step s (Transfer t)) s same));
      waits = waiting_fold s (step s (Transfer t)) jobs values same waits;
    }
renewed_by_aftermath s t jobs values (Changes cs) e ok later apart some old sized waits =
    let fits : length s.fold.config ≤ length values = omega (arith, seats_size s, sized) in
    record {
      sized = relisted_size s (step s (Transfer t)) values (config_step s t) fits;
      waits = waiting_relisted s (step s (Transfer t)) jobs values ok later apart (config_step s t) old waits
          (apart_step s t apart) fits (λ zone i h. came_by s t zone i h);
    }

pub renewed_waits : (s : State) (t : Taken) (jobs : List JobOf) (values : List ValuesOf) → IsState s
    → IsState (step s (Transfer t)) → IsApart s → 0 < s.count
    → AllByRecursion (λ j. j.flight.incarnation < s.count) jobs → length values ≡ length (seats s)
    → AreWaiting s jobs values
    → AreRenewed (step s (Transfer t)) jobs
    (values_after s values (aftermath_of s t.zone (decision_of s t)) (step s (Transfer t)).fold.members)
renewed_waits s t jobs values ok later apart some old sized waits = renewed_by_aftermath s t jobs values
    (aftermath_of s t.zone (decision_of s t)) refl ok later apart some old sized waits
