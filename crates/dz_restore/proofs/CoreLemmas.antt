-- The core while zones have their turns.
use Rattle.std.proofs.Common.{◌≡◌, ℕ, zero, suc, ◌+◌, ◌-◌, ◌^◌, ◌<◌, ◌≤◌, Bool, true, false, cond, not, List, [], ◌∷◌}
use Rattle.std.proofs.Common.{◌++◌, length, get_or, set, Option, Some, None, refl, sym, ap, subst, ◌∙◌, arith}
use Rattle.std.proofs.Common.{length-append}
use Rattle.std.specs.List.{AllByRecursion}
use Rattle.std.specs.Prelude.{◌&&◌, ◌||◌, ◌==◌, nat_le, nat_lt, position}
use Rattle.std.proofs.lemmas.Bool.{lt-leb, le-ltb, eq-eqb}
use Rattle.std.proofs.lemmas.List.{get_or_at}
use Rattle.dz_timer.specs.Values.{ValuesOf, fresh, departed, failed, succeeded}
use Rattle.dz_timer.specs.Schedule.{is_first}
use Rattle.dz_history.specs.Places.{place_at}
use Rattle.dz_job.specs.Job.{JobOf, retry_in, refresh_in}
use Rattle.dz_history.specs.State.{State, held_at}
use Rattle.dz_fleet.specs.Values.{value_at, changed, values_after}
use Rattle.dz_fleet.specs.Core.{Core, state_of, is_full, due_of, due_from, first_place, quiet_of, job_at, after_due}
use Rattle.dz_fleet.specs.Core.{ended_of, failed_core, after_end, after_failure, after_refusal, failed_in, refused_in}
use Rattle.dz_fleet.specs.Core.{primaries_of, others, entry_for, after_success, succeeded_in}
use Rattle.dz_fleet.specs.declared.due.Due.{Due}
use Rattle.dz_fleet.specs.declared.due.Due.TheVariants as due
use Rattle.dz_restore.specs.Turns.{Waits, IsTurn, IsBusyTurn, IsRestoring, MayList}
use Rattle.dz_name.specs.Words.{Octets}
use Rattle.dz_member.specs.Membership.{MemberOf}
use Rattle.dz_history.specs.After.{step}
use Rattle.dz_history.specs.declared.aftermath.Aftermath.{Aftermath}
use Rattle.dz_history.specs.declared.aftermath.Aftermath.TheVariants.{Member, Broken, Changes}
use Rattle.dz_restore.proofs.TurnLemmas.{first_in_turn, departs, lands, each_waits, listing_keeps}

not_full : (c : Core) (count : ℕ) → IsRestoring c count → is_full c ≡ false
not_full c count going = ap (λ jobs. nat_le 16 (length jobs) || nat_le (2 ^ 64 - 2) c.tickets) going.idle
    ∙ lt-leb (2 ^ 64 - 2) c.tickets going.tickets

-- it begins
pub fresh_there : (values : List ValuesOf) (count : ℕ) → IsTurn values count → count < length values
    → value_at values count ≡ fresh
fresh_there values count turn lt = go turn.rest turn.are turn.begin
  where
    go : (rest : List ValuesOf) → values ≡ turn.done ++ rest → AllByRecursion (λ v. v ≡ fresh) rest
        → value_at values count ≡ fresh
    go [] are begin = absurd (omega (arith, lt, ap length are, length-append turn.done [], turn.many))
    go (v ∷ vs) are begin =
        ap (λ l. get_or l count fresh) are ∙ get_or_at turn.done v vs fresh count turn.many ∙ begin.0

busy_there : (values : List ValuesOf) (count : ℕ) → IsBusyTurn values count → value_at values count ≡ departed fresh
busy_there values count turn =
    ap (λ l. get_or l count fresh) turn.are ∙ get_or_at turn.done (departed fresh) turn.rest fresh count turn.many

pub due_in_turn : (c : Core) (count now : ℕ) → IsRestoring c count → count < length c.values
    → due_of c now ≡ due.Job (job_at c now count)
due_in_turn c count now going lt =
    ap (λ b. cond b (due.Full (quiet_of c now)) (due_from c now (first_place c))) (not_full c count going)
    ∙ ap (λ o. due_from c now o) (first_in_turn c.values count going.turn lt)
    ∙ ap (λ (v : ValuesOf). cond (nat_lt now v.timing.next) (due.Idle (quiet_of c now)) (due.Job (job_at c now count)))
    (fresh_there c.values count going.turn lt)
    ∙ ap (λ b. cond b (due.Idle (quiet_of c now)) (due.Job (job_at c now count))) (le-ltb now 0 (omega arith))

departed_values : (c : Core) (count : ℕ) → IsRestoring c count → count < length c.values
    → IsBusyTurn (changed c.values (first_place c) departed) count
departed_values c count going lt =
    subst (λ l. IsBusyTurn l count)
    (sym (ap (λ o. changed c.values o departed) (first_in_turn c.values count going.turn lt)
    ∙ ap (λ v. set c.values count (departed v)) (fresh_there c.values count going.turn lt)))
    (departs c.values count going.turn lt)

landed_flight : (c : Core) (count : ℕ) (job : JobOf) → IsRestoring c count → others (c.flight ++ job ∷ []) job ≡ []
landed_flight c count job going =
    ap (λ jobs. others (jobs ++ job ∷ []) job) going.idle
    ∙ ap (λ b. cond (not b) (job ∷ []) []) (eq-eqb job.flight.ticket job.flight.ticket refl)

pub fails_in_turn : (c : Core) (count moment now : ℕ) → IsRestoring c count → count < length c.values
    → place_at (state_of c) (job_at c moment count).flight.zone ≡ Some count
    → ended_of c (job_at c moment count) ≡ None
    → c.tickets + 1 < 2 ^ 64 - 2
    → IsRestoring (failed_core (after_due c (due.Job (job_at c moment count))) (job_at c moment count) now) (count + 1)
fails_in_turn c count moment now going lt there stands tickets =
    let job = job_at c moment count in
    let next = after_due c (due.Job job) in
    let busy = departed_values c count going lt in
    let waits : Waits (failed_in (state_of c) job.flight.zone now (departed fresh)) = (each_waits now 0
    (primaries_of (state_of c) job.flight.zone) (retry_in (held_at (state_of c) job.flight.zone))).0 in
    let values : changed next.values (place_at (state_of c) job.flight.zone) (failed_in (state_of c) job.flight.zone
    now) ≡ set next.values count (failed_in (state_of c) job.flight.zone now (departed fresh)) =
    ap (λ o. changed next.values o (failed_in (state_of c) job.flight.zone now)) there
    ∙ ap (λ v. set next.values count (failed_in (state_of c) job.flight.zone now v))
    (busy_there next.values count busy) in
    subst (λ o. IsRestoring (after_end next job now o) (count + 1)) (sym stands)
    (record {
      turn = subst (λ l. IsTurn l (count + 1)) (sym values)
          (lands next.values count (failed_in (state_of c) job.flight.zone now (departed fresh)) busy waits);
      idle = landed_flight c count job going;
      tickets = tickets;
    })

pub refused_in_turn : (c : Core) (count moment now : ℕ) → IsRestoring c count → count < length c.values
    → place_at (state_of c) (job_at c moment count).flight.zone ≡ Some count
    → c.tickets + 1 < 2 ^ 64 - 2 → IsRestoring
    (after_refusal (after_due c (due.Job (job_at c moment count))) (job_at c moment count) now) (count + 1)
refused_in_turn c count moment now going lt there tickets =
    let job = job_at c moment count in
    let next = after_due c (due.Job job) in
    let busy = departed_values c count going lt in
    let waits : Waits (refused_in (state_of c) job.flight.zone now (departed fresh)) = (each_waits now 0
    (primaries_of (state_of c) job.flight.zone) (retry_in (held_at (state_of c) job.flight.zone))).1 in
    let values : changed next.values (place_at (state_of c) job.flight.zone) (refused_in (state_of c) job.flight.zone
    now) ≡ set next.values count (refused_in (state_of c) job.flight.zone now (departed fresh)) =
    ap (λ o. changed next.values o (refused_in (state_of c) job.flight.zone now)) there
    ∙ ap (λ v. set next.values count (refused_in (state_of c) job.flight.zone now v))
    (busy_there next.values count busy) in
    record {
      turn = subst (λ l. IsTurn l (count + 1)) (sym values)
          (lands next.values count (refused_in (state_of c) job.flight.zone now (departed fresh)) busy waits);
      idle = landed_flight c count job going;
      tickets = tickets;
    }

kept_turn : (s : State) (values : List ValuesOf) (members : List MemberOf) (count : ℕ) (aftermath : Aftermath)
    → IsBusyTurn values count → MayList s values members count aftermath
    → IsBusyTurn (values_after s values aftermath members) count
kept_turn s values members count (Changes changes) turn may =
    listing_keeps s values members count turn may.0 may.1 may.2
kept_turn s values members count Member turn may = turn
kept_turn s values members count (Broken reason) turn may = turn

pub succeeds_in_turn : (c : Core) (count moment : ℕ) (octets : Octets) (aftermath : Aftermath) → IsRestoring c count
    → count < length c.values
    → let job = job_at c moment count in
    let next = after_due c (due.Job job) in
    let t = step (state_of c) (entry_for job octets) in
    place_at t job.flight.zone ≡ Some count → MayList (state_of c) next.values t.fold.members count aftermath
    → c.tickets + 1 < 2 ^ 64 - 2 → IsRestoring (after_success next job octets aftermath) (count + 1)
unfolding after_success
succeeds_in_turn c count moment octets aftermath going lt there may tickets =
    let job = job_at c moment count in
    let next = after_due c (due.Job job) in
    let t = step (state_of c) (entry_for job octets) in
    let busy =
    kept_turn (state_of c) next.values t.fold.members count aftermath (departed_values c count going lt) may in
    let before = values_after (state_of c) next.values aftermath t.fold.members in
    let refresh = refresh_in (held_at t job.flight.zone) in
    let waits : Waits (succeeded (departed fresh) job.flight.moment refresh) =
    (each_waits job.flight.moment refresh 0 None).2 in
    let values : succeeded_in t job.flight.zone job.flight.moment before
    ≡ set before count (succeeded (departed fresh) job.flight.moment refresh) =
    ap (λ o. changed before o (λ v. succeeded v job.flight.moment refresh)) there
    ∙ ap (λ v. set before count (succeeded v job.flight.moment refresh)) (busy_there before count busy) in
    record {
      turn = subst (λ l. IsTurn l (count + 1)) (sym values)
          (lands before count (succeeded (departed fresh) job.flight.moment refresh) busy waits);
      idle = landed_flight c count job going;
      tickets = tickets;
    }
