-- Meaning: the core of the server (RFC 9432 section 5, RFC 1995 section 4, RFC 1996 section 3, RFC 8976 section 4). It
-- is the list of taken transfers, the jobs in flight, and what each zone waits for; events change them.
use Rattle.std.specs.Prelude.{ℕ, ◌+◌, ◌-◌, ◌^◌, ◌%◌, ◌==◌, ◌||◌, Bool, true, false, not, nat_le, nat_lt, List, [], ◌∷◌}
use Rattle.std.specs.Prelude.{◌++◌, length, filter, take, slice_index_or, replicate, position, Option, Some, None}
use Rattle.std.specs.Prelude.{if◌then◌else◌}
use Rattle.std.specs.Option.{option_map, option_map_or}
use Rattle.dz_name.specs.Words.{Name, Octets}
use Rattle.dz_io.specs.declared.peer.Peer.{Peer}
use Rattle.dz_zone.specs.Version.{Zone}
use Rattle.dz_zonemd.specs.Standing.{standing}
use Rattle.dz_zonemd.specs.Acceptance.{accepts}
use Rattle.dz_settings.specs.declared.config.CatalogSettings.{CatalogSettings}
use Rattle.dz_settings.specs.declared.config.Policy.{Policy}
use Rattle.dz_notify.specs.declared.notify.Heard.{Heard}
use Rattle.dz_notify.specs.declared.notify.Heard.TheVariants as heard
use Rattle.dz_timer.specs.Values.{ValuesOf, fresh, departed, succeeded, failed, refused, notified}
use Rattle.dz_timer.specs.Schedule.{is_first}
use Rattle.dz_take.specs.declared.ask.Ask.{Ask}
use Rattle.dz_take.specs.declared.ask.Ask.TheVariants.{Axfr, Ixfr}
use Rattle.dz_take.specs.declared.outcome.TakeFault.{TakeFault}
use Rattle.dz_take.specs.declared.outcome.TakeFault.TheVariants.{OldSerial, Tsig}
use Rattle.dz_take.specs.Outcome.{outcome, octets_used}
use Rattle.dz_take.specs.Transfer.{Decision, up_to_date, new}
use Rattle.dz_take.specs.Transfer as transfer
use Rattle.dz_history.specs.declared.aftermath.Aftermath.{Aftermath}
use Rattle.dz_history.specs.declared.aftermath.Aftermath.TheVariants.{Member}
use Rattle.dz_history.specs.declared.entry.Entry.{Entry}
use Rattle.dz_history.specs.declared.entry.Entry.TheVariants.{Setup, Transfer}
use Rattle.dz_history.specs.State.{State, held_at, key_at, policy_at, primaries_at}
use Rattle.dz_history.specs.Signed.{tsig_in}
use Rattle.dz_tsig.specs.declared.fault.TsigFault.{TsigFault}
use Rattle.dz_history.specs.After.{after, step, aftermath_of}
use Rattle.dz_history.specs.Ended.{ended}
pub use Rattle.dz_history.specs.Heard.{heard_from}
use Rattle.dz_history.specs.Places.{Seat, seats, place_at}
use Rattle.dz_job.specs.declared.flight.Flight.{Flight}
use Rattle.dz_fleet.specs.declared.due.Due.{Due}
use Rattle.dz_fleet.specs.declared.due.Due.TheVariants as due
use Rattle.dz_job.specs.declared.verdict.Verdict.{Verdict}
use Rattle.dz_job.specs.declared.verdict.Verdict.TheVariants.{Published, Confirmed, Refused, PolicyRefused, Stale}
use Rattle.dz_job.specs.declared.verdict.Verdict.TheVariants.{OutOfMemory}
use Rattle.dz_job.specs.declared.verdict.Failure.{Failure}
use Rattle.dz_job.specs.declared.verdict.Failure.TheVariants as failures
use Rattle.dz_job.specs.Job.{JobOf, transfer_for, taken_for, serial_in, refresh_in, retry_in}
use Rattle.dz_fleet.specs.Quiet.{QuietOf}
use Rattle.dz_fleet.specs.Values.{value_at, changed, values_after}

-- the list of taken transfers, how many tickets were handed out, the jobs in flight in the order of their tickets, and
-- what each zone waits for, by its place
pub record Core : Type 0 where
  pub list : List Entry
  pub tickets : ℕ
  pub flight : List JobOf
  pub values : List ValuesOf

-- what the list assigns and holds
abbrev pub state_of : Core → State
state_of c = after c.list

-- the core of a configuration: each catalog begins
abbrev pub opened_core : List CatalogSettings → Core
opened_core config =
    record { list = Setup config ∷ []; tickets = 0; flight = []; values = replicate (length config) fresh }

-- ---- a job is asked for
-- 16 jobs are in flight, or 2^64 - 2 tickets were handed out
abbrev pub is_full : Core → Bool
is_full c = nat_le 16 (length c.flight) || nat_le (2 ^ 64 - 2) c.tickets

-- the place of the first zone among those without a job in flight that wait for the earliest moment
abbrev pub first_place : Core → Option ℕ
first_place c = position (is_first c.values) c.values

-- why no job is handed out at this moment
abbrev pub quiet_of : Core → ℕ → QuietOf
quiet_of c now = record {
  count = length c.list;
  moment = now;
  in_flight = length c.flight;
  drawn = c.tickets;
  earliest = option_map (λ place. (value_at c.values place).timing.next) (first_place c);
}

-- the form that is asked for: the whole zone where none is held or where it is wanted, and else differences (RFC 1995
-- section 4)
abbrev pub ask_of : Option Zone → Bool → Ask
ask_of None whole = Axfr
ask_of (Some zone) whole = if whole then Axfr else Ixfr

-- one of the primaries of a zone
abbrev pub primary_at : Option (List Peer) → ℕ → Peer
primary_at peers number = slice_index_or (option_map_or (λ ps. ps) peers []) number record { address = []; port = 0 }

-- the zone at a place, with its incarnation
abbrev pub seat_at : State → ℕ → Seat
seat_at s place = slice_index_or (seats s) place record { zone = []; incarnation = 0 }

-- what the job of a zone asks for, with the next ticket, of which the low 16 bits are the ID
abbrev pub flight_for : Core → ℕ → Seat → ValuesOf → Flight
flight_for c now seat v = record {
  ticket = c.tickets + 1;
  zone = seat.zone;
  incarnation = seat.incarnation;
  ask = ask_of (held_at (state_of c) seat.zone) v.whole;
  id = (c.tickets + 1) % 2 ^ 16;
  primary = primary_at (primaries_at (state_of c) seat.zone) v.turn;
  moment = now;
  entries = length c.list;
}

-- the job of a zone at this moment, with the version that is held and the key of its catalog
abbrev pub job_for : Core → ℕ → Seat → ValuesOf → JobOf
job_for c now seat v = record {
  flight = flight_for c now seat v;
  held = held_at (state_of c) seat.zone;
  key = key_at (state_of c) seat.zone;
}

-- the job of the zone at a place
unfoldable pub job_at : Core → ℕ → ℕ → JobOf
job_at c now place = job_for c now (seat_at (state_of c) place) (value_at c.values place)

-- what is due, where this is the place of the first zone: its job once its moment has come
abbrev pub due_from : Core → ℕ → Option ℕ → Due
due_from c now None = due.Idle (quiet_of c now)
due_from c now (Some place) = if nat_lt now (value_at c.values place).timing.next then due.Idle (quiet_of c now)
    else due.Job (job_at c now place)

-- what is due at this moment
abbrev pub due_of : Core → ℕ → Due
due_of c now = if is_full c then due.Full (quiet_of c now) else due_from c now (first_place c)

-- a job that is handed out joins those in flight, and its zone has one
abbrev pub after_due : Core → Due → Core
after_due c (due.Job job) = record c {
  tickets = c.tickets + 1;
  flight = c.flight ++ job ∷ [];
  values = changed c.values (first_place c) departed;
}
after_due c (due.Idle quiet) = c
after_due c (due.Full quiet) = c
after_due c due.OutOfMemory = c

-- ---- a job ends
-- the entry that ended the incarnation of a job, if one did
abbrev pub ended_of : Core → JobOf → Option ℕ
ended_of c job = ended c.list job.flight.zone job.flight.incarnation

-- the jobs in flight other than this one
abbrev pub others : List JobOf → JobOf → List JobOf
others jobs job = filter (λ j. not (j.flight.ticket == job.flight.ticket)) jobs

-- the core without a job in flight
abbrev pub landed : Core → JobOf → Core
landed c job = record c { flight = others c.flight job }

-- how many primaries a zone has; 1 for one that isn't served
abbrev pub primaries_of : State → Name → ℕ
primaries_of s zone = option_map_or (λ ps. length ps) (primaries_at s zone) 1

-- what a zone waits for after its job failed at a moment
abbrev pub failed_in : State → Name → ℕ → ValuesOf → ValuesOf
failed_in s zone now v = failed v now (retry_in (held_at s zone)) (primaries_of s zone)

-- what a zone waits for after the transfer of its job was refused
abbrev pub refused_in : State → Name → ℕ → ValuesOf → ValuesOf
refused_in s zone now v = refused v now (retry_in (held_at s zone)) (primaries_of s zone)

-- the core after a job failed at a moment
abbrev pub after_failure : Core → JobOf → ℕ → Core
after_failure c job now =
    let zone = job.flight.zone in
    record (landed c job) { values = changed c.values (place_at (state_of c) zone) (failed_in (state_of c) zone now) }

-- the core after the transfer of a job was refused
abbrev pub after_refusal : Core → JobOf → ℕ → Core
after_refusal c job now =
    let zone = job.flight.zone in
    record (landed c job) { values = changed c.values (place_at (state_of c) zone) (refused_in (state_of c) zone now) }

-- an old serial alone leaves what is asked for next unchanged
abbrev pub is_old_serial : TakeFault → Bool
is_old_serial (OldSerial serial) = true
is_old_serial fault = false

-- the entry that a job with these octets makes
abbrev pub entry_for : JobOf → Octets → Entry
entry_for job octets = Transfer (taken_for job octets)

-- what zones wait for after a success: this one for its next refresh, from the moment of the job
abbrev pub succeeded_in : State → Name → ℕ → List ValuesOf → List ValuesOf
succeeded_in t zone moment values =
    changed values (place_at t zone) (λ v. succeeded v moment (refresh_in (held_at t zone)))

-- the core after a transfer was taken: its entry joins the list
unfoldable pub after_success : Core → JobOf → Octets → Aftermath → Core
after_success c job octets aftermath =
    let t = step (state_of c) (entry_for job octets) in
    record (landed c job) {
      list = c.list ++ entry_for job octets ∷ [];
      values =
          succeeded_in t job.flight.zone job.flight.moment
          (values_after (state_of c) c.values aftermath t.fold.members);
    }

-- the policy of a zone accepts what the ZONEMD records of a new version say (RFC 8976 section 4)
abbrev pub is_accepted : Option Policy → Zone → Bool
is_accepted policy zone = option_map_or (λ p. accepts p (standing zone.apex zone.records)) policy false

-- the verdict: stale where an entry ended the incarnation, and else by what came of the transfer
abbrev pub verdict_from : Core → JobOf → Decision → Option ℕ → Verdict
verdict_from c job decision (Some position) = Stale position
verdict_from c job up_to_date None = Confirmed (length c.list) (serial_in job.held)
verdict_from c job (transfer.refused fault) None = Refused fault
verdict_from c job (new zone) None =
    if is_accepted (policy_at (state_of c) job.flight.zone) zone
    then Published (length c.list) (serial_in (Some zone)) (aftermath_of (state_of c) job.flight.zone (new zone))
    else PolicyRefused (standing zone.apex zone.records)

-- the octets of a transfer that are used, which are all that is looked at
abbrev pub used_of : JobOf → Octets → Octets
used_of job octets = take (octets_used (transfer_for job) octets) octets

-- what is wrong with the signatures of these octets, where the zone's catalog has a key
unfoldable pub tsig_of : Core → JobOf → Octets → Option TsigFault
tsig_of c job octets =
    tsig_in (key_at (state_of c) job.flight.zone) (transfer_for job) (used_of job octets) job.flight.moment

-- what comes of a transfer once it is known whether it is signed; one that is refused anyway keeps its fault
abbrev pub screened : Option TsigFault → Decision → Decision
screened None decision = decision
screened (Some f) (transfer.refused fault) = transfer.refused fault
screened (Some f) up_to_date = transfer.refused (Tsig f)
screened (Some f) (new zone) = transfer.refused (Tsig f)

-- the verdict on a job that ended with these octets
unfoldable pub verdict_of : Core → JobOf → Octets → Verdict
verdict_of c job octets =
    verdict_from c job (screened (tsig_of c job octets) (outcome (transfer_for job) octets)) (ended_of c job)

-- the core after a job that failed, whose incarnation had ended or not
abbrev pub after_end : Core → JobOf → ℕ → Option ℕ → Core
after_end c job now (Some position) = landed c job
after_end c job now None = after_failure c job now

-- the core after a verdict; running out of memory counts as a failure
abbrev pub after_verdict : Core → JobOf → Octets → ℕ → Verdict → Core
after_verdict c job octets now (Published position serial aftermath) = after_success c job octets aftermath
after_verdict c job octets now (Confirmed position serial) = after_success c job octets Member
after_verdict c job octets now (Refused fault) =
    if is_old_serial fault then after_failure c job now else after_refusal c job now
after_verdict c job octets now (PolicyRefused standing) = after_refusal c job now
after_verdict c job octets now (Stale position) = landed c job
after_verdict c job octets now OutOfMemory = after_end c job now (ended_of c job)

-- a job ends with these octets at a moment
abbrev pub settled : Core → JobOf → Octets → ℕ → Core
settled c job octets now = after_verdict c job (used_of job octets) now (verdict_of c job octets)

-- how a job fails: stale where an entry ended its incarnation
abbrev pub failure_of : Option ℕ → Failure
failure_of (Some position) = failures.Stale position
failure_of None = failures.Failed

-- the core after a job that failed; where memory runs out a job ends in the same way
abbrev pub failed_core : Core → JobOf → ℕ → Core
failed_core c job now = after_end c job now (ended_of c job)

-- ---- a NOTIFY comes (RFC 1996 section 3.11)
-- how a NOTIFY from a peer is heard
abbrev pub heard_of : Core → Peer → Name → Heard
heard_of c peer zone = heard_from peer (primaries_at (state_of c) zone)

-- one that is taken changes the zone; any other changes nothing
abbrev pub after_notify : Core → Name → Heard → Core
after_notify c zone heard.Taken = record c { values = changed c.values (place_at (state_of c) zone) notified }
after_notify c zone heard.Stranger = c
after_notify c zone heard.NotOurs = c
