-- A core stays sound, whatever happens.
use Rattle.std.proofs.Common.{◌≡◌, ◌≢◌, ℕ, ◌+◌, ◌-◌, ◌^◌, ◌<◌, true, false, List, [], ◌∷◌, ◌++◌, length, refl, sym}
use Rattle.std.proofs.Common.{◌∙◌, arith, inl, inr, Some, None}
use Rattle.std.specs.Prelude.{Option, ◌==◌, slice_get, slice_set, if◌then◌else◌}
use Rattle.std.specs.Option.{option_or, option_map_or}
use Rattle.std.proofs.lemmas.Option.{slice_get_within}
use Rattle.std.proofs.lemmas.Bool.{cases_Bool, eqb-true}
use Rattle.std.proofs.lemmas.List.{length-set, length-append}
use Rattle.dz_timer.specs.Values.{ValuesOf}
use Rattle.dz_history.specs.declared.entry.Entry.{Entry}
use Rattle.dz_history.specs.State.{State, IsState, stands, incarnation_at}
use Rattle.dz_history.specs.After.{after, step}
use Rattle.dz_history.specs.Ended.{ended, ends}
use Rattle.dz_history.specs.Legal.{CanFollow}
use Rattle.dz_history.specs.Places.{Seat, seats, place_at, IsApart}
use Rattle.dz_history.proofs.ListLemmas.{after_more, legal_more, count_is}
use Rattle.dz_history.proofs.EndedLemmas.{ended_more}
use Rattle.dz_history.proofs.LifeLemmas.{whole}
use Rattle.dz_history.proofs.StandsLemmas.{came_by}
use Rattle.dz_history.proofs.KeptLemmas.{held_keeps}
use Rattle.dz_job.specs.Job.{JobOf, taken_for}
use Rattle.dz_fleet.specs.Values.{value_at}
use Rattle.dz_fleet.specs.Core.{Core, state_of, ended_of, landed, others, primaries_of, entry_for}
use Rattle.dz_fleet.specs.Sound.{is_of, seat_of, IsAmong, IsSent, IsSound}
use Rattle.dz_fleet.proofs.FlightLemmas.{all_filter, all_weaker, all_both, all_push, among_all, apart_others, fewer}
use Rattle.dz_fleet.proofs.FlightLemmas.{none_others, any_none, any_itself, apart_push, of_same}
use Rattle.dz_fleet.proofs.GivenLemmas.{given_more}
use Rattle.dz_fleet.proofs.WaitLemmas.{AreWaiting, waiting_end, waiting_landed, waiting_due, waiting_changed}

-- ---- what a sound core says of a job in flight
pub among_stands : (c : Core) (job : JobOf) → IsSound c → IsAmong job.flight c.flight → ended_of c job ≡ None
    → stands (state_of c) job.flight.zone job.flight.incarnation ≡ true
among_stands c job ok among none =
    among_all (λ f. ended c.list f.zone f.incarnation ≡ None → stands (after c.list) f.zone f.incarnation ≡ true)
    job.flight c.flight among
    (all_weaker (IsSent c.list c.tickets) (λ (j : JobOf). ended c.list j.flight.zone j.flight.incarnation ≡ None
    → stands (after c.list) j.flight.zone j.flight.incarnation ≡ true) c.flight
    (λ j sent. sent.standing) ok.sent) none

pub among_gone : (c : Core) (job : JobOf) (n : ℕ) → IsSound c → ended_of c job ≡ Some n
    → (stands (state_of c) job.flight.zone job.flight.incarnation ≡ true → ⊥)
among_gone c job n ok e h =
    let none = whole c.list ok.legal job.flight.zone job.flight.incarnation h in
    let both : Some n ≡ None = sym e ∙ none in absurd (cc)

pub value_within : (c : Core) (place : ℕ) (seat : Seat) → IsSound c → slice_get (seats (state_of c)) place ≡ Some seat
    → place < length c.values
value_within c place seat ok there = rw ok.sized (slice_get_within (seats (state_of c)) place seat there)

-- the job's zone is marked
pub among_busy : (c : Core) (job : JobOf) (place : ℕ) → IsSound c → IsAmong job.flight c.flight
    → slice_get (seats (state_of c)) place ≡ Some (seat_of job) → (value_at c.values place).timing.busy ≡ true
among_busy c job place ok among there = (ok.waiting place (seat_of job) there).busy ∙ any_itself job c.flight among

-- ---- a job ends by which nothing is taken
pub sound_landed : (c : Core) (job : JobOf) (n : ℕ) → IsState (state_of c) → IsApart (state_of c) → IsSound c
    → IsAmong job.flight c.flight → ended_of c job ≡ Some n → IsSound (landed c job)
sound_landed c job n state apart ok among e = record {
  legal = ok.legal;
  begun = ok.begun;
  sized = ok.sized;
  waiting =
      waiting_landed (state_of c) job c.flight c.values state apart ok.apart among
      (among_gone c job n ok e) ok.waiting;
  sent = all_filter (IsSent c.list c.tickets) _ c.flight ok.sent;
  apart = apart_others job c.flight ok.apart;
  few = omega (arith, fewer job c.flight ok.apart among, ok.few);
  drawn = omega (arith, fewer job c.flight ok.apart among, ok.drawn);
  most = ok.most;
}

pub sound_end : (c : Core) (job : JobOf) (place : ℕ) (v : ValuesOf) → IsState (state_of c) → IsApart (state_of c)
    → IsSound c → IsAmong job.flight c.flight
    → place_at (state_of c) job.flight.zone ≡ Some place → slice_get (seats (state_of c)) place ≡ Some (seat_of job)
    → v.timing.busy ≡ false → v.turn < primaries_of (state_of c) job.flight.zone
    → IsSound (record (landed c job) { values = slice_set c.values place v })
sound_end c job place v state apart ok among at there idle turn = record {
  legal = ok.legal;
  begun = ok.begun;
  sized = length-set c.values place v ∙ ok.sized;
  waiting = waiting_end (state_of c) job c.flight c.values v place state apart ok.apart among
      at there (value_within c place (seat_of job) ok there) idle turn ok.waiting;
  sent = all_filter (IsSent c.list c.tickets) _ c.flight ok.sent;
  apart = apart_others job c.flight ok.apart;
  few = omega (arith, fewer job c.flight ok.apart among, ok.few);
  drawn = omega (arith, fewer job c.flight ok.apart among, ok.drawn);
  most = ok.most;
}

-- ---- a NOTIFY is taken
pub sound_changed : (c : Core) (place : ℕ) (v : ValuesOf) → IsSound c → place < length c.values
    → v.timing.busy ≡ (value_at c.values place).timing.busy → v.turn ≡ (value_at c.values place).turn
    → IsSound (record c { values = slice_set c.values place v })
sound_changed c place v ok lt busy turn = record {
  legal = ok.legal;
  begun = ok.begun;
  sized = length-set c.values place v ∙ ok.sized;
  waiting = waiting_changed (state_of c) c.flight c.values v place lt busy turn ok.waiting;
  sent = ok.sent;
  apart = ok.apart;
  few = ok.few;
  drawn = ok.drawn;
  most = ok.most;
}

-- ---- a job departs
sent_later : (list : List Entry) (tickets : ℕ) (job : JobOf) → IsSent list tickets job → IsSent list (tickets + 1) job
sent_later list tickets job sent = record {
  valid = sent.valid;
  ticket = omega (arith, sent.ticket);
  given = sent.given;
  old = sent.old;
  standing = sent.standing;
  held = sent.held;
}

pub sound_due : (c : Core) (job : JobOf) (place : ℕ) (v : ValuesOf) → IsState (state_of c)
    → IsApart (state_of c) → IsSound c
    → place_at (state_of c) job.flight.zone ≡ Some place → slice_get (seats (state_of c)) place ≡ Some (seat_of job)
    → (value_at c.values place).timing.busy ≡ false
    → v.timing.busy ≡ true → v.turn ≡ (value_at c.values place).turn → job.flight.ticket ≡ c.tickets + 1
    → IsSent c.list (c.tickets + 1) job → length c.flight < 16 → c.tickets < 2 ^ 64 - 2
    → IsSound
    (record c { tickets = c.tickets + 1; flight = c.flight ++ job ∷ []; values = slice_set c.values place v })
sound_due c job place v state apart ok at there idle busy turn ticket sent few most = record {
  legal = ok.legal;
  begun = ok.begun;
  sized = length-set c.values place v ∙ ok.sized;
  waiting = waiting_due (state_of c) job c.flight c.values v place state apart
      at there (value_within c place (seat_of job) ok there) busy turn ok.waiting;
  sent = all_push (IsSent c.list (c.tickets + 1)) c.flight job (all_weaker (IsSent c.list c.tickets)
      (IsSent c.list (c.tickets + 1)) c.flight (sent_later c.list c.tickets) ok.sent) sent;
  apart = apart_push job c.flight ok.apart
      (all_weaker (IsSent c.list c.tickets) (λ (j : JobOf). j.flight.ticket < job.flight.ticket) c.flight
      (λ j s. omega (arith, s.ticket, ticket)) ok.sent)
      (sym (ok.waiting place (seat_of job) there).busy ∙ idle);
  few = omega (arith, length-append c.flight (job ∷ []), few);
  drawn = omega (arith, length-append c.flight (job ∷ []), ok.drawn);
  most = omega (arith, most);
}

-- ---- a transfer is taken
or_none : {X : Type 0} (a b : Option X) → option_or a b ≡ None → (a ≡ None) × (b ≡ None)
or_none None b h = (refl, h)
or_none (Some x) b h = absurd (cc)

-- what was current and did not end is current
stays_on : (s : State) (e : Entry) (zone : List (List ℕ)) (i n : ℕ) → stands s zone i ≡ true
    → (if ends s e zone i then Some n else None) ≡ None → stands (step s e) zone i ≡ true
stays_on s e zone i n before none = elim (cases_Bool (stands (step s e) zone i)) [
  | inl t ↦ t
  | inr f ↦ absurd (let g : Some n ≡ None = rw (before, f) at none in cc)
]

-- two jobs of one zone whose incarnations are current are of one incarnation
one_stands : (o : Option ℕ) (a b : ℕ) → option_map_or (λ i. i == a) o false ≡ true
    → option_map_or (λ i. i == b) o false ≡ true → a ≡ b
one_stands None a b h g = absurd (cc)
one_stands (Some i) a b h g = sym (eqb-true i a h) ∙ eqb-true i b g

other_zone : (s : State) (job other : JobOf) → stands s job.flight.zone job.flight.incarnation ≡ true
    → stands s other.flight.zone other.flight.incarnation ≡ true → is_of (seat_of job) other ≡ false
    → other.flight.zone ≡ job.flight.zone → ⊥
other_zone s job other mine stood ne same =
    let there : stands s job.flight.zone other.flight.incarnation ≡ true = rw same at stood in
    let i : other.flight.incarnation ≡ job.flight.incarnation =
    one_stands (incarnation_at s job.flight.zone) other.flight.incarnation job.flight.incarnation there mine in
    let t : is_of (seat_of job) other ≡ true = of_same (seat_of job) other same i in absurd (cc)

-- the others are as they were, one entry later
sent_more : (c : Core) (job other : JobOf) (octets : List ℕ) → IsState (state_of c) → IsApart (state_of c) → IsSound c
    → CanFollow (state_of c) (entry_for job octets)
    → stands (state_of c) job.flight.zone job.flight.incarnation ≡ true → is_of (seat_of job) other ≡ false
    → IsSent c.list c.tickets other → IsSent (c.list ++ entry_for job octets ∷ []) c.tickets other
sent_more c job other octets state apart ok follows mine ne sent =
    let e = entry_for job octets in
    let s = after c.list in
    let zone = other.flight.zone in
    let i = other.flight.incarnation in
    let now : after (c.list ++ e ∷ []) ≡ step s e = after_more c.list e in
    let count : s.count ≡ length c.list = count_is c.list ok.legal in
    let before : stands (step s e) zone i ≡ true → stands s zone i ≡ true =
    λ h. elim (came_by s (taken_for job octets) zone i h) [
      | inl st ↦ st
      | inr new ↦ absurd (omega (arith, new, count, sent.old))
    ] in
    record {
      valid = sent.valid;
      ticket = sent.ticket;
      given = given_more c.list e other sent.given;
      old = omega (arith, length-append c.list (e ∷ []), sent.old);
      standing = λ none.
          let parts = or_none (ended c.list zone i) _ (sym (ended_more c.list e zone i) ∙ none) in
          rw now (stays_on s e zone i s.count (sent.standing parts.0) parts.1);
      held = λ h.
          let after_it : stands (step s e) zone i ≡ true = rw now at h in
          let stood = before after_it in
          let apart_zone : zone ≢ job.flight.zone = λ same. other_zone s job other mine stood ne same in
          rw now (sent.held stood ∙ sym (held_keeps s (taken_for job octets) zone i state stood after_it apart_zone));
    }

pub sound_taken : (c : Core) (job : JobOf) (octets : List ℕ) (values : List ValuesOf) (place : ℕ) (v : ValuesOf)
    → IsState (state_of c) → IsApart (state_of c) → IsSound c → IsAmong job.flight c.flight → ended_of c job ≡ None
    → CanFollow (state_of c) (entry_for job octets) → IsState (step (state_of c) (entry_for job octets))
    → IsApart (step (state_of c) (entry_for job octets))
    → length values ≡ length (seats (step (state_of c) (entry_for job octets)))
    → AreWaiting (step (state_of c) (entry_for job octets)) c.flight values
    → place_at (step (state_of c) (entry_for job octets)) job.flight.zone ≡ Some place
    → slice_get (seats (step (state_of c) (entry_for job octets))) place ≡ Some (seat_of job)
    → v.timing.busy ≡ false → v.turn < primaries_of (step (state_of c) (entry_for job octets)) job.flight.zone
    → IsSound (record (landed c job) { list = c.list ++ entry_for job octets ∷ []; values = slice_set values place v })
sound_taken c job octets values place v state apart ok among none follows state' apart' sized waits
    at there idle turn =
    let e = entry_for job octets in
    let now : after (c.list ++ e ∷ []) ≡ step (after c.list) e = after_more c.list e in
    let mine = among_stands c job ok among none in
    let lone = any_none (is_of (seat_of job)) (others c.flight job) (none_others job c.flight ok.apart among) in
    record {
      legal = legal_more c.list e ok.legal follows;
      begun = omega (arith, length-append c.list (e ∷ []));
      sized = rw now (length-set values place v ∙ sized);
      waiting =
          rw now (waiting_end (step (state_of c) e) job c.flight values v place state' apart' ok.apart among at there
          (rw sized (slice_get_within (seats (step (state_of c) e)) place (seat_of job) there)) idle turn waits);
      sent = all_both (λ (o : JobOf). is_of (seat_of job) o ≡ false) (IsSent c.list c.tickets)
          (IsSent (c.list ++ e ∷ []) c.tickets) (others c.flight job)
          (λ o ne sent. sent_more c job o octets state apart ok follows mine ne sent) lone
          (all_filter (IsSent c.list c.tickets) _ c.flight ok.sent);
      apart = apart_others job c.flight ok.apart;
      few = omega (arith, fewer job c.flight ok.apart among, ok.few);
      drawn = omega (arith, fewer job c.flight ok.apart among, ok.drawn, length-append c.list (e ∷ []));
      most = ok.most;
    }
