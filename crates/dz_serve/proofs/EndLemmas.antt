-- What sessions and transfers from nothing come to, by the list that a run leaves.
use Rattle.std.proofs.Common.{◌≡◌, ◌⊎◌, inl, inr, ℕ, zero, suc, ◌+◌, ◌<◌, ◌≤◌, Bool, true, false, List, [], ◌∷◌}
use Rattle.std.proofs.Common.{length, Option, refl, sym, ◌∙◌, arith}
use mathlib.Core.List.{IsPrefix}
use Rattle.dz_io.specs.Counts.{HasRisen, HasRisenBy}
use Rattle.dz_io.specs.Device.{Tells}
use Rattle.dz_io.specs.Ports.{Exchange, Accepts, Dials, exchange, IsFreshExchange, IsFreshAccepts, IsFreshDials}
use Rattle.dz_name.specs.Words.{Octets}
use Rattle.dz_history.specs.declared.entry.Entry.{Entry}
use Rattle.dz_desk.specs.Seen.{Book, Viewed}
use Rattle.dz_desk.proofs.PrefixLemmas.{prefix_length}
use Rattle.dz_query.specs.Due.{due}
use Rattle.dz_query.specs.Served.{Served, requests, sent_of, packets_to, replies, losses, excused, AreInTurn}
use Rattle.dz_query.specs.Session.{Told, AreAnswered, HasAnswered, HasFailed, IsSession, HasClosed}
use Rattle.dz_query.specs.declared.datagrams.SessionEnd.{SessionEnd}
use Rattle.dz_query.specs.declared.datagrams.SessionEnd.TheVariants.{Closed, Failed}
use Rattle.dz_query.proofs.GainLemmas.{tells_gained}
use Rattle.dz_query.proofs.TurnLemmas.{turn_later, turn_sooner, sent_later}
use Rattle.dz_query.specs.Links.{links_of, all_served, starved_at, unheard_at, AreVisits, AcceptsUntil}
use Rattle.dz_query.specs.Links.{links_told}
use Rattle.dz_query.specs.declared.links.LinksEnd.{LinksEnd}
use Rattle.dz_query.specs.declared.links.LinksEnd.TheVariants as links_ends
use Rattle.dz_query.proofs.LinkLemmas.{visits_later}
use Rattle.std.specs.List.{All}
use Rattle.dz_provision.specs.Endings.{EndsAmong}
use Rattle.dz_transfer.specs.Serving.{IsTransfers}
use Rattle.dz_transfer.specs.Serving as work
use Rattle.dz_transfer.proofs.StepLemmas.{served_later, served_sooner}
use Rattle.dz_transfer.specs.declared.serve.Transfers.{Transfers}
use Rattle.dz_serve.specs.Workers.{HasSeenMore, HasListened, HasLinked, HasTransferred, IsSeated, AreSeated, AreBack}
use Rattle.dz_serve.specs.Ends.{is_whole, unheard_in, has_closed, IsClear}
use Rattle.dz_serve.specs.Runs.{IsExchanged, IsAccepted, IsDialled, IsRun}
use Rattle.dz_serve.specs.Rows.{Rows, both_back}
use Rattle.dz_serve.specs.declared.status.ServeEnd.{ServeEnd}
use Rattle.dz_serve.specs.declared.status.ServeEnd.TheVariants as ends

more_risen : (n now : ℕ) → HasRisenBy (n + 1) 0 now → HasRisen 0 now
more_risen n now (inl h) = inl (omega (arith, h))
more_risen n now (inr h) = inr h

less_risen : (n now : ℕ) → HasRisenBy (n + 1) 0 now → HasRisenBy n 0 now
less_risen n now (inl h) = inl (omega (arith, h))
less_risen n now (inr h) = inr h

module _ (excuse : Type 0) (may_give : ℕ → Bool) (from : ℕ) (list later : List Entry) (old now : Told) (low : 1 ≤ from)
    (p : IsPrefix list later)
    (r : Tells [] old.received) (s : Tells [] old.sent) (f : old.faults ≡ 0) where
  turns_of : (served : List Served) → AreAnswered excuse may_give from list old now served
      → AreInTurn excuse may_give false 1 later served
  turns_of served a = turn_sooner excuse may_give false 1 from later served low
      (turn_later excuse may_give false from list later served p a.turns)

  received_of : (served : List Served) → AreAnswered excuse may_give from list old now served
      → Tells (requests served) now.received
  received_of served a = tells_gained (requests served) old.received now.received r a.received

  sent_of_all : (served : List Served) → AreAnswered excuse may_give from list old now served
      → Tells (replies later served) now.sent
  sent_of_all served a =
      rw (sent_later excuse may_give false (λ list s. packets_to s.request
      (sent_of s.fate (due list false s.request s.moment))) from list later served p a.turns)
      (tells_gained (replies list served) old.sent now.sent s a.sent)

  -- a session that closed, and one that failed
  closed_so : (lost mark : Bool) → mark ≡ true → HasAnswered lost excuse may_give from list old now
      → (served : List Served) × AreInTurn excuse may_give false 1 later served × Tells (requests served) now.received
      × Tells (replies later served) now.sent
      × HasRisenBy (losses served) 0 now.faults × (lost ≡ false → losses served ≡ 0)
      × (lost ≡ true → HasRisen 0 now.faults)
  closed_so lost mark closed t = (
    t.served,
    turns_of t.served t.answers,
    received_of t.served t.answers,
    sent_of_all t.served t.answers,
    rw f at t.covered,
    t.whole,
    λ e. rw f at (t.risen e),
  )

  failed_so : HasFailed excuse may_give from list old now
      → (served : List Served) × AreInTurn excuse may_give false 1 later served × Tells (requests served) now.received
      × Tells (replies later served) now.sent
      × HasRisenBy (losses served + 1) 0 now.faults
  failed_so t = (
    t.served,
    turns_of t.served t.answers,
    received_of t.served t.answers,
    sent_of_all t.served t.answers,
    rw f at t.covered,
  )

pub exchanged : (may_fail : Type 0) (may_give : ℕ → Bool) (from : ℕ) (list later : List Entry) (old now : Told)
    → 1 ≤ from → IsPrefix list later → Tells [] old.received → Tells [] old.sent → old.faults ≡ 0
    → (e : SessionEnd) (mark : Bool) → HasClosed e mark → IsSession e may_fail may_give from list old now
    → IsExchanged (is_whole e) (unheard_in e) may_fail may_give later (exchange now.received now.sent mark now.faults)
exchanged may_fail may_give from list later old now low p r s f (Closed true unheard) mark closed t =
    let d = closed_so (excused unheard may_fail) may_give from list later old now low p r s f true mark closed t in
    record {
      served = d.0;
      turns = d.1;
      received = d.2;
      sent = d.3;
      covered = d.4;
      whole = λ e. absurd (cc e);
      faulty = λ e. d.6 refl;
    }
exchanged may_fail may_give from list later old now low p r s f (Closed false unheard) mark closed t =
    let d = closed_so (excused unheard may_fail) may_give from list later old now low p r s f false mark closed t in
    record {
      served = d.0;
      turns = d.1;
      received = d.2;
      sent = d.3;
      covered = d.4;
      whole = λ e. (d.5 refl, closed);
      faulty = λ e. absurd (cc e);
    }
exchanged may_fail may_give from list later old now low p r s f Failed mark closed t =
    let d = failed_so may_fail may_give from list later old now low p r s f t in
    record {
      served = d.0;
      turns = d.1;
      received = d.2;
      sent = d.3;
      covered = less_risen (losses d.0) now.faults d.4;
      whole = λ e. absurd (cc e);
      faulty = λ e. more_risen (losses d.0) now.faults d.4;
    }

pub dialled_over : (done : Transfers) (lines : ℕ) (may_give : ℕ → Bool) (from : ℕ) (list later : List Entry)
    (old now : Dials) → 1 ≤ from → IsPrefix list later → Tells [] old.links → old.faults ≡ 0
    → All (EndsAmong may_give) done.endings
    → IsTransfers done lines from list old.links now.links old.faults now.faults
    → IsDialled done lines may_give later now
dialled_over done lines may_give from list later old now low p none f moments t = record {
  dials = t.dials;
  links = tells_gained (work.links_in t.dials) old.links now.links none t.gains;
  served = served_sooner 1 from later t.dials low (served_later from list later t.dials p t.served);
  endings = t.endings;
  moments = moments;
  absent = t.absent;
  starved = t.starved;
  noted = t.noted;
  faults = rw f at t.counted;
  shown = rw f at t.shown;
  last = t.last;
  stopped = t.stopped;
}

pub accepted : (e : LinksEnd) (downstream : List Octets) (may_fail : Type 0) (may_give : ℕ → Bool) (from : ℕ)
    (list later : List Entry) (old now : Accepts) (s0 s1 : ℕ) (given told : Option (List ℕ)) → 1 ≤ from
    → IsPrefix list later
    → Tells [] old.links → old.faults ≡ 0 → AcceptsUntil e now.is_closed old.faults now.faults
    → AreVisits (starved_at e) downstream (excused (unheard_at e) may_fail) may_give from list
    (links_told old.links s0 given) (links_told now.links s1 told)
    → IsAccepted (has_closed e) (starved_at e) (unheard_at e) downstream may_fail may_give later now
accepted e downstream may_fail may_give from list later old now s0 s1 given told low p none f until v =
    let excuse = excused (unheard_at e) may_fail in
    let w = visits_later (starved_at e) downstream excuse may_give from list later (links_told old.links s0 given)
    (links_told now.links s1 told) p v in
    record {
      visits = w.visits;
      links = tells_gained (links_of w.visits) old.links now.links none w.links;
      each = w.each;
      turns = turn_sooner excuse may_give true 1 from later (all_served w.visits) low w.turns;
      closed = closed_by e until;
      faulty = faulty_by e until;
      starving = w.starving;
    }
  where
    closed_by : (e : LinksEnd) → AcceptsUntil e now.is_closed old.faults now.faults → has_closed e ≡ true
        → now.is_closed ≡ true
    closed_by (links_ends.Closed starved unheard) mark is = mark
    closed_by (links_ends.Failed starved unheard) risen is = absurd (cc is)

    faulty_by : (e : LinksEnd) → AcceptsUntil e now.is_closed old.faults now.faults → has_closed e ≡ false
        → HasRisen 0 now.faults
    faulty_by (links_ends.Closed starved unheard) mark is = absurd (cc is)
    faulty_by (links_ends.Failed starved unheard) risen is = rw f at risen

-- ---- where a device has failed
session_risen : (e : SessionEnd) (may_fail : Type 0) (may_give : ℕ → Bool) (from : ℕ) (list : List Entry)
    (old now : Told) → old.faults ≡ 0 → IsSession e may_fail may_give from list old now
    → is_whole e ≡ false → HasRisen 0 now.faults
session_risen (Closed true unheard) may_fail may_give from list old now f t is = rw f at (t.risen refl)
session_risen (Closed false unheard) may_fail may_give from list old now f t is = absurd (cc is)
session_risen Failed may_fail may_give from list old now f t is =
    more_risen (losses t.served) now.faults (rw f at t.covered)

pub listened_risen : (e : SessionEnd) (mark : Bool) (may_fail : Type 0) (may_give : ℕ → Bool) (before after : Viewed)
    (old now : Told) → old.faults ≡ 0 → HasListened e mark may_fail may_give before after old now
    → is_whole e ≡ false → HasRisen 0 now.faults
listened_risen e mark may_fail may_give before after old now f h is =
    session_risen e may_fail may_give (length before.list) after.list old now f h.session is

until_risen : (e : LinksEnd) (mark : Bool) (before now : ℕ) → before ≡ 0 → AcceptsUntil e mark before now
    → has_closed e ≡ false → HasRisen 0 now
until_risen (links_ends.Closed starved unheard) mark before now f until is = absurd (cc is)
until_risen (links_ends.Failed starved unheard) mark before now f until is = rw f at until

pub linked_risen : (e : LinksEnd) (downstream : List Octets) (may_fail : Type 0) (may_give : ℕ → Bool)
    (before after : Viewed) (old now : Accepts) (given told : Option (List ℕ)) → old.faults ≡ 0
    → HasLinked e downstream may_fail may_give before after old now given told → has_closed e ≡ false
    → HasRisen 0 now.faults
linked_risen e downstream may_fail may_give before after old now given told f h is =
    until_risen e now.is_closed old.faults now.faults f h.until is

-- the count of the ports rises as a device with a fault comes back to them, and falls neither before nor after
pub risen_first : (a b c : ℕ) → HasRisen a b → b ≤ c → HasRisen a c
risen_first a b c (inl h) le = inl (omega (arith, h, le))
risen_first a b c (inr h) le = inr (omega (arith, h, le))

pub risen_last : (a b c : ℕ) → a ≤ b → HasRisen b c → HasRisen a c
risen_last a b c le (inl h) = inl (omega (arith, le, h))
risen_last a b c le (inr h) = inr h

-- what holds by each of four
pub by_each : {W X Y Z R : Type 0} → (W → R) → (X → R) → (Y → R) → (Z → R) → W ⊎ (X ⊎ (Y ⊎ Z)) → R
by_each w x y z (inl h) = w h
by_each w x y z (inr (inl h)) = x h
by_each w x y z (inr (inr (inl h))) = y h
by_each w x y z (inr (inr (inr h))) = z h

-- ---- by the list that a run leaves
seen_one : (first list : List Entry) → 0 < length first → IsPrefix first list → 1 ≤ length list
seen_one first list some p = omega (arith, some, prefix_length first list p)

pub listened_run : (e : SessionEnd) (mark m : Bool) (may_fail : Type 0) (give may_give : ℕ → Bool)
    (before after : Viewed) (old now : Told) (first later : List Entry)
    → 0 < length first → IsPrefix first before.list → IsPrefix after.list later → give ≡ may_give
    → IsFreshExchange (exchange old.received old.sent m old.faults)
    → HasListened e mark may_fail give before after old now
    → IsExchanged (is_whole e) (unheard_in e) may_fail may_give later (exchange now.received now.sent mark now.faults)
listened_run e mark m may_fail give may_give before after old now first later some begins p same fresh h =
    rw (sym same)
    (exchanged may_fail give (length before.list) after.list later old now (seen_one first before.list some begins) p
    fresh.unreceived fresh.unsent fresh.faultless e mark h.closed h.session)

pub linked_run : (e : LinksEnd) (downstream : List Octets) (may_fail : Type 0) (give may_give : ℕ → Bool)
    (before after : Viewed) (old now : Accepts) (given told : Option (List ℕ)) (first later : List Entry)
    → 0 < length first → IsPrefix first before.list → IsPrefix after.list later → give ≡ may_give
    → IsFreshAccepts old → HasLinked e downstream may_fail give before after old now given told
    → IsAccepted (has_closed e) (starved_at e) (unheard_at e) downstream may_fail may_give later now
linked_run e downstream may_fail give may_give before after old now given told first later some begins p same fresh h =
    rw (sym same)
    (accepted e downstream may_fail give
    (length before.list) after.list later old now before.sights after.sights given told
    (seen_one first before.list some begins) p fresh.unaccepted fresh.faultless h.until h.visits)

pub transferred_run : (done : Transfers) (lines : ℕ) (may_stop : Bool) (give may_give : ℕ → Bool)
    (before after : Viewed) (old now : Dials) (first later : List Entry)
    → 0 < length first → IsPrefix first before.list → IsPrefix after.list later → give ≡ may_give
    → IsFreshDials old → HasTransferred done lines may_stop give before after old now
    → IsDialled done lines may_give later now
transferred_run done lines may_stop give may_give before after old now first later some begins p same fresh h =
    rw (sym same)
    (dialled_over done lines give (length before.list) after.list later old now
    (seen_one first before.list some begins) p fresh.undialled fresh.faultless h.moments h.transfers)

pub is_run : (must_dial : Bool) (how : ServeEnd) (downstream : List Octets) (may_fail : Type 0) (may_give : ℕ → Bool)
    (lines : ℕ) (list : List Entry) (before after : Rows) (w1 w2 c1 c2 s1 s2 u1 u2 u3 u4 : Bool)
    (d1 d2 : Transfers) (n1 n2 : ℕ) (one two : Exchange) (three four : Accepts) (five six : Dials)
    → after.datagrams ≡ both_back one two before.datagrams → after.acceptors ≡ both_back three four before.acceptors
    → after.dialers ≡ both_back five six before.dialers
    → IsExchanged w1 u1 may_fail may_give list one → IsExchanged w2 u2 may_fail may_give list two
    → IsAccepted c1 s1 u3 downstream may_fail may_give list three
    → IsAccepted c2 s2 u4 downstream may_fail may_give list four
    → IsDialled d1 n1 may_give list five → IsDialled d2 n2 may_give list six → lines ≡ n1 + n2
    → (how ≡ ends.Done → (w1 ≡ true) × (w2 ≡ true) × (c1 ≡ true) × (c2 ≡ true) × (s1 ≡ false)
    × (s2 ≡ false) × (u1 ≡ false) × (u2 ≡ false) × (u3 ≡ false) × (u4 ≡ false) × IsClear d1 × IsClear d2
    × (must_dial ≡ true → (d1.dialed ≡ true) ⊎ (d2.dialed ≡ true)))
    → (how ≡ ends.NoMemory → (w1 ≡ true) × (w2 ≡ true) × (c1 ≡ true) × (c2 ≡ true))
    → IsRun must_dial how downstream may_fail may_give lines list before after
is_run must_dial how downstream may_fail may_give lines list before after w1 w2 c1 c2 s1 s2 u1 u2 u3 u4 d1 d2 n1 n2
    one two three four five six d a l e1 e2 a1 a2 i1 i2 sum done starved = record {
      whole_one = w1;
      whole_two = w2;
      closed_one = c1;
      closed_two = c2;
      starved_one = s1;
      starved_two = s2;
      unheard_one = u1;
      unheard_two = u2;
      unheard_three = u3;
      unheard_four = u4;
      transfers_one = d1;
      transfers_two = d2;
      lines_one = n1;
      lines_two = n2;
      one = one;
      two = two;
      three = three;
      four = four;
      five = five;
      six = six;
      datagrams = d;
      acceptors = a;
      dialers = l;
      exchanged_one = e1;
      exchanged_two = e2;
      accepted_one = a1;
      accepted_two = a2;
      dialled_one = i1;
      dialled_two = i2;
      lines_are = sum;
      done = done;
      starved = starved;
    }

-- ---- readings that come back
six_all : (P : Viewed → Type 0) (a b c d e f : Viewed) → P a → P b → P c → P d → P e → P f
    → All P (a ∷ b ∷ c ∷ d ∷ e ∷ f ∷ [])
six_all P a b c d e f pa pb pc pd pe pf zero x lt = pa
six_all P a b c d e f pa pb pc pd pe pf (suc zero) x lt = pb
six_all P a b c d e f pa pb pc pd pe pf (suc (suc zero)) x lt = pc
six_all P a b c d e f pa pb pc pd pe pf (suc (suc (suc zero))) x lt = pd
six_all P a b c d e f pa pb pc pd pe pf (suc (suc (suc (suc zero)))) x lt = pe
six_all P a b c d e f pa pb pc pd pe pf (suc (suc (suc (suc (suc zero))))) x lt = pf
six_all P a b c d e f pa pb pc pd pe pf (suc (suc (suc (suc (suc (suc k)))))) x lt = absurd (omega (arith, lt))

pub six_back : (book : Book) (a b c d e f : Viewed) (readings : List Viewed) → readings ≡ a ∷ b ∷ c ∷ d ∷ e ∷ f ∷ []
    → AreSeated book a b c d e f → AreBack book readings
six_back book a b c d e f readings is s =
    rw is (refl, six_all (IsSeated book) a b c d e f s.first s.second s.third s.fourth s.fifth s.sixth)

pub seated_more : (book : Book) (before after : Viewed) → IsSeated book before → HasSeenMore before after
    → IsSeated book after
seated_more book before after was more = record { rests = more.rests; own = more.own ∙ was.own }
