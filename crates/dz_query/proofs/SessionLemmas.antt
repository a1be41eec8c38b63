-- One more packet of a session.
use Rattle.std.proofs.Common.{◌≡◌, inl, ℕ, ◌+◌, ◌≤◌, Bool, true, false, List, [], ◌∷◌, ◌++◌, length, refl, ◌∙◌, arith}
use Rattle.std.proofs.Common.{length-append}
use Rattle.std.specs.Prelude.{IsSome}
use Rattle.std.proofs.lemmas.List.{map-append}
use mathlib.Core.List.{IsPrefix}
use Rattle.dz_io.specs.Counts.{HasRisen, HasRisenBy}
use Rattle.dz_io.specs.Device.{Gains}
use Rattle.dz_io.specs.Packets.{Packet}
use Rattle.dz_history.specs.declared.entry.Entry.{Entry}
use Rattle.dz_query.specs.Due.{due}
use Rattle.dz_query.specs.Served.{Served, excused, requests, moments, replies, sent_of, packets_to, IsExcused, loss}
use Rattle.dz_query.specs.Served.{losses}
use Rattle.dz_query.specs.Session.{Told, AreAnswered, HasAnswered, HasFailed, IsSession}
use Rattle.dz_query.specs.inner.Replying.{has_lost}
use Rattle.dz_query.specs.declared.datagrams.SessionEnd.{SessionEnd}
use Rattle.dz_query.specs.declared.datagrams.SessionEnd.TheVariants.{Closed, Failed}
use Rattle.dz_query.specs.declared.fate.Fate.{Fate}
use Rattle.dz_query.specs.declared.fate.Fate.TheVariants.{Sent, Lost, Unheard}
use Rattle.dz_query.proofs.GainLemmas.{gains_none, gains_more, still_none, still_more, rises_more, rises_later}
use Rattle.dz_query.proofs.GainLemmas.{rises_one, risen_later, risen_sooner}
use Rattle.dz_query.proofs.TurnLemmas.{turn_join, turn_later, turn_one, turn_excused, sent_later, sent_more}
use Rattle.dz_query.proofs.TurnLemmas.{losses_more}

-- what goes out for a request by a list
abbrev goes_to : List Entry → Served → List Packet
goes_to list s = packets_to s.request (sent_of s.fate (due list false s.request s.moment))

pub none_yet : (may_fail : Type 0) (may_give : ℕ → Bool) (list : List Entry) (t : Told)
    → HasAnswered false may_fail may_give (length list) list t t
none_yet may_fail may_give list t = record {
  served = [];
  answers = record {
    turns = omega arith;
    received = gains_none t.received;
    sent = gains_none t.sent;
    given = still_none t.moments;
    sights = inl (omega arith);
  };
  covered = inl (omega arith);
  whole = λ _. refl;
  risen = λ lost. absurd (cc lost);
}

-- a send that failed is covered by a count that rose
covered_by : (fate : Fate) (n before middle now : ℕ) → HasRisenBy n before middle → middle ≤ now
    → (fate ≡ Lost → HasRisen middle now) → HasRisenBy (n + loss fate) before now
covered_by Sent n before middle now by later risen = rises_more n 0 before middle now by (inl (omega (arith, later)))
covered_by Unheard n before middle now by later risen =
    rises_more n 0 before middle now by (inl (omega (arith, later)))
covered_by Lost n before middle now by later risen =
    rises_more n 1 before middle now by (rises_one middle now (risen refl))

whole_still : (lost : Bool) (fate : Fate) (n : ℕ) → (lost ≡ false → n ≡ 0) → has_lost lost fate ≡ false
    → n + loss fate ≡ 0
whole_still lost Sent n whole none = omega (arith, whole none)
whole_still lost Unheard n whole none = omega (arith, whole none)
whole_still lost Lost n whole none = absurd (cc none)

risen_once : (lost : Bool) (fate : Fate) (before middle now : ℕ) → before ≤ middle → middle ≤ now
    → (lost ≡ true → HasRisen before middle) → (fate ≡ Lost → HasRisen middle now) → has_lost lost fate ≡ true
    → HasRisen before now
risen_once lost Sent before middle now sooner later was risen some = risen_later before middle now (was some) later
risen_once lost Unheard before middle now sooner later was risen some = risen_later before middle now (was some) later
risen_once lost Lost before middle now sooner later was risen some = risen_sooner before middle now sooner (risen refl)

answers_more : (may_fail : Type 0) (may_give : ℕ → Bool) (from : ℕ) (list later : List Entry)
    (before middle now : Told) (served : List Served) (request : Packet) (moment : ℕ) (fate : Fate)
    → IsPrefix list later → may_give moment ≡ true → IsExcused may_fail false fate request
    → Gains (request ∷ []) middle.received now.received
    → Gains (packets_to request (sent_of fate (due later false request moment))) middle.sent now.sent
    → (IsSome now.moments → Gains (moment ∷ []) middle.moments now.moments)
    → HasRisenBy 1 middle.sights now.sights
    → AreAnswered may_fail may_give from list before middle served
    → AreAnswered may_fail may_give from later before now
    (served ++ record { request = request; upto = length later; moment = moment; fate = fate } ∷ [])
answers_more may_fail may_give from list later before middle now served request moment fate p may excused received sent
    given sights were =
    let s : Served = record { request = request; upto = length later; moment = moment; fate = fate } in
    let texts = sent_more may_fail may_give false goes_to from list later served s p were.turns refl in
    record {
      turns = turn_join may_fail may_give false from list later served (s ∷ []) p were.turns
          (turn_one may_fail may_give false list later request moment fate p may excused);
      received = rw (map-append (λ (s : Served). s.request) served (s ∷ [])) (gains_more (requests served)
          (request ∷ []) before.received middle.received now.received were.received received);
      sent =
          rw texts
          (gains_more (replies list served) (packets_to request (sent_of fate (due later false request moment)))
          before.sent middle.sent now.sent were.sent sent);
      given = rw (map-append (λ (s : Served). s.moment) served (s ∷ []))
          (still_more (moments served) (moment ∷ []) before.moments middle.moments now.moments were.given given);
      sights = rw (length-append served (s ∷ []))
          (rises_more (length served) 1 before.sights middle.sights now.sights were.sights sights);
    }

pub goes_on : (lost : Bool) (may_fail : Type 0) (may_give : ℕ → Bool) (from : ℕ) (list later : List Entry)
    (before middle now : Told) (request : Packet) (moment : ℕ) (fate : Fate)
    → IsPrefix list later → may_give moment ≡ true → IsExcused may_fail false fate request
    → Gains (request ∷ []) middle.received now.received
    → Gains (packets_to request (sent_of fate (due later false request moment))) middle.sent now.sent
    → (IsSome now.moments → Gains (moment ∷ []) middle.moments now.moments)
    → HasRisenBy 1 middle.sights now.sights
    → before.faults ≤ middle.faults → middle.faults ≤ now.faults → (fate ≡ Lost → HasRisen middle.faults now.faults)
    → HasAnswered lost may_fail may_give from list before middle
    → HasAnswered (has_lost lost fate) may_fail may_give from later before now
goes_on lost may_fail may_give from list later before middle now request moment fate p may excused received sent given
    sights sooner faults risen was =
    let s : Served = record { request = request; upto = length later; moment = moment; fate = fate } in
    record {
      served = was.served ++ s ∷ [];
      answers = answers_more may_fail may_give from list later before middle now was.served request moment fate p may
          excused received sent given sights was.answers;
      covered = rw (losses_more was.served s)
          (covered_by fate (losses was.served) before.faults middle.faults now.faults was.covered faults risen);
      whole = λ none. losses_more was.served s ∙ whole_still lost fate (losses was.served) was.whole none;
      risen = risen_once lost fate before.faults middle.faults now.faults sooner faults was.risen risen;
    }

-- the last call received nothing
same_answers : (may_fail : Type 0) (may_give : ℕ → Bool) (from : ℕ) (list : List Entry) (before middle now : Told)
    (served : List Served) → now.received ≡ middle.received → now.sent ≡ middle.sent → now.moments ≡ middle.moments
    → now.sights ≡ middle.sights
    → AreAnswered may_fail may_give from list before middle served
    → AreAnswered may_fail may_give from list before now served
same_answers may_fail may_give from list before middle now served received sent given sights were = record {
  turns = were.turns;
  received = rw received were.received;
  sent = rw sent were.sent;
  given = rw given were.given;
  sights = rw sights were.sights;
}

pub closes : (lost : Bool) (may_fail : Type 0) (may_give : ℕ → Bool) (from : ℕ) (list : List Entry)
    (before middle now : Told) → now.received ≡ middle.received → now.sent ≡ middle.sent → now.moments ≡ middle.moments
    → now.sights ≡ middle.sights
    → middle.faults ≤ now.faults → HasAnswered lost may_fail may_give from list before middle
    → HasAnswered lost may_fail may_give from list before now
closes lost may_fail may_give from list before middle now received sent given sights later was = record {
  served = was.served;
  answers =
      same_answers may_fail may_give from list before middle now was.served received sent given sights was.answers;
  covered = rises_later (losses was.served) before.faults middle.faults now.faults was.covered later;
  whole = was.whole;
  risen = λ some. risen_later before.faults middle.faults now.faults (was.risen some) later;
}

pub fails : (lost : Bool) (may_fail : Type 0) (may_give : ℕ → Bool) (from : ℕ) (list : List Entry)
    (before middle now : Told) → now.received ≡ middle.received → now.sent ≡ middle.sent → now.moments ≡ middle.moments
    → now.sights ≡ middle.sights
    → HasRisen middle.faults now.faults → HasAnswered lost may_fail may_give from list before middle
    → HasFailed may_fail may_give from list before now
fails lost may_fail may_give from list before middle now received sent given sights risen was = record {
  served = was.served;
  answers =
      same_answers may_fail may_give from list before middle now was.served received sent given sights was.answers;
  covered = rises_more (losses was.served) 1 before.faults middle.faults now.faults was.covered
      (rises_one middle.faults now.faults risen);
}

-- what a session owes by the list that was seen it owes by a later one
answers_later : (may_fail : Type 0) (may_give : ℕ → Bool) (from : ℕ) (list later : List Entry) (before now : Told)
    (served : List Served) → IsPrefix list later
    → AreAnswered may_fail may_give from list before now served
    → AreAnswered may_fail may_give from later before now served
answers_later may_fail may_give from list later before now served p is =
    let same : replies later served ≡ replies list served =
    sent_later may_fail may_give false goes_to from list later served p is.turns in
    record {
      turns = turn_later may_fail may_give false from list later served p is.turns;
      received = is.received;
      sent = rw same is.sent;
      given = is.given;
      sights = is.sights;
    }

pub session_later : (ending : SessionEnd) (may_fail : Type 0)
    (may_give : ℕ → Bool) (from : ℕ) (list later : List Entry) (before now : Told)
    → IsPrefix list later → IsSession ending may_fail may_give from list before now
    → IsSession ending may_fail may_give from later before now
session_later (Closed lost unheard) may_fail may_give from list later before now p is = record {
  served = is.served;
  answers = answers_later (excused unheard may_fail) may_give from list later before now is.served p is.answers;
  covered = is.covered;
  whole = is.whole;
  risen = is.risen;
}
session_later Failed may_fail may_give from list later before now p is = record {
  served = is.served;
  answers = answers_later may_fail may_give from list later before now is.served p is.answers;
  covered = is.covered;
}

-- what is excused by less is excused by more
pub answered_excused : (a b : Type 0) (lost : Bool) (may_give : ℕ → Bool) (from : ℕ)
    (list : List Entry) (before now : Told) → (a → b) → HasAnswered lost a may_give from list before now
    → HasAnswered lost b may_give from list before now
answered_excused a b lost may_give from list before now more was =
    let answers = was.answers in
    record {
      served = was.served;
      answers = record {
        turns = turn_excused a b may_give false from list was.served more answers.turns;
        received = answers.received;
        sent = answers.sent;
        given = answers.given;
        sights = answers.sights;
      };
      covered = was.covered;
      whole = was.whole;
      risen = was.risen;
    }
