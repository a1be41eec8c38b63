-- One more message of a stream.
use Rattle.std.proofs.Common.{◌≡◌, inl, ℕ, ◌≤◌, Bool, true, List, [], ◌∷◌, ◌++◌, length, None, refl, sym, ap, ◌∙◌}
use Rattle.std.proofs.Common.{arith, length-append}
use Rattle.std.specs.Prelude.{IsSome, map}
use Rattle.std.specs.List.{flat_map}
use Rattle.std.proofs.lemmas.Grind.{flat_map-append}
use Rattle.std.proofs.lemmas.List.{append-nil, map-append}
use mathlib.Core.List.{IsPrefix}
use Rattle.dz_name.specs.Words.{Octets}
use Rattle.dz_io.specs.Counts.{HasRisenBy}
use Rattle.dz_io.specs.Device.{Gains, GainsPrefix}
use Rattle.dz_io.specs.Packets.{Packet, packet}
use Rattle.dz_io.specs.declared.peer.Peer.{Peer}
use Rattle.dz_message.specs.Frame.{frame, stream, first_size, messages_in, AreShort}
use Rattle.dz_message.proofs.FrameLemmas.{come_back, none_there}
use Rattle.dz_history.specs.declared.entry.Entry.{Entry}
use Rattle.dz_query.specs.Sent.{asks_for_zone}
use Rattle.dz_query.specs.Served.{Served, requests, moments, owed, framed, IsExcused, AreInTurn}
use Rattle.dz_query.specs.Stream.{Flow, AreRead, HasEnded, HasBroken, HasStarved, IsStream}
use Rattle.dz_query.specs.inner.Coming.{IsPart, IsFlowing}
use Rattle.dz_query.specs.inner.Sending.{owed_by}
use Rattle.dz_query.specs.declared.fate.Fate.{Fate}
use Rattle.dz_query.specs.declared.fate.Fate.TheVariants.{Sent}
use Rattle.dz_query.specs.declared.stream.StreamEnd.{StreamEnd}
use Rattle.dz_query.specs.declared.stream.StreamEnd.TheVariants.{Ended, Failed, OutOfMemory}
use Rattle.dz_query.proofs.GainLemmas.{gains_none, gains_more, still_none, still_more, prefix_of_all, prefix_of_more}
use Rattle.dz_query.proofs.GainLemmas.{rises_more}
use Rattle.dz_query.proofs.TurnLemmas.{turn_join, turn_one, turn_excused, sent_later, sent_more}

pub none_yet : (downstream : List Octets) (may_fail : Type 0) (may_give : ℕ → Bool) (list : List Entry) (peer : Peer)
    (f : Flow) → IsFlowing downstream may_fail may_give (length list) list peer f f
none_yet downstream may_fail may_give list peer f = record {
  served = [];
  messages = [];
  short = tt;
  are = refl;
  turns = omega arith;
  read = gains_none f.read;
  written = gains_none f.written;
  given = still_none f.moments;
  sights = inl (omega arith);
}

short_more : (messages : List Octets) (message : Octets) → AreShort messages → length message ≤ 65535
    → AreShort (messages ++ message ∷ [])
short_more [] message each short = (short, tt)
short_more (first ∷ messages) message each short = (each.0, short_more messages message each.1 short)

stream_more : (messages : List Octets) (message : Octets)
    → stream (messages ++ message ∷ []) ≡ stream messages ++ frame message
stream_more messages message = flat_map-append frame messages (message ∷ [])
    ∙ ap (λ octets. stream messages ++ octets) (append-nil (frame message))

-- what goes out for a request by a list
abbrev goes : List Octets → List Entry → Served → List Octets
goes downstream list s = owed_by downstream list s.request s.moment s.fate

-- the replies, with those to one more
framed_more : (downstream : List Octets) (may_fail : Type 0) (may_give : ℕ → Bool) (from : ℕ) (list later : List Entry)
    (served : List Served) (request : Packet) (moment : ℕ) (fate : Fate) → IsPrefix list later
    → AreInTurn may_fail may_give true from list served
    → framed downstream later
    (served ++ record { request = request; upto = length later; moment = moment; fate = fate } ∷ [])
    ≡ framed downstream list served ++ stream (owed_by downstream later request moment fate)
framed_more downstream may_fail may_give from list later served request moment fate p turns =
    let s : Served = record { request = request; upto = length later; moment = moment; fate = fate } in
    ap stream (sent_more may_fail may_give true (goes downstream) from list later served s p turns refl)
    ∙ flat_map-append frame (flat_map (owed downstream list) served) (owed_by downstream later request moment fate)

-- a message came that was answered so
pub goes_on : (downstream : List Octets) (may_fail : Type 0) (may_give : ℕ → Bool) (from : ℕ) (list later : List Entry)
    (peer : Peer) (before middle now : Flow) (message : Octets) (moment : ℕ) (fate : Fate)
    → IsPrefix list later → may_give moment ≡ true → IsExcused may_fail true fate (packet message peer)
    → length message ≤ 65535 → Gains (frame message) middle.read now.read
    → Gains (stream (owed_by downstream later (packet message peer) moment fate)) middle.written now.written
    → (IsSome now.moments → Gains (moment ∷ []) middle.moments now.moments)
    → HasRisenBy 1 middle.sights now.sights
    → IsFlowing downstream may_fail may_give from list peer before middle
    → IsFlowing downstream may_fail may_give from later peer before now
goes_on downstream may_fail may_give from list later peer before middle now message moment fate p may excused short
    read written given sights was =
    let request : Packet = packet message peer in
    let s : Served = record { request = request; upto = length later; moment = moment; fate = fate } in
    record {
      served = was.served ++ s ∷ [];
      messages = was.messages ++ message ∷ [];
      short = short_more was.messages message was.short short;
      are =
          map-append (λ (s : Served). s.request) was.served (s ∷ []) ∙ ap (λ packets. packets ++ request ∷ []) was.are
          ∙ sym (map-append (λ message. packet message peer) was.messages (message ∷ []));
      turns = turn_join may_fail may_give true from list later was.served (s ∷ []) p was.turns
          (turn_one may_fail may_give true list later request moment fate p may excused);
      read = rw (stream_more was.messages message)
          (gains_more (stream was.messages) (frame message) before.read middle.read now.read was.read read);
      written =
          rw (framed_more downstream may_fail may_give from list later was.served request moment fate p was.turns)
          (gains_more (framed downstream list was.served) (stream (owed_by downstream later request moment fate))
          before.written middle.written now.written was.written written);
      given = rw (map-append (λ (s : Served). s.moment) was.served (s ∷ []))
          (still_more (moments was.served) (moment ∷ []) before.moments middle.moments now.moments was.given given);
      sights = rw (length-append was.served (s ∷ []))
          (rises_more (length was.served) 1 before.sights middle.sights now.sights was.sights sights);
    }

-- the whole messages that came, followed by a part of one
read_to : (downstream : List Octets) (may_fail : Type 0) (may_give : ℕ → Bool) (from : ℕ)
    (list : List Entry) (peer : Peer) (before middle now : Flow) (part : Octets)
    (was : IsFlowing downstream may_fail may_give from list peer before middle)
    → first_size part ≡ None → Gains part middle.read now.read → now.moments ≡ middle.moments
    → now.sights ≡ middle.sights
    → AreRead may_fail may_give from list peer before now was.served
read_to downstream may_fail may_give from list peer before middle now part was none read given sights =
    let octets : Octets = stream was.messages ++ part in
    record {
      octets = octets;
      read = gains_more (stream was.messages) part before.read middle.read now.read was.read read;
      are = was.are ∙ ap (λ messages. map (λ message. packet message peer) messages)
          (sym (come_back (length octets) was.messages part (omega arith) was.short none));
      turns = was.turns;
      given = rw given was.given;
      sights = rw sights was.sights;
    }

pub ends : (downstream : List Octets) (may_fail : Type 0) (may_give : ℕ → Bool) (from : ℕ) (list : List Entry)
    (peer : Peer) (before middle now : Flow) → IsPart middle.read now.read → now.written ≡ middle.written
    → now.moments ≡ middle.moments → now.sights ≡ middle.sights
    → IsFlowing downstream may_fail may_give from list peer before middle
    → HasEnded downstream may_fail may_give from list peer before now
ends downstream may_fail may_give from list peer before middle now came written given sights was = record {
  served = was.served;
  asked = read_to downstream may_fail may_give from list peer before middle now came.part was came.none came.gains
      given sights;
  written = rw written was.written;
}

-- a read failed
pub fails : (downstream : List Octets) (may_fail : Type 0) (may_give : ℕ → Bool) (from : ℕ) (list : List Entry)
    (peer : Peer) (before middle now : Flow) → IsPart middle.read now.read → now.written ≡ middle.written
    → now.moments ≡ middle.moments → now.sights ≡ middle.sights
    → IsFlowing downstream may_fail may_give from list peer before middle
    → HasBroken downstream may_fail may_give from list peer before now
fails downstream may_fail may_give from list peer before middle now came written given sights was = record {
  served = was.served;
  asked = read_to downstream may_fail may_give from list peer before middle now came.part was came.none came.gains
      given sights;
  written = prefix_of_all (framed downstream list was.served) before.written now.written (rw written was.written);
}

-- a message came that was answered so, and the whole messages are these
read_with : (downstream : List Octets) (may_fail : Type 0) (may_give : ℕ → Bool) (from : ℕ) (list later : List Entry)
    (peer : Peer) (before middle now : Flow) (message : Octets) (moment : ℕ) (fate : Fate)
    → IsPrefix list later → may_give moment ≡ true → IsExcused may_fail true fate (packet message peer)
    → length message ≤ 65535 → Gains (frame message) middle.read now.read
    → (IsSome now.moments → Gains (moment ∷ []) middle.moments now.moments)
    → HasRisenBy 1 middle.sights now.sights
    → (was : IsFlowing downstream may_fail may_give from list peer before middle)
    → AreRead may_fail may_give from later peer before now
    (was.served ++ record { request = packet message peer; upto = length later; moment = moment; fate = fate } ∷ [])
read_with downstream may_fail may_give from list later peer before middle now message moment fate p may excused short
    read given sights was =
    let request : Packet = packet message peer in
    let s : Served = record { request = request; upto = length later; moment = moment; fate = fate } in
    let messages : List Octets = was.messages ++ message ∷ [] in
    let are : requests (was.served ++ s ∷ []) ≡ map (λ message. packet message peer) messages =
    map-append (λ (s : Served). s.request) was.served (s ∷ []) ∙ ap (λ packets. packets ++ request ∷ []) was.are
    ∙ sym (map-append (λ message. packet message peer) was.messages (message ∷ [])) in
    let back : messages_in (stream messages) ≡ messages =
    ap messages_in (sym (append-nil (stream messages))) ∙ come_back (length (stream messages ++ [])) messages []
    (omega arith) (short_more was.messages message was.short short) none_there in
    record {
      octets = stream messages;
      read = rw (stream_more was.messages message)
          (gains_more (stream was.messages) (frame message) before.read middle.read now.read was.read read);
      are = are ∙ ap (λ messages. map (λ message. packet message peer) messages) (sym back);
      turns = turn_join may_fail may_give true from list later was.served (s ∷ []) p was.turns
          (turn_one may_fail may_give true list later request moment fate p may excused);
      given = rw (map-append (λ (s : Served). s.moment) was.served (s ∷ []))
          (still_more (moments was.served) (moment ∷ []) before.moments middle.moments now.moments was.given given);
      sights = rw (length-append was.served (s ∷ []))
          (rises_more (length was.served) 1 before.sights middle.sights now.sights was.sights sights);
    }

-- a write failed: what it had written begins the reply
pub breaks : (downstream : List Octets) (may_fail : Type 0) (may_give : ℕ → Bool) (from : ℕ) (list later : List Entry)
    (peer : Peer) (before middle now : Flow) (message : Octets) (moment : ℕ) (fate : Fate)
    → IsPrefix list later → may_give moment ≡ true → IsExcused may_fail true fate (packet message peer)
    → length message ≤ 65535 → Gains (frame message) middle.read now.read
    → GainsPrefix (stream (owed_by downstream later (packet message peer) moment fate)) middle.written now.written
    → (IsSome now.moments → Gains (moment ∷ []) middle.moments now.moments)
    → HasRisenBy 1 middle.sights now.sights
    → IsFlowing downstream may_fail may_give from list peer before middle
    → HasBroken downstream may_fail may_give from later peer before now
breaks downstream may_fail may_give from list later peer before middle now message moment fate p may excused short read
    written given sights was =
    let request : Packet = packet message peer in
    let s : Served = record { request = request; upto = length later; moment = moment; fate = fate } in
    record {
      served = was.served ++ s ∷ [];
      asked = read_with downstream may_fail may_give from list later peer before middle now message moment fate p may
          excused short read given sights was;
      written =
          rw (framed_more downstream may_fail may_give from list later was.served request moment fate p was.turns)
          (prefix_of_more (framed downstream list was.served) (stream (owed_by downstream later request moment fate))
          before.written middle.written now.written was.written written);
    }

-- it was starved of memory: nothing was written of the last reply
pub starves : (downstream : List Octets) (may_fail : Type 0) (may_give : ℕ → Bool) (from : ℕ) (list later : List Entry)
    (peer : Peer) (before middle now : Flow) (message : Octets) (moment : ℕ)
    → IsPrefix list later → may_give moment ≡ true → asks_for_zone downstream (packet message peer) ≡ true
    → length message ≤ 65535 → Gains (frame message) middle.read now.read → now.written ≡ middle.written
    → (IsSome now.moments → Gains (moment ∷ []) middle.moments now.moments)
    → HasRisenBy 1 middle.sights now.sights
    → IsFlowing downstream may_fail may_give from list peer before middle
    → HasStarved downstream may_fail may_give from later peer before now
starves downstream may_fail may_give from list later peer before middle now message moment p may asks short read
    written given sights was =
    let same : framed downstream later was.served ≡ framed downstream list was.served =
    ap stream (sent_later may_fail may_give true (goes downstream) from list later was.served p was.turns) in
    record {
      served = was.served;
      last = record { request = packet message peer; upto = length later; moment = moment; fate = Sent };
      asked = read_with downstream may_fail may_give from list later peer before middle now message moment Sent p may
          tt short read given sights was;
      zone = asks;
      written = rw (same, written) was.written;
    }

-- what is excused by less is excused by more
pub flowing_excused : (a b : Type 0) (downstream : List Octets) (may_give : ℕ → Bool) (from : ℕ) (list : List Entry)
    (peer : Peer) (before now : Flow) → (a → b) → IsFlowing downstream a may_give from list peer before now
    → IsFlowing downstream b may_give from list peer before now
flowing_excused a b downstream may_give from list peer before now more was = record {
  served = was.served;
  messages = was.messages;
  short = was.short;
  are = was.are;
  turns = turn_excused a b may_give true from list was.served more was.turns;
  read = was.read;
  written = was.written;
  given = was.given;
  sights = was.sights;
}

-- where no address is listed no session is starved
pub never_starves : (ending : StreamEnd) (may_fail : Type 0) (may_give : ℕ → Bool) (from : ℕ) (list : List Entry)
    (peer : Peer) (before now : Flow) → IsStream ending [] may_fail may_give from list peer before now
    → ending ≡ OutOfMemory → ⊥
never_starves Ended may_fail may_give from list peer before now stream is = cc is
never_starves Failed may_fail may_give from list peer before now stream is = cc is
never_starves OutOfMemory may_fail may_give from list peer before now stream is = cc (stream.zone)
