-- What goes out to a request over a link, and messages that go out one after the other.
use Rattle.std.proofs.Common.{◌≡◌, ℕ, ◌≤◌, Bool, true, false, List, [], ◌∷◌, ◌++◌, length, drop, Option, Some, None}
use Rattle.std.proofs.Common.{refl, sym, ap, ◌∙◌, append_assoc, arith, length-append, if◌then◌else◌}
use Rattle.std.specs.Prelude.{nat_le, is_some, Result, Ok, Err, IfOk, OnErr}
use Rattle.std.proofs.lemmas.Bool.Decides.{nat_tests}
use Rattle.std.proofs.lemmas.Grind.{flat_map-append}
use Rattle.std.proofs.lemmas.List.{append-nil, map-append, length-take}
use Rattle.dz_name.specs.Words.{Octets}
use Rattle.dz_header.specs.Code.{number_of}
use Rattle.dz_header.specs.Edns.{opt_count, opt_octets}
use Rattle.dz_header.specs.Writing.{Writing}
use Rattle.dz_header.specs.declared.code.ResponseCode.{ResponseCode}
use Rattle.dz_io.specs.Device.{Gains, GainsPrefix}
use Rattle.dz_io.specs.Packets.{Packet}
use Rattle.dz_request.specs.Frame.{Query, query_of, within_limit, bare_octets, head_octets, reply_writing}
use Rattle.dz_request.specs.Request.{IsWhole, request as read}
use Rattle.dz_request.specs.declared.request.Asked.{Asked}
use Rattle.dz_request.proofs.FrameLemmas.{length_head, length_opt}
use Rattle.dz_message.specs.Frame.{frame, stream}
use Rattle.dz_message.specs.Message.{Content}
use Rattle.dz_message.specs.Piece.{written}
use Rattle.dz_message.specs.Writing.{message_octets}
use Rattle.dz_zone.specs.Version.{Zone}
use Rattle.dz_outward.specs.Stream.{is_fit, messages_of}
use Rattle.dz_outward.proofs.RoundLemmas.{back}
use Rattle.dz_history.specs.declared.entry.Entry.{Entry}
use Rattle.dz_history.specs.After.{after}
use Rattle.dz_query.specs.Due.{due}
use Rattle.dz_query.specs.Sent.{zone_asked, is_listed, transfer_in, asks_for_zone, refusal, sent, sent_to}
use Rattle.dz_query.specs.Sent.{sent_of_name, held_at}
use Rattle.dz_query.specs.Laws.{ComesBack}
use Rattle.dz_query.specs.Served.{sent_of}
use Rattle.dz_query.specs.inner.Replying.{IsAnswered, fate_of}
use Rattle.dz_query.specs.inner.Sending.{owed_by, fate_in, Sends, IsSending, IsGoing}
use Rattle.dz_query.specs.declared.answered.Answered.{Answered}
use Rattle.dz_query.specs.declared.answered.Answered.TheVariants as answers
use Rattle.dz_query.specs.declared.sending.Sending.{Sending}
use Rattle.dz_query.specs.declared.sending.Sending.TheVariants as sending
use Rattle.dz_query.proofs.AnswerLemmas.{goes_out, excused, short}
use Rattle.dz_query.proofs.GainLemmas.{gains_none, gains_more, prefix_of_more, prefix_of_first}

-- what follows of an answer
pub if_ok_then : {T E : Type 0} (result : Result T E) (P Q : T → Type 0) → ((x : T) → P x → Q x) → IfOk result P
    → IfOk result Q
if_ok_then (Ok x) P Q so is = so x is
if_ok_then (Err e) P Q so is = tt

pub on_err : {T E : Type 0} (result : Result T E) (P : Type 0) → P → OnErr result P
on_err (Ok x) P p = tt
on_err (Err e) P p = p

-- ---- an error
bare_short : (query : Query) (code : ℕ) → length query.echo ≤ 259 → length (bare_octets query code) ≤ 65535
unfolding bare_octets
bare_short query code few =
    omega (
      arith,
      length-append (head_octets query code false false 0 0 (opt_count query.edns)) (opt_octets code query.edns),
      length_head query code false false 0 0 (opt_count query.edns),
      length_opt code query.edns,
      few,
    )

bare_whole : (query : Query) (code : ℕ) → length query.echo ≤ 259
    → within_limit true query code false (bare_octets query code) ≡ bare_octets query code
unfolding within_limit
bare_whole query code few =
    let fits = bare_short query code few in
    let t : nat_le (length (bare_octets query code)) 65535 ≡ true = grind (arith, nat_tests) in rw t refl

echo_few : (octets : Octets) (asked : Asked) → IsWhole octets asked.size → length (query_of octets asked).echo ≤ 259
echo_few octets asked whole = omega (arith, length-take asked.size (drop 12 octets), whole.short)

pub refuses : (octets : Octets) (asked : Asked) (code : ResponseCode) (w : Writing) (text : Octets) (count : ℕ)
    → IsWhole octets asked.size
    → w ≡ reply_writing true (query_of octets asked) (number_of code) false
    (bare_octets (query_of octets asked) (number_of code))
    → w.octets ≡ Some text → count ≡ length text
    → Sends (sending.Reply (answers.Written count)) w (refusal octets asked code)
refuses octets asked code w text count whole is there counts =
    let query : Query = query_of octets asked in
    let bare : Octets = bare_octets query (number_of code) in
    let all : within_limit true query (number_of code) false bare ≡ bare =
    bare_whole query (number_of code) (echo_few octets asked whole) in
    let same : Some text ≡ Some bare = sym there ∙ ap (λ (w : Writing). w.octets) is ∙ ap Some all in
    let is_bare : text ≡ bare = cc (same) in
    record {
      goes = rw there (ap (λ octets. octets ∷ []) is_bare);
      sent = refl;
      short = record {
        text = text;
        written = there;
        counts = counts;
        short = rw is_bare (bare_short query (number_of code) (echo_few octets asked whole));
      };
    }

-- ---- which requests get a zone
then_is : (test : Bool) (o : Option Asked) (asked : Asked) → (if test then o else None) ≡ Some asked → o ≡ Some asked
then_is true o asked is = is
then_is false o asked is = absurd (cc is)

owed_if : (test : Bool) (a b : List Octets) → test ≡ true → (if test then a else b) ≡ a
owed_if true a b is = refl
owed_if false a b is = absurd (cc is)

owed_else : (test : Bool) (a b : List Octets) → test ≡ false → (if test then a else b) ≡ b
owed_else true a b is = absurd (cc is)
owed_else false a b is = refl

pub asks : (downstream : List Octets) (request : Packet) (asked : Asked) → transfer_in downstream request ≡ Some asked
    → asks_for_zone downstream request ≡ true
asks downstream request asked is = ap (λ (o : Option Asked). is_some o) is

sent_is : (list : List Entry) (request : Packet) (moment : ℕ) (asked : Asked)
    → zone_asked (read request.octets) ≡ Some asked
    → sent list request moment
    ≡ sent_of_name request.octets asked (held_at (after list).table asked.question.name moment)
unfolding sent
sent_is list request moment asked is = ap (λ o. sent_to list request.octets moment o) is

pub sends_zone : (downstream : List Octets) (may_fail : Type 0) (s : Sending) (w : Writing) (list : List Entry)
    (request : Packet) (moment : ℕ) (asked : Asked) → transfer_in downstream request ≡ Some asked
    → Sends s w (sent_of_name request.octets asked (held_at (after list).table asked.question.name moment))
    → IsSending may_fail s w request (owed_by downstream list request moment)
sends_zone downstream may_fail s w list request moment asked is sends =
    let zone : zone_asked (read request.octets) ≡ Some asked =
    then_is (is_listed downstream request.peer) (zone_asked (read request.octets)) asked is in
    record {
      goes = sends.goes ∙ sym (sent_is list request moment asked zone)
          ∙ sym (owed_if (asks_for_zone downstream request) (sent list request moment)
          (sent_of (fate_in s) (due list true request moment)) (asks downstream request asked is));
      excused = rw sends.sent tt;
      short = sends.short;
    }

pub sends_reply : (downstream : List Octets) (may_fail : Type 0) (answered : Answered) (w : Writing)
    (list : List Entry) (request : Packet) (moment : ℕ) → transfer_in downstream request ≡ None
    → IsAnswered may_fail answered w request (due list true request moment)
    → IsSending may_fail (sending.Reply answered) w request (owed_by downstream list request moment)
sends_reply downstream may_fail answered w list request moment none is =
    let other : asks_for_zone downstream request ≡ false = ap (λ (o : Option Asked). is_some o) none in
    record {
      goes = goes_out may_fail answered w request (due list true request moment) is
          ∙ sym (owed_else (asks_for_zone downstream request) (sent list request moment)
          (sent_of (fate_of answered) (due list true request moment)) other);
      excused = excused may_fail true answered w request (due list true request moment) is;
      short = short may_fail answered w request (due list true request moment) is;
    }

-- what is sent of a version comes back
whole_zone : (octets : Octets) (asked : Asked) (zone : Zone) (held : Option (Option Zone)) → held ≡ Some (Some zone)
    → is_fit zone ≡ true → sent_of_name octets asked held ≡ written (messages_of asked.header.id zone)
whole_zone octets asked zone held is fit = rw (is, fit) refl

pub zone_back : ComesBack
zone_back list request moment asked zone is short held version fit =
    let all : sent list request moment ≡ written (messages_of asked.header.id zone) =
    sent_is list request moment asked is
    ∙ whole_zone request.octets asked zone (held_at (after list).table asked.question.name moment) held fit in
    rw all (back asked.header.id zone short version fit)

-- ---- messages one after the other
pub going_none : (all : List Content) (held : Option Octets) → IsGoing all all held held
going_none all held = record { gone = []; are = refl; written = gains_none held }

written_one : (gone : List Content) (m : Content)
    → stream (written (gone ++ m ∷ [])) ≡ stream (written gone) ++ frame (message_octets m)
written_one gone m =
    ap stream (map-append message_octets gone (m ∷ [])) ∙ flat_map-append frame (written gone) (message_octets m ∷ [])
    ∙ ap (λ octets. stream (written gone) ++ octets) (append-nil (frame (message_octets m)))

pub going_one : (all left rest : List Content) (m : Content) (octets : Octets) (before middle now : Option Octets)
    → left ≡ m ∷ rest → octets ≡ message_octets m
    → Gains (frame octets) middle now → IsGoing all left before middle → IsGoing all rest before now
going_one all left rest m octets before middle now are is gains was = record {
  gone = was.gone ++ m ∷ [];
  are = append_assoc was.gone (m ∷ []) rest ∙ ap (λ left. was.gone ++ left) (sym are) ∙ was.are;
  written = rw (written_one was.gone m)
      (gains_more (stream (written was.gone)) (frame (message_octets m)) before middle now was.written
      (rw is at gains));
}

pub going_all : (all left : List Content) (before now : Option Octets) → left ≡ [] → IsGoing all left before now
    → Gains (stream (written all)) before now
going_all all left before now none was =
    let are : was.gone ≡ all = sym (append-nil was.gone) ∙ ap (λ left. was.gone ++ left) (sym none) ∙ was.are in
    rw are at was.written

pub going_part : (all left rest : List Content) (m : Content) (octets : Octets) (before middle now : Option Octets)
    → left ≡ m ∷ rest → octets ≡ message_octets m
    → GainsPrefix (frame octets) middle now → IsGoing all left before middle
    → GainsPrefix (stream (written all)) before now
going_part all left rest m octets before middle now are is part was =
    let first : GainsPrefix (stream (written (was.gone ++ m ∷ []))) before now =
    rw (written_one was.gone m) (prefix_of_more (stream (written was.gone))
    (frame (message_octets m)) before middle now was.written (rw is at part)) in
    let whole : all ≡ (was.gone ++ m ∷ []) ++ rest =
    sym was.are ∙ ap (λ left. was.gone ++ left) are ∙ sym (append_assoc was.gone (m ∷ []) rest) in
    let split : stream (written all) ≡ stream (written (was.gone ++ m ∷ [])) ++ stream (written rest) =
    ap (λ messages. stream (written messages)) whole ∙ ap stream (map-append message_octets (was.gone ++ m ∷ []) rest)
    ∙ flat_map-append frame (written (was.gone ++ m ∷ [])) (written rest) in
    rw split (prefix_of_first (stream (written (was.gone ++ m ∷ []))) (stream (written rest)) before now first)
