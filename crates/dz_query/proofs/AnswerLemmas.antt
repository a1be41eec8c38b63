-- What is due, by the reply of the table; and that every reply fits after its length.
use Rattle.std.proofs.Common.{◌≡◌, inl, inr, ℕ, ◌≤◌, Bool, false, List, length, take, Option, refl, sym, ap, ◌∙◌}
use Rattle.std.proofs.Common.{arith, length-append}
use Rattle.std.specs.Prelude.{IsSome}
use Rattle.std.proofs.lemmas.Bool.Decides.{leb_tells}
use Rattle.std.proofs.Math.Seq.{take-length}
use Rattle.std.proofs.lemmas.List.{append-nil}
use Rattle.dz_name.specs.Words.{Octets}
use Rattle.dz_message.specs.Frame.{frame, stream}
use Rattle.dz_header.specs.Code.{number_of}
use Rattle.dz_header.specs.Writing.{Writing}
use Rattle.dz_header.specs.declared.question.Question.{Question}
use Rattle.dz_header.proofs.QuestionLemmas.{IsEcho}
use Rattle.dz_io.specs.Packets.{Packet, packet}
use Rattle.dz_io.specs.declared.peer.Peer.{Peer}
use Rattle.dz_request.specs.Frame.{Query, query_of, limit_of, within_limit, curt_octets, reply_flags}
use Rattle.dz_request.specs.Request.{request}
use Rattle.dz_request.specs.declared.request.Asked.{Asked}
use Rattle.dz_request.specs.declared.request.Request.{Request}
use Rattle.dz_request.specs.declared.request.Request.TheVariants.{Silent, Curt, NewerEdns, NotImp, Notify, Asks}
use Rattle.dz_request.proofs.FrameLemmas.{cut_fits, most_limit, length_header}
use Rattle.dz_request.proofs.RequestLemmas.{EchoesIn, IsTakenFrom, request_echo}
use Rattle.dz_notify.specs.Notify.{notify_zone, notify_zone_in}
use Rattle.dz_notify.specs.Reply.{notify_reply_of}
use Rattle.dz_notify.specs.declared.notify.Heard.{Heard}
use Rattle.dz_history.specs.Heard.{heard_at}
use Rattle.dz_table.specs.Slot.{SlotOf}
use Rattle.dz_reply.specs.Answer.{Sections, octets_of, whole_octets}
use Rattle.dz_reply.specs.Reply.{Reply, written, notify, reply_for, reply_of}
use Rattle.dz_history.specs.declared.entry.Entry.{Entry}
use Rattle.dz_query.specs.Answer.{reply_at}
use Rattle.dz_query.specs.Due.{due_of, due}
use Rattle.dz_query.specs.Served.{sent_of, IsExcused}
use Rattle.dz_query.specs.inner.Replying.{IsAnswered, IsShort, IsShortText, fate_of, texts_of}
use Rattle.dz_query.specs.declared.answered.Answered.{Answered}
use Rattle.dz_query.specs.declared.answered.Answered.TheVariants as answers

-- ---- what is due
pub due_is : (list : List Entry) (tcp : Bool) (octets : Octets) (peer : Peer) (moment : ℕ) (reply : Reply)
    → reply_at list octets moment tcp ≡ reply
    → due list tcp (packet octets peer) moment ≡ due_of reply list (packet octets peer)
unfolding due
due_is list tcp octets peer moment reply is = ap (λ r. due_of r list (packet octets peer)) is

-- a request that is answered as a NOTIFY names its zone
names_for : (slots : List SlotOf) (octets : Octets) (moment : ℕ) (tcp : Bool) (zone : List Octets) (r : Request)
    → reply_for slots octets moment tcp r ≡ notify zone → IsSome (notify_zone r)
unfolding reply_for
names_for slots octets moment tcp zone Silent is = absurd (cc is)
names_for slots octets moment tcp zone (Curt header code) is = absurd (cc is)
names_for slots octets moment tcp zone (NewerEdns asked) is = absurd (cc is)
names_for slots octets moment tcp zone (NotImp asked) is = absurd (cc is)
names_for slots octets moment tcp zone (Notify asked) is = refl
names_for slots octets moment tcp zone (Asks asked) is = absurd (cc is)

pub names_zone : (slots : List SlotOf) (octets : Octets) (moment : ℕ) (tcp : Bool) (zone : List Octets)
    → reply_of slots octets moment tcp ≡ notify zone → IsSome (notify_zone_in octets)
unfolding reply_of
names_zone slots octets moment tcp zone is = names_for slots octets moment tcp zone (request octets) is

-- ---- how long a reply is
within_fits : (tcp : Bool) (query : Query) (code : ℕ) (authoritative : Bool) (octets : Octets)
    → length query.echo ≤ 259 → length (within_limit tcp query code authoritative octets) ≤ 65535
unfolding within_limit
within_fits tcp query code authoritative octets short =
    let most = most_limit tcp query.edns in
    elim (leb_tells (length octets) (limit_of tcp query.edns)) [
      | inl v ↦ rw v.0 (omega (arith, v.1, most))
      | inr v ↦ rw v.0 (omega (arith, cut_fits tcp query code authoritative short, most))
    ]

octets_fit : (tcp : Bool) (query : Query) (s : Sections) → length query.echo ≤ 259
    → length (octets_of tcp query s) ≤ 65535
unfolding octets_of
octets_fit tcp query s short = within_fits tcp query s.code s.authoritative (whole_octets query s) short

echo_short : (echo : Octets) (q : Question) → IsEcho echo q → length echo ≤ 259
echo_short echo q is = omega (arith, ap length is.echo_is ∙ length-append _ is.tail, is.short, is.four)

same_text : (a b : Octets) → written a ≡ written b → a ≡ b
same_text a b is = cc (is)

text_fits : (tcp : Bool) (octets : Octets) (asked : Asked) (s : Sections) (text : Octets) → IsTakenFrom octets asked
    → written (octets_of tcp (query_of octets asked) s) ≡ written text → length text ≤ 65535
text_fits tcp octets asked s text taken is =
    rw (sym (same_text (octets_of tcp (query_of octets asked) s) text is))
    (octets_fit tcp (query_of octets asked) s (echo_short _ asked.question taken.echo))

fits_for : (slots : List SlotOf) (octets : Octets) (moment : ℕ) (tcp : Bool) (text : Octets) (r : Request)
    → EchoesIn octets r → reply_for slots octets moment tcp r ≡ written text → length text ≤ 65535
unfolding reply_for curt_octets
fits_for slots octets moment tcp text Silent echoes is = absurd (cc is)
fits_for slots octets moment tcp text (Curt header code) echoes is =
    rw (sym (same_text _ text is))
    (omega (arith, length_header header.id (reply_flags header.flags (number_of code) false false) 0 0 0 0))
fits_for slots octets moment tcp text (NewerEdns asked) echoes is = text_fits tcp octets asked _ text echoes is
fits_for slots octets moment tcp text (NotImp asked) echoes is = text_fits tcp octets asked _ text echoes is
fits_for slots octets moment tcp text (Notify asked) echoes is = absurd (cc is)
fits_for slots octets moment tcp text (Asks asked) echoes is = text_fits tcp octets asked _ text echoes is

pub reply_fits : (slots : List SlotOf) (octets : Octets) (moment : ℕ) (tcp : Bool) (text : Octets)
    → reply_of slots octets moment tcp ≡ written text → length text ≤ 65535
unfolding reply_of
reply_fits slots octets moment tcp text is =
    fits_for slots octets moment tcp text (request octets) (request_echo octets) is

-- the reply to a NOTIFY, once it is heard
pub due_heard : (list : List Entry) (tcp : Bool) (octets : Octets) (peer : Peer) (moment : ℕ) (zone : List Octets)
    (heard : Heard) → reply_at list octets moment tcp ≡ notify zone → heard ≡ heard_at list peer zone
    → due list tcp (packet octets peer) moment ≡ notify_reply_of octets heard
due_heard list tcp octets peer moment zone heard is by =
    due_is list tcp octets peer moment (notify zone) is ∙ ap (notify_reply_of octets) (sym by)

-- ---- what goes out
pub goes_out : (may_fail : Type 0) (answered : Answered) (w : Writing) (request : Packet) (due : Option Octets)
    → IsAnswered may_fail answered w request due → texts_of answered w ≡ sent_of (fate_of answered) due
goes_out may_fail answers.Silent w request due is = rw is refl
goes_out may_fail (answers.Written count) w request due is = rw (is.written, is.is) refl
goes_out may_fail answers.Unheard w request due is = refl

pub excused : (may_fail : Type 0) (tcp : Bool) (answered : Answered) (w : Writing)
    (request : Packet) (due : Option Octets) → IsAnswered may_fail answered w request due
    → IsExcused may_fail tcp (fate_of answered) request
excused may_fail tcp answers.Silent w request due is = tt
excused may_fail tcp (answers.Written count) w request due is = tt
excused may_fail tcp answers.Unheard w request due is = is

pub short : (may_fail : Type 0) (answered : Answered) (w : Writing) (request : Packet) (due : Option Octets)
    → IsAnswered may_fail answered w request due → IsShort answered w
short may_fail answers.Silent w request due is = tt
short may_fail (answers.Written count) w request due is =
    record { text = is.text; written = is.written; counts = is.counts; short = is.short }
short may_fail answers.Unheard w request due is = tt

pub framed_text : (count : ℕ) (w : Writing) (octets : Octets) (s : IsShortText count w) → octets ≡ take count s.text
    → stream (texts_of (answers.Written count) w) ≡ frame octets
framed_text count w octets s is =
    let whole : octets ≡ s.text = is ∙ ap (λ n. take n s.text) s.counts ∙ take-length s.text in
    rw (s.written, whole) (append-nil (frame s.text))
