-- Every reply that is written reads back.
use Rattle.dz_record.specs.Record.{IsRecord}
use Rattle.std.proofs.Common.{inl, inr, ◌≡◌, ℕ, ◌<◌, ◌^◌, Bool, List, [], ◌∷◌, length, take, drop, get_or, refl, ◌∙◌}
use Rattle.std.proofs.Common.{ap, subst, arith, Option, Some, None}
use Rattle.std.specs.Prelude.{map}
use Rattle.std.specs.List.{AllByRecursion, All}
use Rattle.std.proofs.lemmas.Bool.{cases_Bool}
use Rattle.dz_name.specs.Name.{lower, IsLabel, IsName}
use Rattle.dz_name.specs.Numbers.{number_of_two}
use Rattle.dz_name.proofs.KeptLemmas.{lower_label}
use Rattle.dz_header.specs.declared.question.Question.{Question}
use Rattle.dz_zone.specs.Version.{Zone}
use Rattle.dz_table.specs.Slot.{SlotOf, is_live}
use Rattle.dz_table.specs.Table.{closest_for}
use Rattle.dz_reply.specs.Secure.{asks_dnssec}
use Rattle.dz_header.specs.Code.{number_of}
use Rattle.dz_header.specs.Header.{header_in}
use Rattle.dz_header.specs.declared.header.Header.{Header}
use Rattle.dz_header.specs.declared.code.ResponseCode.TheVariants.{BadVers}
use Rattle.dz_header.specs.declared.code.ResponseCode.TheVariants as codes
use Rattle.dz_header.proofs.QuestionLemmas.{IsRaw, IsEcho, length_wire_lower}
use Rattle.dz_request.specs.Frame.{query_of}
use Rattle.dz_request.proofs.RequestLemmas.{EchoesIn, request_echo}
use Rattle.dz_reply.specs.Answer.{Sections, bare}
use Rattle.dz_reply.specs.Reply.{Reply, written, at_version, at_slot, reply_for, reply_of, IsReply}
use Rattle.dz_request.specs.Request.{request}
use Rattle.dz_header.specs.Writing.{Writing}
use Rattle.dz_reply.specs.declared.reply.Turn.{Turn}
use Rattle.dz_reply.specs.declared.reply.Turn.TheVariants.{Written}
use Rattle.dz_request.specs.declared.request.Request.{Request}
use Rattle.dz_request.specs.declared.request.Request.TheVariants.{Silent, Curt, NewerEdns, NotImp, Notify, Asks}
use Rattle.dz_reply.specs.ReadsBack.{ReadsBack, ReadsBackFor, SpellsReply, SpellsCurt}
use Rattle.dz_reply.specs.inner.AnswersHeld.{AnswersHeld, AnswersHeldFor}
use Rattle.dz_reply.proofs.ReadBackReplies.{AreHeld, reply_spells, curt_spells}
use Rattle.dz_reply.proofs.ReadBackSections.{each_held}
use Rattle.dz_reply.proofs.ReadBackSecure.{for_held}

-- a number of two octets has 16 bits
number_small : (octets : List ℕ) → ((i : ℕ) → get_or octets i 0 < 256) → number_of_two octets < 2 ^ 16
unfolding number_of_two
number_small octets bytes = omega (arith, bytes 0, bytes 1)

-- labels of a request are labels once they are in lower case
each_lower : (raws : List (List ℕ)) → AllByRecursion IsRaw raws → AllByRecursion IsLabel (map lower raws)
each_lower [] each = tt
each_lower (raw ∷ raws) each = (lower_label raw each.0.some each.0.short, each_lower raws each.1)

-- the question's name is a name
echo_name : (echo : List ℕ) (q : Question) → IsEcho echo q → IsName q.name
echo_name echo q is = rw is.name_is
    record { each = each_lower is.raws is.each; short = omega (arith, is.short, length_wire_lower is.raws) }

-- a reply without records
none_held : (code : ℕ) → AreHeld (bare code)
none_held code = record { answer = tt; authority = tt; additional = tt }

-- what answers shows records that are records
version_held : (dnssec : Bool) (version : Option Zone) (name : List (List ℕ)) (kind : ℕ)
    → ((v : Zone) → version ≡ Some v → All IsRecord v.records) → IsName name
    → AreHeld (at_version dnssec version name kind)
version_held dnssec None name kind held is = none_held 2
version_held dnssec (Some zone) name kind held is =
    for_held dnssec zone name kind (each_held zone.records (held zone refl)) is

-- the same of the zone that answers at a moment
slot_held : (dnssec : Bool) (slot : Option SlotOf) (moment : ℕ) (name : List (List ℕ)) (kind : ℕ)
    → AnswersHeld slot moment → IsName name → AreHeld (at_slot dnssec slot moment name kind)
slot_held dnssec None moment name kind held is = none_held 5
slot_held dnssec (Some slot) moment name kind held is = elim (cases_Bool (is_live slot moment)) [
  | inl t ↦ rw t (version_held dnssec slot.version name kind (held t) is)
  | inr f ↦ rw f (none_held 2)
]

-- two replies that are one have the same octets
text_is : (a b : List ℕ) → ◌≡◌ {A = Reply} (written a) (written b) → a ≡ b
text_is a b e = cc

-- a header that was read has an ID of 16 bits
id_small : (octets : List ℕ) (header : Header) → number_of_two octets < 2 ^ 16 → header ≡ header_in octets
    → header.id < 2 ^ 16
unfolding header_in
id_small octets header small is = rw is small

-- the reply to a request reads back, by what the request asks for
reads_back_for : (slots : List SlotOf) (octets : List ℕ) (moment : ℕ) (tcp : Bool) (r : Request) (text : List ℕ)
    → number_of_two octets < 2 ^ 16 → EchoesIn octets r → AnswersHeldFor slots moment r
    → reply_for slots octets moment tcp r ≡ written text → ReadsBackFor slots octets moment tcp r text
unfolding reply_for
reads_back_for slots octets moment tcp Silent text small echo held is = tt
reads_back_for slots octets moment tcp (Curt header code) text small echo held is =
    subst (λ m. SpellsCurt header (number_of code) m) (text_is _ text is)
    (curt_spells header (number_of code) (id_small octets header small echo))
reads_back_for slots octets moment tcp (NewerEdns asked) text small echo held is =
    let code : ℕ = number_of BadVers in
    subst (λ m. SpellsReply tcp (query_of octets asked) asked.question (bare code) m)
    (text_is _ text is) (reply_spells tcp (query_of octets asked) asked.question (bare code)
    (id_small octets asked.header small echo.header) echo.echo refl (none_held code))
reads_back_for slots octets moment tcp (NotImp asked) text small echo held is =
    let code : ℕ = number_of codes.NotImp in
    subst (λ m. SpellsReply tcp (query_of octets asked) asked.question (bare code) m)
    (text_is _ text is) (reply_spells tcp (query_of octets asked) asked.question (bare code)
    (id_small octets asked.header small echo.header) echo.echo refl (none_held code))
reads_back_for slots octets moment tcp (Notify asked) text small echo held is = tt
reads_back_for slots octets moment tcp (Asks asked) text small echo held is =
    let name : List (List ℕ) = asked.question.name in
    let s : Sections = at_slot (asks_dnssec asked.edns)
    (closest_for slots name asked.question.kind) moment name asked.question.kind in
    let are : AreHeld s = slot_held (asks_dnssec asked.edns) (closest_for slots name asked.question.kind) moment name
    asked.question.kind held (echo_name (take asked.size (drop 12 octets)) asked.question echo.echo) in
    subst (λ m. SpellsReply tcp (query_of octets asked) asked.question s m) (text_is _ text is) (reply_spells tcp
    (query_of octets asked) asked.question s (id_small octets asked.header small echo.header) echo.echo refl are)

-- what was written is the reply
was_written : (w : Writing) (reply : Reply) (text : List ℕ) (turn : Turn) → IsReply turn w reply → w.octets ≡ Some text
    → turn ≡ Written (length text) → reply ≡ written text
was_written w reply text turn is some e =
    let there : IsReply (Written (length text)) w reply = rw e at is in
    let same : there.0 ≡ text = cc (there.1) in
    there.3 ∙ ap written same

-- every reply that is written reads back
pub reads_back : (slots : List SlotOf) (octets : List ℕ) (moment : ℕ) (tcp : Bool) (turn : Turn) (w : Writing)
    (text : List ℕ) → ((i : ℕ) → get_or octets i 0 < 256) → AnswersHeldFor slots moment (request octets)
    → IsReply turn w (reply_of slots octets moment tcp) → w.octets ≡ Some text → turn ≡ Written (length text)
    → ReadsBack slots octets moment tcp text
unfolding reply_of ReadsBack
reads_back slots octets moment tcp turn w text bytes held is some e =
    reads_back_for slots octets moment tcp (request octets) text (number_small octets bytes) (request_echo octets) held
    (was_written w (reply_for slots octets moment tcp (request octets)) text turn is some e)
