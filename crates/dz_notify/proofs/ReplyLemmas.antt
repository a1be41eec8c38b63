-- Replies to NOTIFY: their octets, and what they read as.
use Rattle.std.proofs.Common.{◌≡◌, ℕ, ◌<◌, ◌≤◌, ◌^◌, true, false, List, ◌++◌, length, get_or, refl, sym, ap, subst}
use Rattle.std.proofs.Common.{arith, append_assoc, length-append, length-take-le, length-drop, Option, Some, None}
use Rattle.std.specs.Prelude.{nat_le, drop}
use Rattle.std.proofs.lemmas.Bool.Decides.{nat_tests}
use Rattle.dz_name.specs.Numbers.{number_of_two}
use Rattle.dz_header.specs.Code.{number_of}
use Rattle.dz_header.specs.Edns.{opt_count, opt_octets}
use Rattle.dz_header.specs.Header.{header_in}
use Rattle.dz_header.specs.declared.code.ResponseCode.{ResponseCode}
use Rattle.dz_header.specs.declared.edns.Edns.{Edns}
use Rattle.dz_header.specs.declared.header.Header.{Header}
use Rattle.dz_header.proofs.FlagsLemmas.{read_back}
use Rattle.dz_header.proofs.HeaderLemmas.{header_there}
use Rattle.dz_header.proofs.PlaceLemmas.{drop_there}
use Rattle.dz_header.proofs.QuestionLemmas.{echo_reads}
use Rattle.dz_request.specs.Frame.{Query, query_of, reply_flags, head_octets, limit_of, within_limit, bare_octets}
use Rattle.dz_request.specs.Request.{request, IsWhole}
use Rattle.dz_request.specs.declared.request.Asked.{Asked}
use Rattle.dz_request.specs.declared.request.Request.{Request}
use Rattle.dz_request.specs.declared.request.Request.TheVariants.{Silent, Curt, NewerEdns, NotImp, Notify, Asks}
use Rattle.dz_request.proofs.FrameLemmas.{length_head, length_opt, least_limit}
use Rattle.dz_request.proofs.RequestLemmas.{EchoesIn, IsTakenFrom, request_echo}
use Rattle.dz_notify.specs.Reply.{code_for, notify_reply_for, notify_reply_of}
use Rattle.dz_notify.specs.ReadsBack.{SpellsReply, ReadsBackFor, ReadsBack}
use Rattle.dz_notify.specs.declared.notify.Heard.{Heard}

-- the question's octets are as many as were read
pub length_echo : (octets : List ℕ) (asked : Asked) → IsWhole octets asked.size
    → length (query_of octets asked).echo ≡ asked.size
length_echo octets asked whole =
    length-take-le asked.size (drop 12 octets) (omega (arith, whole.within, length-drop 12 octets))

-- a reply without records is short
pub bare_short : (octets : List ℕ) (asked : Asked) (code : ℕ) → IsWhole octets asked.size
    → length (bare_octets (query_of octets asked) code) ≤ 512
unfolding bare_octets
bare_short octets asked code whole =
    let query : Query = query_of octets asked in
    let head : List ℕ = head_octets query code false false 0 0 (opt_count asked.edns) in
    omega (
      arith,
      whole.short,
      length_echo octets asked whole,
      length-append head (opt_octets code asked.edns),
      length_head query code false false 0 0 (opt_count asked.edns),
      length_opt code asked.edns,
    )

-- so it isn't cut
pub bare_whole : (octets : List ℕ) (asked : Asked) (code : ℕ) → IsWhole octets asked.size
    → within_limit false (query_of octets asked) code false (bare_octets (query_of octets asked) code)
    ≡ bare_octets (query_of octets asked) code
unfolding within_limit
bare_whole octets asked code whole =
    let text : List ℕ = bare_octets (query_of octets asked) code in
    let short = bare_short octets asked code whole in
    let least = least_limit false asked.edns in
    let fits : length text ≤ limit_of false asked.edns = omega arith in
    let t : nat_le (length text) (limit_of false asked.edns) ≡ true = grind (arith, nat_tests) in rw t refl

-- the reply to a NOTIFY with this code
pub replied : (octets : List ℕ) (heard : Heard) (asked : Asked) (code : ResponseCode) → Notify asked ≡ request octets
    → code_for heard ≡ Some code
    → notify_reply_of octets heard ≡ Some (bare_octets (query_of octets asked) (number_of code))
unfolding notify_reply_of notify_reply_for
replied octets heard asked code is said =
    subst (λ r. notify_reply_for octets heard r ≡ Some (bare_octets (query_of octets asked) (number_of code))) is
    (rw said refl)

-- without a code there is no reply
silent_for : (octets : List ℕ) (heard : Heard) (r : Request) → code_for heard ≡ None
    → notify_reply_for octets heard r ≡ None
unfolding notify_reply_for
silent_for octets heard Silent h = refl
silent_for octets heard (Curt header code) h = refl
silent_for octets heard (NewerEdns asked) h = refl
silent_for octets heard (NotImp asked) h = refl
silent_for octets heard (Notify asked) h = rw h refl
silent_for octets heard (Asks asked) h = refl

pub silent : (octets : List ℕ) (heard : Heard) → code_for heard ≡ None → notify_reply_of octets heard ≡ None
unfolding notify_reply_of
silent octets heard h = silent_for octets heard (request octets) h

-- a number of two octets has 16 bits
number_small : (octets : List ℕ) → ((i : ℕ) → get_or octets i 0 < 256) → number_of_two octets < 2 ^ 16
unfolding number_of_two
number_small octets bytes = omega (arith, bytes 0, bytes 1)

id_small : (octets : List ℕ) (header : Header) → ((i : ℕ) → get_or octets i 0 < 256) → header ≡ header_in octets
    → header.id < 2 ^ 16
unfolding header_in
id_small octets header bytes is = rw is (number_small octets bytes)

few_opts : (edns : Option Edns) → opt_count edns < 2 ^ 16
few_opts None = omega arith
few_opts (Some edns) = omega arith

-- header, question and OPT record read back
spells : (octets : List ℕ) (asked : Asked) (code : ℕ) → ((i : ℕ) → get_or octets i 0 < 256) → IsTakenFrom octets asked
    → IsWhole octets asked.size
    → SpellsReply asked code (bare_octets (query_of octets asked) code)
unfolding bare_octets head_octets
spells octets asked code bytes taken whole =
    let query : Query = query_of octets asked in
    let opt : List ℕ = opt_octets code asked.edns in
    let m : List ℕ = bare_octets query code in
    let flags : ℕ = reply_flags asked.header.flags code false false in
    let there = header_there m asked.header.id flags 1 0 0 (opt_count asked.edns) (query.echo ++ opt)
    (id_small octets asked.header bytes taken.header) (read_back _).small (omega arith) (omega arith) (omega arith)
    (few_opts asked.edns) (append_assoc _ query.echo opt) in
    let size = length_echo octets asked whole in
    record {
      id = ap (λ h. h.id) there.header_is;
      flags = ap (λ h. h.flags) there.header_is;
      counts = ap (λ h. h.counts) there.header_is;
      question = rw size at (echo_reads m 12 query.echo opt asked.question taken.echo there.behind);
      opt = drop_there m 12 asked.size query.echo opt there.behind size;
    }

-- the reply to a NOTIFY reads back
pub reads : (octets text : List ℕ) (heard : Heard) (asked : Asked) (code : ResponseCode)
    → ((i : ℕ) → get_or octets i 0 < 256) → Notify asked ≡ request octets → code_for heard ≡ Some code
    → IsWhole octets asked.size → bare_octets (query_of octets asked) (number_of code) ≡ text
    → ReadsBack octets heard text
unfolding ReadsBack
reads octets text heard asked code bytes is said whole e =
    let taken : EchoesIn octets (Notify asked) = subst (EchoesIn octets) (sym is) (request_echo octets) in
    let there : SpellsReply asked (number_of code) text = subst (λ xs. SpellsReply asked (number_of code) xs) e
    (spells octets asked (number_of code) bytes taken whole) in
    subst (λ r. ReadsBackFor heard r text) is (rw said there)
