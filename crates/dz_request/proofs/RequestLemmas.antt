-- Steps of reading a request, written as the code's loop takes them; and what a reply takes from its request.
use Rattle.std.proofs.Common.{◌≡◌, ℕ, ◌+◌, ◌-◌, ◌<◌, ◌≤◌, Bool, true, false, suc, List, length, take, drop, refl}
use Rattle.std.proofs.Common.{subst, arith, Option, Some, None, Result, Ok, Err, if◌then◌else◌}
use Rattle.std.specs.Prelude.{nat_lt, not, ◌==◌, ◌&&◌, slice_index}
use Rattle.std.proofs.lemmas.Bool.{cases_Bool}
use Rattle.std.proofs.lemmas.Bool.Decides.{nat_tests}
use Rattle.std.proofs.lemmas.Option.{option_and_then_some}
use Rattle.std.proofs.Common.{inl, inr}
use Rattle.dz_name.specs.Name.{wire_of}
use Rattle.dz_name.specs.declared.wire_fault.WireFault.{WireFault}
use Rattle.dz_header.specs.Flags.{is_response, opcode_of}
use Rattle.dz_header.specs.Header.{header_in}
use Rattle.dz_header.specs.Question.{question_at}
use Rattle.dz_header.specs.Shape.{behind_records}
use Rattle.dz_header.specs.declared.code.ResponseCode.TheVariants as codes
use Rattle.dz_header.specs.declared.header.Header.{Header}
use Rattle.dz_header.specs.declared.question.Question.{Question}
use Rattle.dz_header.proofs.QuestionLemmas.{IsEcho, question_echo}
use Rattle.dz_request.specs.declared.request.Asked.{Asked}
use Rattle.dz_request.specs.declared.request.Request.{Request}
use Rattle.dz_request.specs.declared.request.Request.TheVariants.{Silent, Curt, NewerEdns, NotImp, Notify, Asks}
use Rattle.dz_header.specs.Shape.{◌>>=◌, shape_of}
use Rattle.dz_header.specs.declared.edns.Edns.{Edns}
use Rattle.dz_request.specs.Request.{is_in_place, without_pointer, question_in, opt_in, add_shape, asked_in, asked_of}
use Rattle.dz_request.specs.Request.{is_newer, is_unasked, asked_for, readable, with_header, request}

pub opt_step : (count i : ℕ) (octets : List ℕ) (found : Option Edns) → i < count → opt_in (count - i) octets found
    ≡ (shape_of octets >>= λ shape. add_shape shape.0 found >>= λ now. opt_in (count - (i + 1)) shape.2 now)
unfolding opt_in
opt_step count i octets found h = let e : count - i ≡ suc (count - (i + 1)) = omega arith in rw e refl

pub opt_done : (count i : ℕ) (octets : List ℕ) (found : Option Edns) → count ≤ i
    → opt_in (count - i) octets found ≡ Some found
unfolding opt_in
opt_done count i octets found h = let e : count - i ≡ 0 = omega arith in rw e refl

-- what a reply takes from its request: the header, and the octets of the question
pub record IsTakenFrom (octets : List ℕ) (asked : Asked) : Type 0 where
  pub header : asked.header ≡ header_in octets
  pub echo : IsEcho (take asked.size (drop 12 octets)) asked.question

-- the same of each kind of request
abbrev pub EchoesIn : List ℕ → Request → Type 0
EchoesIn octets Silent = Unit {0}
EchoesIn octets (Curt header code) = header ≡ header_in octets
EchoesIn octets (NewerEdns asked) = IsTakenFrom octets asked
EchoesIn octets (NotImp asked) = IsTakenFrom octets asked
EchoesIn octets (Notify asked) = IsTakenFrom octets asked
EchoesIn octets (Asks asked) = IsTakenFrom octets asked

-- the octets of a question that was found
abbrev IsFoundIn : List ℕ → Question × ℕ → Type 0
IsFoundIn octets found = IsEcho (take (found.1 - 12) (drop 12 octets)) found.0

found_echo : (octets : List ℕ) (r : Result (Question × ℕ) WireFault) (found : Question × ℕ) → question_at octets 12 ≡ r
    → without_pointer r ≡ Some found → IsFoundIn octets found
found_echo octets (Err fault) found is h = absurd (cc)
found_echo octets (Ok read) found is h = elim (cases_Bool (is_in_place read)) [
  | inr other ↦ let p = rw other at h in absurd (cc)
  | inl place ↦
      let p : ◌≡◌ {A = Option (Question × ℕ)} (Some read) (Some found) = rw place at h in
      let e : read ≡ found = cc in
      let end : read.1 ≡ 12 + (length (wire_of read.0.name) + 4) = grind (arith, nat_tests, place) in
      subst (IsFoundIn octets) e (question_echo octets 12 read.1 read.0 is end)
]

pub question_in_echo : (octets : List ℕ) (found : Question × ℕ) → question_in octets ≡ Some found
    → IsEcho (take (found.1 - 12) (drop 12 octets)) found.0
unfolding question_in
question_in_echo octets found is = found_echo octets (question_at octets 12) found refl is

-- two values that are one
some_is : {A : Type 0} (a b : A) → ◌≡◌ {A = Option A} (Some a) (Some b) → a ≡ b
some_is a b e = cc

-- a request that can be read has the question that was found
asked_echo : (octets : List ℕ) (o : Option (Question × ℕ)) (asked : Asked)
    → ((found : Question × ℕ) → o ≡ Some found → IsFoundIn octets found)
    → asked_in octets (header_in octets) o ≡ Some asked → IsTakenFrom octets asked
unfolding asked_in
asked_echo octets None asked each h = absurd (cc)
asked_echo octets (Some found) asked each h =
    let header : Header = header_in octets in
    option_and_then_some (λ rest. opt_in (slice_index header.counts 3) rest None >>= λ edns.
    Some (record { header = header; question = found.0; size = found.1 - 12; edns = edns }))
    (behind_records (slice_index header.counts 1 + slice_index header.counts 2) (drop found.1 octets)) asked h
    (λ rest _ h2. option_and_then_some
    (λ edns. Some (record { header = header; question = found.0; size = found.1 - 12; edns = edns }))
    (opt_in (slice_index header.counts 3) rest None) asked h2
    (λ edns _ h3.
    let e : record { header = header; question = found.0; size = found.1 - 12; edns = edns } ≡ asked =
    some_is _ asked h3 in
    subst (IsTakenFrom octets) e (record { header = refl; echo = each found refl })))

-- what holds of both cases holds of a choice
either : (P : Request → Type 0) (b : Bool) (x y : Request) → P x → P y → P (if b then x else y)
either P true x y p q = p
either P false x y p q = q

asked_for_echo : (octets : List ℕ) (opcode : ℕ) (asked : Asked) → IsTakenFrom octets asked
    → EchoesIn octets (asked_for opcode asked)
unfolding asked_for
asked_for_echo octets opcode asked is =
    either (EchoesIn octets) (is_newer asked.edns) _ _ is
    (either (EchoesIn octets) (not (asked.question.class == 1)) _ _ is
    (either (EchoesIn octets) (opcode == 0) _ _ (either (EchoesIn octets) (is_unasked asked.question.kind) _ _ is is)
    (either (EchoesIn octets) (asked.question.kind == 6) _ _ is is)))

-- the same where the question may not be readable
readable_echo : (octets : List ℕ) (o : Option Asked) → ((asked : Asked) → o ≡ Some asked → IsTakenFrom octets asked)
    → EchoesIn octets (readable (header_in octets) o)
readable_echo octets None h = refl
readable_echo octets (Some asked) h = asked_for_echo octets (opcode_of (header_in octets).flags) asked (h asked refl)

-- what a test lets pass
asked_if : (b : Bool) (o : Option Asked) (asked : Asked) → (if b then o else None) ≡ Some asked → o ≡ Some asked
asked_if true o asked h = h
asked_if false o asked h = absurd (cc)

-- the header is that of the request, and the octets that are echoed spell the question that was read
pub request_echo : (octets : List ℕ) → EchoesIn octets (request octets)
unfolding request with_header
request_echo octets =
    let header : Header = header_in octets in
    either (EchoesIn octets) (nat_lt (length octets) 12) Silent _ tt
    (either (EchoesIn octets) (is_response header.flags) Silent _ tt
    (either (EchoesIn octets) (not (opcode_of header.flags == 0) && not (opcode_of header.flags == 4))
    (Curt header codes.NotImp) _ refl
    (readable_echo octets (asked_of octets header (question_in octets))
    (λ asked h. asked_echo octets (question_in octets) asked (question_in_echo octets)
    (asked_if (slice_index header.counts 0 == 1) (asked_in octets header (question_in octets)) asked h)))))
