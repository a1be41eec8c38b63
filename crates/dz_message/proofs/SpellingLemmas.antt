-- Octets spell a message just where reading them gives it.
use Rattle.std.proofs.Common.{◌≡◌, ℕ, zero, suc, ◌-◌, ◌+◌, ◌≤◌, List, [], ◌∷◌, ◌++◌, length, drop, Option, Some, None}
use Rattle.std.proofs.Common.{Result, Ok, Err, refl, sym, ap, ◌∙◌, subst, arith, Bool, true, false, inl, inr}
use Rattle.std.proofs.Common.{length-drop}
use Rattle.std.specs.Prelude.{nat_le, nat_lt, ◌==◌, ◌||◌, not, slice_index, if◌then◌else◌, IfOk, IfErr}
use Rattle.std.proofs.lemmas.Bool.Decides.{nat_tests, leb_tells}
use Rattle.dz_name.specs.Numbers.{number_of_two, number_of_four}
use Rattle.dz_name.specs.Reading.{Reads, name_at}
use Rattle.dz_name.proofs.ReadingLemmas.{name_at_is, name_at_reads}
use Rattle.dz_header.specs.declared.header.Header.{Header}
use Rattle.dz_header.specs.Header.{header_in}
use Rattle.dz_header.specs.Shape.{behind_records}
use Rattle.dz_record.specs.declared.fields.Field.{Field}
use Rattle.dz_record.specs.declared.fields.Field.TheVariants.{FixedLength, DomainName, CharacterString, Remainder}
use Rattle.dz_record.specs.Fields.{fields_of}
use Rattle.dz_record.specs.Record.{Record, is_bad_type, ttl_of}
use Rattle.dz_message.specs.declared.fault.MessageFault.{MessageFault}
use Rattle.dz_message.specs.declared.fault.MessageFault.TheVariants.{Wire, ShortHeader, BadRdata, BadType, Trailing}
use Rattle.dz_message.specs.declared.fault.MessageError.{MessageError}
use Rattle.dz_message.specs.declared.fault.MessageError.TheVariants.{OutOfMemory}
use Rattle.dz_message.specs.declared.fault.MessageError.TheVariants as errors
use Rattle.dz_header.specs.declared.question.Question.{Question}
use Rattle.dz_header.specs.Question.{question_at}
use Rattle.dz_header.specs.RecordHead.{head_in, head_of}
use Rattle.dz_header.specs.declared.record_head.RecordHead.{RecordHead}
use Rattle.dz_header.proofs.QuestionLemmas.{question_read}
use Rattle.std.proofs.lemmas.List.{drop-drop}
use Rattle.dz_message.specs.Message.{Content}
use Rattle.dz_message.specs.Reading.{◌>>=◌, named, all_there, question_in, head_at, octets_at, name_within, field_at}
use Rattle.dz_message.specs.Reading.{rdata_at, rdata_of, record_at, many, ended, count_in, content_of, message_of}
use Rattle.dz_message.specs.Answers.{Gives}
use Rattle.dz_message.specs.Spelling.{IsNameAt, IsQuestion, AreOctets, IsNameWithin, IsField, AreFields, no_field}
use Rattle.dz_message.specs.Spelling.{one_field, IsRecordAt, Each, no_one, one_first, Spells}
use Rattle.dz_message.specs.Answers.{SpellsNone}
use Rattle.dz_message.proofs.FitLemmas.{then_ok, ok_is, taken, named_ok, name_read}

-- what a test leaves where the whole is an Ok
passed : {A : Type 0} (b : Bool) (e : MessageFault) (r : Result A MessageFault) (y : A)
    → (if b then Err e else r) ≡ Ok y → (b ≡ false) × (r ≡ Ok y)
passed true e r y h = absurd (cc)
passed false e r y h = (refl, h)

kept : {A : Type 0} (b : Bool) (e : MessageFault) (r : Result A MessageFault) (y : A) → (if b then r else Err e) ≡ Ok y
    → (b ≡ true) × (r ≡ Ok y)
kept true e r y h = (refl, h)
kept false e r y h = absurd (cc)

neither : (a b : Bool) → (not a || b) ≡ false → (a ≡ true) × (b ≡ false)
neither true b h = (refl, h)
neither false b h = absurd (cc)

-- names
name_is : (m : List ℕ) (at : ℕ) (name : List (List ℕ)) (next : ℕ) → IsNameAt m at name next
    → named (name_at m at) ≡ Ok (name, next)
name_is m at name next reads = rw (name_at_is m at (Ok (name, next)) reads) refl

is_name : (m : List ℕ) (at : ℕ) (x : List (List ℕ) × ℕ) → named (name_at m at) ≡ Ok x → IsNameAt m at x.0 x.1
is_name m at x h = subst (λ r. Reads m at 0 at r) (named_ok (name_at m at) x h) (name_at_reads m at)

-- questions
question_is : (m : List ℕ) (at : ℕ) (q : Question) (next : ℕ) → IsQuestion m at q next
    → question_in m at ≡ Ok (q, next)
unfolding question_in question_at
question_is m at q next is =
    let t : nat_lt (length m - is.behind) 4 ≡ false = grind (arith, nat_tests, is.within, is.next_is) in
    let class : number_of_two (drop 2 (drop is.behind m)) ≡ q.class =
    ap number_of_two (drop-drop 2 is.behind m) ∙ sym is.class in
    rw (name_at_is m at (Ok (q.name, is.behind)) is.name, t, ← is.kind, class, ← is.next_is) refl

is_question : (m : List ℕ) (at : ℕ) (x : Question × ℕ) → question_in m at ≡ Ok x → IsQuestion m at x.0 x.1
unfolding question_in
is_question m at x h =
    let parts = question_read m at x.1 x.0 (named_ok (question_at m at) x h) in
    record {
      behind = parts.behind;
      name = subst (λ r. Reads m at 0 at r) parts.name (name_at_reads m at);
      kind = ap (λ q. q.kind) parts.question_is;
      class = ap (λ q. q.class) parts.question_is ∙ ap number_of_two (drop-drop 2 parts.behind m);
      next_is = parts.end_is;
      within = parts.within;
    }

-- fields of RDATA
octets_are : (m : List ℕ) (at end count : ℕ) (piece : List ℕ) (next : ℕ) → AreOctets m at end count piece next
    → octets_at m at end count ≡ Ok (piece, next)
unfolding octets_at
octets_are m at end count piece next is =
    let t : nat_le count (end - at) ≡ true = grind (arith, nat_tests, is.within, is.next_is) in
    rw (t, is.piece_is, is.next_is) refl

are_octets : (m : List ℕ) (at end count : ℕ) (x : List ℕ × ℕ) → at ≤ end → octets_at m at end count ≡ Ok x
    → AreOctets m at end count x.0 x.1
are_octets m at end count x le h =
    let is = taken m at end count x h in
    record { next_is = is.next_is; within = omega (arith, is.few, is.next_is); piece_is = is.piece_is }

name_within_is : (m : List ℕ) (at end : ℕ) (piece : List ℕ) (next : ℕ) → IsNameWithin m at end piece next
    → name_within m at end ≡ Ok (piece, next)
unfolding name_within
name_within_is m at end piece next is =
    let t : nat_le next end ≡ true = grind (arith, nat_tests, is.within) in
    rw (name_is m at is.labels next is.name, t) (ap (λ p. Ok (p, next)) (sym is.piece_is))

is_name_within : (m : List ℕ) (at end : ℕ) (x : List ℕ × ℕ) → name_within m at end ≡ Ok x
    → IsNameWithin m at end x.0 x.1
is_name_within m at end x h =
    let is = name_read m at end x h in
    record {
      labels = is.labels;
      name = subst (λ r. Reads m at 0 at r) is.read (name_at_reads m at);
      within = is.within;
      piece_is = is.piece_is;
    }

field_is : (field : Field) (m : List ℕ) (at end : ℕ) (piece : List ℕ) (next : ℕ) → IsField m at end field piece next
    → field_at m at end field ≡ Ok (piece, next)
field_is (FixedLength count) m at end piece next is = octets_are m at end count piece next is
field_is DomainName m at end piece next is = name_within_is m at end piece next is
field_is CharacterString m at end piece next is = octets_are m at end (slice_index m at + 1) piece next is
field_is Remainder m at end piece next is = octets_are m at end (end - at) piece next is

is_field : (field : Field) (m : List ℕ) (at end : ℕ) (x : List ℕ × ℕ) → at ≤ end → field_at m at end field ≡ Ok x
    → IsField m at end field x.0 x.1 × (x.1 ≤ end)
is_field (FixedLength count) m at end x le h = let is = are_octets m at end count x le h in (is, is.within)
is_field DomainName m at end x le h = let is = is_name_within m at end x h in (is, is.within)
is_field CharacterString m at end x le h =
    let is = are_octets m at end (slice_index m at + 1) x le h in
    (is, is.within)
is_field Remainder m at end x le h = let is = are_octets m at end (end - at) x le h in (is, is.within)

fields_are : (m : List ℕ) (end : ℕ) {fields : List Field} {at : ℕ} {rdata : List ℕ} → AreFields m end fields at rdata
    → rdata_at m at end fields ≡ Ok rdata
unfolding rdata_at
fields_are m end no_field = let t : (end == end) ≡ true = grind (arith, nat_tests) in rw t refl
fields_are m end (one_field {field = field} {at = at} {next = next} piece others is rest) =
    rw (field_is field m at end piece next is, fields_are m end rest) refl

are_fields : (fields : List Field) (m : List ℕ) (at end : ℕ) (rdata : List ℕ) → at ≤ end
    → rdata_at m at end fields ≡ Ok rdata → AreFields m end fields at rdata
unfolding rdata_at
are_fields [] m at end rdata le h =
    let is = kept (at == end) BadRdata (Ok []) rdata h in
    let e : at ≡ end = grind (arith, nat_tests, is.0) in
    rw (e, ← ok_is [] rdata is.1) no_field
are_fields (field ∷ fields) m at end rdata le h =
    let piece = then_ok (field_at m at end field)
    (λ piece. rdata_at m piece.1 end fields >>= λ more. Ok (piece.0 ++ more)) rdata h in
    let more = then_ok (rdata_at m piece.0.1 end fields) (λ more. Ok (piece.0.0 ++ more)) rdata piece.2 in
    let is = is_field field m at end piece.0 le piece.1 in
    subst (λ xs. AreFields m end (field ∷ fields) at xs) (ok_is (piece.0.0 ++ more.0) rdata more.2)
    (one_field piece.0.0 more.0 is.0 (are_fields fields m piece.0.1 end more.0 is.1 more.1))

-- records
abbrev head_there : List ℕ → ℕ → RecordHead
head_there m at = record {
  kind = number_of_two (drop at m);
  class = number_of_two (drop (at + 2) m);
  ttl = number_of_four (drop (at + 4) m);
  size = number_of_two (drop (at + 8) m);
}

head_is_there : (m : List ℕ) (at : ℕ) → head_in (drop at m) ≡ head_there m at
unfolding head_in
head_is_there m at = rw (drop-drop 2 at m, drop-drop 4 at m, drop-drop 8 at m) refl

head_is : (m : List ℕ) (at : ℕ) → at + 10 ≤ length m → head_at m at ≡ Ok (head_there m at)
unfolding head_at
head_is m at le =
    let t : nat_lt (length (drop at m)) 10 ≡ false = grind (arith, nat_tests, length-drop at m) in
    rw (t, head_is_there m at) refl

head_read : (xs : List ℕ) (head : RecordHead) → ◌≡◌ {A = Result RecordHead MessageFault} (all_there (head_of xs))
    (Ok head) → (10 ≤ length xs) × (head_in xs ≡ head)
head_read xs head h = elim (leb_tells 10 (length xs)) [
  | inl w ↦
      let t : nat_lt (length xs) 10 ≡ false = grind (arith, nat_tests, w.1) in
      let p : ◌≡◌ {A = Result RecordHead MessageFault} (Ok (head_in xs)) (Ok head) = rw t at h in
      (w.1, cc)
  | inr w ↦ let t : nat_lt (length xs) 10 ≡ true = grind (arith, nat_tests, w.1) in let p = rw t at h in absurd (cc)
]

is_head : (m : List ℕ) (at : ℕ) (head : RecordHead) → head_at m at ≡ Ok head
    → (at + 10 ≤ length m) × (head_there m at ≡ head)
unfolding head_at
is_head m at head h =
    let is = head_read (drop at m) head h in
    (omega (arith, is.0, length-drop at m), sym (head_is_there m at) ∙ is.1)

record IsRdataOf (m : List ℕ) (at : ℕ) (head : RecordHead) (rdata : List ℕ) : Type 0 where
  class : head.class ≡ 1
  held : is_bad_type head.kind ≡ false
  within : at + head.size ≤ length m
  fields : AreFields m (at + head.size) (fields_of head.kind) at rdata
  short : length rdata ≤ 65535

rdata_is : (m : List ℕ) (at : ℕ) (head : RecordHead) (rdata : List ℕ) → IsRdataOf m at head rdata
    → rdata_of m at head ≡ Ok rdata
unfolding rdata_of
rdata_is m at head rdata is =
    let c : (head.class == 1) ≡ true = grind (arith, nat_tests, is.class) in
    let t : nat_lt (length m) (at + head.size) ≡ false = grind (arith, nat_tests, is.within) in
    let s : nat_le (length rdata) 65535 ≡ true = grind (arith, nat_tests, is.short) in
    rw (c, is.held, t, fields_are m (at + head.size) is.fields, s) refl

is_rdata_of : (m : List ℕ) (at : ℕ) (head : RecordHead) (rdata : List ℕ) → rdata_of m at head ≡ Ok rdata
    → IsRdataOf m at head rdata
unfolding rdata_of
is_rdata_of m at head rdata h =
    let kind = passed (not (head.class == 1) || is_bad_type head.kind) BadType _ rdata h in
    let good = neither (head.class == 1) (is_bad_type head.kind) kind.0 in
    let there = passed (nat_lt (length m) (at + head.size)) Wire _ rdata kind.1 in
    let read = then_ok (rdata_at m at (at + head.size) (fields_of head.kind))
    (λ out. if nat_le (length out) 65535 then Ok out else Err BadRdata) rdata there.1 in
    let short = kept (nat_le (length read.0) 65535) BadRdata (Ok read.0) rdata read.2 in
    let is : IsRdataOf m at head read.0 =
    record {
      class = grind (arith, nat_tests, good.0);
      held = good.1;
      within = grind (arith, nat_tests, there.0);
      fields = are_fields (fields_of head.kind) m at (at + head.size) read.0 (omega arith) read.1;
      short = grind (arith, nat_tests, short.0);
    } in
    subst (λ out. IsRdataOf m at head out) (ok_is read.0 rdata short.1) is

record_is : (m : List ℕ) (at : ℕ) (r : Record) (next : ℕ) → IsRecordAt m at r next → record_at m at ≡ Ok (r, next)
unfolding record_at
record_is m at r next is =
    let held : is_bad_type (number_of_two (drop is.behind m)) ≡ false =
    subst (λ k. is_bad_type k ≡ false) is.kind is.held in
    let typed : AreFields m next (fields_of (number_of_two (drop is.behind m))) (is.behind + 10) r.rdata =
    subst (λ k. AreFields m next (fields_of k) (is.behind + 10) r.rdata) is.kind is.rdata in
    let fields : AreFields m (is.behind + 10 + number_of_two (drop (is.behind + 8) m))
    (fields_of (number_of_two (drop is.behind m))) (is.behind + 10) r.rdata =
    subst (λ n. AreFields m n (fields_of (number_of_two (drop is.behind m))) (is.behind + 10) r.rdata)
    is.next_is typed in
    let of : IsRdataOf m (is.behind + 10) (head_there m is.behind) r.rdata =
    record {
      class = is.class;
      held = held;
      within = omega (arith, is.within, is.next_is);
      fields = fields;
      short = is.short;
    } in
    rw (
      name_is m at r.owner is.behind is.owner,
      head_is m is.behind (omega (arith, is.within, is.next_is)),
      rdata_is m (is.behind + 10) (head_there m is.behind) r.rdata of,
      ← is.kind,
      ← is.ttl,
      ← is.next_is,
    ) refl

abbrev record_behind : List (List ℕ) × ℕ → RecordHead → List ℕ → Record × ℕ
record_behind owner head rdata =
    (record { owner = owner.0; kind = head.kind; ttl = ttl_of head.ttl; rdata = rdata }, owner.1 + 10 + head.size)

is_record : (m : List ℕ) (at : ℕ) (x : Record × ℕ) → record_at m at ≡ Ok x → IsRecordAt m at x.0 x.1
unfolding record_at
is_record m at x h =
    let owner = then_ok (named (name_at m at)) (λ owner. head_at m owner.1 >>= λ head.
    rdata_of m (owner.1 + 10) head >>= λ rdata. Ok (record_behind owner head rdata)) x h in
    let head = then_ok (head_at m owner.0.1)
    (λ head. rdata_of m (owner.0.1 + 10) head >>= λ rdata. Ok (record_behind owner.0 head rdata)) x owner.2 in
    let rdata =
    then_ok (rdata_of m (owner.0.1 + 10) head.0) (λ rdata. Ok (record_behind owner.0 head.0 rdata)) x head.2 in
    let there = is_head m owner.0.1 head.0 head.1 in
    let of = is_rdata_of m (owner.0.1 + 10) head.0 rdata.0 rdata.1 in
    let is : IsRecordAt m at (record_behind owner.0 head.0 rdata.0).0 (record_behind owner.0 head.0 rdata.0).1 =
    record {
      behind = owner.0.1;
      owner = is_name m at owner.0 owner.1;
      kind = ap (λ f. f.kind) (sym there.1);
      class = ap (λ f. f.class) there.1 ∙ of.class;
      ttl = ap (λ f. ttl_of f.ttl) (sym there.1);
      next_is = ap (λ f. owner.0.1 + 10 + f.size) (sym there.1);
      within = of.within;
      held = of.held;
      rdata = of.fields;
      short = of.short;
    } in
    subst (λ y. IsRecordAt m at y.0 y.1) {x = record_behind owner.0 head.0 rdata.0}
    (ok_is (record_behind owner.0 head.0 rdata.0) x rdata.2) is

-- the given number of a kind
each_is : {X : Type 0} (One : ℕ → X → ℕ → Type 0) (one : ℕ → Result (X × ℕ) MessageFault)
    → ((at : ℕ) (x : X) (next : ℕ) → One at x next → one at ≡ Ok (x, next))
    → {at end : ℕ} {xs : List X} → Each One at xs end → many one (length xs) at ≡ Ok (xs, end)
unfolding many
each_is One one is no_one = refl
each_is One one is (one_first {at = at} {next = next} {x = x} first rest) =
    rw (is at x next first, each_is One one is rest) refl

is_each : {X : Type 0} (One : ℕ → X → ℕ → Type 0) (one : ℕ → Result (X × ℕ) MessageFault)
    → ((at : ℕ) (x : X × ℕ) → one at ≡ Ok x → One at x.0 x.1)
    → (count at : ℕ) (r : List X × ℕ) → many one count at ≡ Ok r → Each One at r.0 r.1 × (length r.0 ≡ count)
unfolding many
is_each {X} One one is zero at r h =
    let e : ◌≡◌ {A = List X × ℕ} ([], at) r = ok_is _ _ h in
    subst (λ y. Each One at y.0 y.1 × (length y.0 ≡ 0)) e (no_one, refl)
is_each {X} One one is (suc count) at r h =
    let first =
    then_ok (one at) (λ first. many one count first.1 >>= λ others. Ok (first.0 ∷ others.0, others.1)) r h in
    let others = then_ok (many one count first.0.1) (λ others. Ok (first.0.0 ∷ others.0, others.1)) r first.2 in
    let e : ◌≡◌ {A = List X × ℕ} (first.0.0 ∷ others.0.0, others.0.1) r = ok_is _ _ others.2 in
    let rest = is_each One one is count first.0.1 others.0 others.1 in
    subst (λ y. Each One at y.0 y.1 × (length y.0 ≡ suc count)) e
    (one_first (is at first.0 first.1) rest.0, ap suc rest.1)

-- nothing follows the last record
ends : (o : Option (List ℕ)) (rest : List ℕ) → ended o ≡ Ok rest → o ≡ Some []
ends None rest h = absurd (cc)
ends (Some []) rest h = refl
ends (Some (octet ∷ octets)) rest h =
    let none = (kept (length (octet ∷ octets) == 0) Trailing (Ok (octet ∷ octets)) rest h).0 in
    absurd (grind (arith, nat_tests, none))

-- the message that the octets spell is the message that is read
pub spells_is : (octets : List ℕ) (m : Content) → Spells octets m → message_of octets ≡ Ok m
unfolding message_of content_of
spells_is octets m is =
    let t : nat_lt (length octets) 12 ≡ false = grind (arith, nat_tests, is.long) in
    let questions : many (question_in octets) (count_in m.header 0) 12 ≡ Ok (m.questions, is.answers_at) =
    subst (λ n. many (question_in octets) n 12 ≡ Ok (m.questions, is.answers_at)) is.question_count
    (each_is (IsQuestion octets) (question_in octets) (question_is octets) is.questions) in
    let answers : many (record_at octets) (count_in m.header 1) is.answers_at ≡ Ok (m.answers, is.others_at) =
    subst (λ n. many (record_at octets) n is.answers_at ≡ Ok (m.answers, is.others_at)) is.answer_count
    (each_is (IsRecordAt octets) (record_at octets) (record_is octets) is.answers) in
    rw (t, ← is.header, questions, answers, is.others) refl

abbrev content : Header → List Question → List Record → Content
content header questions answers = record { header = header; questions = questions; answers = answers }

pub spelled : (octets : List ℕ) (m : Content) → message_of octets ≡ Ok m → Spells octets m
unfolding message_of content_of
spelled octets m h =
    let long = passed (nat_lt (length octets) 12) ShortHeader (content_of octets (header_in octets)) m h in
    let questions = then_ok (many (question_in octets) (count_in (header_in octets) 0) 12)
    (λ questions. many (record_at octets) (count_in (header_in octets) 1) questions.1 >>= λ answers. ended
    (behind_records (count_in (header_in octets) 2 + count_in (header_in octets) 3) (drop answers.1 octets)) >>=
    λ rest. Ok (content (header_in octets) questions.0 answers.0)) m long.1 in
    let answers = then_ok (many (record_at octets) (count_in (header_in octets) 1) questions.0.1) (λ answers. ended
    (behind_records (count_in (header_in octets) 2 + count_in (header_in octets) 3) (drop answers.1 octets)) >>=
    λ rest. Ok (content (header_in octets) questions.0.0 answers.0)) m questions.2 in
    let rest = then_ok (ended
    (behind_records (count_in (header_in octets) 2 + count_in (header_in octets) 3) (drop answers.0.1 octets)))
    (λ rest. Ok (content (header_in octets) questions.0.0 answers.0.0)) m answers.2 in
    let asked = is_each (IsQuestion octets) (question_in octets) (is_question octets)
    (count_in (header_in octets) 0) 12 questions.0 questions.1 in
    let answered = is_each (IsRecordAt octets) (record_at octets) (is_record octets)
    (count_in (header_in octets) 1) questions.0.1 answers.0 answers.1 in
    let is : Spells octets (content (header_in octets) questions.0.0 answers.0.0) =
    record {
      answers_at = questions.0.1;
      others_at = answers.0.1;
      long = grind (arith, nat_tests, long.0);
      header = refl;
      question_count = asked.1;
      questions = asked.0;
      answer_count = answered.1;
      answers = answered.0;
      others =
          ends
          (behind_records (count_in (header_in octets) 2 + count_in (header_in octets) 3) (drop answers.0.1 octets))
          rest.0 rest.1;
    } in
    subst (λ c. Spells octets c) {x = content (header_in octets) questions.0.0 answers.0.0}
    (ok_is (content (header_in octets) questions.0.0 answers.0.0) m rest.2) is

-- octets spell one message at most
pub spells_once : (octets : List ℕ) (m other : Content) → Spells octets m → Spells octets other → other ≡ m
spells_once octets m other one two = ok_is other m (sym (spells_is octets other two) ∙ spells_is octets m one)

-- of a call that gives what is read there
pub read_spells : (octets : List ℕ) (result : Result Content MessageError) → Gives (λ m. m) result (message_of octets)
    → IfOk result (λ m. Spells octets m)
read_spells octets (Ok m) gives = spelled octets m gives
read_spells octets (Err e) gives = tt

pub read_once : (octets : List ℕ) (result : Result Content MessageError) → Gives (λ m. m) result (message_of octets)
    → IfOk result (λ m. (other : Content) → Spells octets other → other ≡ m)
read_once octets (Ok m) gives = λ other is. spells_once octets m other (spelled octets m gives) is
read_once octets (Err e) gives = tt

pub read_none : (octets : List ℕ) (result : Result Content MessageError) → Gives (λ m. m) result (message_of octets)
    → IfErr result (λ e. SpellsNone octets e)
read_none octets (Ok m) gives = tt
read_none octets (Err OutOfMemory) gives = tt
read_none octets (Err (errors.Fault fault)) gives = λ m is. let read = spells_is octets m is in absurd (cc)
