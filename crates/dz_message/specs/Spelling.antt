-- Meaning: what octets spell, a message part by part as laid out in the standard (RFC 1035 section 4.1).
use Rattle.std.specs.Prelude.{◌≡◌, ℕ, ◌+◌, ◌-◌, ◌≤◌, false, List, [], ◌∷◌, ◌++◌, length, take, drop, slice_index, Ok}
use Rattle.std.specs.Prelude.{Some}
use Rattle.dz_name.specs.Name.{wire_of}
use Rattle.dz_name.specs.Numbers.{number_of_two, number_of_four}
use Rattle.dz_name.specs.Reading.{Reads}
use Rattle.dz_header.specs.Header.{header_in}
use Rattle.dz_header.specs.Shape.{behind_records}
use Rattle.dz_record.specs.declared.fields.Field.{Field}
use Rattle.dz_record.specs.declared.fields.Field.TheVariants.{FixedLength, DomainName, CharacterString, Remainder}
use Rattle.dz_record.specs.Fields.{fields_of}
use Rattle.dz_record.specs.Record.{Record, is_bad_type, ttl_of}
use Rattle.dz_header.specs.declared.question.Question.{Question}
use Rattle.dz_message.specs.Message.{Content}
use Rattle.dz_message.specs.Reading.{count_in}
use Rattle.dz_name.specs.declared.dns.TheConstants.{CLASS_IN, HEADER_OCTETS, MESSAGE_OCTETS}
use Rattle.dz_name.specs.Words.{Name, Octets}

-- a name, in lower case with its pointers followed, is between `at` and `next`
abbrev pub IsNameAt : Octets → ℕ → Name → ℕ → Type 0
IsNameAt m at name next = Reads m at 0 at (Ok (name, next))

-- a question: a name, followed by its type and class (RFC 1035 section 4.1.2)
pub record IsQuestion (m : Octets) (at : ℕ) (q : Question) (next : ℕ) : Type 0 where
  pub behind : ℕ
  pub name : IsNameAt m at q.name behind
  pub kind : q.kind ≡ number_of_two (drop behind m)
  pub class : q.class ≡ number_of_two (drop (behind + 2) m)
  pub next_is : next ≡ behind + 4
  pub within : next ≤ length m

-- this many octets as they are, in RDATA that ends at `end`
pub record AreOctets (m : Octets) (at end count : ℕ) (piece : Octets) (next : ℕ) : Type 0 where
  pub next_is : next ≡ at + count
  pub within : next ≤ end
  pub piece_is : piece ≡ take count (drop at m)

-- a name in RDATA that ends at `end`; its canonical form is its wire form in lower case and without pointers
pub record IsNameWithin (m : Octets) (at end : ℕ) (piece : Octets) (next : ℕ) : Type 0 where
  pub labels : Name
  pub name : IsNameAt m at labels next
  pub within : next ≤ end
  pub piece_is : piece ≡ wire_of labels

-- a field of RDATA that ends at `end` is between `at` and `next`, and has this canonical form
abbrev pub IsField : Octets → ℕ → ℕ → Field → Octets → ℕ → Type 0
IsField m at end (FixedLength count) piece next = AreOctets m at end count piece next
IsField m at end DomainName piece next = IsNameWithin m at end piece next
IsField m at end CharacterString piece next = AreOctets m at end (slice_index m at + 1) piece next
IsField m at end Remainder piece next = AreOctets m at end (end - at) piece next

-- the fields of RDATA, one after the other up to `end`, and their canonical form
pub data AreFields (m : Octets) (end : ℕ) : List Field → ℕ → Octets → Type 0 where
  no_field : AreFields m end [] end []
  one_field : {field : Field} {fields : List Field} {at next : ℕ} (piece rest : Octets)
      → IsField m at end field piece next
      → AreFields m end fields next rest → AreFields m end (field ∷ fields) at (piece ++ rest)

-- a record of class IN and of a type that a zone may hold (RFC 1035 section 4.1.3): its owner name, ten octets with
-- type, class, TTL and RDATA length, and that much RDATA, kept in canonical form
pub record IsRecordAt (m : Octets) (at : ℕ) (r : Record) (next : ℕ) : Type 0 where
  pub behind : ℕ
  pub owner : IsNameAt m at r.owner behind
  pub kind : r.kind ≡ number_of_two (drop behind m)
  pub class : number_of_two (drop (behind + 2) m) ≡ CLASS_IN
  pub ttl : r.ttl ≡ ttl_of (number_of_four (drop (behind + 4) m))
  pub next_is : next ≡ behind + 10 + number_of_two (drop (behind + 8) m)
  pub within : next ≤ length m
  pub held : is_bad_type r.kind ≡ false
  pub rdata : AreFields m next (fields_of r.kind) (behind + 10) r.rdata
  pub short : length r.rdata ≤ MESSAGE_OCTETS

-- each of these follows the one before it, from `at` up to `end`
pub data Each {X : Type 0} (One : ℕ → X → ℕ → Type 0) : ℕ → List X → ℕ → Type 0 where
  no_one : {at : ℕ} → Each One at [] at
  one_first : {at next end : ℕ} {x : X} {xs : List X} → One at x next → Each One next xs end → Each One at (x ∷ xs) end

-- the octets spell the message: its header in the first twelve octets, followed by as many questions as the header
-- says, as many answer records, and as many authority and additional records, by their shape; and nothing more
pub record Spells (octets : Octets) (m : Content) : Type 0 where
  pub answers_at : ℕ
  pub others_at : ℕ
  pub long : HEADER_OCTETS ≤ length octets
  pub header : m.header ≡ header_in octets
  pub question_count : length m.questions ≡ count_in m.header 0
  pub questions : Each (IsQuestion octets) HEADER_OCTETS m.questions answers_at
  pub answer_count : length m.answers ≡ count_in m.header 1
  pub answers : Each (IsRecordAt octets) answers_at m.answers others_at
  pub others : behind_records (count_in m.header 2 + count_in m.header 3) (drop others_at octets) ≡ Some []
