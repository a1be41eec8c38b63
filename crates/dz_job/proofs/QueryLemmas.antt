-- The query of a job: how long it is, that its additional section is empty, and that it sends an SOA record beside its
-- question.
use Rattle.std.proofs.Common.{◌≡◌, subst, Bool, cond, ℕ, ◌+◌, ◌-◌, ◌^◌, ◌<◌, ◌≤◌, true, false, List, [], ◌∷◌, ◌++◌}
use Rattle.std.proofs.Common.{length, drop, refl, ap, arith, length-append, Option, None, Some, inl, inr}
use Rattle.std.specs.Prelude.{slice_index, ◌==◌, ◌&&◌}
use Rattle.std.specs.List.{find}
use Rattle.std.specs.Option.{option_map_or, option_and_then}
use Rattle.std.proofs.lemmas.Bool.Decides.{leb_tells}
use Rattle.std.proofs.lemmas.Bool.{eqb-true}
use Rattle.dz_name.specs.Name.{IsName, same_name, wire_of}
use Rattle.dz_name.specs.Words.{Octets}
use Rattle.dz_name.specs.Reading.{canonical_end}
use Rattle.dz_name.proofs.CanonicalLemmas.{canonical_end_found, end_of_between}
use Rattle.dz_name.specs.Numbers.{number_of_two}
use Rattle.dz_name.proofs.NumberLemmas.{length_two}
use Rattle.dz_header.specs.Header.{header_octets, header_in}
use Rattle.dz_header.specs.declared.header.Header.{Header}
use Rattle.dz_header.proofs.HeaderLemmas.{header_there}
use Rattle.dz_record.specs.declared.fields.Field.{Field}
use Rattle.dz_record.specs.declared.fields.Field.TheVariants.{FixedLength, DomainName}
use Rattle.dz_record.specs.Fields.{fits, field_end, fields_of}
use Rattle.dz_record.specs.Record.{Record, record_octets}
use Rattle.dz_record.proofs.FieldLemmas.{fits_record}
use Rattle.dz_record.proofs.KeptLemmas.{length_octets}
use Rattle.dz_message.specs.Query.{query_octets, query_kind, query_header, query_question, IsHeld, IsHeldSoa}
use Rattle.dz_message.specs.Writing.{question_octets}
use Rattle.dz_zone.specs.Version.{Zone, apex_soa}
use Rattle.dz_zone.specs.Valid.{at_apex}
use Rattle.dz_take.specs.Form.{base_of}
use Rattle.dz_take.specs.Query.{soa_asked}
use Rattle.dz_take.specs.Transfer.{Transfer}

-- ---- the RDATA of an SOA
-- a name has at most 255 octets, and the rest of the fields follow it
record BehindName (fields : List Field) (rdata : Octets) (at : ℕ) : Type 0 where
  end : ℕ
  near : end ≤ at + 255
  rest : fits fields rdata end ≡ true

behind_name : (fields : List Field) (rdata : Octets) (at : ℕ) → fits (DomainName ∷ fields) rdata at ≡ true
    → BehindName fields rdata at
unfolding fits field_end
behind_name fields rdata at h =
    elim (canonical_end rdata at) as (λ e. canonical_end rdata at ≡ e
    → option_map_or (λ end. fits fields rdata end) e false ≡ true → BehindName fields rdata at) [
      | None ↦ λ p q. absurd (cc)
      | Some end ↦ λ p q.
          let found = canonical_end_found rdata at end p in
          let long = end_of_between rdata at end found.0 found.1 in
          record { end = end; near = omega (arith, long, found.1.name.short); rest = q }
    ] refl h

ends_there : (n : ℕ) (rdata : Octets) (at : ℕ) → fits (FixedLength n ∷ []) rdata at ≡ true → length rdata ≤ at + n
unfolding fits field_end
ends_there n rdata at h =
    elim (leb_tells n (length rdata - at)) [
      | inl w ↦ let e = eqb-true (at + n) (length rdata) (rw w.0 at h) in omega (arith, e)
      | inr w ↦ let q = rw w.0 at h in absurd (cc)
    ]

soa_short : (rdata : Octets) → fits (fields_of 6) rdata 0 ≡ true → length rdata ≤ 530
unfolding fields_of
soa_short rdata h =
    let first = behind_name (DomainName ∷ FixedLength 20 ∷ []) rdata 0 h in
    let second = behind_name (FixedLength 20 ∷ []) rdata first.end first.rest in
    omega (arith, first.near, second.near, ends_there 20 rdata second.end second.rest)

-- ---- the query
header_long : (id flags a b c d : ℕ)
    → length (header_octets (record { id = id; flags = flags; counts = a ∷ b ∷ c ∷ d ∷ [] })) ≡ 12
unfolding header_octets
header_long id flags a b c d = simp (length-append, length_two)

question_long : (name : List (List ℕ)) (kind class : ℕ)
    → length (question_octets (record { name = name; kind = kind; class = class })) ≡ length (wire_of name) + 4
unfolding question_octets
question_long name kind class = simp (length-append, length_two) (omega arith)

held_short : (held : Option Record) → IsHeld held → IsHeldSoa held → length (option_map_or record_octets held []) ≤ 795
held_short None is kind = omega arith
held_short (Some r) is kind =
    let rdata = soa_short r.rdata (rw kind at (fits_record r is)) in
    omega (arith, length_octets r, is.owner.short, rdata)

head_long : (id : ℕ) (held : Option Record) → length (header_octets (query_header id held)) ≡ 12
head_long id None = header_long id 0 1 0 0 0
head_long id (Some r) = header_long id 0 1 0 1 0

pub query_short : (id : ℕ) (zone : List (List ℕ)) (held : Option Record) → IsName zone → IsHeld held → IsHeldSoa held
    → length (query_octets id zone held) ≤ 1066
unfolding query_octets
query_short id zone held name is kind =
    omega (
      arith,
      head_long id held,
      question_long zone (query_kind held) 1,
      name.short,
      held_short held is kind,
      length-append (header_octets (query_header id held))
          (question_octets (query_question zone held) ++ option_map_or record_octets held []),
      length-append (question_octets (query_question zone held)) (option_map_or record_octets held []),
    )

pub query_long : (id : ℕ) (zone : List (List ℕ)) (held : Option Record) → 12 ≤ length (query_octets id zone held)
unfolding query_octets
query_long id zone held = omega (
  arith,
  head_long id held,
  length-append (header_octets (query_header id held))
      (question_octets (query_question zone held) ++ option_map_or record_octets held []),
)

-- its additional section is empty
pub query_none : (id : ℕ) (zone : List (List ℕ)) (held : Option Record) → id < 2 ^ 16
    → number_of_two (drop 10 (query_octets id zone held)) ≡ 0
unfolding query_octets header_in
query_none id zone None small =
    let t = header_there (query_octets id zone None) id 0 1 0 0 0 (question_octets (query_question zone None) ++ [])
    small (omega arith) (omega arith) (omega arith) (omega arith) (omega arith) refl in
    ap (λ (h : Header). slice_index h.counts 3) t.header_is
query_none id zone (Some r) small =
    let t = header_there (query_octets id zone (Some r)) id 0 1 0 1 0 (question_octets (query_question zone (Some r))
    ++ record_octets r) small (omega arith) (omega arith) (omega arith) (omega arith) (omega arith) refl in
    ap (λ (h : Header). slice_index h.counts 3) t.header_is

-- ---- the held record
found_passes : {X : Type 0} (p : X → Bool) (xs : List X) (x : X) → find p xs ≡ Some x → p x ≡ true
found_passes p [] x is = absurd (cc)
found_passes p (y ∷ ys) x is =
    (elim (p y) as (λ b. p y ≡ b → cond b (Some y) (find p ys) ≡ Some x → p x ≡ true) [
      | true ↦ λ e f. let same : y ≡ x = cc in subst (λ z. p z ≡ true) same e
      | false ↦ λ e f. found_passes p ys x f
    ]) refl is

first_true : (s t : Bool) → (s && t) ≡ true → s ≡ true
first_true true t h = refl
first_true false t h = absurd (cc)

soa_kind : (zone : Zone) (r : Record) → apex_soa zone ≡ Some r → r.kind ≡ 6
soa_kind zone r is = eqb-true r.kind 6
    (first_true (r.kind == 6) (same_name r.owner zone.apex) (found_passes (at_apex 6 zone.apex) zone.records r is))

soa_found : (zone : Zone) (found : Option Record) → apex_soa zone ≡ found → IsHeldSoa found
soa_found zone None is = tt
soa_found zone (Some r) is = soa_kind zone r is

soa_in : (held : Option Zone) → IsHeldSoa (option_and_then apex_soa held)
soa_in None = tt
soa_in (Some zone) = soa_found zone (apex_soa zone) refl

-- the record that is sent with the question is an SOA
pub asks_soa : (t : Transfer) → IsHeldSoa (soa_asked t)
asks_soa t = soa_in (base_of t.ask t.held)
