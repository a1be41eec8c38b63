-- A query that is written spells its header and its question.
use Rattle.std.proofs.Common.{◌≡◌, ℕ, ◌+◌, ◌<◌, Bool, false, List, [], ◌∷◌, ◌++◌, length, take, drop, refl, sym, ◌∙◌}
use Rattle.std.proofs.Common.{ap, arith, append_assoc, length-append, drop_at, add-one, Option, Some, None}
use Rattle.std.specs.Prelude.{slice_index, nat_lt, ◌==◌}
use Rattle.std.specs.List.{AllByRecursion}
use Rattle.std.specs.Option.{option_map_or}
use Rattle.std.proofs.lemmas.List.{drop_all}
use Rattle.std.proofs.lemmas.Bool.Decides.{nat_tests}
use Rattle.dz_name.specs.Name.{wire_of, IsLabel}
use Rattle.dz_name.specs.Numbers.{two, four, number_of_two}
use Rattle.dz_name.proofs.NumberLemmas.{length_two, length_four}
use Rattle.dz_header.specs.Shape.{behind_owner, behind_head, shape_of, behind_records}
use Rattle.dz_header.specs.RecordHead.{head_in}
use Rattle.dz_header.specs.Header.{header_octets}
use Rattle.dz_message.specs.Reading.{count_in}
use Rattle.dz_header.proofs.PlaceLemmas.{length_there, drop_there}
use Rattle.dz_header.proofs.ShapeLemmas.{owner_label}
use Rattle.dz_record.specs.Record.{Record, IsRecord, record_octets, octets_behind_owner}
use Rattle.dz_message.specs.Spelling.{Spells, no_one, one_first}
use Rattle.dz_message.specs.Writing.{IsAsking, IsHeader, question_octets}
use Rattle.dz_message.specs.Query.{query_header, query_question, query_octets, query_content, IsHeld}
use Rattle.dz_message.proofs.PlaceLemmas.{short_rdata, two_there}
use Rattle.dz_message.proofs.WrittenLemmas.{HeaderThere, header_there, question_there}

-- a name without pointers is passed over as an owner
label_passed : (label rest : List ℕ) → 0 < length label → length label < 64
    → behind_owner 0 (length label ∷ (label ++ rest)) ≡ behind_owner 0 rest
label_passed label rest some short =
    let octets : List ℕ = length label ∷ (label ++ rest) in
    let step = owner_label octets (omega arith) (omega arith) (omega (arith, length-append label rest)) in
    let behind : drop (length label + 1) octets ≡ rest = (rw add-one (drop_at label rest (length label) refl)) in
    sym step ∙ ap (behind_owner 0) behind

owner_passed : (labels : List (List ℕ)) (rest : List ℕ) → AllByRecursion IsLabel labels
    → behind_owner 0 (wire_of labels ++ rest) ≡ Some rest
unfolding behind_owner wire_of
owner_passed [] rest each = refl
owner_passed (label ∷ labels) rest each =
    ap (λ xs. behind_owner 0 (length label ∷ xs)) (append_assoc label (wire_of labels) rest)
    ∙ label_passed label (wire_of labels ++ rest) each.0.some each.0.short
    ∙ owner_passed labels rest each.1

-- so are type, class, TTL and RDATA
head_passed : (root : Bool) (octets rdata : List ℕ) → nat_lt (length octets) 10 ≡ false
    → number_of_two (drop 8 octets) ≡ length rdata → drop 10 octets ≡ rdata
    → behind_head root octets
    ≡ Some (record { root = root; head = head_in octets }, take (length rdata) rdata, drop (length rdata) rdata)
unfolding behind_head head_in
head_passed root octets rdata long size behind =
    let there : nat_lt (length rdata) (length rdata) ≡ false = grind (arith, nat_tests) in
    rw (long, size, behind, there) refl

record_passed : (r : Record) → IsRecord r → behind_records 1 (record_octets r) ≡ Some []
unfolding behind_records shape_of
record_passed r is =
    let octets = octets_behind_owner r in
    let d2 = drop_there octets 0 2 (two r.kind) _ refl (length_two r.kind) in
    let d4 = drop_there octets 2 2 (two 1) _ d2 (length_two 1) in
    let d8 = drop_there octets 4 4 (four r.ttl) _ d4 (length_four r.ttl) in
    let d10 : drop 10 octets ≡ r.rdata =
    drop_there octets 8 2 (two (length r.rdata)) _ d8 (length_two (length r.rdata)) in
    let short = short_rdata r is in
    let size : number_of_two (drop 8 octets) ≡ length r.rdata =
    two_there octets 8 (length r.rdata) r.rdata (omega (arith, short)) d8 in
    let count = length_there octets 8 (two (length r.rdata)) r.rdata d8 in
    let long : nat_lt (length octets) 10 ≡ false = grind (arith, nat_tests, count, length_two (length r.rdata)) in
    let head = head_passed (slice_index (record_octets r) 0 == 0) octets r.rdata long size d10 in
    rw (owner_passed r.owner octets is.owner.each, head, drop_all (length r.rdata) r.rdata (omega arith)) refl

-- the authority section of a query is skipped by its shape
others_passed : (id : ℕ) (held : Option Record) → IsHeld held
    → behind_records (count_in (query_header id held) 2 + count_in (query_header id held) 3)
    (option_map_or record_octets held []) ≡ Some []
unfolding behind_records
others_passed id None is = refl
others_passed id (Some held) is = record_passed held is

header_of_query : (id : ℕ) (held : Option Record) (octets rest : List ℕ) → IsHeader (query_header id held)
    → octets ≡ header_octets (query_header id held) ++ rest → HeaderThere octets (query_header id held) rest
header_of_query id None octets rest is there = header_there octets (query_header id None) 1 0 0 0 rest is refl there
header_of_query id (Some held) octets rest is there =
    header_there octets (query_header id (Some held)) 1 0 1 0 rest is refl there

no_answer : (id : ℕ) (held : Option Record)
    → (1 ≡ count_in (query_header id held) 0) × (0 ≡ count_in (query_header id held) 1)
no_answer id None = (refl, refl)
no_answer id (Some held) = (refl, refl)

pub query_spells : (id : ℕ) (zone : List (List ℕ)) (held : Option Record) → IsHeader (query_header id held)
    → IsAsking (query_question zone held) → IsHeld held
    → Spells (query_octets id zone held) (query_content id zone held)
unfolding query_octets
query_spells id zone held header question record_is =
    let octets : List ℕ = query_octets id zone held in
    let asked = question_octets (query_question zone held) in
    let others = option_map_or record_octets held [] in
    let head = header_of_query id held octets (asked ++ others) header refl in
    let behind : drop (12 + length asked) octets ≡ others =
    drop_there octets 12 (length asked) asked others head.behind refl in
    let counts = no_answer id held in
    record {
      answers_at = 12 + length asked;
      others_at = 12 + length asked;
      long = head.long;
      header = head.is;
      question_count = counts.0;
      questions = one_first
          (question_there octets (query_question zone held) others 12 question (omega arith) head.behind) no_one;
      answer_count = counts.1;
      answers = no_one;
      others = ap (behind_records _) behind ∙ others_passed id held record_is;
    }
