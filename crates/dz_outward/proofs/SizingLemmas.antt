-- How many octets the frames of a version have.
use Rattle.std.proofs.Common.{◌≡◌, ℕ, ◌+◌, ◌<◌, ◌≤◌, true, false, List, [], ◌∷◌, ◌++◌, length, get_or, drop, refl, sym}
use Rattle.std.proofs.Common.{◌∙◌, ap, arith, append_assoc, Some}
use Rattle.std.specs.Prelude.{filter}
use Rattle.std.proofs.lemmas.List.{append-nil, drop_more, drop_all}
use Rattle.std.proofs.lemmas.List.Elements.{filter-append}
use Rattle.dz_record.specs.Record.{Record, IsRecord, record_octets}
use Rattle.dz_message.specs.Frame.{stream}
use Rattle.dz_message.specs.Piece.{TallyState, tally_of, tallied, total_of, octets_behind, nothing_counted, size_of}
use Rattle.dz_message.specs.Piece.{written}
use Rattle.dz_message.specs.Writing.{question_octets}
use Rattle.dz_message.proofs.PieceLemmas.{counted_all, size_begun, record_short, tally_grows}
use Rattle.dz_zone.specs.Version.{Zone, apex_soa}
use Rattle.dz_outward.specs.Stream.{is_other, soa_of, sent_records, messages_of, question_of}

-- one record that is counted, or passed by
pub other_counted : (t : TallyState) (r : Record) (rest : List Record) → is_other r ≡ true
    → octets_behind t (filter is_other (r ∷ []) ++ rest) ≡ octets_behind (tallied t (length (record_octets r))) rest
unfolding octets_behind
other_counted t r rest other = rw other refl

pub soa_passed : (t : TallyState) (r : Record) (rest : List Record) → is_other r ≡ false
    → octets_behind t (filter is_other (r ∷ []) ++ rest) ≡ octets_behind t rest
soa_passed t r rest soa = rw soa refl

pub one_grows : (t : TallyState) (r : Record) → IsRecord r
    → total_of (tallied t (length (record_octets r))) ≤ total_of t + 70000
one_grows t r is = omega (arith, tally_grows t (length (record_octets r)), record_short r is)

-- the record at the next place
pub next_counted : (t u : TallyState) (records : List Record) (at : ℕ) (r : Record) (rest : List Record)
    → at < length records → r ≡ get_or records at r
    → ((more : List Record) → octets_behind t (filter is_other (r ∷ []) ++ more) ≡ octets_behind u more)
    → octets_behind t (filter is_other (drop at records) ++ rest)
    ≡ octets_behind u (filter is_other (drop (at + 1) records) ++ rest)
next_counted t u records at r rest lt is one =
    let split : drop at records ≡ r ∷ drop (at + 1) records =
    drop_more records at r lt ∙ ap (λ x. x ∷ drop (at + 1) records) (sym is) in
    let parts : filter is_other (drop at records) ≡ filter is_other (r ∷ [])
    ++ filter is_other (drop (at + 1) records) =
    ap (λ xs. filter is_other xs) split ∙ filter-append is_other (r ∷ []) (drop (at + 1) records) in
    ap (λ xs. octets_behind t (xs ++ rest)) parts
    ∙ ap (λ xs. octets_behind t xs)
    (append_assoc (filter is_other (r ∷ [])) (filter is_other (drop (at + 1) records)) rest)
    ∙ one (filter is_other (drop (at + 1) records) ++ rest)

pub last_counted : (t : TallyState) (records : List Record) (at : ℕ) (rest : List Record)
    → length records ≤ at → octets_behind t (filter is_other (drop at records) ++ rest) ≡ octets_behind t rest
last_counted t records at rest le = ap (λ xs. octets_behind t (filter is_other xs ++ rest)) (drop_all at records le)

-- the octets of a list of records that comes first
pub one_behind : (t : TallyState) (r : Record) (rest : List Record)
    → octets_behind t (r ∷ rest) ≡ octets_behind (tallied t (length (record_octets r))) rest
unfolding octets_behind
one_behind t r rest = refl

pub none_behind : (t : TallyState) → octets_behind t [] ≡ total_of t
unfolding octets_behind
none_behind t = refl

-- the SOA, the others, and the SOA again
pub all_counted : (zone : Zone) (soa : Record) (question : ℕ) (first second : TallyState) → Some soa ≡ apex_soa zone
    → question ≡ length (question_octets (question_of zone))
    → first ≡ tallied (nothing_counted question) (length (record_octets soa))
    → ((rest : List Record) → octets_behind first (filter is_other zone.records ++ rest) ≡ octets_behind second rest)
    → total_of (tallied second (length (record_octets soa))) ≡ length (stream (written (messages_of 0 zone)))
all_counted zone soa question first second found size begins counts =
    let one : soa_of zone ≡ soa ∷ [] = rw (sym found) refl in
    let sent : sent_records zone ≡ soa ∷ (filter is_other zone.records ++ soa ∷ []) = rw one refl in
    let q : size_of (question_of zone ∷ []) [] ≡ 12 + question = size_begun (question_of zone ∷ [])
    ∙ omega (arith, ap (λ xs. length xs) (append-nil (question_octets (question_of zone))), size) in
    let all : octets_behind (tally_of 0 (size_of (question_of zone ∷ []) []) true) (sent_records zone)
    ≡ 0 + length (stream (written (messages_of 0 zone))) =
    counted_all 0 0 (question_of zone ∷ []) [] (sent_records zone) in
    let start : octets_behind (nothing_counted question) (soa ∷ (filter is_other zone.records ++ soa ∷ []))
    ≡ octets_behind (tally_of 0 (size_of (question_of zone ∷ []) []) true) (sent_records zone) =
    ap (λ n. octets_behind (tally_of 0 n true) (soa ∷ (filter is_other zone.records ++ soa ∷ []))) (sym q)
    ∙ ap (λ rs. octets_behind (tally_of 0 (size_of (question_of zone ∷ []) []) true) rs) (sym sent) in
    let zero : 0 + length (stream (written (messages_of 0 zone))) ≡ length (stream (written (messages_of 0 zone))) =
    omega arith in
    let walk : octets_behind (nothing_counted question) (soa ∷ (filter is_other zone.records ++ soa ∷ []))
    ≡ total_of (tallied second (length (record_octets soa))) =
    one_behind (nothing_counted question) soa (filter is_other zone.records ++ soa ∷ [])
    ∙ ap (λ t. octets_behind t (filter is_other zone.records ++ soa ∷ [])) (sym begins)
    ∙ counts (soa ∷ [])
    ∙ one_behind second soa []
    ∙ none_behind (tallied second (length (record_octets soa))) in
    sym walk ∙ start ∙ all ∙ zero
