-- Messages that take the records of a version in turn.
use Rattle.std.proofs.Common.{◌≡◌, ℕ, suc, ◌+◌, ◌-◌, ◌<◌, ◌≤◌, true, false, List, [], ◌∷◌, ◌++◌, length, get_or, drop}
use Rattle.std.proofs.Common.{refl, sym, ◌∙◌, ap, subst, arith, append_assoc, Some, None, inl, inr}
use Rattle.std.specs.Prelude.{nat_le, ◌==◌, filter, find, if◌then◌else◌, Bool}
use Rattle.std.specs.List.{All}
use Rattle.std.specs.Option.{option_map_or}
use Rattle.std.proofs.lemmas.List.{append-nil, drop_more, drop_all}
use Rattle.std.proofs.lemmas.List.Elements.{filter-append}
use Rattle.std.proofs.lemmas.Option.{get_or_from_slice_get, slice_get_past, slice_get_read}
use Rattle.std.proofs.lemmas.Bool.Decides.{nat_tests, leb_tells}
use Rattle.dz_name.specs.Reading.{canonical_end}
use Rattle.dz_name.proofs.CanonicalLemmas.{canonical_end_found, end_of_between}
use Rattle.dz_header.specs.declared.question.Question.{Question}
use Rattle.dz_record.specs.Fields.{fields_of, field_end, fits, is_rdata}
use Rattle.dz_record.specs.Record.{Record, IsRecord, record_octets}
use Rattle.dz_message.specs.Piece.{PieceState, Holds, packed, has_room, size_of, answer_message, FitsAlone, piece_of}
use Rattle.dz_message.proofs.PieceLemmas.{record_size}
use Rattle.dz_zone.specs.Version.{Zone, apex_soa}
use Rattle.dz_zone.specs.Valid.{at_apex}
use Rattle.dz_zone.proofs.FaultLemmas.{found_passes}
use Rattle.dz_outward.specs.Stream.{is_other, soa_of, sent_records}
use Rattle.dz_outward.specs.inner.Filled.{AddsUp, IsStopped, rest_of}

-- one record more has room, or none
pub one_taken : (id : ℕ) (questions : List Question) (current : List Record) (r : Record) (rs : List Record)
    → has_room (length current == 0) (size_of questions current) (length (record_octets r)) ≡ true
    → packed id questions current (r ∷ rs) ≡ packed id questions (current ++ r ∷ []) rs
unfolding packed
one_taken id questions current r rs room = rw room refl

pub one_cut : (id : ℕ) (questions : List Question) (current : List Record) (r : Record) (rs : List Record)
    → has_room (length current == 0) (size_of questions current) (length (record_octets r)) ≡ false
    → packed id questions current (r ∷ rs) ≡ answer_message id questions current ∷ packed id [] (r ∷ []) rs
unfolding packed
one_cut id questions current r rs none = rw none refl

-- a message without a question takes its first record
pub first_taken : (id : ℕ) (r : Record) (rs : List Record) → FitsAlone r
    → packed id [] [] (r ∷ rs) ≡ packed id [] (r ∷ []) rs
unfolding size_of
first_taken id r rs fits =
    let room : has_room true (size_of [] []) (length (record_octets r)) ≡ true = grind (arith, nat_tests) in
    one_taken id [] [] r rs room

-- a message that takes nothing
pub reaches_none : (piece : PieceState) (out : List ℕ) (records : List Record) (at : ℕ)
    → AddsUp piece out piece out records at at
reaches_none piece out records at id questions current holds =
    let e : current ++ [] ≡ current = append-nil current in
    record {
      more = [];
      holds = rw e holds;
      same = λ rest. rw e refl;
    }

-- one record
pub reaches_one : (old new : PieceState) (before after : List ℕ) (r : Record) → is_other r ≡ true
    → has_room (old.count == 0) old.size (length (record_octets r)) ≡ true
    → ((id : ℕ) (questions : List Question) (current : List Record) → Holds old before id questions current
    → Holds new after id questions (current ++ r ∷ []))
    → AddsUp old before new after (r ∷ []) 0 1
reaches_one old new before after r other room adds id questions current holds =
    let there : has_room (length current == 0) (size_of questions current) (length (record_octets r)) ≡ true =
    ap (λ (p : PieceState). has_room (p.count == 0) p.size (length (record_octets r))) (sym holds.state) ∙ room in
    let one : filter is_other (r ∷ []) ≡ r ∷ [] = rw other refl in
    record {
      more = r ∷ [];
      holds = adds id questions current holds;
      same = λ rest. ap (λ xs. packed id questions current (xs ++ rest)) one
          ∙ one_taken id questions current r rest there;
    }

-- an SOA is passed by
pub reaches_soa : (piece : PieceState) (out : List ℕ) (r : Record) → is_other r ≡ false
    → AddsUp piece out piece out (r ∷ []) 0 1
reaches_soa piece out r soa id questions current holds =
    let e : current ++ [] ≡ current = append-nil current in
    let none : filter is_other (r ∷ []) ≡ [] = rw soa refl in
    record {
      more = [];
      holds = rw e holds;
      same = λ rest. ap (λ xs. packed id questions current (xs ++ rest)) none
          ∙ ap (λ xs. packed id questions xs rest) (sym e);
    }

-- records, and then the one at the next place
pub reaches_next : (first second third : PieceState) (a b c : List ℕ) (records : List Record) (start at : ℕ)
    (r : Record) → at < length records → r ≡ get_or records at r
    → AddsUp first a second b records start at → AddsUp second b third c (r ∷ []) 0 1
    → AddsUp first a third c records start (at + 1)
reaches_next first second third a b c records start at r lt is front next id questions current holds =
    let one = front id questions current holds in
    let two = next id questions (current ++ one.more) one.holds in
    let split : drop at records ≡ r ∷ drop (at + 1) records =
    drop_more records at r lt ∙ ap (λ x. x ∷ drop (at + 1) records) (sym is) in
    let parts : filter is_other (drop at records) ≡ filter is_other (r ∷ [])
    ++ filter is_other (drop (at + 1) records) =
    ap (λ xs. filter is_other xs) split ∙ filter-append is_other (r ∷ []) (drop (at + 1) records) in
    let joined : (current ++ one.more) ++ two.more ≡ current ++ (one.more ++ two.more) =
    append_assoc current one.more two.more in
    record {
      more = one.more ++ two.more;
      holds = subst (λ xs. Holds third c id questions xs) joined two.holds;
      same = λ rest.
          one.same rest
          ∙ ap (λ xs. packed id questions (current ++ one.more) (xs ++ rest)) parts
          ∙ ap (λ xs. packed id questions (current ++ one.more) xs)
          (append_assoc (filter is_other (r ∷ [])) (filter is_other (drop (at + 1) records)) rest)
          ∙ two.same (filter is_other (drop (at + 1) records) ++ rest)
          ∙ ap (λ xs. packed id questions xs (filter is_other (drop (at + 1) records) ++ rest)) joined;
    }

-- the record at a place has no room
pub stopped_at : (piece : PieceState) (records : List Record) (at : ℕ) (r : Record) → r ≡ get_or records at r
    → IsStopped piece (r ∷ []) 0 → IsStopped piece records at
stopped_at piece records at r is stopped s there =
    let e : r ≡ s = is ∙ get_or_from_slice_get records at s r there in
    stopped s (ap (λ x. Some x) e)

pub stopped_past : (piece : PieceState) (records : List Record) (at : ℕ)
    → length records ≤ at → IsStopped piece records at
stopped_past piece records at le s there = let none = slice_get_past records at le in absurd (cc)

-- what holds of all records holds of one that is found
pub found_all : (P : Record → Type 0) (p : Record → Bool) (rs : List Record) (r : Record) → All P rs
    → Some r ≡ find p rs → P r
found_all P p [] r all found = absurd (cc)
found_all P p (x ∷ xs) r all found =
    elim (p x) as (λ b. Some r ≡ (if b then Some x else find p xs) → P r) [
      | true ↦ λ q. let e : x ≡ r = cc in subst P e (all 0 x (omega arith))
      | false ↦ λ q. found_all P p xs r (λ k d lt. all (suc k) d (omega arith)) q
    ] found

-- an SOA is short
name_ends : (octets : List ℕ) (at end : ℕ) → canonical_end octets at ≡ Some end → end ≤ at + 255
name_ends octets at end found =
    let is = canonical_end_found octets at end found in
    omega (arith, end_of_between octets at end is.0 is.1, is.1.name.short)

soa_fields : (rdata : List ℕ) → fits (fields_of 6) rdata 0 ≡ true → length rdata ≤ 530
unfolding fits fields_of field_end
soa_fields rdata h =
    elim (canonical_end rdata 0) as (λ e. canonical_end rdata 0 ≡ e → option_map_or (λ a. option_map_or
    (λ b. option_map_or (λ c. c == length rdata) (if nat_le 20 (length rdata - b) then Some (b + 20) else None)
    false) (canonical_end rdata a) false) e false ≡ true → length rdata ≤ 530) [
      | None ↦ λ p q. absurd (cc)
      | Some a ↦ λ p q.
          elim (canonical_end rdata a) as (λ e. canonical_end rdata a ≡ e → option_map_or (λ b. option_map_or
          (λ c. c == length rdata) (if nat_le 20 (length rdata - b) then Some (b + 20) else None) false) e false
          ≡ true → length rdata ≤ 530) [
            | None ↦ λ s t. absurd (cc)
            | Some b ↦ λ s t.
                let first = name_ends rdata 0 a p in
                let second = name_ends rdata a b s in
                elim (leb_tells 20 (length rdata - b)) [
                  | inl w ↦ let u : (b + 20 == length rdata) ≡ true = rw w.0 at t in grind (arith, nat_tests, u)
                  | inr w ↦ let u = rw w.0 at t in absurd (cc)
                ]
          ] refl q
    ] refl h

pub soa_short : (r : Record) → IsRecord r → r.kind ≡ 6 → length (record_octets r) ≤ 795
soa_short r is kind =
    let there : is_rdata 6 r.rdata ≡ true = rw (sym kind) is.rdata in
    let fields : fits (fields_of 6) r.rdata 0 ≡ true = grind (arith, nat_tests, there) in
    omega (arith, record_size r, soa_fields r.rdata fields, is.owner.short)

-- what is left after a message
pub rest_stopped : (zone : Zone) (id : ℕ) (questions : List Question) (current more : List Record) (start end : ℕ)
    (piece : PieceState) (out : List ℕ) (r : Record)
    → packed id questions current (filter is_other (drop start zone.records) ++ soa_of zone)
    ≡ packed id questions (current ++ more) (filter is_other (drop end zone.records) ++ soa_of zone)
    → Holds piece out id questions (current ++ more) → end < length zone.records → r ≡ get_or zone.records end r
    → IsStopped piece zone.records end → All FitsAlone zone.records
    → packed id questions current (rest_of zone start)
    ≡ answer_message id questions (current ++ more) ∷ packed id [] [] (rest_of zone end)
rest_stopped zone id questions current more start end piece out r same holds lt is stopped fits =
    let at = stopped r (slice_get_read zone.records (length zone.records) end r refl lt is) in
    let fit : FitsAlone r = subst FitsAlone (sym is) (fits end r lt) in
    let split : drop end zone.records ≡ r ∷ drop (end + 1) zone.records =
    drop_more zone.records end r lt ∙ ap (λ x. x ∷ drop (end + 1) zone.records) (sym is) in
    let tail : List Record = filter is_other (drop (end + 1) zone.records) ++ soa_of zone in
    let one : filter is_other (r ∷ drop (end + 1) zone.records) ≡ r ∷ filter is_other (drop (end + 1) zone.records) =
    rw at.0 refl in
    let rest : rest_of zone end ≡ r ∷ tail =
    ap (λ xs. filter is_other xs ++ soa_of zone) split ∙ ap (λ xs. xs ++ soa_of zone) one in
    let none : has_room (length (current ++ more) == 0)
    (size_of questions (current ++ more)) (length (record_octets r)) ≡ false =
    ap (λ (p : PieceState). has_room (p.count == 0) p.size (length (record_octets r))) (sym holds.state) ∙ at.1 in
    same ∙ ap (λ xs. packed id questions (current ++ more) xs) rest
    ∙ one_cut id questions (current ++ more) r tail none
    ∙ ap (λ ms. answer_message id questions (current ++ more) ∷ ms)
    (sym (first_taken id r tail fit) ∙ ap (λ xs. packed id [] [] xs) (sym rest))

no_others : (zone : Zone) (soa : Record) (end : ℕ) → Some soa ≡ apex_soa zone → length zone.records ≤ end
    → rest_of zone end ≡ soa ∷ []
no_others zone soa end found le = ap (λ xs. filter is_other xs ++ soa_of zone) (drop_all end zone.records le)
    ∙ (rw (sym found) refl)

pub rest_over : (zone : Zone) (id : ℕ) (questions : List Question) (current more : List Record) (start end : ℕ)
    (piece : PieceState) (out : List ℕ) (soa : Record)
    → packed id questions current (filter is_other (drop start zone.records) ++ soa_of zone)
    ≡ packed id questions (current ++ more) (filter is_other (drop end zone.records) ++ soa_of zone)
    → Holds piece out id questions (current ++ more) → Some soa ≡ apex_soa zone → length zone.records ≤ end
    → has_room (piece.count == 0) piece.size (length (record_octets soa)) ≡ true
    → packed id questions current (rest_of zone start)
    ≡ answer_message id questions ((current ++ more) ++ soa ∷ []) ∷ []
unfolding packed
rest_over zone id questions current more start end piece out soa same holds found le room =
    let there : has_room (length (current ++ more) == 0)
    (size_of questions (current ++ more)) (length (record_octets soa)) ≡ true =
    ap (λ (p : PieceState). has_room (p.count == 0) p.size (length (record_octets soa))) (sym holds.state)
    ∙ room in
    same ∙ ap (λ xs. packed id questions (current ++ more) xs) (no_others zone soa end found le)
    ∙ one_taken id questions (current ++ more) soa [] there

pub rest_cut : (zone : Zone) (id : ℕ) (questions : List Question) (current more : List Record) (start end : ℕ)
    (piece : PieceState) (out : List ℕ) (soa : Record)
    → packed id questions current (filter is_other (drop start zone.records) ++ soa_of zone)
    ≡ packed id questions (current ++ more) (filter is_other (drop end zone.records) ++ soa_of zone)
    → Holds piece out id questions (current ++ more) → Some soa ≡ apex_soa zone → length zone.records ≤ end
    → has_room (piece.count == 0) piece.size (length (record_octets soa)) ≡ false → All FitsAlone zone.records
    → packed id questions current (rest_of zone start)
    ≡ answer_message id questions (current ++ more) ∷ packed id [] [] (rest_of zone end)
rest_cut zone id questions current more start end piece out soa same holds found le room fits =
    let none : has_room (length (current ++ more) == 0)
    (size_of questions (current ++ more)) (length (record_octets soa)) ≡ false =
    ap (λ (p : PieceState). has_room (p.count == 0) p.size (length (record_octets soa))) (sym holds.state)
    ∙ room in
    let rest = no_others zone soa end found le in
    let fit : FitsAlone soa = found_all FitsAlone _ zone.records soa fits found in
    same ∙ ap (λ xs. packed id questions (current ++ more) xs) rest
    ∙ one_cut id questions (current ++ more) soa [] none
    ∙ ap (λ ms. answer_message id questions (current ++ more) ∷ ms)
    (sym (first_taken id soa [] fit) ∙ ap (λ xs. packed id [] [] xs) (sym rest))

-- the first message begins with the SOA
pub first_room : (piece : PieceState) (questions : List Question) (soa : Record)
    → piece ≡ piece_of questions [] → piece.size ≤ 271 → length (record_octets soa) ≤ 795
    → has_room (piece.count == 0) piece.size (length (record_octets soa)) ≡ true
first_room piece questions soa is short small =
    let n : piece.count ≡ 0 = ap (λ (p : PieceState). p.count) is in
    grind (arith, nat_tests)

pub first_message : (zone : Zone) (id : ℕ) (q : Question) (soa : Record) (piece : PieceState)
    → Some soa ≡ apex_soa zone → piece ≡ piece_of (q ∷ []) []
    → has_room (piece.count == 0) piece.size (length (record_octets soa)) ≡ true
    → packed id (q ∷ []) [] (sent_records zone) ≡ packed id (q ∷ []) (soa ∷ []) (rest_of zone 0)
first_message zone id q soa piece found is room =
    let one : soa_of zone ≡ soa ∷ [] = rw (sym found) refl in
    let sent : sent_records zone ≡ soa ∷ rest_of zone 0 = ap (λ xs. xs ++ rest_of zone 0) one in
    let there : has_room true (size_of (q ∷ []) []) (length (record_octets soa)) ≡ true =
    ap (λ (p : PieceState). has_room (p.count == 0) p.size (length (record_octets soa))) (sym is) ∙ room in
    ap (λ xs. packed id (q ∷ []) [] xs) sent ∙ one_taken id (q ∷ []) [] soa (rest_of zone 0) there

pub apex_soa_short : (zone : Zone) (soa : Record) → Some soa ≡ apex_soa zone → IsRecord soa
    → length (record_octets soa) ≤ 795
apex_soa_short zone soa found is =
    let at : at_apex 6 zone.apex soa ≡ true = found_passes (at_apex 6 zone.apex) zone.records soa found in
    let kind : soa.kind ≡ 6 = grind (arith, nat_tests, at) in
    soa_short soa is kind
