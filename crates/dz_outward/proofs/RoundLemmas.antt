-- What is sent comes back.
use Rattle.std.proofs.Common.{◌≡◌, ℕ, zero, suc, ◌+◌, ◌<◌, ◌≤◌, ◌^◌, true, false, List, [], ◌∷◌, ◌++◌, length, refl}
use Rattle.std.proofs.Common.{sym, ◌∙◌, ap, subst, arith, append_assoc, length-append, Some, None, Ok, Bool}
use Rattle.std.specs.Prelude.{◌==◌, nat_le, nat_lt, filter, not, if◌then◌else◌}
use Rattle.std.specs.List.{All, AllByRecursion, flat_map, list_all}
use Rattle.std.proofs.lemmas.List.{append-nil}
use Rattle.std.proofs.lemmas.Bool.{and_parts}
use Rattle.std.proofs.lemmas.Bool.Decides.{nat_tests}
use Rattle.std.proofs.lemmas.Grind.{flat_map-append}
use Rattle.std.proofs.lemmas.Slice.Eq.{bytes_eq-Decides}
use Rattle.dz_name.specs.Words.{Octets}
use Rattle.dz_name.specs.Name.{IsName, same_name}
use Rattle.dz_name.specs.Order.{same_decides}
use Rattle.dz_header.specs.declared.question.Question.{Question}
use Rattle.dz_record.specs.Record.{Record, IsRecord, record_octets}
use Rattle.dz_record.specs.Records.{distinct, in_order}
use Rattle.dz_message.specs.Frame.{stream, frame, AreShort}
use Rattle.dz_message.specs.Message.{Content}
use Rattle.dz_message.specs.Reading.{message_of}
use Rattle.dz_message.specs.Piece.{packed, written, answer_message, size_of, has_room, FitsAlone}
use Rattle.dz_message.specs.Writing.{message_octets, question_octets, IsAsking, IsHeldMessage}
use Rattle.dz_message.proofs.PieceLemmas.{one_taken, size_more, size_whole, record_size, size_begun, counted_all}
use Rattle.dz_message.proofs.PieceLemmas.{question_size}
use Rattle.dz_message.proofs.SpellingLemmas.{spells_is}
use Rattle.dz_message.proofs.WrittenLemmas.{message_spells}
use Rattle.dz_zone.specs.Valid.{at_apex, fault_of}
use Rattle.dz_zone.specs.Version.{Zone, IsVersion, apex_soa}
use Rattle.dz_zone.proofs.FaultLemmas.{fault_in_order, found_passes, found_some, has_soa}
use Rattle.dz_xfr.specs.Apex.{is_apex_soa}
use Rattle.dz_xfr.specs.Place.{amid, ended, read, said}
use Rattle.dz_xfr.specs.Stands.{complete}
use Rattle.dz_axfr.specs.Reading.{nothing, opened, one, reading_of}
use Rattle.dz_axfr.proofs.WholeLemmas.{read_body}
use Rattle.dz_take.specs.Form.{form, checked, decision_of}
use Rattle.dz_take.specs.Outcome.{answers, answers_in, judge, decided_from, fits_question, responds, outcome}
use Rattle.dz_take.specs.Outcome.{or_incomplete}
use Rattle.dz_take.specs.Transfer.{Transfer, Decision, new}
use Rattle.dz_take.proofs.TakingLemmas.{messages_back, stream_push}
use Rattle.dz_outward.specs.Laws.{ComesBack, transfer_of}
use Rattle.dz_outward.specs.Stream.{is_other, soa_of, sent_records, question_of, messages_of, is_fit, fits_alone}
use Rattle.dz_outward.proofs.OutgoingLemmas.{found_all, soa_short}
use Rattle.dz_outward.proofs.ZoneLemmas.{is_among, soa_alone, soa_and_others}

-- a version and its SOA
record Known (id : ℕ) (zone : Zone) (soa : Record) : Type 0 where
  id_short : id < 2 ^ 16
  opens : is_apex_soa zone.apex soa ≡ true
  inner : AllByRecursion (λ r. is_apex_soa zone.apex r ≡ false) (filter is_other zone.records)
  once : distinct (soa ∷ filter is_other zone.records) ≡ soa ∷ filter is_other zone.records
  sorted : in_order (soa ∷ filter is_other zone.records) ≡ zone.records
  faultless : fault_of zone.apex zone.records ≡ None

abbrev all_of : Zone → Record → List Record
all_of zone soa = soa ∷ (filter is_other zone.records ++ soa ∷ [])

-- a part of the records, and all of them
part_reads : (apex : List (List ℕ)) (soa : Record) (front : List Record)
    → AllByRecursion (λ r. is_apex_soa apex r ≡ false) front
    → read (one apex) (amid (opened soa [])) front ≡ amid (opened soa front)
part_reads apex soa front inner =
    ap (λ xs. read (one apex) (amid (opened soa [])) xs) (sym (append-nil front))
    ∙ read_body apex soa [] front [] inner

all_read : (apex : List (List ℕ)) (soa : Record) (others : List Record) → is_apex_soa apex soa ≡ true
    → AllByRecursion (λ r. is_apex_soa apex r ≡ false) others
    → read (one apex) (amid (opened soa [])) (others ++ soa ∷ []) ≡ ended (distinct (soa ∷ others))
all_read apex soa others opens inner =
    let last : one apex (opened soa others) soa ≡ ended (distinct (soa ∷ others)) =
    rw (opens, (bytes_eq-Decides soa.rdata soa.rdata).1 refl) refl in
    read_body apex soa [] others (soa ∷ []) inner ∙ last

form_part : (id : ℕ) (zone : Zone) (soa : Record) (front : List Record) → Known id zone soa
    → AllByRecursion (λ r. is_apex_soa zone.apex r ≡ false) front → form (transfer_of id zone) (soa ∷ front) ≡ None
unfolding form
form_part id zone soa front known inner = rw (known.opens, part_reads zone.apex soa front inner) refl

reading_all : (apex : List (List ℕ)) (soa : Record) (others : List Record) → is_apex_soa apex soa ≡ true
    → AllByRecursion (λ r. is_apex_soa apex r ≡ false) others
    → reading_of apex (soa ∷ (others ++ soa ∷ [])) ≡ complete (distinct (soa ∷ others))
reading_all apex soa others opens inner =
    let first : one apex nothing soa ≡ amid (opened soa []) = rw opens refl in
    ap (λ p. said (read (one apex) p (others ++ soa ∷ []))) first ∙ ap said (all_read apex soa others opens inner)

form_all : (id : ℕ) (zone : Zone) (soa : Record) → Known id zone soa
    → form (transfer_of id zone) (all_of zone soa) ≡ Some (new zone)
unfolding form
form_all id zone soa known =
    let others : List Record = filter is_other zone.records in
    let whole : List Record = distinct (soa ∷ others) in
    let no_fault : fault_of zone.apex (distinct whole) ≡ None =
    ap (λ rs. fault_of zone.apex (distinct rs)) known.once ∙ ap (fault_of zone.apex) known.once
    ∙ sym (fault_in_order zone.apex (soa ∷ others)) ∙ ap (fault_of zone.apex) known.sorted ∙ known.faultless in
    let records : in_order (distinct whole) ≡ zone.records =
    ap (λ rs. in_order (distinct rs)) known.once ∙ ap in_order known.once ∙ known.sorted in
    let decided : checked zone.apex whole (fault_of zone.apex (distinct whole)) ≡ new zone =
    rw (no_fault, records) refl in
    let inside_form : form (transfer_of id zone) (all_of zone soa)
    ≡ decision_of zone.apex (reading_of zone.apex (all_of zone soa)) = rw known.opens refl in
    inside_form ∙ ap (decision_of zone.apex) (reading_all zone.apex soa others known.opens known.inner)
    ∙ ap (λ (d : Decision). Some d) decided

-- a prefix of all records begins with the SOA, followed by others
inside : (P : Record → Type 0) (front others rest : List Record) (r s : Record) → front ++ r ∷ rest ≡ others ++ s ∷ []
    → AllByRecursion P others → AllByRecursion P front
inside P [] others rest r s e all = tt
inside P (x ∷ front) [] rest r s e all =
    let q : front ++ r ∷ rest ≡ [] = cc in
    absurd (omega (arith, ap (λ xs. length xs) q, length-append front (r ∷ rest)))
inside P (x ∷ front) (o ∷ others) rest r s e all =
    let first : o ≡ x = cc in
    let behind : front ++ r ∷ rest ≡ others ++ s ∷ [] = cc in
    (subst P first all.0, inside P front others rest r s behind all.1)

form_front : (id : ℕ) (zone : Zone) (soa : Record) (front rest : List Record) (r : Record) → Known id zone soa
    → 0 < length front → front ++ r ∷ rest ≡ all_of zone soa → form (transfer_of id zone) front ≡ None
form_front id zone soa [] rest r known some e = absurd (omega arith)
form_front id zone soa (x ∷ front) rest r known some e =
    let first : soa ≡ x = cc in
    let behind : front ++ r ∷ rest ≡ filter is_other zone.records ++ soa ∷ [] = cc in
    subst (λ y. form (transfer_of id zone) (y ∷ front) ≡ None) first (form_part id zone soa front known (inside
    (λ s. is_apex_soa zone.apex s ≡ false) front (filter is_other zone.records) rest r soa behind known.inner))

-- what a message in memory holds
all_from : {X : Type 0} (P : X → Type 0) (xs : List X) → AllByRecursion P xs → All P xs
all_from P [] h k d lt = absurd (omega arith)
all_from P (x ∷ xs) h zero d lt = h.0
all_from P (x ∷ xs) h (suc k) d lt = all_from P xs h.1 k d (omega arith)

few : (records : List Record) → length records ≤ length (flat_map record_octets records)
few [] = omega arith
few (r ∷ rs) = omega (arith, few rs, record_size r, length-append (record_octets r) (flat_map record_octets rs))

holds : (id : ℕ) (questions : List Question) (current : List Record) → id < 2 ^ 16 → length questions ≤ 1
    → AllByRecursion IsAsking questions → AllByRecursion IsRecord current → size_of questions current ≤ 65535
    → IsHeldMessage (answer_message id questions current)
unfolding size_of
holds id questions current short asked asking records size = record {
  header = record {
    id = short;
    flags = omega arith;
    counts = (omega arith, (omega (arith, few current), (omega arith, (omega arith, tt))));
  };
  questions = all_from IsAsking questions asking;
  answers = all_from IsRecord current records;
}

-- what a message decides
reads : (id : ℕ) (questions : List Question) (current : List Record)
    → IsHeldMessage (answer_message id questions current)
    → message_of (message_octets (answer_message id questions current)) ≡ Ok (answer_message id questions current)
reads id questions current held = spells_is _ _ (message_spells (answer_message id questions current) refl held)

judged : (T : Transfer) (front : List Octets) (questions : List Question) (current : List Record)
    → IsHeldMessage (answer_message T.id questions current)
    → length (stream (front ++ message_octets (answer_message T.id questions current) ∷ [])) ≤ 67108864
    → fits_question T (length front == 0) questions ≡ true
    → judge T front (message_octets (answer_message T.id questions current)) ≡ form T (answers front ++ current)
unfolding judge
judged T front questions current held short fits =
    let limit : nat_lt 67108864
    (length (stream (front ++ message_octets (answer_message T.id questions current) ∷ []))) ≡ false =
    grind (arith, nat_tests) in
    let same : responds T.id (answer_message T.id questions current) ≡ true =
    (let t : (T.id == T.id) ≡ true = grind (arith, nat_tests) in rw t refl) in
    rw (limit, reads T.id questions current held, same, fits) refl

answered : (id : ℕ) (front : List Octets) (questions : List Question) (current : List Record)
    → IsHeldMessage (answer_message id questions current)
    → answers (front ++ message_octets (answer_message id questions current) ∷ []) ≡ answers front ++ current
unfolding answers answers_in
answered id front questions current held =
    flat_map-append answers_in front (message_octets (answer_message id questions current) ∷ [])
    ∙ ap (λ xs. flat_map answers_in front ++ xs) (append-nil _ ∙ (rw (reads id questions current held) refl))

-- records that decide a transfer together, and of which no prefix does
pub record Deciding (T : Transfer) (all : List Record) (d : Decision) : Type 0 where
  pub id_short : T.id < 2 ^ 16
  pub part : (front rest : List Record) (r : Record) → 0 < length front → front ++ r ∷ rest ≡ all → form T front ≡ None
  pub whole : form T all ≡ Some d

-- the messages decide
pub record Behind (T : Transfer) (all : List Record) (front : List Octets) (questions : List Question)
    (current rest : List Record) : Type 0 where
  pub are : (answers front ++ current) ++ rest ≡ all
  pub short : length (stream front) + length (stream (written (packed T.id questions current rest))) ≤ 67108864
  pub fits : fits_question T (length front == 0) questions ≡ true
  pub asked : length questions ≤ 1
  pub asking : AllByRecursion IsAsking questions
  pub taken : AllByRecursion IsRecord current
  pub left : AllByRecursion IsRecord rest
  pub alone : AllByRecursion FitsAlone rest
  pub size : size_of questions current ≤ 65535
  pub some : 0 < length current

room_size : (questions : List Question) (current : List Record) (r : Record)
    → has_room (length current == 0) (size_of questions current) (length (record_octets r)) ≡ true
    → size_of questions (current ++ r ∷ []) ≤ 65535
room_size questions current r room = let n = size_more questions current r in grind (arith, nat_tests)

fresh_size : (r : Record) → FitsAlone r → size_of [] (r ∷ []) ≤ 65535
fresh_size r fits = omega (arith, size_more [] [] r, size_begun [])

and_one : (P : Record → Type 0) (xs : List Record) (r : Record) → AllByRecursion P xs → P r
    → AllByRecursion P (xs ++ r ∷ [])
and_one P [] r all p = (p, tt)
and_one P (x ∷ xs) r all p = (all.0, and_one P xs r all.1 p)

frame_short : (id : ℕ) (front : List Octets) (questions : List Question) (current : List Record)
    (rest : List Octets) (limit : ℕ)
    → length (stream front) + length (stream (message_octets (answer_message id questions current) ∷ rest)) ≤ limit
    → (length (stream (front ++ message_octets (answer_message id questions current) ∷ [])) ≤ limit)
    × (length (stream (front ++ message_octets (answer_message id questions current) ∷ [])) + length (stream rest)
    ≤ limit)
frame_short id front questions current rest limit le =
    let m : Octets = message_octets (answer_message id questions current) in
    let n : length (stream (front ++ m ∷ [])) ≡ length (stream front) + length (frame m) =
    ap (λ xs. length xs) (stream_push front m) ∙ length-append (stream front) (frame m) in
    let k = length-append (frame m) (stream rest) in
    (omega arith, omega arith)

pub decides : (T : Transfer) (all : List Record) (d : Decision) (front : List Octets) (questions : List Question)
    (current rest : List Record) → Deciding T all d → Behind T all front questions current rest
    → decided_from T front (written (packed T.id questions current rest)) ≡ Some d
unfolding packed decided_from
decides T all d front questions current [] known b =
    let m : Octets = message_octets (answer_message T.id questions current) in
    let held = holds T.id questions current known.id_short b.asked b.asking b.taken b.size in
    let short = frame_short T.id front questions current [] 67108864 b.short in
    let joined : answers front ++ current ≡ all = sym (append-nil (answers front ++ current)) ∙ b.are in
    let judge_is : judge T front m ≡ Some d =
    judged T front questions current held short.0 b.fits ∙ ap (form T) joined ∙ known.whole in
    rw judge_is refl
decides T all d front questions current (r ∷ rest) known b =
    elim (has_room (length current == 0) (size_of questions current) (length (record_octets r))) as (λ t.
    has_room (length current == 0) (size_of questions current) (length (record_octets r)) ≡ t
    → length (stream front) + length (stream (written (if t then packed T.id questions (current ++ r ∷ []) rest
    else answer_message T.id questions current ∷ packed T.id [] (r ∷ []) rest))) ≤ 67108864
    → decided_from T front (written (if t then packed T.id questions (current ++ r ∷ []) rest
    else answer_message T.id questions current ∷ packed T.id [] (r ∷ []) rest)) ≡ Some d) [
      | true ↦ λ q le. decides T all d front questions (current ++ r ∷ []) rest known record {
        are = ap (λ xs. xs ++ rest) (sym (append_assoc (answers front) current (r ∷ [])))
            ∙ append_assoc (answers front ++ current) (r ∷ []) rest ∙ b.are;
        short = le;
        fits = b.fits;
        asked = b.asked;
        asking = b.asking;
        taken = and_one IsRecord current r b.taken b.left.0;
        left = b.left.1;
        alone = b.alone.1;
        size = room_size questions current r q;
        some = omega (arith, length-append current (r ∷ []));
      }
      | false ↦ λ q le.
          let m : Octets = message_octets (answer_message T.id questions current) in
          let held = holds T.id questions current known.id_short b.asked b.asking b.taken b.size in
          let short = frame_short T.id front questions current (written (packed T.id [] (r ∷ []) rest)) 67108864 le in
          let some : 0 < length (answers front ++ current) =
          omega (arith, length-append (answers front) current, b.some) in
          let none : judge T front m ≡ None = judged T front questions current held short.0 b.fits
          ∙ known.part (answers front ++ current) rest r some b.are in
          let now : answers (front ++ m ∷ []) ≡ answers front ++ current =
          answered T.id front questions current held in
          let later : (length (front ++ m ∷ []) == 0) ≡ false =
          grind (arith, nat_tests, length-append front (m ∷ [])) in
          let next = decides T all d (front ++ m ∷ []) [] (r ∷ []) rest known record {
            are = ap (λ xs. (xs ++ r ∷ []) ++ rest) now
                ∙ append_assoc (answers front ++ current) (r ∷ []) rest ∙ b.are;
            short = short.1;
            fits = rw later refl;
            asked = omega arith;
            asking = tt;
            taken = (b.left.0, tt);
            left = b.left.1;
            alone = b.alone.1;
            size = fresh_size r b.alone.0;
            some = omega arith;
          } in
          rw none next
    ] refl b.short

-- each message has at most 65,535 octets
pub shorts : (id : ℕ) (questions : List Question) (current rest : List Record) → size_of questions current ≤ 65535
    → AllByRecursion FitsAlone rest → AreShort (written (packed id questions current rest))
unfolding packed
shorts id questions current [] size alone = (omega (arith, size_whole id questions current), tt)
shorts id questions current (r ∷ rest) size alone =
    elim (has_room (length current == 0) (size_of questions current) (length (record_octets r))) as (λ t.
    has_room (length current == 0) (size_of questions current) (length (record_octets r)) ≡ t
    → AreShort (written (if t then packed id questions (current ++ r ∷ []) rest
    else answer_message id questions current ∷ packed id [] (r ∷ []) rest))) [
      | true ↦ λ q. shorts id questions (current ++ r ∷ []) rest (room_size questions current r q) alone.1
      | false ↦ λ q.
          (omega (arith, size_whole id questions current), shorts id [] (r ∷ []) rest (fresh_size r alone.0) alone.1)
    ] refl

-- facts on lists
others_inner : (apex : List (List ℕ)) (rs : List Record)
    → AllByRecursion (λ r. is_apex_soa apex r ≡ false) (filter is_other rs)
others_inner apex [] = tt
others_inner apex (r ∷ rs) =
    elim (r.kind == 6) as (λ b. r.kind == 6 ≡ b → AllByRecursion (λ s. is_apex_soa apex s ≡ false)
    (if not b then r ∷ filter is_other rs else filter is_other rs)) [
      | true ↦ λ q. others_inner apex rs
      | false ↦ λ q. (rw q refl, others_inner apex rs)
    ] refl

by_turns : {X : Type 0} (P : X → Type 0) (xs : List X) → All P xs → AllByRecursion P xs
by_turns P [] all = tt
by_turns P (x ∷ xs) all = (all 0 x (omega arith), by_turns P xs (λ k d lt. all (suc k) d (omega arith)))

all_filtered : (P : Record → Type 0) (p : Record → Bool) (rs : List Record) → AllByRecursion P rs
    → AllByRecursion P (filter p rs)
all_filtered P p [] all = tt
all_filtered P p (r ∷ rs) all = elim (p r) as (λ b. AllByRecursion P (if b then r ∷ filter p rs else filter p rs)) [
  | true ↦ (all.0, all_filtered P p rs all.1)
  | false ↦ all_filtered P p rs all.1
]

all_alone : (rs : List Record) → list_all fits_alone rs ≡ true → AllByRecursion FitsAlone rs
all_alone [] h = tt
all_alone (r ∷ rs) h =
    let parts = and_parts (fits_alone r) (list_all fits_alone rs) h in
    ((let t = parts.0 in grind (arith, nat_tests)), all_alone rs parts.1)

with_soa : (id : ℕ) (zone : Zone) (soa : Record) → id < 2 ^ 16 → IsVersion zone → is_fit zone ≡ true
    → Some soa ≡ apex_soa zone
    → outcome (transfer_of id zone) (stream (written (messages_of id zone))) ≡ new zone
unfolding answers
with_soa id zone soa short version fit found =
    let rs : List Record = zone.records in
    let others : List Record = filter is_other rs in
    let rest : List Record = others ++ soa ∷ [] in
    let q : Question = question_of zone in
    let at : at_apex 6 zone.apex soa ≡ true = found_passes (at_apex 6 zone.apex) rs soa found in
    let parts = and_parts (soa.kind == 6) (same_name soa.owner zone.apex) at in
    let kind : soa.kind ≡ 6 = let t = parts.0 in grind (arith, nat_tests) in
    let owner : soa.owner ≡ zone.apex = (same_decides soa.owner zone.apex).0 parts.1 in
    let record_is : IsRecord soa = found_all IsRecord (at_apex 6 zone.apex) rs soa version.held found in
    let name : IsName zone.apex = subst IsName owner record_is.owner in
    let alone = soa_alone zone soa version.valid.faultless found in
    let two = soa_and_others zone soa version.valid.rises alone kind in
    let known : Known id zone soa = record {
      id_short = short;
      opens = at;
      inner = others_inner zone.apex rs;
      once = two.0;
      sorted = two.1;
      faultless = version.valid.faultless;
    } in
    let small = soa_short soa record_is kind in
    let begun : size_of (q ∷ []) [] ≡ 12 + (length (Rattle.dz_name.specs.Name.wire_of zone.apex) + 4) =
    omega (arith, size_begun (q ∷ []), ap (λ xs. length xs) (append-nil (question_octets q)), question_size q) in
    let asked_short = name.short in
    let room : has_room true (size_of (q ∷ []) []) (length (record_octets soa)) ≡ true = grind (arith, nat_tests) in
    let one : soa_of zone ≡ soa ∷ [] = rw (sym found) refl in
    let sent : sent_records zone ≡ soa ∷ rest = rw one refl in
    let first : messages_of id zone ≡ packed id (q ∷ []) (soa ∷ []) rest =
    ap (λ xs. packed id (q ∷ []) [] xs) sent ∙ one_taken id (q ∷ []) [] soa rest room in
    let ms : List Octets = written (packed id (q ∷ []) (soa ∷ []) rest) in
    let fitting =
    and_parts (list_all fits_alone rs) (nat_le (length (stream (written (messages_of 0 zone)))) 67108864) fit in
    let each = all_alone rs fitting.0 in
    let limit : length (stream (written (messages_of 0 zone))) ≤ 67108864 =
    let t = fitting.1 in
    grind (arith, nat_tests) in
    let a = counted_all id 0 (q ∷ []) [] (sent_records zone) in
    let b = counted_all 0 0 (q ∷ []) [] (sent_records zone) in
    let total : length (stream (written (messages_of id zone))) ≤ 67108864 = omega arith in
    let here : length (stream ms) ≤ 67108864 =
    subst (λ (c : List Content). length (stream (written c)) ≤ 67108864) first total in
    let held : AllByRecursion IsRecord rs = by_turns IsRecord rs version.held in
    let fits_rest : AllByRecursion FitsAlone rest = and_one FitsAlone others soa
    (all_filtered FitsAlone is_other rs each) (is_among FitsAlone rs soa alone each) in
    let size : size_of (q ∷ []) (soa ∷ []) ≤ 65535 = omega (arith, size_more (q ∷ []) [] soa) in
    let same : same_name zone.apex zone.apex ≡ true = (same_decides zone.apex zone.apex).1 refl in
    let behind : Behind (transfer_of id zone) (all_of zone soa) [] (q ∷ []) (soa ∷ []) rest = record {
      are = refl;
      short = omega arith;
      fits = rw same refl;
      asked = omega arith;
      asking = (record { name = name; kind = omega arith; class = omega arith }, tt);
      taken = (record_is, tt);
      left = and_one IsRecord others soa (all_filtered IsRecord is_other rs held) record_is;
      alone = fits_rest;
      size = size;
      some = omega arith;
    } in
    let deciding : Deciding (transfer_of id zone) (all_of zone soa) (new zone) =
    record {
      id_short = short;
      part = λ front more r some e. form_front id zone soa front more r known some e;
      whole = form_all id zone soa known;
    } in
    let decided =
    decides (transfer_of id zone) (all_of zone soa) (new zone) [] (q ∷ []) (soa ∷ []) rest deciding behind in
    let come = messages_back ms (shorts id (q ∷ []) (soa ∷ []) rest size fits_rest) in
    ap (λ (c : List Content). outcome (transfer_of id zone) (stream (written c))) first
    ∙ ap (λ (m : List Octets). or_incomplete (decided_from (transfer_of id zone) [] m)) come
    ∙ ap or_incomplete decided

pub back : ComesBack
back id zone short version fit =
    elim (apex_soa zone) as (λ o. apex_soa zone ≡ o
    → outcome (transfer_of id zone) (stream (written (messages_of id zone))) ≡ new zone) [
      | None ↦ λ e. absurd
          (found_some (at_apex 6 zone.apex) zone.records (has_soa zone.apex zone.records version.valid.faultless) e)
      | Some soa ↦ λ e. with_soa id zone soa short version fit (sym e)
    ] refl
