-- Messages that are put together in a buffer.
use Rattle.std.proofs.Common.{get_or, ◌<◌, ◌≡◌, ℕ, ◌+◌, ◌-◌, ◌≤◌, List, [], ◌∷◌, ◌++◌, length, take, drop, refl, sym}
use Rattle.std.proofs.Common.{◌∙◌, ap, arith, append_assoc, length-append}
use Rattle.std.specs.List.{flat_map}
use Rattle.std.proofs.Math.Seq.{take-append-add}
use Rattle.std.proofs.lemmas.List.{append-nil, length-take-le, take_at, take-take, drop-take, drop_more, drop_all}
use Rattle.std.proofs.lemmas.Grind.{flat_map-append}
use Rattle.dz_name.specs.Name.{wire_of}
use Rattle.dz_name.specs.Numbers.{two, four}
use Rattle.dz_name.proofs.NumberLemmas.{length_two, length_four}
use Rattle.dz_header.specs.Header.{header_octets}
use Rattle.dz_header.specs.declared.question.Question.{Question}
use Rattle.dz_record.specs.Record.{Record, IsRecord, record_octets}
use Rattle.std.specs.Prelude.{Result, Ok, Err, IfOk, OnOk, ◌==◌, true, false, if◌then◌else◌}
use Rattle.std.proofs.lemmas.Bool.Decides.{nat_tests}
use Rattle.dz_message.specs.Frame.{frame, stream}
use Rattle.dz_message.specs.Piece.{GoesOn, IsPacking, TallyState, tally_of, total_of, tallied, octets_behind, has_room}
use Rattle.dz_message.specs.Piece.{packed, written, PieceState, piece_of, size_of, answer_message, head_octets}
use Rattle.dz_message.specs.Piece.{begun_octets, Holds}
use Rattle.dz_message.specs.Writing.{message_octets, question_octets}
use Rattle.dz_message.proofs.PlaceLemmas.{short_rdata}

-- octets are put to a place of others
abbrev pub put : ℕ → List ℕ → List ℕ → List ℕ
put at piece octets = take at octets ++ (piece ++ drop (at + length piece) octets)

-- the front up to the end of what was put
pub front_put : (at end : ℕ) (piece octets : List ℕ) → at ≤ length octets → end ≡ at + length piece
    → take end (put at piece octets) ≡ take at octets ++ piece
front_put at end piece octets le is =
    let n : length (take at octets) ≡ at = length-take-le at octets le in
    ap (λ k. take k (put at piece octets)) (is ∙ ap (λ k. k + length piece) (sym n))
    ∙ take-append-add (take at octets) (piece ++ drop (at + length piece) octets) (length piece)
    ∙ ap (λ xs. take at octets ++ xs) (take_at piece (drop (at + length piece) octets) (length piece) refl)

-- a longer front
pub longer_put : (at end : ℕ) (piece octets : List ℕ) → at + length piece ≤ end → end ≤ length octets
    → take end (put at piece octets) ≡ put at piece (take end octets)
longer_put at end piece octets le within =
    let k : ℕ = at + length piece in
    let n : length (take at octets) ≡ at = length-take-le at octets (omega arith) in
    let first : end ≡ length (take at octets) + (length piece + (end - k)) = omega (arith, n) in
    let rest : take (end - k) (drop k octets) ≡ drop k (take end octets) =
    sym (ap (λ m. drop k (take m octets)) (omega arith) ∙ drop-take k (end - k) octets) in
    let front : take at (take end octets) ≡ take at octets = take-take at end octets (omega arith) in
    ap (λ m. take m (put at piece octets)) first
    ∙ take-append-add (take at octets) (piece ++ drop k octets) (length piece + (end - k))
    ∙ ap (λ xs. take at octets ++ xs) (take-append-add piece (drop k octets) (end - k))
    ∙ ap (λ xs. take at octets ++ (piece ++ xs)) rest
    ∙ ap (λ xs. xs ++ (piece ++ drop k (take end octets))) (sym front)

-- a question
pub question_size : (q : Question) → length (question_octets q) ≡ length (wire_of q.name) + 4
unfolding question_octets
question_size q = omega (
  arith,
  length-append (wire_of q.name) (two q.kind ++ two q.class),
  length-append (two q.kind) (two q.class),
  length_two q.kind,
  length_two q.class,
)

pub question_put : (q : Question) (front : List ℕ)
    → (front ++ wire_of q.name) ++ two q.kind ++ two q.class ≡ front ++ question_octets q
unfolding question_octets
question_put q front = append_assoc (front ++ wire_of q.name) (two q.kind) (two q.class)
    ∙ append_assoc front (wire_of q.name) (two q.kind ++ two q.class)

-- a record
pub record_size : (r : Record) → length (record_octets r) ≡ length (wire_of r.owner) + 10 + length r.rdata
record_size r =
    let size : List ℕ = two (length r.rdata) in
    let ttl : List ℕ = four r.ttl in
    omega (
      arith,
      length-append (wire_of r.owner) (two r.kind ++ (two 1 ++ (ttl ++ (size ++ r.rdata)))),
      length-append (two r.kind) (two 1 ++ (ttl ++ (size ++ r.rdata))),
      length-append (two 1) (ttl ++ (size ++ r.rdata)),
      length-append ttl (size ++ r.rdata),
      length-append size r.rdata,
      length_two r.kind,
      length_two 1,
      length_four r.ttl,
      length_two (length r.rdata),
    )

pub record_short : (r : Record) → IsRecord r → length (record_octets r) ≤ 65800
record_short r is = omega (arith, record_size r, is.owner.short, short_rdata r is)

-- a message that begins
pub begun : (id : ℕ) (questions : List Question)
    → head_octets id (length questions) ++ flat_map question_octets questions ≡ begun_octets id questions []
unfolding begun_octets
begun id questions =
    ap (λ xs. head_octets id (length questions) ++ xs) (sym (append-nil (flat_map question_octets questions)))

pub size_begun : (questions : List Question) → size_of questions [] ≡ 12 + length (flat_map question_octets questions)
unfolding size_of
size_begun questions = omega arith

-- one more record
pub size_more : (questions : List Question) (answers : List Record) (r : Record)
    → size_of questions (answers ++ r ∷ []) ≡ size_of questions answers + length (record_octets r)
unfolding size_of
size_more questions answers r =
    let e : flat_map record_octets (answers ++ r ∷ []) ≡ flat_map record_octets answers ++ record_octets r =
    flat_map-append record_octets answers (r ∷ [])
    ∙ ap (λ xs. flat_map record_octets answers ++ xs) (append-nil (record_octets r)) in
    omega (arith, ap (λ xs. length xs) e, length-append (flat_map record_octets answers) (record_octets r))

pub octets_more : (id : ℕ) (questions : List Question) (answers : List Record) (r : Record)
    → begun_octets id questions (answers ++ r ∷ []) ≡ begun_octets id questions answers ++ record_octets r
unfolding begun_octets
octets_more id questions answers r =
    let e : flat_map record_octets (answers ++ r ∷ []) ≡ flat_map record_octets answers ++ record_octets r =
    flat_map-append record_octets answers (r ∷ [])
    ∙ ap (λ xs. flat_map record_octets answers ++ xs) (append-nil (record_octets r)) in
    let head = head_octets id (length questions) in
    let asked = flat_map question_octets questions in
    ap (λ xs. head ++ (asked ++ xs)) e
    ∙ ap (λ xs. head ++ xs) (sym (append_assoc asked (flat_map record_octets answers) (record_octets r)))
    ∙ sym (append_assoc head (asked ++ flat_map record_octets answers) (record_octets r))

-- the answers are counted
pub counted : (id : ℕ) (questions : List Question) (answers : List Record) → put 6 (two (length answers))
    (begun_octets id questions answers) ≡ message_octets (answer_message id questions answers)
unfolding begun_octets head_octets header_octets two message_octets
counted id questions answers = refl

pub size_whole : (id : ℕ) (questions : List Question) (answers : List Record)
    → length (message_octets (answer_message id questions answers)) ≡ size_of questions answers
unfolding message_octets header_octets two size_of
size_whole id questions answers =
    omega (arith, length-append (flat_map question_octets questions) (flat_map record_octets answers))

-- the states of a message
pub holds_bare : (id : ℕ) (out : List ℕ) → take 12 out ≡ head_octets id 0
    → Holds (record { size = 12; count = 0 }) out id [] []
unfolding size_of begun_octets
holds_bare id out is = record { state = refl; octets = is ∙ sym (append-nil (head_octets id 0)) }

pub holds_asked : (id size : ℕ) (q : Question) (before out : List ℕ) → take 12 before ≡ head_octets id 1
    → size ≡ 12 + length (question_octets q) → take size out ≡ take 12 before ++ question_octets q
    → Holds (record { size = size; count = 0 }) out id (q ∷ []) []
unfolding size_of
holds_asked id size q before out head is octets =
    let one : flat_map question_octets (q ∷ []) ≡ question_octets q = append-nil (question_octets q) in
    let n : size_of (q ∷ []) [] ≡ size = size_begun (q ∷ []) ∙ ap (λ xs. 12 + length xs) one ∙ sym is in
    record {
      state = rw n refl;
      octets = octets ∙ ap (λ xs. xs ++ question_octets q) head ∙ ap (λ xs. head_octets id 1 ++ xs) (sym one)
          ∙ begun id (q ∷ []);
    }

pub holds_more : (old : PieceState) (out new octets : List ℕ) (id size count : ℕ) (questions : List Question)
    (answers : List Record) (r : Record) → Holds old out id questions answers
    → record { size = size; count = count } ≡ old → octets ≡ record_octets r → new ≡ put size octets out
    → size ≤ length out
    → Holds (record { size = size + length octets; count = count + 1 }) new id questions (answers ++ r ∷ [])
holds_more old out new octets id size count questions answers r holds is one there within =
    let state : record { size = size; count = count } ≡ piece_of questions answers = is ∙ holds.state in
    let s : size ≡ size_of questions answers = ap (λ (p : PieceState). p.size) state in
    let k : count ≡ length answers = ap (λ (p : PieceState). p.count) state in
    let n : size + length octets ≡ size_of questions (answers ++ r ∷ []) =
    omega (arith, size_more questions answers r, ap (λ xs. length xs) one) in
    let m : count + 1 ≡ length (answers ++ r ∷ []) = omega (arith, length-append answers (r ∷ [])) in
    let before : take size out ≡ begun_octets id questions answers =
    ap (λ (p : PieceState). take p.size out) is ∙ holds.octets in
    record {
      state = rw (n, m) refl;
      octets = ap (λ xs. take (size + length octets) xs) there
          ∙ front_put size (size + length octets) octets out within refl ∙ ap (λ xs. xs ++ octets) before
          ∙ ap (λ xs. begun_octets id questions answers ++ xs) one ∙ sym (octets_more id questions answers r);
    }

pub holds_end : (old : PieceState) (out new : List ℕ) (id size count : ℕ) (questions : List Question)
    (answers : List Record) → Holds old out id questions answers
    → record { size = size; count = count } ≡ old → new ≡ put 6 (two count) out → size ≤ length out → 12 ≤ size
    → take size new ≡ message_octets (answer_message id questions answers)
holds_end old out new id size count questions answers holds is there within long =
    let k : count ≡ length answers = ap (λ (p : PieceState). p.count) (is ∙ holds.state) in
    let before : take size out ≡ begun_octets id questions answers =
    ap (λ (p : PieceState). take p.size out) is ∙ holds.octets in
    ap (λ xs. take size xs) there ∙ longer_put 6 size (two count) out (omega (arith, length_two count)) within
    ∙ ap (λ xs. put 6 (two count) xs) before
    ∙ ap (λ n. put 6 (two n) (begun_octets id questions answers)) k ∙ counted id questions answers

-- counting
pub tally_grows : (t : TallyState) (more : ℕ) → total_of (tallied t more) ≤ total_of t + (more + 14)
tally_grows t more = elim (has_room t.is_empty t.size more) as (λ b. total_of (if b then tally_of t.before
    (t.size + more) false else tally_of (total_of t) (12 + more) false) ≤ total_of t + (more + 14)) [
      | true ↦ omega arith
      | false ↦ omega arith
    ]

pub tally_rises : (t : TallyState) (more : ℕ) → total_of t ≤ total_of (tallied t more)
tally_rises t more = elim (has_room t.is_empty t.size more) as (λ b. total_of t
    ≤ total_of (if b then tally_of t.before (t.size + more) false else tally_of (total_of t) (12 + more) false)) [
      | true ↦ omega arith
      | false ↦ omega arith
    ]

-- a message preceded by its length
frame_size : (id : ℕ) (questions : List Question) (current : List Record)
    → length (frame (message_octets (answer_message id questions current))) ≡ 2 + size_of questions current
frame_size id questions current =
    let m : List ℕ = message_octets (answer_message id questions current) in
    omega (arith, length-append (two (length m)) m, length_two (length m), size_whole id questions current)

size_fresh : (r : Record) → size_of [] (r ∷ []) ≡ 12 + length (record_octets r)
unfolding size_of
size_fresh r = omega (arith, ap (λ xs. length xs) (append-nil (record_octets r)))

none_empty : (current : List Record) (r : Record) → (length (current ++ r ∷ []) == 0) ≡ false
none_empty current r = grind (arith, nat_tests, length-append current (r ∷ []))

-- what is counted are the octets of the messages
pub counted_all : (id before : ℕ) (questions : List Question) (current records : List Record)
    → octets_behind (tally_of before (size_of questions current) (length current == 0)) records
    ≡ before + length (stream (written (packed id questions current records)))
unfolding octets_behind packed
counted_all id before questions current [] =
    let m : List ℕ = frame (message_octets (answer_message id questions current)) in
    omega (arith, frame_size id questions current, length-append m [])
counted_all id before questions current (r ∷ rs) =
    elim (has_room (length current == 0) (size_of questions current) (length (record_octets r))) as (λ b.
    octets_behind (if b then tally_of before (size_of questions current + length (record_octets r)) false
    else tally_of (before + (2 + size_of questions current)) (12 + length (record_octets r)) false) rs
    ≡ before + length (stream (written (if b then packed id questions (current ++ r ∷ []) rs
    else answer_message id questions current ∷ packed id [] (r ∷ []) rs)))) [
      | true ↦
          let next = counted_all id before questions (current ++ r ∷ []) rs in
          rw (size_more questions current r, none_empty current r) at next
      | false ↦
          let next = counted_all id (before + (2 + size_of questions current)) [] (r ∷ []) rs in
          let there : octets_behind
          (tally_of (before + (2 + size_of questions current)) (12 + length (record_octets r)) false) rs
          ≡ before + (2 + size_of questions current) + length (stream (written (packed id [] (r ∷ []) rs))) =
          rw (size_fresh r) at next in
          let m : List ℕ = frame (message_octets (answer_message id questions current)) in
          there ∙ omega
          (arith, frame_size id questions current, length-append m (stream (written (packed id [] (r ∷ []) rs))))
    ]

-- one record more has room, or none
pub one_taken : (id : ℕ) (questions : List Question) (current : List Record) (r : Record) (rs : List Record)
    → has_room (length current == 0) (size_of questions current) (length (record_octets r)) ≡ true
    → packed id questions current (r ∷ rs) ≡ packed id questions (current ++ r ∷ []) rs
unfolding packed
one_taken id questions current r rs room = rw room refl

pub one_cut : (id : ℕ) (questions : List Question) (current : List Record) (r : Record) (rs : List Record)
    → has_room (length current == 0) (size_of questions current) (length (record_octets r)) ≡ false
    → packed id questions current (r ∷ rs) ≡ answer_message id questions current ∷ packed id [] (r ∷ []) rs
unfolding packed
one_cut id questions current r rs none = rw none refl

-- where a record goes
pub goes_in : (old next : PieceState) (before after out : List ℕ) (id : ℕ) (questions : List Question)
    (current : List Record) (r : Record) → Holds old before id questions current
    → has_room (old.count == 0) old.size (length (record_octets r)) ≡ true
    → Holds next after id questions (current ++ r ∷ []) → GoesOn next after out out id questions current r
goes_in old next before after out id questions current r holds room held =
    let there : has_room (length current == 0) (size_of questions current) (length (record_octets r)) ≡ true =
    ap (λ (p : PieceState). has_room (p.count == 0) p.size (length (record_octets r))) (sym holds.state) ∙ room in
    record {
      asked = questions;
      taken = current ++ r ∷ [];
      holds = held;
      same = λ rest. ap (λ ms. out ++ stream (written ms)) (sym (one_taken id questions current r rest there));
    }

pub goes_behind : (old next : PieceState) (before after out more : List ℕ) (id : ℕ) (questions : List Question)
    (current : List Record) (r : Record) → Holds old before id questions current
    → has_room (old.count == 0) old.size (length (record_octets r)) ≡ false → Holds next after id [] (r ∷ [])
    → more ≡ out ++ frame (message_octets (answer_message id questions current))
    → GoesOn next after out more id questions current r
goes_behind old next before after out more id questions current r holds room held ended =
    let none : has_room (length current == 0) (size_of questions current) (length (record_octets r)) ≡ false =
    ap (λ (p : PieceState). has_room (p.count == 0) p.size (length (record_octets r))) (sym holds.state) ∙ room in
    record {
      asked = [];
      taken = r ∷ [];
      holds = held;
      same = λ rest.
          ap (λ xs. xs ++ stream (written (packed id [] (r ∷ []) rest))) ended
          ∙ append_assoc out (frame (message_octets (answer_message id questions current)))
          (stream (written (packed id [] (r ∷ []) rest)))
          ∙ ap (λ ms. out ++ stream (written ms)) (sym (one_cut id questions current r rest none));
    }

-- the next record of a list
pub packs_next : (piece next : PieceState) (before after out more : List ℕ) (id : ℕ) (records : List Record) (at : ℕ)
    (r : Record) (whole : List ℕ) → at < length records → r ≡ get_or records at r
    → IsPacking piece before out id (drop at records) whole
    → ((questions : List Question) (current : List Record) → Holds piece before id questions current
    → GoesOn next after out more id questions current r)
    → IsPacking next after more id (drop (at + 1) records) whole
packs_next piece next before after out more id records at r whole lt is packs step =
    let goes = step packs.asked packs.taken packs.holds in
    let split : drop at records ≡ r ∷ drop (at + 1) records =
    drop_more records at r lt ∙ ap (λ x. x ∷ drop (at + 1) records) (sym is) in
    record {
      asked = goes.asked;
      taken = goes.taken;
      holds = goes.holds;
      same = goes.same (drop (at + 1) records)
          ∙ ap (λ rs. out ++ stream (written (packed id packs.asked packs.taken rs))) (sym split) ∙ packs.same;
    }

pub packs_all : (piece : PieceState) (buffer out more : List ℕ) (id : ℕ) (records : List Record) (at : ℕ)
    (whole : List ℕ) → length records ≤ at → IsPacking piece buffer out id (drop at records) whole
    → ((id : ℕ) (questions : List Question) (current : List Record) → Holds piece buffer id questions current
    → more ≡ out ++ frame (message_octets (answer_message id questions current)))
    → more ≡ whole
unfolding packed
packs_all piece buffer out more id records at whole le packs ends =
    let m : List ℕ = frame (message_octets (answer_message id packs.asked packs.taken)) in
    let none : drop at records ≡ [] = drop_all at records le in
    ends id packs.asked packs.taken packs.holds ∙ ap (λ xs. out ++ xs) (sym (append-nil m))
    ∙ ap (λ rs. out ++ stream (written (packed id packs.asked packs.taken rs))) (sym none) ∙ packs.same

-- what follows of an Ok
pub if_ok : {A E : Type 0} {P Q : A → Type 0} (r : Result A E) → IfOk r P → ((x : A) → P x → Q x) → IfOk r Q
if_ok (Ok x) p f = f x p
if_ok (Err e) p f = tt

pub on_ok_from : {A E : Type 0} {P Q : Type 0} (r : Result A E) → OnOk r P → (P → Q) → OnOk r Q
on_ok_from (Ok x) p f = f p
on_ok_from (Err e) p f = tt
