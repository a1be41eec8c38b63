-- A message that is written spells the message.
use Rattle.std.proofs.Common.{inl, inr, get_or, ◌≡◌, ℕ, suc, ◌+◌, ◌<◌, ◌≤◌, ◌^◌, List, [], ◌∷◌, ◌++◌, length, drop}
use Rattle.std.proofs.Common.{refl, sym, ◌∙◌, ap, subst, arith, append_assoc, length-append, Ok, Err, Some}
use Rattle.std.specs.Prelude.{slice_index, Result, OnOk}
use Rattle.std.specs.List.{All, AllByRecursion, flat_map}
use Rattle.std.proofs.lemmas.List.{append-nil, drop_more}
use Rattle.std.proofs.lemmas.Bool.{cases_lt}
use Rattle.dz_name.specs.Name.{wire_of}
use Rattle.dz_name.specs.Numbers.{two}
use Rattle.dz_name.proofs.NumberLemmas.{length_two}
use Rattle.dz_name.proofs.CanonicalLemmas.{reads_wire}
use Rattle.dz_header.specs.declared.header.Header.{Header}
use Rattle.dz_header.specs.declared.question.Question.{Question}
use Rattle.dz_header.specs.Header.{header_in, header_octets}
use Rattle.dz_header.specs.Shape.{behind_records}
use Rattle.dz_header.proofs.HeaderLemmas.{four_items}
use Rattle.dz_record.specs.Record.{Record, IsRecord, record_octets}
use Rattle.dz_message.specs.Message.{Content}
use Rattle.dz_message.specs.Spelling.{IsQuestion, IsRecordAt, Spells}
use Rattle.dz_message.specs.Writing.{IsAsking, IsHeader, IsHeldMessage, CountsAgree, question_octets, message_octets}
use Rattle.dz_header.proofs.PlaceLemmas.{length_there, drop_there}
use Rattle.dz_message.proofs.PlaceLemmas.{two_there, fixed_octets, record_there, each_there}

-- a question that is written reads as the question
pub question_there : (m : List ℕ) (q : Question) (more : List ℕ) (at : ℕ) → IsAsking q
    → 0 ≤ at → drop at m ≡ question_octets q ++ more
    → IsQuestion m at q (at + length (question_octets q))
unfolding question_octets
question_there m q more at is low there =
    let name = wire_of q.name in
    let b : ℕ = at + length name in
    let split : drop at m ≡ name ++ (two q.kind ++ (two q.class ++ more)) =
    there ∙ append_assoc name (two q.kind ++ two q.class) more
    ∙ ap (λ xs. name ++ xs) (append_assoc (two q.kind) (two q.class) more) in
    let d0 : drop b m ≡ two q.kind ++ (two q.class ++ more) = drop_there m at (length name) name _ split refl in
    let d2 : drop (b + 2) m ≡ two q.class ++ more = drop_there m b 2 (two q.kind) _ d0 (length_two q.kind) in
    let size : length (name ++ (two q.kind ++ two q.class)) ≡ length name + 4 =
    omega (
      arith,
      length-append name (two q.kind ++ two q.class),
      length-append (two q.kind) (two q.class),
      length_two q.kind,
      length_two q.class,
    ) in
    let count = length_there m (b + 2) (two q.class) more d2 in
    record {
      behind = b;
      name = reads_wire m q.name _ at 0 at is.name.each (omega (arith, is.name.short)) split;
      kind = sym (two_there m b q.kind _ is.kind d0);
      class = sym (two_there m (b + 2) q.class _ is.class d2);
      next_is = omega (arith, size);
      within = omega (arith, size, count, length_two q.class);
    }

-- an answer record that is written reads as the record
answer_there : (m : List ℕ) (r : Record) (more : List ℕ) (at : ℕ) → IsRecord r
    → 0 ≤ at → drop at m ≡ record_octets r ++ more
    → IsRecordAt m at r (at + length (record_octets r))
answer_there m r more at is low there =
    let split : drop at m ≡ wire_of r.owner ++ (fixed_octets r ++ more) =
    there ∙ append_assoc (wire_of r.owner) (fixed_octets r) more in
    record_there m (wire_of r.owner) r more
    at is.number is (reads_wire m r.owner _ at 0 at is.owner.each (omega (arith, is.owner.short)) split) there

-- the header that is written is the header that is read
pub record HeaderThere (m : List ℕ) (header : Header) (rest : List ℕ) : Type 0 where
  pub is : header ≡ header_in m
  pub long : 12 ≤ length m
  pub behind : drop 12 m ≡ rest

four_counts : (header : Header) (a b c d : ℕ) → header.counts ≡ a ∷ b ∷ c ∷ d ∷ []
    → header_octets header ≡ two header.id ++ (two header.flags ++ (two a ++ (two b ++ (two c ++ (two d ++ [])))))
unfolding header_octets
four_counts header a b c d is = rw is refl

same_header : (header other : Header) → other.id ≡ header.id → other.flags ≡ header.flags
    → other.counts ≡ header.counts → header ≡ other
same_header header other id flags counts = rw (sym id, sym flags, sym counts) refl

pub header_there : (m : List ℕ) (header : Header) (a b c d : ℕ) (rest : List ℕ) → IsHeader header
    → header.counts ≡ a ∷ b ∷ c ∷ d ∷ []
    → m ≡ header_octets header ++ rest → HeaderThere m header rest
unfolding header_in
header_there m header a b c d rest is counts there =
    let small : AllByRecursion (λ n. n < 2 ^ 16) (a ∷ b ∷ c ∷ d ∷ []) =
    subst (λ ns. AllByRecursion (λ n. n < 2 ^ 16) ns) counts is.counts in
    let ends : two d ++ [] ≡ two d = append-nil (two d) in
    let split : drop 0 m ≡ two header.id ++ (two header.flags ++ (two a ++ (two b ++ (two c ++ (two d ++ rest))))) =
    there ∙ ap (λ xs. xs ++ rest) (four_counts header a b c d counts)
    ∙ append_assoc (two header.id) (two header.flags ++ (two a ++ (two b ++ (two c ++ (two d ++ []))))) rest
    ∙ ap (λ xs. two header.id ++ xs)
    (append_assoc (two header.flags) (two a ++ (two b ++ (two c ++ (two d ++ [])))) rest
    ∙ ap (λ xs. two header.flags ++ xs) (append_assoc (two a) (two b ++ (two c ++ (two d ++ []))) rest
    ∙ ap (λ xs. two a ++ xs) (append_assoc (two b) (two c ++ (two d ++ [])) rest
    ∙ ap (λ xs. two b ++ xs) (append_assoc (two c) (two d ++ []) rest ∙ ap (λ xs. two c ++ (xs ++ rest)) ends)))) in
    let d2 : drop 2 m ≡ two header.flags ++ (two a ++ (two b ++ (two c ++ (two d ++ rest)))) =
    drop_there m 0 2 (two header.id) _ split (length_two header.id) in
    let d4 : drop 4 m ≡ two a ++ (two b ++ (two c ++ (two d ++ rest))) =
    drop_there m 2 2 (two header.flags) _ d2 (length_two header.flags) in
    let d6 : drop 6 m ≡ two b ++ (two c ++ (two d ++ rest)) = drop_there m 4 2 (two a) _ d4 (length_two a) in
    let d8 : drop 8 m ≡ two c ++ (two d ++ rest) = drop_there m 6 2 (two b) _ d6 (length_two b) in
    let d10 : drop 10 m ≡ two d ++ rest = drop_there m 8 2 (two c) _ d8 (length_two c) in
    let d12 : drop 12 m ≡ rest = drop_there m 10 2 (two d) _ d10 (length_two d) in
    let one = two_there m 4 a _ small.0 d4 in
    let second = two_there m 6 b _ small.1.0 d6 in
    let third = two_there m 8 c _ small.1.1.0 d8 in
    let fourth = two_there m 10 d _ small.1.1.1.0 d10 in
    let last = length_there m 10 (two d) rest d10 in
    record {
      is = same_header header (header_in m) (two_there m 0 header.id _ is.id split)
          (two_there m 2 header.flags _ is.flags d2) (rw (one, second, third, fourth) (sym counts));
      long = omega (arith, last, length_two d);
      behind = d12;
    }

-- nothing follows the answers
no_others : (c d : ℕ) (octets : List ℕ) → c ≡ 0 → d ≡ 0 → octets ≡ [] → behind_records (c + d) octets ≡ Some []
unfolding behind_records
no_others c d octets first second is = rw (first, second, is) refl

-- a fact on each, by place and one after the other
each : {X : Type 0} (P : X → Type 0) (xs : List X) → All P xs → AllByRecursion P xs
each P [] all = tt
each P (x ∷ xs) all = (all 0 x (omega arith), each P xs (λ k d lt. all (suc k) d (omega arith)))

-- a header of four counts, each number of two octets
pub header_held : (header : Header) → length header.counts ≡ 4 → header.id < 2 ^ 16 → header.flags < 2 ^ 16
    → get_or header.counts 0 0 < 2 ^ 16 → get_or header.counts 1 0 < 2 ^ 16 → get_or header.counts 2 0 < 2 ^ 16
    → get_or header.counts 3 0 < 2 ^ 16 → IsHeader header
header_held header four id flags a b c d =
    record { id = id; flags = flags; counts = rw (four_items header.counts four) (a, (b, (c, (d, tt)))) }

-- what holds anyway holds of an Ok
pub on_ok : {A E : Type 0} {P : Type 0} (r : Result A E) → P → OnOk r P
on_ok (Ok x) p = p
on_ok (Err e) p = tt

-- a fact of the items up to a place, and of the next one
pub held_next : {X : Type 0} (P : X → Type 0) (xs : List X) (i : ℕ) (x : X) → i < length xs → x ≡ get_or xs i x → P x
    → ((k : ℕ) (d : X) → k < i → P (get_or xs k d)) → (k : ℕ) (d : X) → k < i + 1 → P (get_or xs k d)
held_next P xs i x lt item is held k d within = elim (cases_lt k i) [
  | inl w ↦ held k d w
  | inr w ↦
      let e : k ≡ i = omega arith in
      let one = drop_more xs i x lt in
      let other = drop_more xs i d lt in
      let same : x ≡ get_or xs i d = cc in
      rw e (subst P same is)
]

-- the octets of a message spell it
pub message_spells : (m : Content) → CountsAgree m → IsHeldMessage m → Spells (message_octets m) m
unfolding message_octets
message_spells m agree held =
    let questions = flat_map question_octets m.questions in
    let answers = flat_map record_octets m.answers in
    let octets : List ℕ = message_octets m in
    let head = header_there octets m.header (length m.questions) (length m.answers) 0 0
    (questions ++ answers) held.header agree refl in
    let p1 : ℕ = 12 + length questions in
    let p2 : ℕ = p1 + length answers in
    let d1 : drop p1 octets ≡ answers = drop_there octets 12 (length questions) questions answers head.behind refl in
    let d1' : drop p1 octets ≡ answers ++ [] = d1 ∙ sym (append-nil answers) in
    let d2 : drop p2 octets ≡ [] = drop_there octets p1 (length answers) answers [] d1' refl in
    record {
      answers_at = p1;
      others_at = p2;
      long = head.long;
      header = head.is;
      question_count = rw agree refl;
      questions = each_there IsAsking (IsQuestion octets) question_octets octets 0 (question_there octets) m.questions
          answers 12 (each IsAsking m.questions held.questions) (omega arith) head.behind;
      answer_count = rw agree refl;
      answers = each_there IsRecord (IsRecordAt octets) record_octets octets 0 (answer_there octets) m.answers [] p1
          (each IsRecord m.answers held.answers) (omega arith) d1';
      others =
          no_others _ _ (drop p2 octets) (ap (λ ns. slice_index ns 2) agree) (ap (λ ns. slice_index ns 3) agree) d2;
    }
