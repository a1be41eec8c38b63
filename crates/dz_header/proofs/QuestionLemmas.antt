-- Questions whose name has no pointer: their octets spell them, wherever they are.
use Rattle.std.proofs.Common.{inl, inr, ◌≡◌, ℕ, ◌+◌, ◌-◌, ◌<◌, ◌≤◌, true, false, List, [], ◌∷◌, ◌++◌, length, take}
use Rattle.std.proofs.Common.{drop, refl, sym, ◌∙◌, ap, arith, append_assoc, length-append, length-drop}
use Rattle.std.proofs.Common.{length-take-le, Ok, Err}
use Rattle.std.specs.Prelude.{map, ◌≢◌, IfOk, slice_index, slice_range, nat_lt, Result}
use Rattle.std.specs.List.{AllByRecursion}
use Rattle.std.proofs.lemmas.List.{take_at, take-append-drop, drop-drop, drop_more}
use Rattle.std.proofs.lemmas.Bool.{cases_lt}
use Rattle.std.proofs.lemmas.Bool.Decides.{nat_tests}
use Rattle.dz_name.specs.Name.{lower, wire_of}
use Rattle.dz_name.specs.Numbers.{number_of_two}
use Rattle.dz_name.specs.Reading.{Reading, Reads, at_root, at_label, at_pointer, no_octet, cut_label, cut_pointer}
use Rattle.dz_name.specs.Reading.{bad_kind, forward, too_long, label_end, label_at, with_label, ends_at, name_at}
use Rattle.dz_name.proofs.KeptLemmas.{wire_some, length-lower}
use Rattle.dz_name.proofs.ReadingLemmas.{length_label, name_at_reads, name_at_is, name_at_name, name_at_within}
use Rattle.dz_header.specs.declared.question.Question.{Question}
use Rattle.dz_name.specs.declared.wire_fault.WireFault.{WireFault}
use Rattle.dz_header.specs.Question.{question_of, question_behind, question_at}
use Rattle.dz_header.proofs.PlaceLemmas.{length_there, drop_there, index_there, range_there}

-- a label as a message has it, its letters in any case
pub record IsRaw (label : List ℕ) : Type 0 where
  pub some : 0 < length label
  pub short : length label < 64

-- a name is between two offsets in the letters of the message, without pointers
pub record IsSpelled (m : List ℕ) (at end : ℕ) (name : List (List ℕ)) : Type 0 where
  pub raws : List (List ℕ)
  pub there : drop at m ≡ wire_of raws ++ drop end m
  pub name_is : name ≡ map lower raws
  pub each : AllByRecursion IsRaw raws

-- a wire form keeps its length in lower case
pub length_wire_lower : (raws : List (List ℕ)) → length (wire_of (map lower raws)) ≡ length (wire_of raws)
unfolding wire_of
length_wire_lower [] = refl
length_wire_lower (label ∷ labels) =
    omega (
      arith,
      length_wire_lower labels,
      length-lower label,
      length-append label (wire_of labels),
      length-append (lower label) (wire_of (map lower labels)),
    )

-- a wire form never has two octets
not_two-label : (label : List ℕ) (rest : Reading) → 0 < length label
    → IfOk (with_label label rest) (λ r. length (wire_of r.0) ≢ 2)
unfolding wire_of
not_two-label label (Ok r) some = λ e. omega (arith, e, length-append label (wire_of r.0), wire_some r.0)
not_two-label label (Err e) some = tt

not_two-pointer : (end : ℕ) (rest : Reading) → IfOk rest (λ r. length (wire_of r.0) ≢ 2)
    → IfOk (ends_at end rest) (λ r. length (wire_of r.0) ≢ 2)
not_two-pointer end (Ok r) h = h
not_two-pointer end (Err e) h = tt

not_two : (m : List ℕ) {piece used at : ℕ} {r : Reading} → Reads m piece used at r
    → IfOk r (λ r. length (wire_of r.0) ≢ 2)
unfolding wire_of
not_two m {piece} {used} {at} (at_root within zero_octet) = λ e. absurd (omega (arith, e))
not_two m {piece} {used} {at} (at_label {rest = rest} within some short whole fits reads) =
    not_two-label (label_at m at) rest
    (omega (arith, length_label m at whole, length-lower (slice_range m (at + 1) (label_end m at))))
not_two m {piece} {used} {at} (at_pointer {rest = rest} two pointer before reads) =
    not_two-pointer (at + 2) rest (not_two m reads)
not_two m (no_octet past) = tt
not_two m (cut_label within some short cut) = tt
not_two m (cut_pointer within pointer cut) = tt
not_two m (bad_kind within some below) = tt
not_two m (forward within pointer behind) = tt
not_two m (too_long within some short whole more) = tt

-- a reading that ends as many octets after its beginning as its wire form has followed no pointer
abbrev InPlace : List ℕ → ℕ → Reading → Type 0
InPlace m at r = IfOk r (λ p. p.1 ≡ at + length (wire_of p.0) → IsSpelled m at p.1 p.0)

in_place-label : (m : List ℕ) (at : ℕ) (rest : Reading) → at < length m → 0 < slice_index m at → slice_index m at < 64
    → label_end m at ≤ length m
    → InPlace m (label_end m at) rest → InPlace m at (with_label (label_at m at) rest)
unfolding wire_of
in_place-label m at (Err e) within some short whole h = tt
in_place-label m at (Ok r) within some short whole h = λ e.
    let raw : List ℕ = slice_range m (at + 1) (label_end m at) in
    let count : length raw ≡ slice_index m at = length_label m at whole in
    let low : length (label_at m at) ≡ length raw = length-lower raw in
    let behind = h (omega (arith, e, count, low, length-append (label_at m at) (wire_of r.0))) in
    let tail : drop (at + 1) m ≡ raw ++ drop (label_end m at) m =
    sym (take-append-drop (label_end m at - (at + 1)) (drop (at + 1) m))
    ∙ ap (λ xs. raw ++ xs) (drop-drop (label_end m at - (at + 1)) (at + 1) m ∙ ap (λ n. drop n m) (omega arith)) in
    let front : drop at m ≡ length raw ∷ (raw ++ drop (label_end m at) m) =
    drop_more m at 0 within ∙ (ap (λ n. n ∷ drop (at + 1) m) (sym count) ∙ ap (λ xs. length raw ∷ xs) tail) in
    record {
      raws = raw ∷ behind.raws;
      there = front ∙ ap (λ xs. length raw ∷ xs)
          (ap (λ xs. raw ++ xs) behind.there ∙ sym (append_assoc raw (wire_of behind.raws) (drop r.1 m)));
      name_is = ap (λ ls. label_at m at ∷ ls) behind.name_is;
      each = (record { some = omega (arith, count); short = omega (arith, count) }, behind.each);
    }

in_place-pointer : (m : List ℕ) (at : ℕ) (rest : Reading) → IfOk rest (λ r. length (wire_of r.0) ≢ 2)
    → InPlace m at (ends_at (at + 2) rest)
in_place-pointer m at (Ok r) h = λ e. absurd (h (omega (arith, e)))
in_place-pointer m at (Err e) h = tt

reads_in_place : (m : List ℕ) {piece used at : ℕ} {r : Reading} → Reads m piece used at r → InPlace m at r
unfolding wire_of
reads_in_place m {piece} {used} {at} (at_root within zero_octet) = λ e.
    record {
      raws = [];
      there = drop_more m at 0 within ∙ ap (λ n. n ∷ drop (at + 1) m) zero_octet;
      name_is = refl;
      each = tt;
    }
reads_in_place m {piece} {used} {at} (at_label {rest = rest} within some short whole fits reads) =
    in_place-label m at rest within some short whole (reads_in_place m reads)
reads_in_place m {piece} {used} {at} (at_pointer {rest = rest} two pointer before reads) =
    in_place-pointer m at rest (not_two m reads)
reads_in_place m (no_octet past) = tt
reads_in_place m (cut_label within some short cut) = tt
reads_in_place m (cut_pointer within pointer cut) = tt
reads_in_place m (bad_kind within some below) = tt
reads_in_place m (forward within pointer behind) = tt
reads_in_place m (too_long within some short whole more) = tt

-- the octets of a name that was read and has no pointer
pub name_in_place : (m : List ℕ) (at end : ℕ) (name : List (List ℕ)) → name_at m at ≡ Ok (name, end)
    → end ≡ at + length (wire_of name) → IsSpelled m at end name
name_in_place m at end name is place =
    let reads : Reads m at 0 at (Ok (name, end)) = rw is at (name_at_reads m at) in
    reads_in_place m reads place

-- labels in any case read as the labels in lower case
pub reads_raw : (m : List ℕ) (raws : List (List ℕ)) (more : List ℕ) (piece used at : ℕ) → AllByRecursion IsRaw raws
    → used + length (wire_of raws) ≤ 255
    → drop at m ≡ wire_of raws ++ more → Reads m piece used at (Ok (map lower raws, at + length (wire_of raws)))
unfolding wire_of
reads_raw m [] more piece used at each fits is =
    at_root (omega (arith, length_there m at (0 ∷ []) more is)) (index_there m at 0 more is)
reads_raw m (label ∷ labels) more piece used at each fits is =
    let k = index_there m at (length label) ((label ++ wire_of labels) ++ more) is in
    let count = length_there m at (length label ∷ (label ++ wire_of labels)) more is in
    let parts = length-append label (wire_of labels) in
    let some = wire_some labels in
    let split : drop at m ≡ (length label ∷ label) ++ (wire_of labels ++ more) =
    is ∙ ap (λ xs. length label ∷ xs) (append_assoc label (wire_of labels) more) in
    let next : drop (label_end m at) m ≡ wire_of labels ++ more =
    drop_there m at (slice_index m at + 1) (length label ∷ label) (wire_of labels ++ more) split (omega arith) in
    let behind_first : drop (at + 1) m ≡ label ++ (wire_of labels ++ more) =
    drop_there m at 1 (length label ∷ []) (label ++ (wire_of labels ++ more)) split refl in
    let is_label : label_at m at ≡ lower label =
    ap lower (range_there m (at + 1) (label_end m at) label (wire_of labels ++ more) behind_first (omega arith)) in
    let rest : Reads m piece (used + (slice_index m at + 1)) (label_end m at)
    (Ok (map lower labels, label_end m at + length (wire_of labels))) =
    reads_raw m labels more piece (used + (slice_index m at + 1)) (label_end m at) each.1 (omega arith) next in
    let end : label_end m at + length (wire_of labels) ≡ at + length (wire_of (label ∷ labels)) = omega arith in
    let whole : Reads m piece used
    at (Ok (label_at m at ∷ map lower labels, label_end m at + length (wire_of labels))) =
    at_label (omega arith) (omega (arith, each.0.some)) (omega (arith, each.0.short)) (omega arith)
    (omega arith) rest in
    rw (is_label, end) at whole

pub name_at_raw : (m : List ℕ) (raws : List (List ℕ)) (more : List ℕ) (at : ℕ) → AllByRecursion IsRaw raws
    → length (wire_of raws) ≤ 255
    → drop at m ≡ wire_of raws ++ more → name_at m at ≡ Ok (map lower raws, at + length (wire_of raws))
name_at_raw m raws more at each short is = name_at_is m at _ (reads_raw m raws more at 0 at each (omega arith) is)

-- the octets of a question: a name in the letters of a message, and four octets of type and class
pub record IsEcho (echo : List ℕ) (q : Question) : Type 0 where
  pub raws : List (List ℕ)
  pub tail : List ℕ
  pub echo_is : echo ≡ wire_of raws ++ tail
  pub name_is : q.name ≡ map lower raws
  pub each : AllByRecursion IsRaw raws
  pub short : length (wire_of raws) ≤ 255
  pub four : length tail ≡ 4
  pub kind_is : q.kind ≡ number_of_two tail
  pub class_is : q.class ≡ number_of_two (drop 2 tail)

-- type and class alone make their numbers
pub four_numbers : (xs : List ℕ) → 4 ≤ length xs
    → (number_of_two (take 4 xs) ≡ number_of_two xs) × (number_of_two (drop 2 (take 4 xs)) ≡ number_of_two (drop 2 xs))
unfolding number_of_two
four_numbers [] h = absurd (omega arith)
four_numbers (a ∷ []) h = absurd (omega arith)
four_numbers (a ∷ b ∷ []) h = absurd (omega arith)
four_numbers (a ∷ b ∷ c ∷ []) h = absurd (omega arith)
four_numbers (a ∷ b ∷ c ∷ d ∷ xs) h = (refl, refl)

four_more : (xs more : List ℕ) → length xs ≡ 4 → (number_of_two (xs ++ more) ≡ number_of_two xs)
    × (number_of_two (drop 2 (xs ++ more)) ≡ number_of_two (drop 2 xs))
unfolding number_of_two
four_more [] more h = absurd (omega arith)
four_more (a ∷ []) more h = absurd (omega arith)
four_more (a ∷ b ∷ []) more h = absurd (omega arith)
four_more (a ∷ b ∷ c ∷ []) more h = absurd (omega arith)
four_more (a ∷ b ∷ c ∷ d ∷ xs) more h = (refl, refl)

-- a question that was read, by its name
pub record IsBehind (m : List ℕ) (at end : ℕ) (q : Question) : Type 0 where
  pub behind : ℕ
  pub name : name_at m at ≡ Ok (q.name, behind)
  pub end_is : end ≡ behind + 4
  pub within : end ≤ length m
  pub question_is : q ≡ question_of q.name (drop behind m)

question_parts : (m : List ℕ) (at end : ℕ) (q : Question) (r : Reading) → name_at m at ≡ r
    → question_behind m r ≡ Ok (q, end) → IsBehind m at end q
question_parts m at end q (Err e) is h = absurd (cc)
question_parts m at end q (Ok name) is h =
    let inside = name_at_within m at name.1 name.0 is in
    elim (cases_lt (length m - name.1) 4) [
      | inl w ↦ let t : nat_lt (length m - name.1) 4 ≡ true = grind (arith, nat_tests) in
          let p = rw t at h in absurd (cc)
      | inr w ↦
          let t : nat_lt (length m - name.1) 4 ≡ false = grind (arith, nat_tests) in
          let p : ◌≡◌ {A = Result (Question × ℕ) WireFault} (Ok (question_of name.0 (drop name.1 m), name.1 + 4))
          (Ok (q, end)) = rw t at h in
          let e : ◌≡◌ {A = Question × ℕ} (question_of name.0 (drop name.1 m), name.1 + 4) (q, end) = cc in
          let e0 : question_of name.0 (drop name.1 m) ≡ q = ap (λ x. x.0) e in
          let e1 : name.1 + 4 ≡ end = ap (λ x. x.1) e in
          let n : name.0 ≡ q.name = ap (λ x. x.name) e0 in
          record {
            behind = name.1;
            name = is ∙ ap (λ ls. Ok (ls, name.1)) n;
            end_is = sym e1;
            within = omega (arith, inside.1);
            question_is = sym e0 ∙ ap (λ ls. question_of ls (drop name.1 m)) n;
          }
    ]

pub question_read : (m : List ℕ) (at end : ℕ) (q : Question) → question_at m at ≡ Ok (q, end) → IsBehind m at end q
unfolding question_at
question_read m at end q is = question_parts m at end q (name_at m at) refl is

-- the octets of a question whose name has no pointer
pub question_echo : (m : List ℕ) (at end : ℕ) (q : Question) → question_at m at ≡ Ok (q, end)
    → end ≡ at + (length (wire_of q.name) + 4) → IsEcho (take (end - at) (drop at m)) q
question_echo m at end q is place =
    let parts = question_read m at end q is in
    let spelled = name_in_place m at parts.behind q.name parts.name (omega (arith, parts.end_is)) in
    let whole = name_at_name m at parts.behind q.name parts.name in
    let wire : length (wire_of q.name) ≡ length (wire_of spelled.raws) =
    ap (λ ls. length (wire_of ls)) spelled.name_is ∙ length_wire_lower spelled.raws in
    let rest : List ℕ = drop parts.behind m in
    let some : 4 ≤ length rest = omega (arith, length-drop parts.behind m, parts.within, parts.end_is) in
    let tail : List ℕ = take 4 rest in
    let numbers = four_numbers rest some in
    let size : length tail ≡ 4 = length-take-le 4 rest some in
    let split : drop at m ≡ (wire_of spelled.raws ++ tail) ++ drop 4 rest =
    spelled.there ∙ ap (λ xs. wire_of spelled.raws ++ xs) (sym (take-append-drop 4 rest))
    ∙ sym (append_assoc (wire_of spelled.raws) tail (drop 4 rest)) in
    let count : length (wire_of spelled.raws ++ tail) ≡ end - at =
    omega (arith, place, wire, size, length-append (wire_of spelled.raws) tail) in
    record {
      raws = spelled.raws;
      tail = tail;
      echo_is = ap (take (end - at)) split ∙ take_at (wire_of spelled.raws ++ tail) (drop 4 rest) (end - at) count;
      name_is = spelled.name_is;
      each = spelled.each;
      short = omega (arith, whole.short, wire);
      four = size;
      kind_is = ap (λ x. x.kind) parts.question_is ∙ sym numbers.0;
      class_is = ap (λ x. x.class) parts.question_is ∙ sym numbers.1;
    }

-- the octets of a question have as many as its wire form and four
pub echo_length : (echo : List ℕ) (q : Question) → IsEcho echo q → length echo ≡ length (wire_of q.name) + 4
echo_length echo q is =
    omega (
      arith,
      ap length is.echo_is,
      length-append (wire_of is.raws) is.tail,
      is.four,
      ap (λ ls. length (wire_of ls)) is.name_is,
      length_wire_lower is.raws,
    )

same_question : (name : List (List ℕ)) (octets : List ℕ) (q : Question) → name ≡ q.name → number_of_two octets ≡ q.kind
    → number_of_two (drop 2 octets) ≡ q.class → question_of name octets ≡ q
same_question name octets q n k c = rw (n, k, c) refl

-- the same octets read as the same question where they are in another message
pub echo_reads : (m : List ℕ) (at : ℕ) (echo rest : List ℕ) (q : Question) → IsEcho echo q → drop at m ≡ echo ++ rest
    → question_at m at ≡ Ok (q, at + length echo)
unfolding question_at
echo_reads m at echo rest q is there =
    let split : drop at m ≡ wire_of is.raws ++ (is.tail ++ rest) =
    there ∙ ap (λ xs. xs ++ rest) is.echo_is ∙ append_assoc (wire_of is.raws) is.tail rest in
    let name : name_at m at ≡ Ok (map lower is.raws, at + length (wire_of is.raws)) =
    name_at_raw m is.raws (is.tail ++ rest) at is.each is.short split in
    let behind : ℕ = at + length (wire_of is.raws) in
    let d : drop behind m ≡ is.tail ++ rest =
    drop_there m at (length (wire_of is.raws)) (wire_of is.raws) (is.tail ++ rest) split refl in
    let numbers = four_more is.tail rest is.four in
    let left : length m - behind ≡ length is.tail + length rest = length_there m behind is.tail rest d in
    let t : nat_lt (length m - behind) 4 ≡ false = grind (arith, nat_tests, left, is.four) in
    let size : length echo ≡ length (wire_of is.raws) + 4 =
    omega (arith, ap length is.echo_is, length-append (wire_of is.raws) is.tail, is.four) in
    let end : behind + 4 ≡ at + length echo = omega (arith, size) in
    let question : question_of (map lower is.raws) (drop behind m) ≡ q =
    let k : number_of_two (drop behind m) ≡ q.kind = ap number_of_two d ∙ numbers.0 ∙ sym is.kind_is in
    let c : number_of_two (drop 2 (drop behind m)) ≡ q.class =
    ap (λ xs. number_of_two (drop 2 xs)) d ∙ numbers.1 ∙ sym is.class_is in
    same_question (map lower is.raws) (drop behind m) q (sym is.name_is) k c in
    rw (name, t, question, end) refl
