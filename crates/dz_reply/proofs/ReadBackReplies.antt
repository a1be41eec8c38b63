-- Whole replies read back: header, question, and the sections one after the other.
use Rattle.std.proofs.Common.{inl, inr, ◌≡◌, ℕ, ◌+◌, ◌<◌, ◌≤◌, ◌^◌, Bool, true, false, List, [], ◌∷◌, ◌++◌, length}
use Rattle.std.proofs.Common.{drop, refl, sym, ◌∙◌, ap, subst, arith, append_assoc, length-append, length-drop, Option}
use Rattle.std.proofs.Common.{Some, None}
use Rattle.std.specs.List.{AllByRecursion}
use Rattle.std.proofs.lemmas.List.{append-nil, drop-drop}
use Rattle.std.proofs.lemmas.Bool.Decides.{leb_tells}
use Rattle.dz_name.specs.Name.{wire_of}
use Rattle.dz_name.specs.Numbers.{number_of_two}
use Rattle.dz_record.specs.Record.{Record, IsRecord}
use Rattle.dz_header.specs.Header.{header_in}
use Rattle.dz_header.specs.declared.edns.Edns.{Edns}
use Rattle.dz_header.specs.declared.question.Question.{Question}
use Rattle.dz_message.specs.Spelling.{IsQuestion}
use Rattle.dz_header.specs.Edns.{opt_count, opt_octets}
use Rattle.dz_header.specs.Header.{header_octets}
use Rattle.dz_header.specs.declared.header.Header.{Header}
use Rattle.dz_header.proofs.FlagsLemmas.{read_back}
use Rattle.dz_header.proofs.QuestionLemmas.{IsEcho, reads_raw}
use Rattle.dz_message.specs.Writing.{IsHeader}
use Rattle.dz_message.proofs.WrittenLemmas.{header_there}
use Rattle.dz_request.specs.Frame.{Query, reply_flags, head_octets, cut_octets, within_limit, limit_of, curt_octets}
use Rattle.dz_request.proofs.FrameLemmas.{length_head, length_header, most_limit}
use Rattle.dz_reply.specs.Layout.{entries_octets}
use Rattle.dz_reply.specs.Answer.{Sections, whole_octets, octets_of}
use Rattle.dz_reply.specs.ReadsBack.{SpellsSections, SpellsReply, SpellsCurt}
use Rattle.dz_header.proofs.PlaceLemmas.{length_there, drop_there}
use Rattle.dz_reply.proofs.ReadBackNames.{StandsAsked}
use Rattle.dz_reply.proofs.ReadBackRecords.{all_there, few_records}

-- the first two octets alone make the number
front_number : (xs more : List ℕ) → 2 ≤ length xs → number_of_two (xs ++ more) ≡ number_of_two xs
unfolding number_of_two
front_number [] more h = absurd (omega arith)
front_number (a ∷ []) more h = absurd (omega arith)
front_number (a ∷ b ∷ xs) more h = refl

-- the first two octets are those of the front
drop_front : (xs more : List ℕ) → 2 ≤ length xs → drop 2 (xs ++ more) ≡ drop 2 xs ++ more
drop_front [] more h = absurd (omega arith)
drop_front (a ∷ []) more h = absurd (omega arith)
drop_front (a ∷ b ∷ xs) more h = refl

-- the question of a reply
stands : (m echo rest : List ℕ) (q : Question) → IsEcho echo q → drop 12 m ≡ echo ++ rest
    → (end : ℕ) × StandsAsked m q.name end × (end ≤ 12 + length echo) × IsQuestion m 12 q (12 + length echo)
stands m echo rest q is there =
    let split : drop 12 m ≡ wire_of is.raws ++ (is.tail ++ rest) =
    there ∙ ap (λ xs. xs ++ rest) is.echo_is ∙ append_assoc (wire_of is.raws) is.tail rest in
    let reads = reads_raw m is.raws (is.tail ++ rest) 12 0 12 is.each (omega (arith, is.short)) split in
    let b : ℕ = 12 + length (wire_of is.raws) in
    let d0 : drop b m ≡ is.tail ++ rest =
    drop_there m 12 (length (wire_of is.raws)) (wire_of is.raws) (is.tail ++ rest) split refl in
    let d2 : drop (b + 2) m ≡ drop 2 is.tail ++ rest =
    sym (drop-drop 2 b m) ∙ ap (drop 2) d0 ∙ drop_front is.tail rest (omega (arith, is.four)) in
    let size : length echo ≡ length (wire_of is.raws) + 4 =
    omega (arith, ap length is.echo_is, length-append (wire_of is.raws) is.tail, is.four) in
    let count = length_there m b is.tail rest d0 in (
      b,
      record {
        raws = is.raws;
        more = is.tail ++ rest;
        there = split;
        name_is = is.name_is;
        each = is.each;
        short = is.short;
        end_is = refl;
      },
      omega (arith, size),
      record {
        behind = b;
        name = rw is.name_is reads;
        kind = is.kind_is ∙ sym (ap number_of_two d0 ∙ front_number is.tail rest (omega (arith, is.four)));
        class = is.class_is ∙ sym
            (ap number_of_two d2 ∙ front_number (drop 2 is.tail) rest (omega (arith, is.four, length-drop 2 is.tail)));
        next_is = omega (arith, size);
        within = omega (arith, size, count, is.four);
      },
    )

-- the header of a reply, and what follows it
record HeadThere (m : List ℕ) (query : Query) (flags a b c : ℕ) (rest : List ℕ) : Type 0 where
  id : (header_in m).id ≡ query.id
  flags_are : (header_in m).flags ≡ flags
  counts : (header_in m).counts ≡ 1 ∷ a ∷ b ∷ c ∷ []
  long : 12 ≤ length m
  behind : drop 12 m ≡ query.echo ++ rest

-- the flags have 16 bits (RFC 1035 section 4.1.1)
flags_small : (asked code : ℕ) (authoritative truncated : Bool)
    → reply_flags asked code authoritative truncated < 2 ^ 16
flags_small asked code authoritative truncated = (read_back _).small

-- the header that is written is the header that is read, and the question follows it
head_there : (m : List ℕ) (query : Query) (code : ℕ) (aa tc : Bool) (a b c : ℕ) (rest : List ℕ) → query.id < 2 ^ 16
    → a < 2 ^ 16 → b < 2 ^ 16 → c < 2 ^ 16
    → m ≡ head_octets query code aa tc a b c ++ rest
    → HeadThere m query (reply_flags query.flags code aa tc) a b c rest
unfolding head_octets
head_there m query code aa tc a b c rest id_small a_small b_small c_small is =
    let flags : ℕ = reply_flags query.flags code aa tc in
    let header : Header = record { id = query.id; flags = flags; counts = 1 ∷ a ∷ b ∷ c ∷ [] } in
    let small = flags_small query.flags code aa tc in
    let held : IsHeader header =
    record { id = id_small; flags = small; counts = (omega arith, (a_small, (b_small, (c_small, tt)))) } in
    let there = header_there m header 1 a b c (query.echo ++ rest) held refl
    (is ∙ append_assoc (header_octets header) query.echo rest) in
    record {
      id = ap (λ h. h.id) (sym there.is);
      flags_are = ap (λ h. h.flags) (sym there.is);
      counts = ap (λ h. h.counts) (sym there.is);
      long = there.long;
      behind = there.behind;
    }

-- a reply's octets, section by section, spell the sections
spells : (m : List ℕ) (query : Query) (q : Question) (code : ℕ) (aa tc : Bool) (a b c : List Record)
    → query.id < 2 ^ 16 → IsEcho query.echo q → query.name ≡ q.name
    → AllByRecursion IsRecord a → AllByRecursion IsRecord b → AllByRecursion IsRecord c → length a < 2 ^ 16
    → length b < 2 ^ 16 → length c + opt_count query.edns < 2 ^ 16
    → m ≡ head_octets query code aa tc (length a) (length b) (length c + opt_count query.edns) ++ (entries_octets
    query.name a ++ (entries_octets query.name b ++ (entries_octets query.name c ++ opt_octets code query.edns)))
    → HeadThere m query (reply_flags query.flags code aa tc) (length a)
    (length b) (length c + opt_count query.edns) (entries_octets query.name a
    ++ (entries_octets query.name b ++ (entries_octets query.name c ++ opt_octets code query.edns)))
    × SpellsSections m q query.edns code a b c
spells m query q code aa tc a b c id_small echo same held_a held_b held_c small_a small_b small_c is =
    let name = query.name in
    let opt = opt_octets code query.edns in
    let head = head_there m query code aa tc (length a) (length b) (length c + opt_count query.edns)
    (entries_octets name a ++ (entries_octets name b ++ (entries_octets name c ++ opt))) id_small small_a small_b
    small_c is in
    let question = stands m query.echo
    (entries_octets name a ++ (entries_octets name b ++ (entries_octets name c ++ opt))) q echo head.behind in
    let stood : StandsAsked m name question.0 = subst (λ n. StandsAsked m n question.0) (sym same) question.1 in
    let p0 : ℕ = 12 + length query.echo in
    let p1 : ℕ = p0 + length (entries_octets name a) in
    let p2 : ℕ = p1 + length (entries_octets name b) in
    let p3 : ℕ = p2 + length (entries_octets name c) in
    let d0 : drop p0 m ≡ entries_octets name a ++ (entries_octets name b ++ (entries_octets name c ++ opt)) =
    drop_there m 12 (length query.echo) query.echo _ head.behind refl in
    let d1 : drop p1 m ≡ entries_octets name b ++ (entries_octets name c ++ opt) =
    drop_there m p0 (length (entries_octets name a)) (entries_octets name a) _ d0 refl in
    let d2 : drop p2 m ≡ entries_octets name c ++ opt =
    drop_there m p1 (length (entries_octets name b)) (entries_octets name b) _ d1 refl in
    let d3 : drop p3 m ≡ opt = drop_there m p2 (length (entries_octets name c)) (entries_octets name c) _ d2 refl in
    let end = question.2 in (
      head,
      record {
        answers_at = p0;
        authority_at = p1;
        additional_at = p2;
        opt_at = p3;
        long = head.long;
        counts = head.counts;
        asked = question.3;
        answers = all_there m name question.0 stood a _ p0 held_a (omega arith) d0;
        authorities = all_there m name question.0 stood b _ p1 held_b (omega arith) d1;
        additionals = all_there m name question.0 stood c _ p2 held_c (omega arith) d2;
        opt = d3;
      },
    )

-- a reply has one OPT record at most
few_opts : (edns : Option Edns) → opt_count edns ≤ 1
few_opts None = omega arith
few_opts (Some edns) = omega arith

-- the records of three sections
pub record AreHeld (s : Sections) : Type 0 where
  pub answer : AllByRecursion IsRecord s.answer
  pub authority : AllByRecursion IsRecord s.authority
  pub additional : AllByRecursion IsRecord s.additional

-- a whole reply spells the three sections: as it fits, their counts have 16 bits
whole_spells : (tcp : Bool) (query : Query) (q : Question) (s : Sections) → query.id < 2 ^ 16 → IsEcho query.echo q
    → query.name ≡ q.name → AreHeld s
    → length (whole_octets query s) ≤ limit_of tcp query.edns → SpellsReply tcp query q s (whole_octets query s)
unfolding whole_octets
whole_spells tcp query q s id_small echo same held fits =
    let name = query.name in
    let a = entries_octets name s.answer in
    let b = entries_octets name s.authority in
    let c = entries_octets name s.additional in
    let opt = opt_octets s.code query.edns in
    let head = head_octets query s.code s.authoritative false (length s.answer) (length s.authority)
    (length s.additional + opt_count query.edns) in
    let long : 12 ≤ length head = omega (
      arith,
      length_head query s.code s.authoritative false (length s.answer)
          (length s.authority) (length s.additional + opt_count query.edns),
    ) in
    let e0 = length-append head (a ++ (b ++ (c ++ opt))) in
    let e1 = length-append a (b ++ (c ++ opt)) in
    let e2 = length-append b (c ++ opt) in
    let e3 = length-append c opt in
    let few_a = few_records name s.answer in
    let few_b = few_records name s.authority in
    let few_c = few_records name s.additional in
    let most = most_limit tcp query.edns in
    let opts = few_opts query.edns in
    let is = spells (head ++ (a ++ (b ++ (c ++ opt)))) query q s.code s.authoritative false s.answer s.authority
    s.additional id_small echo same held.answer held.authority held.additional
    (omega (arith, fits, most, long, e0, e1, e2, e3, few_a, few_b, few_c))
    (omega (arith, fits, most, long, e0, e1, e2, e3, few_a, few_b, few_c))
    (omega (arith, fits, most, long, e0, e1, e2, e3, few_a, few_b, few_c, opts)) refl in
    record { truncated = false; id = is.0.id; flags = is.0.flags_are; sections = (fits, is.1) }

-- a reply past its limit spells three empty sections
cut_spells : (tcp : Bool) (query : Query) (q : Question) (s : Sections) → query.id < 2 ^ 16 → IsEcho query.echo q
    → query.name ≡ q.name
    → limit_of tcp query.edns < length (whole_octets query s)
    → SpellsReply tcp query q s (cut_octets query s.code s.authoritative)
unfolding cut_octets entries_octets
cut_spells tcp query q s id_small echo same long =
    let opts = few_opts query.edns in
    let none : length {A = Record} [] + opt_count query.edns ≡ opt_count query.edns = omega arith in
    let is = spells (cut_octets query s.code s.authoritative) query q s.code s.authoritative true [] [] [] id_small
    echo same tt tt tt (omega arith) (omega arith) (omega (arith, opts)) (rw none refl) in
    record { truncated = true; id = is.0.id; flags = is.0.flags_are; sections = (long, is.1) }

-- the octets of a reply spell the reply
pub reply_spells : (tcp : Bool) (query : Query) (q : Question) (s : Sections) → query.id < 2 ^ 16 → IsEcho query.echo q
    → query.name ≡ q.name → AreHeld s
    → SpellsReply tcp query q s (octets_of tcp query s)
unfolding octets_of within_limit
reply_spells tcp query q s id_small echo same held =
    elim (leb_tells (length (whole_octets query s)) (limit_of tcp query.edns)) [
      | inl w ↦ rw w.0 (whole_spells tcp query q s id_small echo same held w.1)
      | inr w ↦ rw w.0 (cut_spells tcp query q s id_small echo same w.1)
    ]

-- the octets of a reply that is a header alone spell it
pub curt_spells : (request : Header) (code : ℕ) → request.id < 2 ^ 16
    → SpellsCurt request code (curt_octets request code)
unfolding curt_octets
curt_spells request code id_small =
    let flags : ℕ = reply_flags request.flags code false false in
    let header : Header = record { id = request.id; flags = flags; counts = 0 ∷ 0 ∷ 0 ∷ 0 ∷ [] } in
    let small = flags_small request.flags code false false in
    let held : IsHeader header = record {
      id = id_small;
      flags = small;
      counts = (omega arith, (omega arith, (omega arith, (omega arith, tt))));
    } in
    let there =
    header_there (header_octets header) header 0 0 0 0 [] held refl (sym (append-nil (header_octets header))) in
    record {
      alone = length_header request.id flags 0 0 0 0;
      id = ap (λ h. h.id) (sym there.is);
      flags = ap (λ h. h.flags) (sym there.is);
      counts = ap (λ h. h.counts) (sym there.is);
    }
