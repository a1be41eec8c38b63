-- The frame of a reply, one piece after another.
use Rattle.std.proofs.Common.{inl, inr, ◌≡◌, ℕ, ◌+◌, ◌-◌, ◌≤◌, ◌%◌, ◌/◌, Bool, true, false, List, [], ◌∷◌, ◌++◌}
use Rattle.std.proofs.Common.{length, refl, sym, ◌∙◌, ap, arith, length-append, Option, Some, None, if◌then◌else◌}
use Rattle.std.specs.Prelude.{nat_le, not, is_some}
use Rattle.std.proofs.lemmas.Bool.Decides.{nat_tests, leb_tells}
use Rattle.dz_name.specs.Numbers.{two}
use Rattle.dz_header.specs.Edns.{opt_count, opt_octets}
use Rattle.dz_header.specs.Header.{header_octets}
use Rattle.dz_header.specs.Writing.{Writing, also, octets_with, empty, writing_of, changed, with_changed}
use Rattle.std.specs.Option.{ForSome}
use Rattle.std.proofs.Common.{append_assoc}
use Rattle.dz_header.specs.declared.edns.Edns.{Edns}
use Rattle.dz_header.specs.declared.header.Header.{Header}
use Rattle.dz_header.proofs.WriterLemmas.{also_append}
use Rattle.dz_header.specs.Code.{number_of}
use Rattle.dz_request.specs.declared.frame.Heading.{Heading}
use Rattle.dz_request.specs.Frame.{Query, limit_of, reply_flags, head_octets, opening, cut_octets, within_limit}
use Rattle.dz_request.specs.Frame.{bare_octets, curt_octets, heading_octets, with_additional}

pub two_low : (count more : ℕ) → more ≤ 1 → two ((count % 65536 + more) % 65536) ≡ two (count + more)
unfolding two
two_low count more h =
    let high : (count % 65536 + more) % 65536 / 256 % 256 ≡ (count + more) / 256 % 256 = omega arith in
    let low : (count % 65536 + more) % 65536 % 256 ≡ (count + more) % 256 = omega arith in
    cc

-- octets that are written alone
pub alone : (limit : ℕ) (octets : List ℕ) → also (empty limit) octets
    ≡ record { limit = limit; octets = if nat_le (length octets) limit then Some octets else None }
unfolding also octets_with
alone limit octets = let e : limit - 0 ≡ limit = omega arith in rw e refl

-- what fits is there alone
pub alone_fits : (limit : ℕ) (octets : List ℕ) → length octets ≤ limit
    → also (empty limit) octets ≡ writing_of limit octets
alone_fits limit octets fits =
    let t : nat_le (length octets) limit ≡ true = grind (arith, nat_tests) in alone limit octets ∙ rw t refl

-- a reply that fits
pub whole_fits : (tcp : Bool) (query : Query) (code : ℕ) (authoritative : Bool) (front opt : List ℕ) (w w1 : Writing)
    → w ≡ also (empty (limit_of tcp query.edns)) front → w1 ≡ also w opt → not (is_some w1.octets) ≡ false
    → w1 ≡ writing_of (limit_of tcp query.edns) (within_limit tcp query code authoritative (front ++ opt))
unfolding within_limit
whole_fits tcp query code authoritative front opt w w1 is is1 fits =
    let limit : ℕ = limit_of tcp query.edns in
    let e : w1 ≡ record {
      limit = limit;
      octets = if nat_le (length (front ++ opt)) limit then Some (front ++ opt) else None;
    } =
    is1 ∙ (ap (λ x. also x opt) is ∙ (sym (also_append (empty limit) front opt) ∙ alone limit (front ++ opt))) in
    elim (leb_tells (length (front ++ opt)) limit) [
      | inl v ↦ rw v.0 at e ∙ rw v.0 refl
      | inr v ↦ let f = rw v.0 at e in let g = rw f at fits in absurd (cc)
    ]

-- a header has twelve octets
pub length_header : (id flags a b c d : ℕ)
    → length (header_octets (record { id = id; flags = flags; counts = a ∷ b ∷ c ∷ d ∷ [] })) ≡ 12
unfolding header_octets two
length_header id flags a b c d = refl

pub length_head : (query : Query) (code : ℕ) (authoritative truncated : Bool) (a b c : ℕ)
    → length (head_octets query code authoritative truncated a b c) ≡ 12 + length query.echo
unfolding head_octets
length_head query code authoritative truncated a b c =
    let h = header_octets (record {
      id = query.id;
      flags = reply_flags query.flags code authoritative truncated;
      counts = 1 ∷ a ∷ b ∷ c ∷ [];
    }) in
    omega (
      arith,
      length-append h query.echo,
      length_header query.id (reply_flags query.flags code authoritative truncated) 1 a b c,
    )

pub length_opt : (code : ℕ) (edns : Option Edns) → length (opt_octets code edns) ≤ 11
unfolding opt_octets two
length_opt code None = omega arith
length_opt code (Some edns) = omega arith

pub least_limit : (tcp : Bool) (edns : Option Edns) → 512 ≤ limit_of tcp edns
least_limit true edns = omega arith
least_limit false None = omega arith
least_limit false (Some edns) = omega arith

pub most_limit : (tcp : Bool) (edns : Option Edns) → limit_of tcp edns ≤ 65535
most_limit true edns = omega arith
most_limit false None = omega arith
most_limit false (Some edns) = omega arith

pub cut_fits : (tcp : Bool) (query : Query) (code : ℕ) (authoritative : Bool) → length query.echo ≤ 259
    → length (cut_octets query code authoritative) ≤ limit_of tcp query.edns
unfolding cut_octets
cut_fits tcp query code authoritative short =
    omega (
      arith,
      length-append (head_octets query code authoritative true 0 0 (opt_count query.edns))
          (opt_octets code query.edns),
      length_head query code authoritative true 0 0 (opt_count query.edns),
      length_opt code query.edns,
      least_limit tcp query.edns,
    )

-- a reply past its limit
pub cut_short : (tcp : Bool) (query : Query) (code : ℕ) (authoritative : Bool) (front : List ℕ) (w w1 w2 w3 : Writing)
    → w ≡ also (empty (limit_of tcp query.edns)) front → w1 ≡ also w (opt_octets code query.edns)
    → not (is_some w1.octets) ≡ true → length query.echo ≤ 259
    → w2 ≡ also (empty (limit_of tcp query.edns)) (head_octets query code authoritative true 0 0
    (0 + opt_count query.edns)) → w3 ≡ also w2 (opt_octets code query.edns)
    → w3 ≡ writing_of (limit_of tcp query.edns)
    (within_limit tcp query code authoritative (front ++ opt_octets code query.edns))
unfolding within_limit cut_octets
cut_short tcp query code authoritative front w w1 w2 w3 is is1 over short is2 is3 =
    let limit : ℕ = limit_of tcp query.edns in
    let opt : List ℕ = opt_octets code query.edns in
    let head : List ℕ = head_octets query code authoritative true 0 0 (opt_count query.edns) in
    let zero : 0 + opt_count query.edns ≡ opt_count query.edns = omega arith in
    let e : w1 ≡ record {
      limit = limit;
      octets = if nat_le (length (front ++ opt)) limit then Some (front ++ opt) else None;
    } =
    is1 ∙ (ap (λ x. also x opt) is ∙ (sym (also_append (empty limit) front opt) ∙ alone limit (front ++ opt))) in
    let cut : w3 ≡ writing_of limit (head ++ opt) =
    is3 ∙ (ap (λ x. also x opt) (rw zero at is2) ∙ (sym (also_append (empty limit) head opt)
    ∙ alone_fits limit (head ++ opt) (cut_fits tcp query code authoritative short))) in
    elim (leb_tells (length (front ++ opt)) limit) [
      | inl v ↦ let f = rw v.0 at e in let g = rw f at over in absurd (cc)
      | inr v ↦ rw v.0 cut
    ]

-- counts that are the same modulo 65536 make the same header
pub same_header : (id flags a b c a' b' c' : ℕ) → two a ≡ two a' → two b ≡ two b' → two c ≡ two c'
    → header_octets (record { id = id; flags = flags; counts = 1 ∷ a ∷ b ∷ c ∷ [] })
    ≡ header_octets (record { id = id; flags = flags; counts = 1 ∷ a' ∷ b' ∷ c' ∷ [] })
unfolding header_octets
same_header id flags a b c a' b' c' e f g = rw (e, f, g) refl

-- header and question of a reply
pub opening_by : (tcp : Bool) (query : Query) (heading : Heading) (header : List ℕ) (w w1 w2 : Writing)
    → header ≡ header_octets (record {
      id = query.id;
      flags = reply_flags query.flags (number_of heading.code) heading.authoritative heading.truncated;
      counts = 1 ∷ heading.answer ∷ heading.authority ∷ (heading.additional + opt_count query.edns) ∷ [];
    })
    → w ≡ empty (limit_of tcp query.edns) → w1 ≡ also w header → w2 ≡ also w1 query.echo
    → w2 ≡ opening tcp query heading
unfolding head_octets
opening_by tcp query heading header w w1 w2 is e0 e1 e2 =
    let limit : ℕ = limit_of tcp query.edns in
    e2 ∙ ap (λ x. also x query.echo) (e1 ∙ ap (λ x. also x header) e0)
    ∙ sym (also_append (empty limit) header query.echo)
    ∙ ap (λ octets. also (empty limit) (octets ++ query.echo)) is

pub bare_is : (query : Query) (code : ℕ) → head_octets query code false false 0 0 (0 + opt_count query.edns)
    ++ opt_octets code query.edns ≡ bare_octets query code
unfolding bare_octets
bare_is query code = let zero : 0 + opt_count query.edns ≡ opt_count query.edns = omega arith in rw zero refl

pub curt_fits : (header : Header) (code : ℕ)
    → also (empty 512) (curt_octets header code) ≡ writing_of 512 (curt_octets header code)
unfolding curt_octets
curt_fits header code = alone_fits 512 (curt_octets header code)
    (omega (arith, length_header header.id (reply_flags header.flags code false false) 0 0 0 0))

-- a reply without records
pub bare_within : (tcp : Bool) (query : Query) (code : ℕ)
    → within_limit tcp query code false (bare_octets query code) ≡ within_limit tcp query code false
    (head_octets query code false false 0 0 (0 + opt_count query.edns) ++ opt_octets code query.edns)
bare_within tcp query code = ap (within_limit tcp query code false) (sym (bare_is query code))

-- another count of the last section
recounted : (id flags a b c d e : ℕ) (rest : List ℕ)
    → changed 10 (two e) (header_octets (record { id = id; flags = flags; counts = a ∷ b ∷ c ∷ d ∷ [] }) ++ rest)
    ≡ header_octets (record { id = id; flags = flags; counts = a ∷ b ∷ c ∷ e ∷ [] }) ++ rest
unfolding header_octets two changed
recounted id flags a b c d e rest = refl

recounted_head : (query : Query) (heading : Heading) (count : ℕ) (rest : List ℕ)
    → changed 10 (two (count + opt_count query.edns)) (heading_octets query heading ++ rest)
    ≡ heading_octets query (with_additional count heading) ++ rest
unfolding head_octets
recounted_head query heading count rest =
    let flags : ℕ = reply_flags query.flags (number_of heading.code) heading.authoritative heading.truncated in
    let header : ℕ → List ℕ = λ n. header_octets (record {
      id = query.id;
      flags = flags;
      counts = 1 ∷ heading.answer ∷ heading.authority ∷ n ∷ [];
    }) in
    let old : ℕ = heading.additional + opt_count query.edns in
    let new : ℕ = count + opt_count query.edns in
    ap (changed 10 (two new)) (append_assoc (header old) query.echo rest)
    ∙ recounted query.id flags 1 heading.answer heading.authority old new (query.echo ++ rest)
    ∙ sym (append_assoc (header new) query.echo rest)

-- a header whose last count is replaced is that of the heading with this count
pub recounted_so : (tcp : Bool) (query : Query) (heading : Heading) (count : ℕ) (rest pair : List ℕ) (w w1 : Writing)
    → (ForSome w.octets (λ octets. 12 ≤ length octets) → w1 ≡ with_changed 10 pair w)
    → pair ≡ two (count + opt_count query.edns) → w ≡ also (opening tcp query heading) rest
    → w1 ≡ also (opening tcp query (with_additional count heading)) rest
recounted_so tcp query heading count rest pair w w1 changes is old =
    let limit : ℕ = limit_of tcp query.edns in
    let before : List ℕ = heading_octets query heading ++ rest in
    let after : List ℕ = heading_octets query (with_additional count heading) ++ rest in
    let size : length before ≡ 12 + length query.echo + length rest = omega (
      arith,
      length-append (heading_octets query heading) rest,
      length_head query (number_of heading.code) heading.authoritative heading.truncated heading.answer
          heading.authority (heading.additional + opt_count query.edns),
    ) in
    let same : length after ≡ length before = omega (
      arith,
      size,
      length-append (heading_octets query (with_additional count heading)) rest,
      length_head query (number_of heading.code) heading.authoritative heading.truncated heading.answer
          heading.authority (count + opt_count query.edns),
    ) in
    let was : w ≡ record { limit = limit; octets = if nat_le (length before) limit then Some before else None } =
    old ∙ sym (also_append (empty limit) (heading_octets query heading) rest) ∙ alone limit before in
    let will : also (opening tcp query (with_additional count heading)) rest
    ≡ record { limit = limit; octets = if nat_le (length before) limit then Some after else None } =
    sym (also_append (empty limit) (heading_octets query (with_additional count heading)) rest)
    ∙ alone limit after ∙ rw same refl in
    elim (leb_tells (length before) limit) [
      | inl v ↦
          let some : w ≡ writing_of limit before = rw v.0 at was in
          let long : ForSome w.octets (λ octets. 12 ≤ length octets) =
          λ octets e. let f : before ≡ octets = cc in rw (← f) (omega (arith, size)) in
          changes long ∙ ap (with_changed 10 pair) some
          ∙ ap (writing_of limit) (rw is (recounted_head query heading count rest)) ∙ sym (rw v.0 at will)
      | inr v ↦
          let none : w ≡ record { limit = limit; octets = None } = rw v.0 at was in
          changes (λ octets e. absurd (cc)) ∙ ap (with_changed 10 pair) none ∙ sym (rw v.0 at will)
    ]
