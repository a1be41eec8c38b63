-- The additional section of a referral, whose count is written after its records.
use Rattle.std.proofs.Common.{◌≡◌, ℕ, ◌+◌, ◌%◌, Bool, false, List, ◌++◌, length, refl, sym, ◌∙◌, ap, arith}
use Rattle.std.proofs.Common.{length-append, Some, None, inl, inr, if◌then◌else◌}
use Rattle.std.specs.Prelude.{nat_le, IsSome}
use Rattle.std.proofs.lemmas.Bool.Decides.{leb_tells}
use Rattle.dz_header.specs.Code.{number_of}
use Rattle.dz_header.specs.Edns.{opt_count}
use Rattle.dz_header.specs.Writing.{Writing, also, empty}
use Rattle.dz_header.proofs.WriterLemmas.{also_append}
use Rattle.dz_request.specs.Frame.{Query, limit_of, head_octets, heading_octets, opening, with_additional}
use Rattle.dz_request.specs.declared.frame.Heading.{Heading}
use Rattle.dz_request.proofs.FrameLemmas.{alone, length_head}
use Rattle.dz_reply.specs.Layout.{entries_octets}
use Rattle.dz_reply.specs.Answer.{Sections}
use Rattle.dz_reply.proofs.AnswerLemmas.{front_octets, head_low}

size : (query : Query) (heading : Heading) (rest : List ℕ)
    → length (heading_octets query heading ++ rest) ≡ 12 + length query.echo + length rest
size query heading rest = omega (
  arith,
  length-append (heading_octets query heading) rest,
  length_head query (number_of heading.code) heading.authoritative heading.truncated heading.answer
      heading.authority (heading.additional + opt_count query.edns),
)

whole : (tcp : Bool) (query : Query) (heading : Heading) (rest : List ℕ)
    → also (opening tcp query heading) rest ≡ record {
      limit = limit_of tcp query.edns;
      octets = if nat_le (length (heading_octets query heading ++ rest)) (limit_of tcp query.edns)
          then Some (heading_octets query heading ++ rest) else None;
    }
whole tcp query heading rest = sym (also_append (empty (limit_of tcp query.edns)) (heading_octets query heading) rest)
    ∙ alone (limit_of tcp query.edns) (heading_octets query heading ++ rest)

-- a reply past its limit is the same whatever its header counts
over_anyway : (tcp : Bool) (query : Query) (heading : Heading) (n m : ℕ) (rest : List ℕ)
    → (IsSome (also (opening tcp query heading) rest).octets → n ≡ m % 65536)
    → also (opening tcp query (with_additional n heading)) rest
    ≡ also (opening tcp query (with_additional m heading)) rest
over_anyway tcp query heading n m rest counted =
    let limit : ℕ = limit_of tcp query.edns in
    let one : length (heading_octets query (with_additional n heading) ++ rest)
    ≡ length (heading_octets query heading ++ rest) =
    size query (with_additional n heading) rest ∙ sym (size query heading rest) in
    let two : length (heading_octets query (with_additional m heading) ++ rest)
    ≡ length (heading_octets query heading ++ rest) =
    size query (with_additional m heading) rest ∙ sym (size query heading rest) in
    elim (leb_tells (length (heading_octets query heading ++ rest)) limit) [
      | inl v ↦
          let there = rw v.0 at (whole tcp query heading rest) in
          let fits : (also (opening tcp query heading) rest).octets ≡ Some (heading_octets query heading ++ rest) =
          ap (λ (w : Writing). w.octets) there in
          let is : n ≡ m % 65536 = counted (rw fits refl) in
          ap (λ head. also (also (empty limit) head) rest)
          (rw is (head_low query (number_of heading.code) heading.authoritative heading.truncated heading.answer
          heading.authority m (opt_count query.edns)))
      | inr v ↦
          rw (one, v.0) at (whole tcp query (with_additional n heading) rest)
          ∙ sym (rw (two, v.0) at (whole tcp query (with_additional m heading) rest))
    ]

-- glue that is written, and then counted
pub additional_written : (tcp : Bool) (query : Query) (heading : Heading) (front glue : List ℕ) (count many : ℕ)
    (w w1 w2 : Writing) → w ≡ also (opening tcp query heading) front → w1 ≡ also w glue
    → (IsSome w1.octets → count ≡ many % 65536)
    → ((h : Heading) (rest : List ℕ) → w1 ≡ also (opening tcp query h) rest
    → w2 ≡ also (opening tcp query (with_additional count h)) rest)
    → w2 ≡ also (opening tcp query (with_additional many heading)) (front ++ glue)
additional_written tcp query heading front glue count many w w1 w2 is is1 counted sets =
    let e : w1 ≡ also (opening tcp query heading) (front ++ glue) =
    is1 ∙ ap (λ x. also x glue) is ∙ sym (also_append (opening tcp query heading) front glue) in
    sets heading (front ++ glue) e
    ∙ over_anyway tcp query heading count many (front ++ glue) (λ some. counted (rw (sym e) at some))

-- a reply whose additional section was written so
pub laid_additional : (tcp : Bool) (query : Query) (s : Sections) (heading : Heading) (w0 w1 w2 w3 : Writing)
    → number_of heading.code ≡ s.code → heading.authoritative ≡ s.authoritative → heading.truncated ≡ false
    → w0 ≡ opening tcp query heading
    → w1 ≡ also w0 (entries_octets query.name s.answer) → w2 ≡ also w1 (entries_octets query.name s.authority)
    → ((h : Heading) (front : List ℕ) → w2 ≡ also (opening tcp query h) front
    → w3 ≡ also (opening tcp query (with_additional (length s.additional) h))
    (front ++ entries_octets query.name s.additional))
    → ((w : Writing) → w ≡ also (empty (limit_of tcp query.edns)) (head_octets query s.code s.authoritative false
    heading.answer heading.authority (length s.additional + opt_count query.edns))
    → also (also (also w (entries_octets query.name s.answer)) (entries_octets query.name s.authority))
    (entries_octets query.name s.additional) ≡ also (empty (limit_of tcp query.edns)) (front_octets query s))
    → w3 ≡ also (empty (limit_of tcp query.edns)) (front_octets query s)
laid_additional tcp query s heading w0 w1 w2 w3 code aa tc is0 is1 is2 puts lays =
    let x : List ℕ = entries_octets query.name s.answer in
    let y : List ℕ = entries_octets query.name s.authority in
    let z : List ℕ = entries_octets query.name s.additional in
    let before : w2 ≡ also (opening tcp query heading) (x ++ y) =
    is2 ∙ ap (λ w. also w y) (is1 ∙ ap (λ w. also w x) is0) ∙ sym (also_append (opening tcp query heading) x y) in
    let new : Heading = with_additional (length s.additional) heading in
    let after : w3 ≡ also (also (also (opening tcp query new) x) y) z =
    puts heading (x ++ y) before ∙ also_append (opening tcp query new) (x ++ y) z
    ∙ ap (λ w. also w z) (also_append (opening tcp query new) x y) in
    after ∙ lays (opening tcp query new) (rw (code, aa, tc) refl)
