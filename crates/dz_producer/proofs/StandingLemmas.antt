-- The digest of a catalog verifies it.
use Rattle.std.proofs.Common.{◌≡◌, ℕ, ◌<◌, ◌^◌, true, false, List, [], ◌∷◌, ◌++◌, refl, sym, ◌∙◌, ap, arith, Some}
use Rattle.std.specs.Prelude.{filter, not, ◌==◌, ◌&&◌, flat_map}
use Rattle.std.specs.Option.{option_map_or}
use Rattle.std.proofs.lemmas.Bool.Decides.{nat_tests}
use Rattle.std.proofs.lemmas.List.{append-nil}
use Rattle.std.proofs.lemmas.List.Elements.{filter-append}
use Rattle.std.proofs.lemmas.Slice.Eq.{bytes_eq-Decides}
use Rattle.sha2.specs.Sha512.{sha384}
use Rattle.sha2.proofs.Facts512.{length-sha384}
use Rattle.dz_name.specs.Name.{wire_of, same_name}
use Rattle.dz_name.specs.Numbers.{four, number_of_four}
use Rattle.dz_name.specs.Order.{same_decides}
use Rattle.dz_name.proofs.NumberLemmas.{number-four}
use Rattle.dz_member.specs.declared.listing.Node.{Node}
use Rattle.dz_record.specs.Record.{Record, record_octets, soa_of, soa_numbers}
use Rattle.dz_record.specs.Records.{distinct, in_order, insertion}
use Rattle.dz_zonemd.specs.Digested.{digested, is_left_out}
use Rattle.dz_zonemd.specs.Standing.{standing, zonemds, is_zonemd, is_serial, serial_is, is_digest, is_alone, verifies}
use Rattle.dz_zonemd.specs.Zonemd.{serial_in, digest_in, is_twin, is_supported, known_algorithm}
use Rattle.dz_zonemd.specs.declared.acceptance.Standing.TheVariants.{Good}
use Rattle.dz_zonemd.specs.declared.algorithm.Algorithm.TheVariants.{Sha384}
use Rattle.dz_producer.specs.Records.{soa, name_server, version_property, times, plain_records, digest, node_records}
use Rattle.dz_producer.specs.Laws.{StandsGood}
use Rattle.dz_producer.proofs.CanonicalLemmas.{Respects, canonical_filter, canonical_twice, canonical_any, same_parts}
use Rattle.dz_producer.proofs.RecordLemmas.{none_kept, all_node, all_nodes}

-- what is digested of records is what is digested of those in canonical order
kept_respects : (apex : List (List ℕ)) → Respects (λ r. not (is_left_out apex r))
kept_respects apex r s t = let same = same_parts r s t in rw (same.0, same.1.0, same.1.1) refl

pub digested_canonical : (apex : List (List ℕ)) (rs : List Record)
    → digested apex (in_order (distinct rs)) ≡ digested apex rs
unfolding digested
digested_canonical apex rs =
    let keep = λ (r : Record). not (is_left_out apex r) in
    ap (λ (xs : List Record). flat_map record_octets (in_order (distinct xs)))
    (canonical_filter keep rs (kept_respects apex)) ∙ ap (flat_map record_octets) (canonical_twice (filter keep rs))

module _ (apex : List (List ℕ)) (serial : ℕ) (nodes : List Node) where
  abbrev plain : List Record
  plain = plain_records apex serial nodes

  abbrev zonemd : Record
  zonemd = digest apex serial plain

  abbrev zone : List Record
  zone = in_order (distinct (plain ++ zonemd ∷ []))

  at_apex : same_name apex apex ≡ true
  at_apex = (same_decides apex apex).1 refl

  -- the digest isn't digested
  digest_left_out : digested apex (plain ++ zonemd ∷ []) ≡ digested apex plain
  unfolding digested
  digest_left_out =
      let keep = λ (r : Record). not (is_left_out apex r) in
      let last : filter keep (zonemd ∷ []) ≡ [] = rw at_apex refl in
      ap (λ (xs : List Record). flat_map record_octets (in_order (distinct xs))) (filter-append keep plain
      (zonemd ∷ []) ∙ (ap (λ (xs : List Record). filter keep plain ++ xs) last ∙ append-nil (filter keep plain)))

  digested_whole : digested apex zone ≡ digested apex plain
  digested_whole = digested_canonical apex (plain ++ zonemd ∷ []) ∙ digest_left_out

  -- it is the only ZONEMD record
  zonemd_respects : Respects (is_zonemd apex)
  zonemd_respects r s t = let same = same_parts r s t in rw (same.0, same.1.0) refl

  no_other : filter (is_zonemd apex) plain ≡ []
  no_other = none_kept (is_zonemd apex) (flat_map (node_records apex) nodes) (all_nodes (λ r. is_zonemd apex r ≡ false)
      apex (λ node. all_node (λ r. is_zonemd apex r ≡ false) apex node refl (λ c. refl) (λ g. refl)) nodes)

  one_digest : zonemds apex zone ≡ zonemd ∷ []
  unfolding distinct in_order insertion
  one_digest =
      let last : filter (is_zonemd apex) (zonemd ∷ []) ≡ zonemd ∷ [] = rw at_apex refl in
      let all : filter (is_zonemd apex) (plain ++ zonemd ∷ []) ≡ zonemd ∷ [] =
      filter-append (is_zonemd apex) plain (zonemd ∷ [])
      ∙ (ap (λ (xs : List Record). xs ++ filter (is_zonemd apex) (zonemd ∷ [])) no_other ∙ last) in
      canonical_filter (is_zonemd apex) (plain ++ zonemd ∷ []) zonemd_respects
      ∙ ap (λ (xs : List Record). in_order (distinct xs)) all

  -- the serial of both
  same_number : (n : ℕ) → (n == n) ≡ true
  same_number n = grind (arith, nat_tests)

  soa_serial : serial < 2 ^ 32 → serial_is apex serial (soa apex serial) ≡ true
  unfolding wire_of four
  soa_serial small =
      let numbers : soa_of (soa apex serial) ≡ Some (soa_numbers (four serial ++ times)) = refl in
      let is : number_of_four (four serial ++ times) ≡ serial = number-four serial times small in
      ap (λ o. option_map_or (λ s. s.serial == serial) o false && same_name apex apex) numbers
      ∙ rw (is, same_number serial) at_apex

  digest_serial : serial < 2 ^ 32 → serial_in zonemd ≡ serial
  digest_serial small = number-four serial _ small

  found_serial : serial < 2 ^ 32 → is_serial apex zone (serial_in zonemd) ≡ true
  found_serial small =
      rw (digest_serial small) (canonical_any (serial_is apex serial) (soa apex serial) (name_server apex
      ∷ version_property apex ∷ (flat_map (node_records apex) nodes ++ zonemd ∷ [])) (soa_serial small))

  -- its parts
  by_sha384 : known_algorithm zonemd ≡ Some Sha384
  unfolding four
  by_sha384 = refl

  digest_is : digest_in zonemd ≡ sha384 (digested apex plain)
  unfolding four
  digest_is = refl

  is_known : is_supported zonemd ≡ true
  is_known = rw (by_sha384, digest_is, length-sha384 (digested apex plain)) refl

  digest_agrees : is_digest (digested apex zone) zonemd ≡ true
  digest_agrees =
      rw (by_sha384, digest_is) ((bytes_eq-Decides (sha384 (digested apex plain)) (sha384 (digested apex zone))).1
      (ap sha384 (sym digested_whole)))

  own_twin : (r : Record) → is_twin r r ≡ true
  own_twin r = grind (arith, nat_tests)

  alone : is_alone apex zone zonemd ≡ true
  alone = rw (one_digest, own_twin zonemd) refl

  digest_verifies : serial < 2 ^ 32 → verifies apex zone zonemd ≡ true
  digest_verifies small = rw (is_known, alone, found_serial small) digest_agrees

  good : serial < 2 ^ 32 → standing apex zone ≡ Good
  unfolding standing
  good small = rw (one_digest, digest_verifies small) refl

pub stands_good : StandsGood
stands_good apex serial nodes small = good apex serial nodes small
