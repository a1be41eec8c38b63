-- What the records of a zone's transfers come to.
use Rattle.std.proofs.Common.{◌≡◌, ℕ, ◌<◌, ◌^◌, true, List, [], ◌∷◌, refl, sym, ◌∙◌, ap, arith, Some, None}
use Rattle.std.specs.Prelude.{codes, ◌++◌}
use Rattle.std.proofs.lemmas.Bool.Decides.{nat_tests}
use Rattle.std.proofs.lemmas.Slice.Eq.{bytes_eq-Decides}
use Rattle.sha2.specs.Sha512.{sha384}
use Rattle.sha2.proofs.Facts512.{length-sha384}
use Rattle.dz_zonemd.specs.Standing.{standing, zonemds, is_serial, is_digest, is_alone, verifies}
use Rattle.dz_zonemd.specs.Zonemd.{serial_in, digest_in, is_twin, is_supported, known_algorithm}
use Rattle.dz_zonemd.specs.declared.acceptance.Standing.TheVariants.{Good, Absent}
use Rattle.dz_zonemd.specs.declared.algorithm.Algorithm.TheVariants.{Sha384}
use Rattle.std.specs.Str.{bytes_eq}
use Rattle.std.specs.Ordering.{nat_cmp}
use Rattle.std.specs.Cmp.Lexicographic.{slice_cmp}
use Rattle.std.specs.declared.cmp.Ordering.TheVariants.{Equal}
use Rattle.dz_name.specs.Name.{wire_of}
use Rattle.dz_name.specs.Numbers.{four, number_of_four}
use Rattle.dz_name.proofs.NumberLemmas.{number-four}
use Rattle.dz_name.specs.Text.{items, with_label, labels_from, name_of_text}
use Rattle.dz_name.specs.Words.{Name, Octets}
use Rattle.dz_record.specs.Record.{Record}
use Rattle.dz_record.specs.Records.{distinct, insertion, in_order}
use Rattle.dz_zone.specs.Valid.{fault_of, some_two, clash, both_are}
use Rattle.dz_zone.specs.Version.{Zone, zone_of}
use Rattle.dz_zonemd.specs.Digested.{digested}
use Rattle.dz_xfr.specs.Apex.{is_apex_soa}
use Rattle.dz_xfr.specs.Stands.{complete}
use Rattle.dz_axfr.specs.Reading as whole
use Rattle.dz_ixfr.specs.Reading as incremental
use Rattle.dz_take.specs.Form.{form, settled, is_old_soa, checked, decision_of}
use Rattle.dz_take.proofs.KindLemmas.{form_behind, form_incremental}
use Rattle.dz_take.specs.Transfer.{new}
use Rattle.dz_gen.specs.Records.{hourly, soa}
use Rattle.dz_gen.specs.Outcomes.{first_of, next_of}

-- a version whose only ZONEMD record has the digest of its records
module _ (apex : Name) (records : List Record) (serial : ℕ) (octets : Octets) where
  abbrev digest : Record
  digest = hourly apex 63 (four serial ++ (1 ∷ 1 ∷ sha384 octets))

  by_sha384 : known_algorithm digest ≡ Some Sha384
  unfolding four
  by_sha384 = refl

  digest_is : digest_in digest ≡ sha384 octets
  unfolding four
  digest_is = refl

  is_known : is_supported digest ≡ true
  is_known = rw (by_sha384, digest_is, length-sha384 octets) refl

  own_twin : (r : Record) → is_twin r r ≡ true
  own_twin r = grind (arith, nat_tests)

  module _ (only : zonemds apex records ≡ digest ∷ []) (found : is_serial apex records serial ≡ true)
      (small : serial < 2 ^ 32) (over : digested apex records ≡ octets) where
    agrees : is_digest (digested apex records) digest ≡ true
    agrees = rw (by_sha384, digest_is) ((bytes_eq-Decides (sha384 octets) (sha384 (digested apex records))).1
        (ap sha384 (sym over)))

    alone : is_alone apex records digest ≡ true
    alone = rw (only, own_twin digest) refl

    found_in : is_serial apex records (serial_in digest) ≡ true
    found_in = rw (number-four serial (1 ∷ 1 ∷ sha384 octets) small) found

    digest_verifies : verifies apex records digest ≡ true
    digest_verifies = rw (is_known, alone, found_in) agrees

    pub good : standing apex records ≡ Good
    unfolding standing
    good = rw (only, digest_verifies) refl

-- a zone with the label z, and octets that are the same as themselves
module _ (m : Octets) (same : bytes_eq m m ≡ true) (tie : slice_cmp nat_cmp m m ≡ Equal)
    (address other name digest again : Octets) (id : ℕ) where
  abbrev pub apex : Name
  apex = (122 ∷ m) ∷ codes "test" ∷ []

  abbrev pub server : Record
  server = hourly apex 2 name

  abbrev pub www : Record
  www = hourly (codes "www" ∷ apex) 1 address

  abbrev pub mail : Record
  mail = hourly (codes "mail" ∷ apex) 1 other

  abbrev pub zonemd : Record
  zonemd = hourly apex 63 digest

  abbrev pub zonemd_again : Record
  zonemd_again = hourly apex 63 again

  abbrev pub plain_one : List Record
  plain_one = soa apex 1 ∷ server ∷ www ∷ []

  abbrev pub strict_one : List Record
  strict_one = soa apex 1 ∷ server ∷ www ∷ zonemd ∷ []

  abbrev pub plain_two : List Record
  plain_two = soa apex 2 ∷ server ∷ www ∷ mail ∷ []

  abbrev pub strict_two : List Record
  strict_two = soa apex 2 ∷ server ∷ www ∷ mail ∷ zonemd_again ∷ []

  pub part_plain : form (first_of apex id) plain_one ≡ None
  unfolding form
  part_plain = rw same refl

  pub part_strict : form (first_of apex id) strict_one ≡ None
  unfolding form
  part_strict = rw same refl

  -- the same records in their order
  abbrev pub sorted_plain_one : List Record
  sorted_plain_one = server ∷ soa apex 1 ∷ www ∷ []

  abbrev pub sorted_strict_one : List Record
  sorted_strict_one = server ∷ soa apex 1 ∷ zonemd ∷ www ∷ []

  abbrev pub sorted_plain_two : List Record
  sorted_plain_two = server ∷ soa apex 2 ∷ mail ∷ www ∷ []

  abbrev pub sorted_strict_two : List Record
  sorted_strict_two = server ∷ soa apex 2 ∷ zonemd_again ∷ mail ∷ www ∷ []

  pub distinct_plain_one : distinct plain_one ≡ plain_one
  unfolding distinct
  distinct_plain_one = rw (same) refl

  pub order_plain_one : in_order plain_one ≡ sorted_plain_one
  unfolding in_order insertion
  order_plain_one = rw (tie, tie) refl

  pub fault_plain_one : fault_of apex plain_one ≡ None
  unfolding fault_of some_two clash both_are
  fault_plain_one = rw (same) refl

  pub version_plain_one : zone_of apex plain_one ≡ record { apex = apex; records = sorted_plain_one }
  version_plain_one = rw (distinct_plain_one, order_plain_one) refl

  pub distinct_strict_one : distinct strict_one ≡ strict_one
  unfolding distinct
  distinct_strict_one = rw (same, same) refl

  pub order_strict_one : in_order strict_one ≡ sorted_strict_one
  unfolding in_order insertion
  order_strict_one = rw (tie, tie, tie) refl

  pub fault_strict_one : fault_of apex strict_one ≡ None
  unfolding fault_of some_two clash both_are
  fault_strict_one = rw (same) refl

  pub version_strict_one : zone_of apex strict_one ≡ record { apex = apex; records = sorted_strict_one }
  version_strict_one = rw (distinct_strict_one, order_strict_one) refl

  pub distinct_plain_two : distinct plain_two ≡ plain_two
  unfolding distinct
  distinct_plain_two = rw (same) refl

  pub order_plain_two : in_order plain_two ≡ sorted_plain_two
  unfolding in_order insertion
  order_plain_two = rw (tie, tie, tie) refl

  pub fault_plain_two : fault_of apex plain_two ≡ None
  unfolding fault_of some_two clash both_are
  fault_plain_two = rw (same) refl

  pub version_plain_two : zone_of apex plain_two ≡ record { apex = apex; records = sorted_plain_two }
  version_plain_two = rw (distinct_plain_two, order_plain_two) refl

  pub distinct_strict_two : distinct strict_two ≡ strict_two
  unfolding distinct
  distinct_strict_two = rw (same, same) refl

  pub order_strict_two : in_order strict_two ≡ sorted_strict_two
  unfolding in_order insertion
  order_strict_two = rw (tie, tie, tie, tie) refl

  pub fault_strict_two : fault_of apex strict_two ≡ None
  unfolding fault_of some_two clash both_are
  fault_strict_two = rw (same) refl

  pub version_strict_two : zone_of apex strict_two ≡ record { apex = apex; records = sorted_strict_two }
  version_strict_two = rw (distinct_strict_two, order_strict_two) refl

  pub distinct_sorted_plain_two : distinct sorted_plain_two ≡ sorted_plain_two
  unfolding distinct
  distinct_sorted_plain_two = rw (same) refl

  pub order_sorted_plain_two : in_order sorted_plain_two ≡ sorted_plain_two
  unfolding in_order insertion
  order_sorted_plain_two = rw (tie, tie, tie) refl

  pub version_sorted_plain_two : zone_of apex sorted_plain_two ≡ record { apex = apex; records = sorted_plain_two }
  version_sorted_plain_two = rw (distinct_sorted_plain_two, order_sorted_plain_two) refl

  pub fault_sorted_plain_two : fault_of apex sorted_plain_two ≡ None
  unfolding fault_of some_two clash both_are
  fault_sorted_plain_two = rw (same) refl

  pub distinct_sorted_strict_two : distinct sorted_strict_two ≡ sorted_strict_two
  unfolding distinct
  distinct_sorted_strict_two = rw (same, same) refl

  pub order_sorted_strict_two : in_order sorted_strict_two ≡ sorted_strict_two
  unfolding in_order insertion
  order_sorted_strict_two = rw (tie, tie, tie, tie) refl

  pub version_sorted_strict_two : zone_of apex sorted_strict_two ≡ record { apex = apex; records = sorted_strict_two }
  version_sorted_strict_two = rw (distinct_sorted_strict_two, order_sorted_strict_two) refl

  pub fault_sorted_strict_two : fault_of apex sorted_strict_two ≡ None
  unfolding fault_of some_two clash both_are
  fault_sorted_strict_two = rw (same) refl

  pub read_plain : whole.reading_of apex (soa apex 1 ∷ server ∷ www ∷ soa apex 1 ∷ []) ≡ complete plain_one
  unfolding name_of_text items labels_from with_label wire_of four
  read_plain = rw (same, same, distinct_plain_one) refl

  pub read_strict : whole.reading_of apex (soa apex 1 ∷ server ∷ www ∷ zonemd ∷ soa apex 1 ∷ []) ≡ complete strict_one
  unfolding name_of_text items labels_from with_label wire_of four
  read_strict = rw (same, same, distinct_strict_one) refl

  own : bytes_eq digest digest ≡ true
  own = (bytes_eq-Decides digest digest).1 refl

  pub mail_comes : insertion mail (server ∷ www ∷ []) ≡ server ∷ mail ∷ www ∷ []
  unfolding insertion
  mail_comes = rw (tie) refl

  pub zonemd_comes : insertion zonemd_again (server ∷ mail ∷ www ∷ []) ≡ server ∷ zonemd_again ∷ mail ∷ www ∷ []
  unfolding insertion
  zonemd_comes = rw (tie) refl

  pub soa_comes : insertion (soa apex 2) (server ∷ mail ∷ www ∷ []) ≡ sorted_plain_two
  unfolding insertion
  soa_comes = rw (tie) refl

  pub soa_comes_too : insertion (soa apex 2) (server ∷ zonemd_again ∷ mail ∷ www ∷ []) ≡ sorted_strict_two
  unfolding insertion
  soa_comes_too = rw (tie) refl

  abbrev pub held_plain : Zone
  held_plain = record { apex = apex; records = sorted_plain_one }

  abbrev pub held_strict : Zone
  held_strict = record { apex = apex; records = sorted_strict_one }

  pub read_changes : incremental.reading_of held_plain
      (soa apex 2 ∷ soa apex 1 ∷ soa apex 2 ∷ mail ∷ soa apex 2 ∷ []) ≡ complete sorted_plain_two
  unfolding name_of_text items labels_from with_label wire_of four number_of_four
  read_changes = rw (same, same, same, same, mail_comes, soa_comes) refl

  pub read_changes_strict : incremental.reading_of held_strict
      (soa apex 2 ∷ soa apex 1 ∷ zonemd ∷ soa apex 2 ∷ mail ∷ zonemd_again ∷ soa apex 2 ∷ [])
      ≡ complete sorted_strict_two
  unfolding name_of_text items labels_from with_label wire_of four number_of_four
  read_changes_strict = rw (same, same, same, own, same, mail_comes, same, zonemd_comes, same, soa_comes_too) refl

  pub soa_here : (serial : ℕ) → is_apex_soa apex (soa apex serial) ≡ true
  soa_here serial = rw same refl

  pub whole_plain : form (first_of apex id) (soa apex 1 ∷ server ∷ www ∷ soa apex 1 ∷ [])
      ≡ Some (new (zone_of apex plain_one))
  whole_plain = form_behind (first_of apex id) (soa apex 1) (server ∷ www ∷ soa apex 1 ∷ [])
      (record { soa = soa_here 1; unsettled = refl })
      ∙ (ap (decision_of apex) read_plain
      ∙ ap (λ fault. Some (checked apex plain_one fault)) (ap (fault_of apex) distinct_plain_one
      ∙ fault_plain_one))

  pub whole_strict : form (first_of apex id) (soa apex 1 ∷ server ∷ www ∷ zonemd ∷ soa apex 1 ∷ [])
      ≡ Some (new (zone_of apex strict_one))
  whole_strict = form_behind (first_of apex id) (soa apex 1) (server ∷ www ∷ zonemd ∷ soa apex 1 ∷ [])
      (record { soa = soa_here 1; unsettled = refl })
      ∙ (ap (decision_of apex) read_strict
      ∙ ap (λ fault. Some (checked apex strict_one fault)) (ap (fault_of apex) distinct_strict_one
      ∙ fault_strict_one))

  pub unsettled_plain : settled (Some held_plain) (soa apex 2) ≡ None
  unfolding name_of_text items labels_from with_label wire_of four number_of_four
  unsettled_plain = rw (same) refl

  pub unsettled_strict : settled (Some held_strict) (soa apex 2) ≡ None
  unfolding name_of_text items labels_from with_label wire_of four number_of_four
  unsettled_strict = rw (same) refl

  pub old_soa : is_old_soa apex (soa apex 2) (soa apex 1) ≡ true
  unfolding name_of_text items labels_from with_label wire_of four number_of_four
  old_soa = rw (same) refl

  pub changes_plain : form (next_of held_plain id)
      (soa apex 2 ∷ soa apex 1 ∷ soa apex 2 ∷ mail ∷ soa apex 2 ∷ [])
      ≡ Some (new (record { apex = apex; records = sorted_plain_two }))
  changes_plain = form_incremental (next_of held_plain id) held_plain
      (soa apex 2 ∷ soa apex 1 ∷ soa apex 2 ∷ mail ∷ soa apex 2 ∷ [])
      (record {
        first = soa apex 2;
        second = soa apex 1;
        rest = soa apex 2 ∷ mail ∷ soa apex 2 ∷ [];
        are = refl;
        opens = record { soa = soa_here 2; unsettled = unsettled_plain };
        base = refl;
        kind = old_soa;
      })
      ∙ (ap (decision_of apex) read_changes
      ∙ (ap (λ fault. Some (checked apex sorted_plain_two fault)) (ap (fault_of apex) distinct_sorted_plain_two
      ∙ fault_sorted_plain_two)
      ∙ ap (λ z. Some (new z)) version_sorted_plain_two))

  pub changes_strict : form (next_of held_strict id)
      (soa apex 2 ∷ soa apex 1 ∷ zonemd ∷ soa apex 2 ∷ mail ∷ zonemd_again ∷ soa apex 2 ∷ [])
      ≡ Some (new (record { apex = apex; records = sorted_strict_two }))
  changes_strict = form_incremental (next_of held_strict id) held_strict
      (soa apex 2 ∷ soa apex 1 ∷ zonemd ∷ soa apex 2 ∷ mail ∷ zonemd_again ∷ soa apex 2 ∷ [])
      (record {
        first = soa apex 2;
        second = soa apex 1;
        rest = zonemd ∷ soa apex 2 ∷ mail ∷ zonemd_again ∷ soa apex 2 ∷ [];
        are = refl;
        opens = record { soa = soa_here 2; unsettled = unsettled_strict };
        base = refl;
        kind = old_soa;
      })
      ∙ (ap (decision_of apex) read_changes_strict
      ∙ (ap (λ fault. Some (checked apex sorted_strict_two fault)) (ap (fault_of apex) distinct_sorted_strict_two
      ∙ fault_sorted_strict_two)
      ∙ ap (λ z. Some (new z)) version_sorted_strict_two))

  pub absent_one : standing apex sorted_plain_one ≡ Absent
  unfolding standing
  absent_one = refl

  pub absent_two : standing apex sorted_plain_two ≡ Absent
  unfolding standing
  absent_two = refl

  pub digested_one : digested apex sorted_strict_one ≡ digested apex sorted_plain_one
  unfolding digested
  digested_one = rw (same) refl

  pub digested_two : digested apex sorted_strict_two ≡ digested apex sorted_plain_two
  unfolding digested
  digested_two = rw (same) refl

  pub zonemds_one : zonemds apex sorted_strict_one ≡ zonemd ∷ []
  zonemds_one = rw (same) refl

  pub zonemds_two : zonemds apex sorted_strict_two ≡ zonemd_again ∷ []
  zonemds_two = rw (same) refl

  pub serial_one : is_serial apex sorted_strict_one 1 ≡ true
  unfolding name_of_text items labels_from with_label wire_of four number_of_four
  serial_one = rw (same) refl

  pub serial_two : is_serial apex sorted_strict_two 2 ≡ true
  unfolding name_of_text items labels_from with_label wire_of four number_of_four
  serial_two = rw (same) refl
