-- The records of the zones are records that a zone may hold, with little RDATA.
use Rattle.std.proofs.Common.{◌≡◌, ℕ, ◌+◌, ◌-◌, ◌<◌, ◌≤◌, ◌^◌, true, [], ◌∷◌, ◌++◌, length, refl, sym, ◌∙◌, subst}
use Rattle.std.proofs.Common.{arith, append-nil, append_assoc, length-append, Some}
use Rattle.std.specs.Prelude.{◌==◌, nat_le, codes}
use Rattle.std.proofs.lemmas.Bool.Decides.{nat_tests}
use Rattle.sha2.specs.Sha512.{sha384}
use Rattle.sha2.proofs.Facts512.{length-sha384}
use Rattle.dz_name.specs.Name.{wire_of, IsLabel, IsName}
use Rattle.dz_name.specs.Numbers.{two, four}
use Rattle.dz_name.specs.Reading.{canonical_end}
use Rattle.dz_name.specs.Text.{items, with_label, labels_from, name_of_text}
use Rattle.dz_name.specs.Words.{Name, Octets}
use Rattle.dz_name.proofs.CanonicalLemmas.{canonical_end_wire}
use Rattle.dz_name.proofs.NumberLemmas.{length_two, length_four}
use Rattle.dz_record.specs.Fields.{fits, field_end, fields_of, is_rdata}
use Rattle.dz_record.specs.declared.fields.Field.TheVariants.{DomainName, Remainder}
use Rattle.dz_gen.specs.Texts.{named}
use Rattle.dz_gen.specs.Records.{hourly, times, soa, catalog, address}
use Rattle.dz_gen.proofs.DecimalLemmas.{AreDigits}
use Rattle.dz_gen.proofs.SentLemmas.{IsSmall, same_number}
use Rattle.dz_gen.proofs.SpelledLemmas.{lower_digit}

-- ---- RDATA
-- a name alone
name_rdata : (kind : ℕ) (name : Name) → fields_of kind ≡ DomainName ∷ [] → IsName name
    → is_rdata kind (wire_of name) ≡ true
unfolding fits field_end
name_rdata kind name row is =
    let none = append-nil (wire_of name) in
    let size : 0 + length (wire_of name) ≡ length (wire_of name) = omega arith in
    let end : canonical_end (wire_of name) 0 ≡ Some (length (wire_of name)) = rw (
      none,
      size,
    ) at (canonical_end_wire [] name [] is) in
    let few : nat_le (length (wire_of name)) 65535 ≡ true = grind (arith, nat_tests, is.short) in
    rw (few, row, end) (same_number (length (wire_of name)))

-- what is kept as it is
rest_rdata : (kind : ℕ) (rdata : Octets) → fields_of kind ≡ Remainder ∷ [] → length rdata ≤ 65535
    → is_rdata kind rdata ≡ true
unfolding fits field_end
rest_rdata kind rdata row short =
    let few : nat_le (length rdata) 65535 ≡ true = grind (arith, nat_tests) in
    rw (few, row) (same_number (length rdata))

-- two names and 20 octets
soa_rdata : (a b : Name) (numbers : Octets) → IsName a → IsName b → length numbers ≡ 20
    → is_rdata 6 (wire_of a ++ (wire_of b ++ numbers)) ≡ true
unfolding fits field_end fields_of
soa_rdata a b numbers is also count =
    let zero : 0 + length (wire_of a) ≡ length (wire_of a) = omega arith in
    let first : canonical_end (wire_of a ++ (wire_of b ++ numbers)) 0
    ≡ Some (length (wire_of a)) = rw zero at (canonical_end_wire [] a (wire_of b ++ numbers) is) in
    let second : canonical_end (wire_of a ++ (wire_of b ++ numbers)) (length (wire_of a))
    ≡ Some (length (wire_of a) + length (wire_of b)) = canonical_end_wire (wire_of a) b numbers also in
    let n : length (wire_of a ++ (wire_of b ++ numbers))
    ≡ (length (wire_of a) + length (wire_of b)) + 20 = omega (
      arith,
      length-append (wire_of a) (wire_of b ++ numbers),
      length-append (wire_of b) numbers,
    ) in
    let few : nat_le (length (wire_of a ++ (wire_of b ++ numbers))) 65535
    ≡ true = grind (arith, nat_tests, is.short, also.short) in
    let room : nat_le 20 (length (wire_of a ++ (wire_of b ++ numbers)) - (length (wire_of a) + length
    (wire_of b))) ≡ true = grind (arith, nat_tests) in
    let ends : ((length (wire_of a) + length (wire_of b)) + 20 == length (wire_of a ++ (wire_of b ++ numbers)))
    ≡ true = grind (arith, nat_tests) in
    rw (few, first, second, room) ends

-- ---- names
ns_name : IsName (named (codes "ns.invalid."))
unfolding name_of_text items labels_from with_label wire_of
ns_name = record {
  each = (
    record { some = omega arith; short = omega arith; lower_case = refl },
    (record { some = omega arith; short = omega arith; lower_case = refl }, tt),
  );
  short = omega arith;
}

host_name : IsName (named (codes "host.invalid."))
unfolding name_of_text items labels_from with_label wire_of
host_name = record {
  each = (
    record { some = omega arith; short = omega arith; lower_case = refl },
    (record { some = omega arith; short = omega arith; lower_case = refl }, tt),
  );
  short = omega arith;
}

invalid_name : IsName (named (codes "invalid."))
unfolding name_of_text items labels_from with_label wire_of
invalid_name = record {
  each = (
    record { some = omega arith; short = omega arith; lower_case = refl },
    tt,
  );
  short = omega arith;
}

pub catalog_named : IsName catalog
unfolding name_of_text items labels_from with_label wire_of
catalog_named = record {
  each = (
    record { some = omega arith; short = omega arith; lower_case = refl },
    (record { some = omega arith; short = omega arith; lower_case = refl }, tt),
  );
  short = omega arith;
}

pub version_named : IsName (named (codes "version.cat.test."))
unfolding name_of_text items labels_from with_label wire_of
version_named = record {
  each = (
    record { some = omega arith; short = omega arith; lower_case = refl },
    (
      record { some = omega arith; short = omega arith; lower_case = refl },
      (record { some = omega arith; short = omega arith; lower_case = refl }, tt),
    ),
  );
  short = omega arith;
}

test_label : IsLabel (codes "test")
test_label = record { some = omega arith; short = omega arith; lower_case = refl }

www_label : IsLabel (codes "www")
www_label = record { some = omega arith; short = omega arith; lower_case = refl }

mail_label : IsLabel (codes "mail")
mail_label = record { some = omega arith; short = omega arith; lower_case = refl }

zones_label : IsLabel (codes "zones")
zones_label = record { some = omega arith; short = omega arith; lower_case = refl }

cat_label : IsLabel (codes "cat")
cat_label = record { some = omega arith; short = omega arith; lower_case = refl }

group_label : IsLabel (codes "group")
group_label = record { some = omega arith; short = omega arith; lower_case = refl }

module _ (a b c d : ℕ) (p : AreDigits (a ∷ b ∷ c ∷ d ∷ [])) where
  node_label : IsLabel (109 ∷ a ∷ b ∷ c ∷ d ∷ [])
  node_label = record {
    some = omega arith;
    short = omega arith;
    lower_case = rw (lower_digit a p.0, lower_digit b p.1.0, lower_digit c p.1.1.0, lower_digit d p.1.1.1.0) refl;
  }

  pub node_named : IsName ((109 ∷ a ∷ b ∷ c ∷ d ∷ []) ∷ codes "zones" ∷ codes "cat" ∷ codes "test" ∷ [])
  unfolding wire_of
  node_named = record { each = (node_label, (zones_label, (cat_label, (test_label, tt)))); short = omega arith }

  moved_label : IsLabel (114 ∷ a ∷ b ∷ c ∷ d ∷ [])
  moved_label = record {
    some = omega arith;
    short = omega arith;
    lower_case = rw (lower_digit a p.0, lower_digit b p.1.0, lower_digit c p.1.1.0, lower_digit d p.1.1.1.0) refl;
  }

  pub moved_named : IsName ((114 ∷ a ∷ b ∷ c ∷ d ∷ []) ∷ codes "zones" ∷ codes "cat" ∷ codes "test" ∷ [])
  unfolding wire_of
  moved_named = record { each = (moved_label, (zones_label, (cat_label, (test_label, tt)))); short = omega arith }

  pub group_named : IsName (codes "group" ∷
      (109 ∷ a ∷ b ∷ c ∷ d ∷ []) ∷ codes "zones" ∷ codes "cat" ∷ codes "test" ∷ [])
  unfolding wire_of
  group_named = record {
    each = (
      group_label,
      (
        node_label,
        (
          zones_label,
          (
            cat_label,
            (
              test_label,
              tt,
            ),
          ),
        ),
      ),
    );
    short = omega arith;
  }

  zone_label : IsLabel (122 ∷ a ∷ b ∷ c ∷ d ∷ [])
  zone_label = record {
    some = omega arith;
    short = omega arith;
    lower_case = rw (lower_digit a p.0, lower_digit b p.1.0, lower_digit c p.1.1.0, lower_digit d p.1.1.1.0) refl;
  }

  pub zone_named : IsName ((122 ∷ a ∷ b ∷ c ∷ d ∷ []) ∷ codes "test" ∷ [])
  unfolding wire_of
  zone_named = record { each = (zone_label, (test_label, tt)); short = omega arith }

  pub www_named : IsName (codes "www" ∷ (122 ∷ a ∷ b ∷ c ∷ d ∷ []) ∷ codes "test" ∷ [])
  unfolding wire_of
  www_named = record { each = (www_label, (zone_label, (test_label, tt))); short = omega arith }

  pub mail_named : IsName (codes "mail" ∷ (122 ∷ a ∷ b ∷ c ∷ d ∷ []) ∷ codes "test" ∷ [])
  unfolding wire_of
  mail_named = record { each = (mail_label, (zone_label, (test_label, tt))); short = omega arith }

-- ---- records
times_length : length times ≡ 16
times_length = omega (
  arith,
  length-append ((four 100 ++ four 60) ++ four 600) (four 30),
  length-append (four 100 ++ four 60) (four 600),
  length-append (four 100) (four 60),
  length_four 100,
  length_four 60,
  length_four 600,
  length_four 30,
)

module _ (owner : Name) (is : IsName owner) where
  pub soa_small : (serial : ℕ) → IsSmall (soa owner serial)
  soa_small serial =
      let a = wire_of (named (codes "ns.invalid.")) in
      let b = wire_of (named (codes "host.invalid.")) in
      let numbers : Octets = four serial ++ times in
      let n : length numbers ≡ 20 = omega (
        arith,
        length-append (four serial) times,
        length_four serial,
        times_length,
      ) in
      let e : ((a ++ b) ++ four serial) ++ times
      ≡ a ++ (b ++ numbers) = append_assoc (a ++ b) (four serial) times ∙ append_assoc a b numbers in
      let shorts : length (((a ++ b) ++ four serial) ++ times) ≤ 1000 =
      omega (
        arith,
        length-append ((a ++ b) ++ four serial) times,
        length-append (a ++ b) (four serial),
        length-append a b,
        length_four serial,
        times_length,
        ns_name.short,
        host_name.short,
      ) in
      record {
        held = record {
          owner = is;
          number = omega arith;
          kind = refl;
          ttl = omega arith;
          rdata = subst (λ x. is_rdata 6 x
              ≡ true) (sym e) (soa_rdata (named (codes "ns.invalid.")) (named
              (codes "host.invalid.")) numbers ns_name host_name n);
        };
        short = shorts;
      }

  pub server_small : IsSmall (hourly owner 2 (wire_of (named (codes "ns.invalid."))))
  unfolding fields_of
  server_small = record {
    held = record {
      owner = is;
      number = omega arith;
      kind = refl;
      ttl = omega arith;
      rdata = name_rdata 2 (named
          (codes "ns.invalid.")) refl ns_name;
    };
    short = omega (arith, ns_name.short);
  }

  pub invalid_small : IsSmall (hourly owner 2 (wire_of (named (codes "invalid."))))
  unfolding fields_of
  invalid_small = record {
    held = record {
      owner = is;
      number = omega arith;
      kind = refl;
      ttl = omega arith;
      rdata = name_rdata 2 (named
          (codes "invalid.")) refl invalid_name;
    };
    short = omega (arith, invalid_name.short);
  }

  pub pointer_small : (target : Name) → IsName target → IsSmall (hourly owner 12 (wire_of target))
  unfolding fields_of
  pointer_small target also = record {
    held = record {
      owner = is;
      number = omega arith;
      kind = refl;
      ttl = omega arith;
      rdata = name_rdata 12 target refl also;
    };
    short = omega (arith, also.short);
  }

  pub text_small : (ttl : ℕ) (text : Octets) → ttl < 2 ^ 31 → length text ≤ 255
      → IsSmall (record { owner = owner; kind = 16; ttl = ttl; rdata = text })
  unfolding fields_of
  text_small ttl text low short = record {
    held = record {
      owner = is;
      number = omega arith;
      kind = refl;
      ttl = low;
      rdata = rest_rdata 16 text refl
          (omega arith);
    };
    short = omega arith;
  }

  address_rdata : (second k : ℕ) → is_rdata 1 (10 ∷ second ∷ two k) ≡ true
  unfolding fields_of fits field_end two
  address_rdata second k = refl

  pub address_small : (second k : ℕ) → IsSmall (address owner second k)
  address_small second k = record {
    held = record { owner = is; number = omega arith; kind = refl; ttl = omega arith; rdata = address_rdata second k };
    short = omega (arith, length_two k);
  }

  pub zonemd_small : (serial : ℕ) (octets : Octets)
      → IsSmall (hourly owner 63 (four serial ++ (1 ∷ 1 ∷ sha384 octets)))
  unfolding fields_of
  zonemd_small serial octets =
      let n : length (four serial ++ (1 ∷ 1 ∷ sha384 octets))
      ≡ 54 = omega (
        arith,
        length-append (four serial) (1 ∷ 1 ∷ sha384 octets),
        length_four serial,
        length-sha384 octets,
      ) in
      record {
        held = record {
          owner = is;
          number = omega arith;
          kind = refl;
          ttl = omega arith;
          rdata = rest_rdata 63
              (four serial ++ (1 ∷ 1 ∷ sha384 octets)) refl (omega (arith, n));
        };
        short = omega (arith, n);
      }
