-- The transfers of each zone of the script come to what they are for.
use Rattle.std.proofs.Common.{◌≡◌, ℕ, ◌<◌, ◌^◌, Bool, true, false, List, [], ◌∷◌, ◌++◌, refl, sym, ◌∙◌, ap, subst}
use Rattle.std.proofs.Common.{arith}
use Rattle.std.specs.Prelude.{codes, if◌then◌else◌}
use Rattle.std.specs.List.{AllByRecursion}
use Rattle.std.specs.Str.{bytes_eq}
use Rattle.std.specs.Ordering.{nat_cmp}
use Rattle.std.specs.Cmp.Lexicographic.{slice_cmp}
use Rattle.std.specs.declared.cmp.Ordering.TheVariants.{Equal}
use Rattle.std.proofs.lemmas.Cmp.{tied_itself}
use Rattle.std.proofs.lemmas.Slice.Eq.{bytes_eq-Decides}
use Rattle.dz_name.specs.Name.{IsName, wire_of}
use Rattle.dz_name.specs.Numbers.{two}
use Rattle.dz_name.specs.Order.{label_total}
use Rattle.dz_name.specs.Words.{Name, Octets}
use Rattle.dz_name.specs.declared.dns.TheConstants.{TYPE_NS, TYPE_AXFR, TYPE_IXFR}
use Rattle.dz_record.specs.Record.{Record}
use Rattle.dz_zone.specs.Version.{Zone, zone_of}
use Rattle.dz_settings.specs.declared.config.Policy.TheVariants.{Present, Require}
use Rattle.dz_zonemd.specs.Acceptance.{accepts}
use Rattle.dz_zonemd.specs.Digested.{digested}
use Rattle.dz_zonemd.specs.Standing.{standing}
use Rattle.dz_zonemd.specs.declared.acceptance.Standing.TheVariants.{Good}
use Rattle.dz_take.specs.Outcome.{outcome, or_incomplete}
use Rattle.dz_take.specs.Transfer.{new, refused}
use Rattle.dz_take.specs.declared.outcome.TakeFault.TheVariants.{Incomplete}
use Rattle.dz_gen.specs.Texts.{digits, named, numbered}
use Rattle.dz_gen.specs.Records.{hourly, soa, address, digest, zone, www, is_strict}
use Rattle.dz_gen.specs.Messages.{question, response}
use Rattle.dz_gen.specs.Outcomes.{first_of, next_of, Brings, ZoneComes, ZonesCome}
use Rattle.dz_gen.proofs.SentLemmas.{IsSmall, one_decides}
use Rattle.dz_gen.proofs.SmallLemmas.{zone_named, www_named, mail_named, soa_small, server_small, address_small}
use Rattle.dz_gen.proofs.SmallLemmas.{zonemd_small}
use Rattle.dz_gen.proofs.SpelledLemmas.{IsFour, four_digits, zone_is, www_is, mail_is}
use Rattle.dz_gen.proofs.ZoneLemmas.{good, version_plain_one, version_strict_one, version_plain_two}
use Rattle.dz_gen.proofs.ZoneLemmas.{version_strict_two, part_plain, part_strict, whole_plain, whole_strict}
use Rattle.dz_gen.proofs.ZoneLemmas.{changes_plain, changes_strict, absent_one, absent_two, digested_one, digested_two}
use Rattle.dz_gen.proofs.ZoneLemmas.{zonemds_one, zonemds_two, serial_one, serial_two}

-- ---- the records of a zone with these names
abbrev one_of : ℕ → Name → Name → List Record
one_of k apex w = soa apex 1 ∷ hourly apex TYPE_NS (wire_of (named (codes "ns.invalid."))) ∷ address w 0 k ∷ []

abbrev two_of : ℕ → Name → Name → Name → List Record
two_of k apex w e = soa apex 2 ∷ hourly apex TYPE_NS (wire_of (named
    (codes "ns.invalid."))) ∷ address w 0 k ∷ address e 1 k ∷ []

abbrev if_so : Bool → Record → List Record
if_so b r = if b then r ∷ [] else []

abbrev version_one : ℕ → Name → Name → Bool → Zone
version_one k apex w b = zone_of apex (one_of k apex w ++ if_so b (digest apex 1 (one_of k apex w)))

abbrev version_two : ℕ → Name → Name → Name → Bool → Zone
version_two k apex w e b = zone_of apex (two_of k apex w e ++ if_so b (digest apex 2 (two_of k apex w e)))

-- what is to be proved of the names
record Comes (k id : ℕ) (apex w e : Name) (b : Bool) : Type 0 where
  part : outcome (first_of apex id) (response id (question apex TYPE_AXFR ∷ []) (one_of k apex w ++ if_so b
      (digest apex 1 (one_of k apex w)))) ≡ refused Incomplete
  whole : Brings (if b then Require else Present) (first_of apex id)
      (response id (question apex TYPE_AXFR ∷ []) ((one_of k apex w ++ if_so b (digest apex 1
      (one_of k apex w))) ++ soa apex 1 ∷ [])) (version_one k apex w b)
  changes : Brings (if b then Require else Present) (next_of (version_one k apex w b) id)
      (response id (question apex TYPE_IXFR ∷ [])
      (((((soa apex 2 ∷ soa apex 1 ∷ []) ++ if_so b (digest apex 1
      (one_of k apex w))) ++ soa apex 2 ∷ address e 1 k ∷ [])
      ++ if_so b (digest apex 2 (two_of k apex w e))) ++ soa apex 2 ∷ [])) (version_two k apex w e b)

module _ (k : ℕ) (f : IsFour (digits k)) (id : ℕ) (small : id < 2 ^ 16) where
  abbrev m : Octets
  m = f.a ∷ f.b ∷ f.c ∷ f.d ∷ []

  abbrev apex : Name
  apex = (122 ∷ m) ∷ codes "test" ∷ []

  abbrev w : Name
  w = codes "www" ∷ apex

  abbrev e : Name
  e = codes "mail" ∷ apex

  abbrev one : List Record
  one = one_of k apex w

  abbrev second : List Record
  second = two_of k apex w e

  same : bytes_eq m m ≡ true
  same = (bytes_eq-Decides m m).1 refl

  tie : slice_cmp nat_cmp m m ≡ Equal
  tie = tied_itself label_total m

  apex_named : IsName apex
  apex_named = zone_named f.a f.b f.c f.d f.digits

  one_small : AllByRecursion IsSmall one
  one_small = (
    soa_small apex apex_named 1,
    (
      server_small apex apex_named,
      (address_small w (www_named f.a f.b f.c f.d f.digits) 0 k, tt),
    ),
  )

  mail_small : IsSmall (address e 1 k)
  mail_small = address_small e (mail_named f.a f.b f.c f.d f.digits) 1 k

  zonemd_one : IsSmall (digest apex 1 one)
  zonemd_one = zonemd_small apex apex_named 1 (digested apex (zone_of apex one).records)

  zonemd_two : IsSmall (digest apex 2 second)
  zonemd_two = zonemd_small apex apex_named 2 (digested apex (zone_of apex second).records)

  soa_one : IsSmall (soa apex 1)
  soa_one = soa_small apex apex_named 1

  soa_two : IsSmall (soa apex 2)
  soa_two = soa_small apex apex_named 2

  -- ---- the digests
  good_one : standing apex (zone_of apex (one ++ digest apex 1 one ∷ [])).records ≡ Good
  good_one =
      ap (λ (z : Zone). standing apex z.records) (version_strict_one m same tie (10 ∷ 0 ∷ two k) (10 ∷ 1 ∷ two k)
      (wire_of (named (codes "ns.invalid."))) (digest apex 1 one).rdata (digest apex 2 second).rdata id)
      ∙ good apex _ 1 (digested apex (zone_of apex one).records) (zonemds_one m same tie (10 ∷ 0 ∷ two k)
      (10 ∷ 1 ∷ two k) (wire_of (named (codes "ns.invalid."))) (digest apex 1 one).rdata
      (digest apex 2 second).rdata id) (serial_one m same tie (10 ∷ 0 ∷ two k) (10 ∷ 1 ∷ two k) (wire_of
      (named (codes "ns.invalid."))) (digest apex 1 one).rdata (digest apex 2 second).rdata id) (omega arith)
      ((digested_one m same tie (10 ∷ 0 ∷ two k) (10 ∷ 1 ∷ two k) (wire_of (named (codes "ns.invalid.")))
      (digest apex 1 one).rdata (digest apex 2 second).rdata id)
      ∙ ap (λ (z : Zone). digested apex z.records) (sym (version_plain_one m same tie (10 ∷ 0 ∷ two k)
      (10 ∷ 1 ∷ two k) (wire_of (named (codes "ns.invalid."))) (digest apex 1 one).rdata
      (digest apex 2 second).rdata id)))

  good_two : standing apex (zone_of apex (second ++ digest apex 2 second ∷ [])).records ≡ Good
  good_two =
      ap (λ (z : Zone). standing apex z.records) (version_strict_two m same tie (10 ∷ 0 ∷ two k) (10 ∷ 1 ∷ two k)
      (wire_of (named (codes "ns.invalid."))) (digest apex 1 one).rdata (digest apex 2 second).rdata id)
      ∙ good apex _ 2 (digested apex (zone_of apex second).records) (zonemds_two m same tie (10 ∷ 0 ∷ two k)
      (10 ∷ 1 ∷ two k) (wire_of (named (codes "ns.invalid."))) (digest apex 1 one).rdata
      (digest apex 2 second).rdata id) (serial_two m same tie (10 ∷ 0 ∷ two k) (10 ∷ 1 ∷ two k) (wire_of
      (named (codes "ns.invalid."))) (digest apex 1 one).rdata (digest apex 2 second).rdata id) (omega arith)
      ((digested_two m same tie (10 ∷ 0 ∷ two k) (10 ∷ 1 ∷ two k) (wire_of (named (codes "ns.invalid.")))
      (digest apex 1 one).rdata (digest apex 2 second).rdata id)
      ∙ ap (λ (z : Zone). digested apex z.records) (sym (version_plain_two m same tie (10 ∷ 0 ∷ two k)
      (10 ∷ 1 ∷ two k) (wire_of (named (codes "ns.invalid."))) (digest apex 1 one).rdata
      (digest apex 2 second).rdata id)))

  -- ---- without digests
  plain_comes : Comes k id apex w e false
  plain_comes = record {
    part = one_decides (first_of apex id) apex_named small one one_small (omega arith)
        ∙ ap or_incomplete (part_plain m same tie (10 ∷ 0 ∷ two k) (10 ∷ 1 ∷ two k) (wire_of (named
        (codes "ns.invalid."))) (digest apex 1 one).rdata (digest apex 2 second).rdata id);
    whole = record {
      comes = one_decides (first_of apex id) apex_named small (one ++ soa apex 1 ∷ [])
          (one_small.0, (one_small.1.0, (one_small.1.1.0, (soa_one, tt)))) (omega arith)
          ∙ ap or_incomplete (whole_plain m same tie (10 ∷ 0 ∷ two k) (10 ∷ 1 ∷ two k) (wire_of (named
          (codes "ns.invalid."))) (digest apex 1 one).rdata (digest apex 2 second).rdata id);
      accepted = ap (λ (z : Zone). accepts Present (standing apex z.records)) (version_plain_one m same tie
          (10 ∷ 0 ∷ two k) (10 ∷ 1 ∷ two k) (wire_of (named (codes "ns.invalid."))) (digest apex 1 one).rdata
          (digest apex 2 second).rdata id)
          ∙ ap (λ s. accepts Present s) (absent_one m same tie (10 ∷ 0 ∷ two k) (10 ∷ 1 ∷ two k) (wire_of (named
          (codes "ns.invalid."))) (digest apex 1 one).rdata (digest apex 2 second).rdata id);
    };
    changes = record {
      comes =
          ap (λ z. outcome (next_of z id) (response id (question apex TYPE_IXFR ∷ [])
          (soa apex 2 ∷ soa apex 1 ∷ soa apex 2 ∷ address e 1 k ∷ soa apex 2 ∷ [])))
          (version_plain_one m same tie (10 ∷ 0 ∷ two k) (10 ∷ 1 ∷ two k) (wire_of (named
          (codes "ns.invalid."))) (digest apex 1 one).rdata (digest apex 2 second).rdata id)
          ∙ (one_decides (next_of _ id) apex_named small
          (soa apex 2 ∷ soa apex 1 ∷ soa apex 2 ∷ address e 1 k ∷ soa apex 2 ∷ [])
          (soa_two, (soa_one, (soa_two, (mail_small, (soa_two, tt))))) (omega arith)
          ∙ (ap or_incomplete (changes_plain m same tie (10 ∷ 0 ∷ two k) (10 ∷ 1 ∷ two k) (wire_of (named
          (codes "ns.invalid."))) (digest apex 1 one).rdata (digest apex 2 second).rdata id)
          ∙ ap new (sym (version_plain_two m same tie (10 ∷ 0 ∷ two k) (10 ∷ 1 ∷ two k) (wire_of (named
          (codes "ns.invalid."))) (digest apex 1 one).rdata (digest apex 2 second).rdata id))));
      accepted = ap (λ (z : Zone). accepts Present (standing apex z.records)) (version_plain_two m same tie
          (10 ∷ 0 ∷ two k) (10 ∷ 1 ∷ two k) (wire_of (named (codes "ns.invalid."))) (digest apex 1 one).rdata
          (digest apex 2 second).rdata id)
          ∙ ap (λ s. accepts Present s) (absent_two m same tie (10 ∷ 0 ∷ two k) (10 ∷ 1 ∷ two k) (wire_of (named
          (codes "ns.invalid."))) (digest apex 1 one).rdata (digest apex 2 second).rdata id);
    };
  }

  -- ---- with digests
  strict_comes : Comes k id apex w e true
  strict_comes = record {
    part = one_decides (first_of apex id) apex_named small (one ++ digest apex 1 one ∷ [])
        (one_small.0, (one_small.1.0, (one_small.1.1.0, (zonemd_one, tt)))) (omega arith)
        ∙ ap or_incomplete (part_strict m same tie (10 ∷ 0 ∷ two k) (10 ∷ 1 ∷ two k) (wire_of (named
        (codes "ns.invalid."))) (digest apex 1 one).rdata (digest apex 2 second).rdata id);
    whole = record {
      comes = one_decides (first_of apex id) apex_named small ((one ++ digest apex 1 one ∷ []) ++ soa apex 1 ∷ [])
          (one_small.0, (one_small.1.0, (one_small.1.1.0, (zonemd_one, (soa_one, tt))))) (omega arith)
          ∙ ap or_incomplete (whole_strict m same tie (10 ∷ 0 ∷ two k) (10 ∷ 1 ∷ two k) (wire_of (named
          (codes "ns.invalid."))) (digest apex 1 one).rdata (digest apex 2 second).rdata id);
      accepted = ap (λ s. accepts Require s) good_one;
    };
    changes = record {
      comes =
          ap (λ z. outcome (next_of z id) (response id (question apex TYPE_IXFR ∷ [])
          (soa apex 2 ∷ soa apex 1 ∷ digest apex 1 one ∷ soa apex 2 ∷ address e 1 k ∷ digest apex 2 second
          ∷ soa apex 2 ∷ []))) (version_strict_one m same tie (10 ∷ 0 ∷ two k) (10 ∷ 1 ∷ two k)
          (wire_of (named (codes "ns.invalid."))) (digest apex 1 one).rdata (digest apex 2 second).rdata id)
          ∙ (one_decides (next_of _ id) apex_named small
          (soa apex 2 ∷ soa apex 1 ∷ digest apex 1 one ∷ soa apex 2 ∷ address e 1 k ∷ digest apex 2 second
          ∷ soa apex 2 ∷ [])
          (soa_two, (soa_one, (zonemd_one, (soa_two, (mail_small, (zonemd_two, (soa_two, tt))))))) (omega arith)
          ∙ (ap or_incomplete (changes_strict m same tie (10 ∷ 0 ∷ two k) (10 ∷ 1 ∷ two k) (wire_of (named
          (codes "ns.invalid."))) (digest apex 1 one).rdata (digest apex 2 second).rdata id)
          ∙ ap new (sym (version_strict_two m same tie (10 ∷ 0 ∷ two k) (10 ∷ 1 ∷ two k) (wire_of (named
          (codes "ns.invalid."))) (digest apex 1 one).rdata (digest apex 2 second).rdata id))));
      accepted = ap (λ s. accepts Require s) good_two;
    };
  }

  either_comes : (b : Bool) → Comes k id apex w e b
  either_comes true = strict_comes
  either_comes false = plain_comes

  pub zone_comes : ZoneComes k id
  zone_comes =
      let c : Comes k id (zone k) (www k) (named (numbered (codes "mail.z") k (codes ".test."))) (is_strict k) =
      subst (λ x. Comes k id x (www k) (named (numbered (codes "mail.z") k (codes ".test."))) (is_strict k)) (sym
      (zone_is k f))
      (subst (λ x. Comes k id apex x (named (numbered (codes "mail.z") k (codes ".test."))) (is_strict k)) (sym
      (www_is k f))
      (subst (λ x. Comes k id apex w x (is_strict k)) (sym (mail_is k f)) (either_comes (is_strict k)))) in
      record { part = c.part; whole = c.whole; changes = c.changes }

pub zones_come : ZonesCome
zones_come k id some few small = zone_comes k (four_digits k some few) id small
