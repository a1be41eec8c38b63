-- The REFRESH of the script's zones is 100 seconds.
use Rattle.std.proofs.Common.{◌≡◌, ℕ, ◌<◌, ◌≤◌, Bool, true, false, List, [], ◌∷◌, ◌++◌, Some, refl, ap, ◌∙◌}
use Rattle.std.specs.Prelude.{codes, if◌then◌else◌}
use Rattle.std.specs.Str.{bytes_eq}
use Rattle.std.specs.Ordering.{nat_cmp}
use Rattle.std.specs.Cmp.Lexicographic.{slice_cmp}
use Rattle.std.specs.declared.cmp.Ordering.TheVariants.{Equal}
use Rattle.std.proofs.lemmas.Cmp.{tied_itself}
use Rattle.std.proofs.lemmas.Slice.Eq.{bytes_eq-Decides}
use Rattle.dz_name.specs.Name.{wire_of}
use Rattle.dz_name.specs.Numbers.{two, four, number_of_four}
use Rattle.dz_name.specs.Order.{label_total}
use Rattle.dz_name.specs.Text.{items, with_label, labels_from, name_of_text}
use Rattle.dz_name.specs.Words.{Name, Octets}
use Rattle.dz_name.specs.declared.dns.TheConstants.{TYPE_NS}
use Rattle.dz_record.specs.Record.{Record}
use Rattle.dz_zone.specs.Version.{Zone, zone_of}
use Rattle.dz_job.specs.Job.{refresh_in}
use Rattle.dz_gen.specs.Texts.{digits, named, numbered}
use Rattle.dz_gen.specs.Records.{hourly, soa, address, digest, www, is_strict}
use Rattle.dz_gen.specs.Outcomes.{first_version, second_version}
use Rattle.dz_gen.proofs.SpelledLemmas.{IsFour, four_digits, zone_is, www_is, mail_is}
use Rattle.dz_gen.proofs.ZoneLemmas as explicit

-- ---- the SOA of a version's records, in their order
module _ (m : Octets) (same : bytes_eq m m ≡ true) (tie : slice_cmp nat_cmp m m ≡ Equal)
    (host other name digest again : Octets) where
  abbrev apex : Name
  apex = explicit.apex m same tie host other name digest again 0

  abbrev w : Record
  w = hourly (codes "www" ∷ apex) 1 host

  abbrev e : Record
  e = hourly (codes "mail" ∷ apex) 1 other

  -- an SOA after a record of another kind
  found : (serial : ℕ) (rs : List Record) → refresh_in
      (Some (record { apex = apex; records = hourly apex 2 name ∷ soa apex serial ∷ rs })) ≡ 100
  unfolding name_of_text items labels_from with_label wire_of four number_of_four
  found serial rs = rw same refl

  -- serial 1 and 2, without and with digests
  plain_one : refresh_in (Some (zone_of apex (explicit.plain_one m same tie host other name digest again 0))) ≡ 100
  plain_one = ap (λ (z : Zone). refresh_in (Some z))
      (explicit.version_plain_one m same tie host other name digest again 0) ∙ found 1 (w ∷ [])

  strict_one : refresh_in (Some (zone_of apex (explicit.strict_one m same tie host other name digest again 0))) ≡ 100
  strict_one = ap (λ (z : Zone). refresh_in (Some z))
      (explicit.version_strict_one m same tie host other name digest again 0)
      ∙ found 1 (hourly apex 63 digest ∷ w ∷ [])

  plain_two : refresh_in (Some (zone_of apex (explicit.plain_two m same tie host other name digest again 0))) ≡ 100
  plain_two = ap (λ (z : Zone). refresh_in (Some z))
      (explicit.version_plain_two m same tie host other name digest again 0) ∙ found 2 (e ∷ w ∷ [])

  strict_two : refresh_in (Some (zone_of apex (explicit.strict_two m same tie host other name digest again 0))) ≡ 100
  strict_two = ap (λ (z : Zone). refresh_in (Some z))
      (explicit.version_strict_two m same tie host other name digest again 0)
      ∙ found 2 (hourly apex 63 again ∷ e ∷ w ∷ [])

-- ---- zone k's versions
abbrev one_of : ℕ → Name → Name → List Record
one_of k apex w = soa apex 1 ∷ hourly apex TYPE_NS (wire_of (named (codes "ns.invalid."))) ∷ address w 0 k ∷ []

abbrev two_of : ℕ → Name → Name → Name → List Record
two_of k apex w e = soa apex 2 ∷ hourly apex TYPE_NS
    (wire_of (named (codes "ns.invalid."))) ∷ address w 0 k ∷ address e 1 k ∷ []

abbrev if_so : Bool → Record → List Record
if_so b r = if b then r ∷ [] else []

abbrev version_one : ℕ → Name → Name → Bool → Zone
version_one k apex w b = zone_of apex (one_of k apex w ++ if_so b (digest apex 1 (one_of k apex w)))

abbrev version_two : ℕ → Name → Name → Name → Bool → Zone
version_two k apex w e b = zone_of apex (two_of k apex w e ++ if_so b (digest apex 2 (two_of k apex w e)))

module _ (k : ℕ) (f : IsFour (digits k)) where
  abbrev m : Octets
  m = f.a ∷ f.b ∷ f.c ∷ f.d ∷ []

  abbrev apex_k : Name
  apex_k = (122 ∷ m) ∷ codes "test" ∷ []

  abbrev w_k : Name
  w_k = codes "www" ∷ apex_k

  abbrev e_k : Name
  e_k = codes "mail" ∷ apex_k

  abbrev server_k : Octets
  server_k = wire_of (named (codes "ns.invalid."))

  abbrev digest_one : Octets
  digest_one = (digest apex_k 1 (one_of k apex_k w_k)).rdata

  abbrev digest_two : Octets
  digest_two = (digest apex_k 2 (two_of k apex_k w_k e_k)).rdata

  same : bytes_eq m m ≡ true
  same = (bytes_eq-Decides m m).1 refl

  tie : slice_cmp nat_cmp m m ≡ Equal
  tie = tied_itself label_total m

  -- zone k's, by the digits of its number
  spelled_one : (b : Bool) → refresh_in (Some (version_one k apex_k w_k b)) ≡ 100
  spelled_one false = plain_one m same tie (10 ∷ 0 ∷ two k) (10 ∷ 1 ∷ two k) server_k digest_one digest_two
  spelled_one true = strict_one m same tie (10 ∷ 0 ∷ two k) (10 ∷ 1 ∷ two k) server_k digest_one digest_two

  spelled_two : (b : Bool) → refresh_in (Some (version_two k apex_k w_k e_k b)) ≡ 100
  spelled_two false = plain_two m same tie (10 ∷ 0 ∷ two k) (10 ∷ 1 ∷ two k) server_k digest_one digest_two
  spelled_two true = strict_two m same tie (10 ∷ 0 ∷ two k) (10 ∷ 1 ∷ two k) server_k digest_one digest_two

  refresh_one : refresh_in (Some (first_version k)) ≡ 100
  refresh_one =
      ap (λ x. refresh_in (Some (version_one k x (www k) (is_strict k)))) (zone_is k f)
      ∙ ap (λ x. refresh_in (Some (version_one k apex_k x (is_strict k)))) (www_is k f)
      ∙ spelled_one (is_strict k)

  refresh_two : refresh_in (Some (second_version k)) ≡ 100
  refresh_two =
      ap (λ x. refresh_in (Some (version_two k x (www k) (named (numbered (codes "mail.z") k (codes ".test.")))
      (is_strict k)))) (zone_is k f)
      ∙ ap (λ x. refresh_in (Some (version_two k apex_k x (named (numbered (codes "mail.z") k (codes ".test.")))
      (is_strict k)))) (www_is k f)
      ∙ ap (λ x. refresh_in (Some (version_two k apex_k w_k x (is_strict k)))) (mail_is k f)
      ∙ spelled_two (is_strict k)

pub first_refresh : (k : ℕ) → 0 < k → k ≤ 1000 → refresh_in (Some (first_version k)) ≡ 100
first_refresh k some few = refresh_one k (four_digits k some few)

pub second_refresh : (k : ℕ) → 0 < k → k ≤ 1000 → refresh_in (Some (second_version k)) ≡ 100
second_refresh k some few = refresh_two k (four_digits k some few)
