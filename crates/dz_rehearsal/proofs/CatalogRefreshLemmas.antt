-- The REFRESH of the catalog's versions is 100 seconds.
use Rattle.std.proofs.Common.{◌≡◌, ℕ, List, [], ◌∷◌, Bool, refl, sym, ◌∙◌, ap, subst, Some, ◌≤◌}
use Rattle.std.specs.Prelude.{codes, flat_map, filter, not, ◌&&◌}
use Rattle.std.specs.List.{AllByRecursion, find}
use Rattle.std.specs.Option.{option_map_or, option_and_then}
use Rattle.dz_name.specs.Name.{wire_of, is_within}
use Rattle.dz_name.specs.Numbers.{four, number_of_four}
use Rattle.dz_name.specs.Text.{items, with_label, labels_from, name_of_text}
use Rattle.dz_name.specs.Words.{Name}
use Rattle.dz_name.specs.declared.dns.TheConstants.{TYPE_NS}
use Rattle.dz_record.specs.Record.{Record, same_record, soa_of}
use Rattle.dz_record.specs.Records.{distinct, insertion, in_order}
use Rattle.dz_zone.specs.Version.{Zone, zone_of}
use Rattle.dz_xfr.specs.Apex.{is_apex_soa}
use Rattle.dz_job.specs.Job.{refresh_in}
use Rattle.dz_gen.specs.Texts.{named}
use Rattle.dz_gen.specs.Script.{numbers}
use Rattle.dz_gen.specs.Records.{hourly, soa, version_property, node, group, member}
use Rattle.dz_gen.specs.Outcomes.{catalog_version, changed_version}
use Rattle.dz_producer.proofs.CatalogLemmas.{find_kept}
use Rattle.dz_gen.proofs.ReadingLemmas.{zones}
use Rattle.dz_gen.proofs.SpelledLemmas.{four_digits, moved_is}
use Rattle.dz_gen.proofs.CanonicalLemmas.{Respects, canonical_filter, same_parts}
use Rattle.dz_gen.proofs.CatalogLemmas.{none_kept, all_filter, cat, IsBeside, catalog_is, below, no_more, first}
use Rattle.dz_gen.proofs.CatalogLemmas.{server, version_beside, server_beside, members_beside}
use Rattle.dz_gen.proofs.ChangedLemmas.{one_zone}

-- ---- the SOA of a version
soa_respects : Respects (is_apex_soa cat)
soa_respects r s t = let same = same_parts r s t in rw (same.0, same.1.0) refl

-- the SOA is the only one at the apex
soa_found : (serial : ℕ) (rest : List Record) → AllByRecursion IsBeside rest
    → find (is_apex_soa cat) (zone_of cat (soa cat serial ∷ rest)).records ≡ Some (soa cat serial)
unfolding distinct in_order insertion
soa_found serial rest beside =
    let one : filter (is_apex_soa cat) (soa cat serial ∷ rest) ≡ soa cat serial ∷ [] = ap (λ xs. soa cat serial ∷ xs)
    (none_kept (is_apex_soa cat) rest (no_more (soa cat serial) refl refl rest beside)) in
    find_kept (is_apex_soa cat) (zone_of cat (soa cat serial ∷ rest)).records (soa cat serial)
    (canonical_filter (is_apex_soa cat) (soa cat serial ∷ rest) soa_respects
    ∙ ap (λ (xs : List Record). in_order (distinct xs)) one)

one_refresh : option_map_or (λ x. x.refresh) (soa_of (soa cat 1)) 0 ≡ 100
unfolding name_of_text items labels_from with_label wire_of four number_of_four
one_refresh = refl

two_refresh : option_map_or (λ x. x.refresh) (soa_of (soa cat 2)) 0 ≡ 100
unfolding name_of_text items labels_from with_label wire_of four number_of_four
two_refresh = refl

-- the REFRESH of a version is that of its SOA
refresh_of : (zone : Zone) (r : Record) → zone.apex ≡ cat → find (is_apex_soa cat) zone.records ≡ Some r
    → refresh_in (Some zone) ≡ option_map_or (λ x. x.refresh) (soa_of r) 0
refresh_of zone r apex is =
    ap (λ a. option_map_or (λ x. x.refresh) (option_and_then soa_of (find (is_apex_soa a) zone.records)) 0) apex
    ∙ ap (λ o. option_map_or (λ x. x.refresh) (option_and_then soa_of o) 0) is

-- ---- the catalog with serial 1
-- the records of the catalog with serial 1
abbrev all_of : Name → ℕ → List Record
all_of c n =
    soa c 1 ∷ hourly c TYPE_NS (wire_of (named (codes "invalid."))) ∷ version_property ∷ flat_map member (numbers n)

rest_beside : (n : ℕ) → n ≤ 1000 → AllByRecursion IsBeside (server ∷ version_property ∷ flat_map member (numbers n))
rest_beside n few =
    (server_beside first server refl refl refl refl, (version_beside, members_beside (numbers n) (zones n few)))

pub catalog_refresh : (n : ℕ) → n ≤ 1000 → refresh_in (Some (catalog_version n)) ≡ 100
catalog_refresh n few =
    subst (λ c. refresh_in (Some (zone_of c (all_of c n))) ≡ 100) (sym catalog_is)
    (refresh_of (zone_of cat (all_of cat n)) first refl
    (soa_found 1 (server ∷ version_property ∷ flat_map member (numbers n)) (rest_beside n few)) ∙ one_refresh)

-- ---- with serial 2
-- the changed node is no SOA
moved_beside : IsBeside (node (codes "r") 1)
moved_beside =
    let g = four_digits 1 one_zone.some one_zone.few in
    record {
      soa = refl;
      cname = refl;
      dname = refl;
      zonemd = refl;
      within = ap (λ o. is_within o cat) (moved_is 1 g)
          ∙ below ((114 ∷ g.a ∷ g.b ∷ g.c ∷ g.d ∷ []) ∷ codes "zones" ∷ []);
    }

abbrev leaves : Name → Record → Bool
leaves c r = not (is_apex_soa c r) && (not (same_record (node (codes "m") 1) r) && not (same_record (group 1) r))

pub changed_refresh : (n : ℕ) → n ≤ 1000 → refresh_in (Some (changed_version n)) ≡ 100
changed_refresh n few =
    subst (λ c. refresh_in (Some (zone_of c (soa c 2 ∷ node (codes "r") 1 ∷ filter (leaves c) (all_of c n)))) ≡ 100)
    (sym catalog_is)
    (refresh_of (zone_of cat (soa cat 2 ∷ node (codes "r") 1 ∷ filter (leaves cat) (all_of cat n))) (soa cat 2) refl
    (soa_found 2 (node (codes "r") 1 ∷ filter (leaves cat) (all_of cat n)) (
      moved_beside,
      all_filter IsBeside (leaves cat) (server ∷ version_property ∷ flat_map member (numbers n))
          (rest_beside n few),
    ))
    ∙ two_refresh)
