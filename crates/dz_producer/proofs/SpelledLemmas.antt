-- The records of a difference, as they are put together.
use Rattle.std.proofs.Common.{◌≡◌, ℕ, zero, suc, Bool, false, ◌||◌, List, [], ◌∷◌, ◌++◌, refl, sym, ◌∙◌, ap, subst}
use Rattle.std.proofs.Common.{arith, append_assoc, Some, None, inl, inr}
use Rattle.std.specs.Prelude.{filter, ◌==◌}
use Rattle.std.specs.Borrow.{Bor}
use Rattle.std.specs.List.{All, AllByRecursion, list_any, flat_map, find}
use Rattle.std.proofs.lemmas.Bool.{cases_Bool, or_parts}
use Rattle.std.proofs.lemmas.Grind.{flat_map-append}
use Rattle.std.proofs.lemmas.List.Folds.{list_any-append}
use Rattle.dz_name.specs.Words.{Name, Octets}
use Rattle.dz_record.specs.Record.{Record}
use Rattle.dz_record.specs.Records.{distinct, in_order, insertion}
use Rattle.dz_zone.specs.Valid.{at_apex}
use Rattle.std.proofs.lemmas.List.Elements.{filter-append}
use Rattle.dz_message.specs.Piece.{FitsAlone}
use Rattle.dz_zone.specs.Version.{Zone, apex_soa}
use Rattle.dz_xfr.specs.Apex.{held_serial}
use Rattle.dz_member.specs.declared.listing.Node.{Node}
use Rattle.dz_catalog.specs.Broken.{version_name}
use Rattle.dz_producer.specs.Produced.{produced}
use Rattle.dz_producer.specs.Amended.{IsCatalog, listed, is_dropped, gone, kept, nodes_after, digest_of, difference}
use Rattle.dz_producer.specs.Faults.{has_bad_group, is_long, produce_fault}
use Rattle.dz_producer.specs.Records.{soa, digest, node_records, plain_records, all_records}
use Rattle.dz_producer.specs.inner.Changes.{half_of, spelled}
use Rattle.dz_producer.specs.inner.Nodes.{values}
use Rattle.dz_producer.proofs.ListingLemmas.{no_fault}
use Rattle.dz_producer.proofs.NodeLemmas.{any_nodes, flat_values}
use Rattle.dz_producer.proofs.CanonicalLemmas.{Respects, canonical_filter, same_parts}
use Rattle.dz_producer.proofs.CatalogLemmas.{find_kept, zone_soa}
use Rattle.dz_producer.proofs.RecordLemmas.{all_append, all_node, all_nodes, none_kept}
use Rattle.dz_producer.proofs.SentLemmas.{all_parts, all_gone, all_fit}
use Rattle.dz_producer.proofs.ValidLemmas.{fitting}

pub all_from : {X : Type 0} (P : X → Type 0) (xs : List X) → AllByRecursion P xs → All P xs
all_from P [] h k d lt = absurd (omega arith)
all_from P (x ∷ xs) h zero d lt = h.0
all_from P (x ∷ xs) h (suc k) d lt = all_from P xs h.1 k d (omega arith)

-- the records are those of the difference
pub spelled_is : (old : Zone) (serial : ℕ) (dropped : List Octets) (added : List Node)
    → spelled old serial (nodes_after old dropped added) (gone old dropped) added ≡ difference old serial dropped added
unfolding difference
spelled_is old serial dropped added = refl

-- ---- each fits into a message
module _ (old : Zone) (serial : ℕ) (dropped : List Octets) (added : List Node) (catalog : IsCatalog old)
    (none : produce_fault old.apex serial (nodes_after old dropped added) ≡ None) where
  abbrev old_digest : Record
  old_digest = digest_of old.apex (held_serial old) (listed old)

  abbrev new_digest : Record
  new_digest = digest_of old.apex serial (nodes_after old dropped added)

  old_fit : AllByRecursion FitsAlone (all_records old.apex (held_serial old) (listed old))
  old_fit = all_fit old.apex (held_serial old) (listed old) (no_fault old.apex (held_serial old)
      (listed old) catalog.faultless) (fitting old.apex (held_serial old) (listed old) catalog.faultless)

  new_fit : AllByRecursion FitsAlone (all_records old.apex serial (nodes_after old dropped added))
  new_fit = all_fit old.apex serial (nodes_after old dropped added) (no_fault old.apex serial
      (nodes_after old dropped added) none) (fitting old.apex serial (nodes_after old dropped added) none)

  gone_fit : AllByRecursion FitsAlone (flat_map (node_records old.apex) (gone old dropped) ++ old_digest ∷ [])
  gone_fit =
      let parts =
      all_parts FitsAlone (flat_map (node_records old.apex) (listed old)) (old_digest ∷ []) old_fit.1.1.1 in
      all_append FitsAlone (flat_map (node_records old.apex) (gone old dropped)) (old_digest ∷ [])
      (all_gone FitsAlone (node_records old.apex) (is_dropped dropped) (listed old) parts.0) parts.1

  added_fit : AllByRecursion FitsAlone (flat_map (node_records old.apex) added ++ new_digest ∷ [])
  added_fit =
      let parts = all_parts FitsAlone (flat_map (node_records old.apex) (nodes_after old dropped added))
      (new_digest ∷ []) new_fit.1.1.1 in
      let halves = subst (AllByRecursion FitsAlone)
      (flat_map-append (node_records old.apex) (kept old dropped) added) parts.0 in
      all_append FitsAlone (flat_map (node_records old.apex) added) (new_digest ∷ [])
      (all_parts FitsAlone (flat_map (node_records old.apex) (kept old dropped))
      (flat_map (node_records old.apex) added) halves).1 parts.1

  pub spelled_fit : All FitsAlone (spelled old serial (nodes_after old dropped added) (gone old dropped) added)
  spelled_fit =
      let behind : AllByRecursion FitsAlone
      ((flat_map (node_records old.apex) added ++ new_digest ∷ []) ++ soa old.apex serial ∷ []) =
      all_append FitsAlone (flat_map (node_records old.apex) added ++ new_digest ∷ [])
      (soa old.apex serial ∷ []) added_fit (new_fit.0, tt) in
      all_from FitsAlone (spelled old serial (nodes_after old dropped added) (gone old dropped) added) (
        new_fit.0,
        (
          old_fit.0,
          all_append FitsAlone (flat_map (node_records old.apex) (gone old dropped)
              ++ old_digest ∷ []) (soa old.apex serial ∷ ((flat_map (node_records old.apex) added ++ new_digest ∷ [])
              ++ soa old.apex serial ∷ [])) gone_fit (new_fit.0, behind),
        ),
      )

-- ---- nodes that have no fault
any_filter : {X : Type 0} (p q : X → Bool) (xs : List X) → list_any p xs ≡ false → list_any p (filter q xs) ≡ false
any_filter p q [] h = refl
any_filter p q (x ∷ xs) h =
    let parts = or_parts (p x) (list_any p xs) h in
    elim (cases_Bool (q x)) [
      | inl t ↦ rw (t, parts.0) (any_filter p q xs parts.1)
      | inr f ↦ rw f (any_filter p q xs parts.1)
    ]

pub record Sound (apex : Name) (nodes : List Node) : Type 0 where
  pub groups : list_any has_bad_group nodes ≡ false
  pub short : list_any (λ n. list_any (λ r. is_long r.owner) (node_records apex n)) nodes ≡ false

any_flat : (apex : Name) (ns : List Node) → list_any (λ r. is_long r.owner) (flat_map (node_records apex) ns)
    ≡ list_any (λ n. list_any (λ r. is_long r.owner) (node_records apex n)) ns
any_flat apex [] = refl
any_flat apex (n ∷ ns) =
    list_any-append (λ r. is_long r.owner) (node_records apex n) (flat_map (node_records apex) ns)
    ∙ ap (λ b. list_any (λ r. is_long r.owner) (node_records apex n) || b) (any_flat apex ns)

pub sound : (apex : Name) (serial : ℕ) (nodes : List Node) → produce_fault apex serial nodes ≡ None → Sound apex nodes
sound apex serial nodes none =
    let ok = no_fault apex serial nodes none in
    let names = (fitting apex serial nodes none).names in
    let flat : Bool = list_any (λ r. is_long r.owner) (flat_map (node_records apex) nodes) in
    let rest =
    or_parts (is_long (version_name apex)) flat (or_parts (is_long apex) (is_long (version_name apex) || flat)
    (or_parts (is_long apex) (is_long apex || (is_long (version_name apex) || flat)) names).1).1 in
    record { groups = ok.groups; short = sym (any_flat apex nodes) ∙ rest.1 }

pub sound_gone : (apex : Name) (p : Node → Bool) (nodes : List Node) → Sound apex nodes → Sound apex (filter p nodes)
sound_gone apex p nodes ok = record {
  groups = any_filter has_bad_group p nodes ok.groups;
  short = any_filter (λ n. list_any (λ r. is_long r.owner) (node_records apex n)) p nodes ok.short;
}

pub sound_added : (apex : Name) (nodes more : List Node) → Sound apex (nodes ++ more) → Sound apex more
sound_added apex nodes more ok =
    record {
      groups = (or_parts (list_any has_bad_group nodes) (list_any has_bad_group more)
          (sym (list_any-append has_bad_group nodes more) ∙ ok.groups)).1;
      short = (or_parts (list_any (λ n. list_any (λ r. is_long r.owner) (node_records apex n)) nodes)
          (list_any (λ n. list_any (λ r. is_long r.owner) (node_records apex n)) more) (sym
          (list_any-append (λ n. list_any (λ r. is_long r.owner) (node_records apex n)) nodes more) ∙ ok.short)).1;
    }

-- the same of references
pub groups_of_values : (apex : Name) (bs : List (Bor Node)) (nodes : List Node) → values bs ≡ nodes → Sound apex nodes
    → list_any (λ b. has_bad_group b.now) bs ≡ false
groups_of_values apex bs nodes are ok = any_nodes has_bad_group bs ∙ ap (list_any has_bad_group) are ∙ ok.groups

pub short_of_values : (apex : Name) (bs : List (Bor Node)) (nodes : List Node) → values bs ≡ nodes → Sound apex nodes
    → list_any (λ b. list_any (λ r. is_long r.owner) (node_records apex b.now)) bs ≡ false
short_of_values apex bs nodes are ok =
    any_nodes (λ n. list_any (λ r. is_long r.owner) (node_records apex n)) bs
    ∙ ap (list_any (λ n. list_any (λ r. is_long r.owner) (node_records apex n))) are ∙ ok.short

-- ---- the SOA and the digest of a catalog
module _ (apex : Name) (serial : ℕ) (nodes : List Node) where
  abbrev zonemd : Record
  zonemd = digest apex serial (plain_records apex serial nodes)

  kind_respects : Respects (λ r. r.kind == 63)
  kind_respects r s t = let same = same_parts r s t in rw same.1.0 refl

  one_zonemd : filter (λ r. r.kind == 63) (all_records apex serial nodes) ≡ zonemd ∷ []
  one_zonemd =
      let p : Record → Bool = λ r. r.kind == 63 in
      let flat : List Record = flat_map (node_records apex) nodes in
      let none : filter p flat ≡ [] = none_kept p flat (all_nodes (λ r. p r ≡ false) apex
      (λ node. all_node (λ r. p r ≡ false) apex node refl (λ c. refl) (λ g. refl)) nodes) in
      filter-append p flat (zonemd ∷ []) ∙ ap (λ (xs : List Record). xs ++ zonemd ∷ []) none

  zone_zonemd : filter (λ r. r.kind == 63) (produced apex serial nodes).records ≡ zonemd ∷ []
  unfolding distinct in_order insertion
  zone_zonemd = canonical_filter (λ r. r.kind == 63) (all_records apex serial nodes) kind_respects
      ∙ ap (λ (xs : List Record). in_order (distinct xs)) one_zonemd

  pub soa_found : (zone : Zone) → zone ≡ produced apex serial nodes → apex_soa zone ≡ Some (soa apex serial)
  soa_found zone is = ap (λ (z : Zone). apex_soa z) is
      ∙ find_kept (at_apex 6 apex) (produced apex serial nodes).records (soa apex serial) (zone_soa apex serial nodes)

  pub digest_found : (zone : Zone) → zone ≡ produced apex serial nodes
      → find (λ r. r.kind == 63) zone.records ≡ Some zonemd
  digest_found zone is = ap (λ (z : Zone). find (λ r. r.kind == 63) z.records) is
      ∙ find_kept (λ r. r.kind == 63) (produced apex serial nodes).records zonemd zone_zonemd

-- ---- what is put after other records
pub soa_put : (apex : Name) (serial : ℕ) (nodes : List Node) (catalog : Zone) (soa_is record_is : Record)
    (before after : List Record) → catalog ≡ produced apex serial nodes → Some soa_is ≡ apex_soa catalog
    → record_is ≡ soa_is
    → after ≡ before ++ record_is ∷ [] → after ≡ before ++ soa apex serial ∷ []
soa_put apex serial nodes catalog soa_is record_is before after is found same pushed =
    let e : Some soa_is ≡ Some (soa apex serial) = found ∙ soa_found apex serial nodes catalog is in
    let r : soa_is ≡ soa apex serial = cc in
    pushed ∙ ap (λ (x : Record). before ++ x ∷ []) (same ∙ r)

pub half_put : (apex : Name) (serial : ℕ) (all : List Node) (catalog : Zone) (at : Name) (nodes : List (Bor Node))
    (last record_is : Record) (before middle after : List Record) → catalog ≡ produced apex serial all
    → at ≡ catalog.apex
    → middle ≡ before ++ flat_map (λ b. node_records at b.now) nodes → last ≡ digest_of apex serial all
    → record_is ≡ last → after ≡ middle ++ record_is ∷ [] → after ≡ before ++ half_of apex serial all (values nodes)
half_put apex serial all catalog at nodes last record_is before middle after is at_is put digest_is same pushed =
    let name : at ≡ apex = at_is ∙ ap (λ (z : Zone). z.apex) is in
    let flat : flat_map (λ b. node_records at b.now) nodes ≡ flat_map (node_records apex) (values nodes) =
    flat_values (node_records at) nodes ∙ ap (λ (n : Name). flat_map (node_records n) (values nodes)) name in
    pushed
    ∙ ap (λ (r : Record). middle ++ r ∷ []) (same ∙ digest_is)
    ∙ ap (λ (m : List Record). m ++ digest_of apex serial all ∷ []) (put ∙ ap (λ (f : List Record). before ++ f) flat)
    ∙ (append_assoc before (flat_map (node_records apex) (values nodes)) (digest_of apex serial all ∷ []))

-- the records of a difference, one after another
pub spelled_put : (a b : Record) (h k r0 r1 r2 r3 r4 r5 r6 : List Record) → r0 ≡ [] → r1 ≡ r0 ++ a ∷ []
    → r2 ≡ r1 ++ b ∷ [] → r3 ≡ r2 ++ h → r4 ≡ r3 ++ a ∷ [] → r5 ≡ r4 ++ k → r6 ≡ r5 ++ a ∷ []
    → r6 ≡ a ∷ b ∷ (h ++ a ∷ (k ++ a ∷ []))
spelled_put a b h k r0 r1 r2 r3 r4 r5 r6 e0 e1 e2 e3 e4 e5 e6 =
    let s1 : r1 ≡ a ∷ [] = e1 ∙ ap (λ (r : List Record). r ++ a ∷ []) e0 in
    let s2 : r2 ≡ a ∷ b ∷ [] = e2 ∙ ap (λ (r : List Record). r ++ b ∷ []) s1 in
    let s3 : r3 ≡ a ∷ b ∷ h = e3 ∙ ap (λ (r : List Record). r ++ h) s2 in
    let s4 : r4 ≡ a ∷ b ∷ (h ++ a ∷ []) = e4 ∙ ap (λ (r : List Record). r ++ a ∷ []) s3 in
    let s5 : r5 ≡ a ∷ b ∷ ((h ++ a ∷ []) ++ k) = e5 ∙ ap (λ (r : List Record). r ++ k) s4 in
    let s6 : r6 ≡ a ∷ b ∷ (((h ++ a ∷ []) ++ k) ++ a ∷ []) = e6 ∙ ap (λ (r : List Record). r ++ a ∷ []) s5 in
    s6 ∙ ap (λ (r : List Record). a ∷ b ∷ r)
    (append_assoc (h ++ a ∷ []) k (a ∷ []) ∙ append_assoc h (a ∷ []) (k ++ a ∷ []))
