-- The records of a catalog that is made can be sent.
use Rattle.std.proofs.Common.{◌≡◌, ℕ, Bool, true, false, List, [], ◌∷◌, ◌++◌, length, refl, subst, arith, is_gt, Some}
use Rattle.std.proofs.Common.{None, Option, inl, inr}
use Rattle.std.specs.Prelude.{filter, nat_le, if◌then◌else◌}
use Rattle.std.specs.List.{AllByRecursion, list_all, flat_map}
use Rattle.std.specs.Option.{ForSome}
use Rattle.std.proofs.lemmas.Bool.{cases_Bool, and_parts}
use Rattle.std.proofs.lemmas.Bool.Decides.{nat_tests}
use Rattle.dz_name.specs.Name.{IsName, IsLabel}
use Rattle.dz_name.specs.Words.{Name, Octets}
use Rattle.dz_member.specs.declared.listing.Node.{Node}
use Rattle.dz_message.specs.Frame.{stream}
use Rattle.dz_message.specs.Piece.{FitsAlone, written}
use Rattle.dz_message.proofs.PieceLemmas.{record_size}
use Rattle.dz_record.specs.Fields.{fields_of}
use Rattle.dz_record.specs.Record.{Record, IsRecord, record_order}
use Rattle.dz_record.specs.Records.{in_order, insertion}
use Rattle.dz_zone.specs.Version.{Zone, zone_of}
use Rattle.dz_outward.specs.Stream.{fits_alone, messages_of}
use Rattle.dz_catalog.specs.Member.{zones_of, coo_name, group_name}
use Rattle.dz_zonemd.specs.Digested.{digested}
use Rattle.dz_producer.specs.Faults.{is_long}
use Rattle.dz_producer.specs.Laws.{IsNode}
use Rattle.dz_producer.specs.Records.{uncached, soa, digest, owner_of, coo_records, group_records, node_records}
use Rattle.dz_producer.specs.Records.{plain_records, all_records}
use Rattle.dz_producer.proofs.ListingLemmas.{NoFault}
use Rattle.dz_producer.proofs.MakingLemmas.{above_room, zones_label, coo_label, group_label, soa_is, pointer_is}
use Rattle.dz_producer.proofs.MakingLemmas.{digest_is}
use Rattle.dz_producer.proofs.PairLemmas.{each_differs}
use Rattle.dz_producer.proofs.RdataLemmas.{rest_rdata}
use Rattle.dz_producer.proofs.RecordLemmas.{all_append}
use Rattle.dz_producer.proofs.ValidLemmas.{Fitting, distinct_all}

-- ---- what holds of each
pub all_parts : {X : Type 0} (P : X → Type 0) (xs ys : List X) → AllByRecursion P (xs ++ ys)
    → AllByRecursion P xs × AllByRecursion P ys
all_parts P [] ys h = (tt, h)
all_parts P (x ∷ xs) ys h = let rest = all_parts P xs ys h.1 in ((h.0, rest.0), rest.1)

pub all_both : {X : Type 0} (P Q : X → Type 0) (xs : List X) → AllByRecursion P xs → AllByRecursion Q xs
    → AllByRecursion (λ x. P x × Q x) xs
all_both P Q [] h k = tt
all_both P Q (x ∷ xs) h k = ((h.0, k.0), all_both P Q xs h.1 k.1)

-- of some elements only
pub all_gone : {X : Type 0} (P : Record → Type 0) (f : X → List Record) (p : X → Bool) (xs : List X)
    → AllByRecursion P (flat_map f xs) → AllByRecursion P (flat_map f (filter p xs))
all_gone P f p [] h = tt
all_gone P f p (x ∷ xs) h =
    let parts = all_parts P (f x) (flat_map f xs) h in
    elim (cases_Bool (p x)) [
      | inl t ↦ rw t (all_append P (f x) (flat_map f (filter p xs)) parts.0 (all_gone P f p xs parts.1))
      | inr g ↦ rw g (all_gone P f p xs parts.1)
    ]

-- of records in order
all_inserted : (P : Record → Type 0) (r : Record) (rs : List Record) → AllByRecursion P (insertion r rs)
    → P r × AllByRecursion P rs
unfolding insertion
all_inserted P r [] h = (h.0, tt)
all_inserted P r (s ∷ ss) h =
    (elim (is_gt (record_order r s)) as
    (λ b. AllByRecursion P (if b then s ∷ insertion r ss else r ∷ s ∷ ss) → P r × AllByRecursion P (s ∷ ss)) [
      | true ↦ λ k. let rest = all_inserted P r ss k.1 in (rest.0, (k.0, rest.1))
      | false ↦ λ k. (k.0, k.1)
    ]) h

pub all_in_order : (P : Record → Type 0) (rs : List Record) → AllByRecursion P (in_order rs) → AllByRecursion P rs
unfolding in_order
all_in_order P [] h = tt
all_in_order P (r ∷ rs) h = let parts = all_inserted P r (in_order rs) h in (parts.0, all_in_order P rs parts.1)

-- ---- each record fits into a message
all_alone : (rs : List Record) → list_all fits_alone rs ≡ true → AllByRecursion FitsAlone rs
all_alone [] h = tt
all_alone (r ∷ rs) h =
    let parts = and_parts (fits_alone r) (list_all fits_alone rs) h in
    ((let t = parts.0 in grind (arith, nat_tests)), all_alone rs parts.1)

pub all_fit : (apex : Name) (serial : ℕ) (nodes : List Node) → NoFault nodes → Fitting apex serial nodes
    → AllByRecursion FitsAlone (all_records apex serial nodes)
all_fit apex serial nodes ok fits =
    let zone : Zone = zone_of apex (all_records apex serial nodes) in
    let each =
    and_parts (list_all fits_alone zone.records)
    (nat_le (length (stream (written (messages_of 0 zone)))) 67108864) fits.fit in
    all_in_order FitsAlone (all_records apex serial nodes)
    (subst (λ (rs : List Record). AllByRecursion FitsAlone (in_order rs)) (distinct_all apex serial nodes ok)
    (all_alone zone.records each.0))

-- and its owner isn't too long
abbrev pub Roomy : Record → Type 0
Roomy r = (is_long r.owner ≡ false) × FitsAlone r

pub flat_roomy : (apex : Name) (serial : ℕ) (nodes : List Node) → NoFault nodes → Fitting apex serial nodes
    → AllByRecursion Roomy (flat_map (node_records apex) nodes)
flat_roomy apex serial nodes ok fits =
    let flat : List Record = flat_map (node_records apex) nodes in
    let names = each_differs (λ r. is_long r.owner) (plain_records apex serial nodes) fits.names in
    let each = all_fit apex serial nodes ok fits in
    all_both (λ r. is_long r.owner ≡ false) FitsAlone flat names.1.1.1
    (all_parts FitsAlone flat (digest apex serial (plain_records apex serial nodes) ∷ []) each.1.1.1).0

-- ---- records that a zone may hold
child_name : (label : List ℕ) (name : List (List ℕ)) → IsLabel label → IsName name → is_long (label ∷ name) ≡ false
    → IsName (label ∷ name)
child_name label name is above room = record { each = (is, above.each); short = grind (arith, nat_tests) }

pub soa_held : (apex : Name) (serial : ℕ) → IsName apex → IsRecord (soa apex serial)
soa_held apex serial name =
    record { owner = name; number = omega arith; kind = refl; ttl = omega arith; rdata = soa_is serial }

pub digest_held : (apex : Name) (serial : ℕ) (records : List Record) → IsName apex
    → IsRecord (digest apex serial records)
digest_held apex serial records name =
    record {
      owner = name;
      number = omega arith;
      kind = refl;
      ttl = omega arith;
      rdata = digest_is serial
          (digested apex records);
    }

coo_held : (owner : Name) (coo : Option Name) → IsName owner → ForSome coo IsName
    → AllByRecursion Roomy (coo_records owner coo) → AllByRecursion IsRecord (coo_records owner coo)
coo_held owner None name is room = tt
coo_held owner (Some catalog) name is room =
    let own : IsName (coo_name owner) = child_name (99 ∷ 111 ∷ 111 ∷ []) owner coo_label name room.0.0 in (
      record {
        owner = own;
        number = omega arith;
        kind = refl;
        ttl = omega arith;
        rdata = pointer_is catalog (is catalog refl);
      },
      tt,
    )

text_held : (owner : Name) (group : Octets) → IsName owner → Roomy (uncached (group_name owner) 16 group)
    → IsRecord (uncached (group_name owner) 16 group)
unfolding fields_of
text_held owner group name room =
    let size = record_size (uncached (group_name owner) 16 group) in
    let fits = room.1 in
    let own : IsName (group_name owner) =
    child_name (103 ∷ 114 ∷ 111 ∷ 117 ∷ 112 ∷ []) owner group_label name room.0 in
    record {
      owner = own;
      number = omega arith;
      kind = refl;
      ttl = omega arith;
      rdata = rest_rdata 16 group refl (omega arith);
    }

groups_held : (owner : Name) (groups : List Octets) → IsName owner → AllByRecursion Roomy (group_records owner groups)
    → AllByRecursion IsRecord (group_records owner groups)
groups_held owner [] name room = tt
groups_held owner (group ∷ groups) name room =
    (text_held owner group name room.0, groups_held owner groups name room.1)

node_held : (apex : Name) (node : Node) → IsName apex → IsNode node → AllByRecursion Roomy (node_records apex node)
    → AllByRecursion IsRecord (node_records apex node)
unfolding node_records
node_held apex node name is room =
    let owner : List (List ℕ) = owner_of apex node in
    let zones : IsName (zones_of apex) =
    child_name (122 ∷ 111 ∷ 110 ∷ 101 ∷ 115 ∷ []) apex zones_label name
    (above_room node.label (zones_of apex) room.0.0) in
    let own : IsName owner = child_name node.label (zones_of apex) is.label zones room.0.0 in
    let parts = all_parts Roomy (coo_records owner node.coo) (group_records owner node.groups) room.1 in (
      record {
        owner = own;
        number = omega arith;
        kind = refl;
        ttl = omega arith;
        rdata = pointer_is node.zone is.zone;
      },
      all_append IsRecord (coo_records owner node.coo) (group_records owner node.groups)
          (coo_held owner node.coo own is.coo parts.0) (groups_held owner node.groups own parts.1),
    )

pub nodes_held : (apex : Name) (nodes : List Node) → IsName apex → AllByRecursion IsNode nodes
    → AllByRecursion Roomy (flat_map (node_records apex) nodes)
    → AllByRecursion IsRecord (flat_map (node_records apex) nodes)
nodes_held apex [] name are room = tt
nodes_held apex (n ∷ ns) name are room =
    let parts = all_parts Roomy (node_records apex n) (flat_map (node_records apex) ns) room in
    all_append IsRecord (node_records apex n) (flat_map (node_records apex) ns) (node_held apex n name are.0 parts.0)
    (nodes_held apex ns name are.1 parts.1)
