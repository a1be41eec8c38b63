-- What a catalog lists is a matter of its PTR and TXT records alone, whatever their TTLs.
use Rattle.std.proofs.Common.{◌≡◌, ℕ, Bool, true, false, List, [], ◌∷◌, map, length, refl, sym, ◌∙◌, ap, inl, inr}
use Rattle.std.proofs.Common.{is_gt}
use Rattle.std.specs.Prelude.{filter, not, ◌==◌, ◌&&◌, ◌||◌, count_by, slice_get, Option, None, if◌then◌else◌}
use Rattle.std.specs.Option.{option_map, option_and_then}
use Rattle.std.specs.List.{filter_map, cons_option, list_any}
use Rattle.std.specs.List.Sorted.{ties}
use Rattle.std.proofs.lemmas.Bool.{cases_Bool, or_parts}
use Rattle.std.proofs.lemmas.List.{length-map}
use Rattle.std.proofs.lemmas.List.Sums.{length-filter}
use Rattle.dz_name.specs.Name.{same_name, same_label, first_label}
use Rattle.dz_name.specs.Words.{Name, Octets}
use Rattle.dz_record.specs.Record.{Record, same_record, record_order, target_of}
use Rattle.dz_record.specs.Records.{distinct, insertion, in_order}
use Rattle.dz_zone.specs.Valid.{some_two, both_are}
use Rattle.dz_zone.proofs.Ordered.{puts, alike, ascends_puts, puts_keep}
use Rattle.dz_zone.proofs.Pairs.{ascends_filter, any_filter, two_filter}
use Rattle.dz_zone.proofs.RecordLemmas.{before, before_ranks, in_order_puts}
use Rattle.dz_runs.specs.Runs.{of_type, records_of}
use Rattle.dz_member.specs.declared.listing.Node.{Node}
use Rattle.dz_catalog.specs.Broken.{is_version, twins, version_2, broken_records}
use Rattle.dz_catalog.specs.Listing.{listing_of}
use Rattle.dz_catalog.specs.Member.{is_node, is_coo, is_member, node_of, nodes_of, coo_of, groups_of, coo_name}
use Rattle.dz_catalog.specs.Member.{group_name}
use Rattle.dz_producer.proofs.ListingLemmas.{two_filters}
use Rattle.dz_producer.proofs.OwnerLemmas.{no_pointer_first, no_pointer_second}
use Rattle.dz_gen.proofs.CanonicalLemmas.{Respects, same_parts, canonical_filter}

-- ---- records of other types tell nothing
abbrev pub tells : Record → Bool
tells r = r.kind == 12 || r.kind == 16

-- a filter keeps the same after another one that drops nothing of it
inner : {X : Type 0} (p q : X → Bool) → ((x : X) → q x ≡ false → p x ≡ false) → (xs : List X) → filter p (filter q xs)
    ≡ filter p xs
inner p q none [] = refl
inner p q none (x ∷ xs) = elim (cases_Bool (q x)) [
  | inr f ↦ rw (f, none x f) (inner p q none xs)
  | inl t ↦ elim (cases_Bool (p x)) [
    | inl s ↦ rw (t, s) (ap (λ ys. x ∷ ys) (inner p q none xs))
    | inr g ↦ rw (t, g) (inner p q none xs)
  ]
]

as_many : {X : Type 0} (p q : X → Bool) → ((x : X) → q x ≡ false → p x ≡ false) → (xs : List X)
    → count_by p (filter q xs) ≡ count_by p xs
as_many p q none xs = sym (length-filter p (filter q xs))
    ∙ (ap (λ ys. length ys) (inner p q none xs) ∙ length-filter p xs)

-- a record that tells nothing is no PTR record, no TXT record, and none of what is looked for among these
no_pointer : (r : Record) → tells r ≡ false → (r.kind == 12) ≡ false
no_pointer r f = (or_parts (r.kind == 12) (r.kind == 16) f).0

no_text : (r : Record) → tells r ≡ false → (r.kind == 16) ≡ false
no_text r f = (or_parts (r.kind == 12) (r.kind == 16) f).1

and_no : (a : Bool) → (a && false) ≡ false
and_no true = refl
and_no false = refl

first_twin : (test : Name → Bool) (r s : Record) → tells r ≡ false → twins test r s ≡ false
unfolding twins
first_twin test r s f = rw (no_pointer_first r s (no_pointer r f)) (and_no (test r.owner))

second_twin : (test : Name → Bool) (r s : Record) → tells s ≡ false → twins test r s ≡ false
unfolding twins
second_twin test r s f = rw (no_pointer_second r s (no_pointer s f)) (and_no (test r.owner))

no_version : (apex : Name) (r : Record) → tells r ≡ false → is_version apex r ≡ false
no_version apex r f = rw (no_text r f) refl

no_other : (apex : Name) (r : Record) → tells r ≡ false → (is_version apex r && not (same_label r.rdata version_2))
    ≡ false
no_other apex r f = rw (no_text r f) refl

no_member : (apex : Name) (r : Record) → tells r ≡ false → is_member apex r ≡ false
no_member apex r f = rw (no_pointer r f) refl

-- the reasons for which a catalog is broken (RFC 9432 section 3)
broken_tells : (apex : Name) (rs : List Record) → broken_records apex (filter tells rs) ≡ broken_records apex rs
unfolding broken_records
broken_tells apex rs =
    rw (
      any_filter (is_version apex) tells (no_version apex) rs,
      as_many (is_version apex) tells (no_version apex) rs,
      any_filter (λ r. is_version apex r && not (same_label r.rdata version_2)) tells (no_other apex) rs,
      two_filter (twins (is_node apex)) tells (first_twin (is_node apex)) (second_twin (is_node apex)) rs,
      two_filter (twins (is_coo apex)) tells (first_twin (is_coo apex)) (second_twin (is_coo apex)) rs,
      as_many (is_member apex) tells (no_member apex) rs,
    ) refl

in_order_filter : (p : Record → Bool) (rs : List Record) → filter p (in_order rs) ≡ in_order (filter p rs)
in_order_filter p rs =
    ap (filter p) (in_order_puts rs)
    ∙ (alike before before_ranks (filter p (puts before rs)) (puts before (filter p rs))
    (ascends_filter before p (puts before rs) (ascends_puts before before_ranks rs))
    (ascends_puts before before_ranks (filter p rs))
    (λ z.
    two_filters (ties before z) p (puts before rs)
    ∙ (ap (filter p) (puts_keep before before_ranks z rs)
    ∙ (two_filters p (ties before z) rs ∙ sym (puts_keep before before_ranks z (filter p rs)))))
    ∙ sym (in_order_puts (filter p rs)))

-- what is owned of a type that tells
owned_tells : (kind : ℕ) → ((r : Record) → tells r ≡ false → (r.kind == kind) ≡ false)
    → (rs : List Record) (name : Name)
    → of_type kind (records_of (filter tells rs) name) ≡ of_type kind (records_of rs name)
owned_tells kind none rs name =
    let t : Record → Bool = λ r. r.kind == kind in
    let p : Record → Bool = λ r. same_name r.owner name in
    in_order_filter t (filter p (filter tells rs))
    ∙ (ap (λ (xs : List Record). in_order xs) (two_filters t p (filter tells rs)
    ∙ (ap (filter p) (inner t tells none rs) ∙ two_filters p t rs))
    ∙ sym (in_order_filter t (filter p rs)))

-- a node that has these properties
abbrev node_with : Name → Record → Option Name → List Octets → Option Node
node_with apex r coo groups =
    if is_member apex r
    then option_and_then (λ label. option_map
    (λ zone. record { label = label; zone = zone; coo = coo; groups = groups }) (target_of r))
    (first_label r.owner)
    else None

-- a record's node, and all nodes
node_tells : (apex : Name) (rs : List Record) (r : Record) → node_of apex (filter tells rs) r ≡ node_of apex rs r
unfolding node_of
node_tells apex rs r =
    let coo : coo_of (filter tells rs) r.owner ≡ coo_of rs r.owner =
    ap (λ (xs : List Record). option_and_then target_of (slice_get xs 0))
    (owned_tells 12 no_pointer rs (coo_name r.owner)) in
    let groups : groups_of (filter tells rs) r.owner ≡ groups_of rs r.owner =
    ap (λ (xs : List Record). map (λ (s : Record). s.rdata) xs)
    (owned_tells 16 no_text rs (group_name r.owner)) in
    ap (λ c. node_with apex r c (groups_of (filter tells rs) r.owner)) coo
    ∙ ap (λ g. node_with apex r (coo_of rs r.owner) g) groups

no_node : (apex : Name) (rs : List Record) (r : Record) → tells r ≡ false → node_of apex rs r ≡ None
unfolding node_of
no_node apex rs r f = rw (no_member apex r f) refl

-- what gives nothing may be left out
only_kept : {X Y : Type 0} (g : X → Option Y) (p : X → Bool) → ((x : X) → p x ≡ false → g x ≡ None) → (xs : List X)
    → filter_map g xs ≡ filter_map g (filter p xs)
only_kept g p none [] = refl
only_kept g p none (x ∷ xs) =
    elim (cases_Bool (p x)) [
      | inl t ↦ rw t (ap (cons_option (g x)) (only_kept g p none xs))
      | inr f ↦ rw (f, none x f) (only_kept g p none xs)
    ]

nodes_tell : (apex : Name) (rs : List Record) → nodes_of apex (filter tells rs) ≡ nodes_of apex rs
nodes_tell apex rs =
    ap (λ f. filter_map f (in_order (filter tells rs))) (λ i r. node_tells apex rs r i)
    ∙ (ap (filter_map (node_of apex rs)) (sym (in_order_filter tells rs))
    ∙ sym (only_kept (node_of apex rs) tells (no_node apex rs) (in_order rs)))

-- so of the whole listing
listing_tells : (apex : Name) (rs : List Record) → listing_of apex (filter tells rs) ≡ listing_of apex rs
listing_tells apex rs = rw (broken_tells apex rs, nodes_tell apex rs) refl

-- ---- TTLs tell nothing
abbrev pub bare : Record → Record
bare r = record { owner = r.owner; kind = r.kind; ttl = 0; rdata = r.rdata }

-- a test that looks at no TTL finds the same
bare_filter : (p : Record → Bool) → ((r : Record) → p (bare r) ≡ p r) → (rs : List Record) → filter p (map bare rs)
    ≡ map bare (filter p rs)
bare_filter p same [] = refl
bare_filter p same (r ∷ rs) = elim (cases_Bool (p r)) [
  | inl t ↦ rw (same r, t) (ap (λ (xs : List Record). bare r ∷ xs) (bare_filter p same rs))
  | inr f ↦ rw (same r, f) (bare_filter p same rs)
]

bare_any : (p : Record → Bool) → ((r : Record) → p (bare r) ≡ p r) → (rs : List Record) → list_any p (map bare rs)
    ≡ list_any p rs
bare_any p same [] = refl
bare_any p same (r ∷ rs) = rw (same r, bare_any p same rs) refl

bare_count : (p : Record → Bool) → ((r : Record) → p (bare r) ≡ p r) → (rs : List Record) → count_by p (map bare rs)
    ≡ count_by p rs
bare_count p same rs =
    sym (length-filter p (map bare rs))
    ∙ (ap (λ xs. length xs) (bare_filter p same rs) ∙ (length-map (filter p rs) bare ∙ length-filter p rs))

bare_two : (t : Record → Record → Bool) → ((r s : Record) → t (bare r) (bare s) ≡ t r s) → (rs : List Record)
    → some_two t (map bare rs) ≡ some_two t rs
unfolding some_two
bare_two t same [] = refl
bare_two t same (r ∷ rs) = rw (with_first r rs, bare_two t same rs) refl
  where
    with_first : (x : Record) (xs : List Record) → list_any (t (bare x)) (map bare xs) ≡ list_any (t x) xs
    with_first x [] = refl
    with_first x (y ∷ ys) = rw (same x y, with_first x ys) refl

-- the canonical order looks at no TTL
bare_insertion : (r : Record) (rs : List Record) → insertion (bare r) (map bare rs) ≡ map bare (insertion r rs)
unfolding insertion
bare_insertion r [] = refl
bare_insertion r (s ∷ ss) = elim (cases_Bool (is_gt (record_order r s))) [
  | inl t ↦ rw t (ap (λ (xs : List Record). bare s ∷ xs) (bare_insertion r ss))
  | inr f ↦ rw f refl
]

bare_order : (rs : List Record) → in_order (map bare rs) ≡ map bare (in_order rs)
unfolding in_order
bare_order [] = refl
bare_order (r ∷ rs) = ap (insertion (bare r)) (bare_order rs) ∙ bare_insertion r (in_order rs)

bare_distinct : (rs : List Record) → distinct (map bare rs) ≡ map bare (distinct rs)
unfolding distinct
bare_distinct [] = refl
bare_distinct (r ∷ rs) =
    ap (λ (xs : List Record). bare r ∷ filter (λ s. not (same_record (bare r) s)) xs) (bare_distinct rs)
    ∙ ap (λ (xs : List Record). bare r ∷ xs) (bare_filter (λ s. not (same_record r s)) (λ s. refl) (distinct rs))

twins_bare : (test : Name → Bool) (r s : Record) → twins test (bare r) (bare s) ≡ twins test r s
unfolding twins both_are
twins_bare test r s = refl

broken_bare : (apex : Name) (rs : List Record) → broken_records apex (map bare rs) ≡ broken_records apex rs
unfolding broken_records
broken_bare apex rs =
    rw (
      bare_any (is_version apex) (λ r. refl) rs,
      bare_count (is_version apex) (λ r. refl) rs,
      bare_any (λ r. is_version apex r && not (same_label r.rdata version_2)) (λ r. refl) rs,
      bare_two (twins (is_node apex)) (twins_bare (is_node apex)) rs,
      bare_two (twins (is_coo apex)) (twins_bare (is_coo apex)) rs,
      bare_count (is_member apex) (λ r. refl) rs,
    ) refl

owned_bare : (kind : ℕ) (rs : List Record) (name : Name) → of_type kind (records_of (map bare rs) name)
    ≡ map bare (of_type kind (records_of rs name))
owned_bare kind rs name =
    let t : Record → Bool = λ r. r.kind == kind in
    let p : Record → Bool = λ r. same_name r.owner name in
    ap (λ (xs : List Record). filter t (in_order xs)) (bare_filter p (λ r. refl) rs)
    ∙ (ap (filter t) (bare_order (filter p rs)) ∙ bare_filter t (λ r. refl) (in_order (filter p rs)))

first_bare : (rs : List Record) → option_and_then target_of (slice_get (map bare rs) 0)
    ≡ option_and_then target_of (slice_get rs 0)
first_bare [] = refl
first_bare (r ∷ rs) = refl

texts_bare : (rs : List Record) → map (λ (s : Record). s.rdata) (map bare rs) ≡ map (λ (s : Record). s.rdata) rs
texts_bare [] = refl
texts_bare (r ∷ rs) = ap (λ xs. r.rdata ∷ xs) (texts_bare rs)

node_bare : (apex : Name) (rs : List Record) (r : Record) → node_of apex (map bare rs) (bare r) ≡ node_of apex rs r
unfolding node_of
node_bare apex rs r =
    let coo : coo_of (map bare rs) r.owner ≡ coo_of rs r.owner =
    ap (λ (xs : List Record). option_and_then target_of (slice_get xs 0)) (owned_bare 12 rs (coo_name r.owner))
    ∙ first_bare (of_type 12 (records_of rs (coo_name r.owner))) in
    let groups : groups_of (map bare rs) r.owner ≡ groups_of rs r.owner =
    ap (λ (xs : List Record). map (λ (s : Record). s.rdata) xs) (owned_bare 16 rs (group_name r.owner))
    ∙ texts_bare (of_type 16 (records_of rs (group_name r.owner))) in
    ap (λ c. node_with apex r c (groups_of (map bare rs) r.owner)) coo
    ∙ ap (λ g. node_with apex r (coo_of rs r.owner) g) groups

each_bare : (apex : Name) (all rs : List Record) → filter_map (node_of apex (map bare all)) (map bare rs)
    ≡ filter_map (node_of apex all) rs
each_bare apex all [] = refl
each_bare apex all (r ∷ rs) = rw (node_bare apex all r, each_bare apex all rs) refl

nodes_bare : (apex : Name) (rs : List Record) → nodes_of apex (map bare rs) ≡ nodes_of apex rs
nodes_bare apex rs = ap (filter_map (node_of apex (map bare rs))) (bare_order rs) ∙ each_bare apex rs (in_order rs)

-- so of the whole listing
listing_bare : (apex : Name) (rs : List Record) → listing_of apex (map bare rs) ≡ listing_of apex rs
listing_bare apex rs = rw (broken_bare apex rs, nodes_bare apex rs) refl

-- ---- so of a version
abbrev pub plain : List Record → List Record
plain rs = map bare (filter tells rs)

tells_alike : Respects tells
tells_alike r s t = let same = same_parts r s t in rw same.1.0 refl

-- versions whose records are the same, but for such records and for TTLs, list the same
pub listing_plain : (apex : Name) (rs : List Record) → listing_of apex (in_order (distinct rs))
    ≡ listing_of apex (in_order (distinct (plain rs)))
listing_plain apex rs =
    sym (listing_tells apex (in_order (distinct rs)))
    ∙ (ap (listing_of apex) (canonical_filter tells rs tells_alike)
    ∙ (sym (listing_bare apex (in_order (distinct (filter tells rs))))
    ∙ ap (listing_of apex) (sym (ap (λ (xs : List Record). in_order xs) (bare_distinct (filter tells rs))
    ∙ bare_order (distinct (filter tells rs))))))
