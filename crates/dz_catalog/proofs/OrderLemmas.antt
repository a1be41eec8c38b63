-- Lists of records that are the same in order give the same listing.
use Rattle.std.proofs.Common.{◌≡◌, ℕ, Bool, true, false, List, [], ◌∷◌, refl, sym, ◌∙◌, ap, inl, inr}
use Rattle.std.specs.Prelude.{filter, ◌&&◌, not, map, cond, slice_get, Option, None, if◌then◌else◌}
use Rattle.std.specs.Option.{option_map, option_and_then}
use Rattle.std.specs.List.{filter_map}
use Rattle.std.specs.List.Sorted.{ties}
use Rattle.std.proofs.lemmas.Bool.{cases_Bool}
use Rattle.dz_name.specs.Name.{same_name, same_label, first_label}
use Rattle.dz_record.specs.Record.{Record, target_of}
use Rattle.dz_record.specs.Records.{in_order}
use Rattle.dz_zone.specs.Valid.{both_are}
use Rattle.dz_zone.proofs.RecordLemmas.{before, before_ranks, in_order_puts}
use Rattle.dz_zone.proofs.Ordered.{puts, alike, ascends_puts, puts_keep}
use Rattle.dz_zone.proofs.Pairs.{any_puts, sum_puts, two_puts}
use Rattle.dz_zone.proofs.FaultLemmas.{both_back}
use Rattle.dz_runs.specs.Runs.{of_type, records_of}
use Rattle.dz_member.specs.declared.listing.Node.{Node}
use Rattle.dz_catalog.specs.Broken.{is_version, twins, version_2, broken_records}
use Rattle.dz_catalog.specs.Listing.{listing_of}
use Rattle.dz_catalog.proofs.TwinLemmas.{one_owner}
use Rattle.dz_catalog.specs.Member.{is_node, is_coo, is_member, node_of, nodes_of, coo_of, groups_of, coo_name}
use Rattle.dz_catalog.specs.Member.{group_name}

two_filters : {X : Type 0} (p q : X → Bool) (xs : List X) → filter p (filter q xs) ≡ filter q (filter p xs)
two_filters p q [] = refl
two_filters p q (x ∷ xs) =
    elim (cases_Bool (p x)) [
      | inl s ↦ elim (cases_Bool (q x)) [
        | inl t ↦ rw (s, t, s) (ap (λ ys. x ∷ ys) (two_filters p q xs))
        | inr f ↦ rw (s, f) (two_filters p q xs)
      ]
      | inr g ↦ elim (cases_Bool (q x)) [
        | inl t ↦ rw (g, t, g) (two_filters p q xs)
        | inr f ↦ rw (g, f) (two_filters p q xs)
      ]
    ]

-- a filter of records in order is in order
filter_puts : (p : Record → Bool) (rs : List Record)
    → puts before (filter p (puts before rs)) ≡ puts before (filter p rs)
filter_puts p rs =
    alike before before_ranks (puts before (filter p (puts before rs))) (puts before (filter p rs))
    (ascends_puts before before_ranks (filter p (puts before rs))) (ascends_puts before before_ranks (filter p rs))
    (λ z.
    puts_keep before before_ranks z (filter p (puts before rs))
    ∙ (two_filters (ties before z) p (puts before rs)
    ∙ (ap (filter p) (puts_keep before before_ranks z rs)
    ∙ (two_filters p (ties before z) rs ∙ sym (puts_keep before before_ranks z (filter p rs))))))

owned_order : (rs : List Record) (name : List (List ℕ)) → records_of (in_order rs) name ≡ records_of rs name
owned_order rs name =
    let p = λ (r : Record). same_name r.owner name in
    in_order_puts (filter p (in_order rs)) ∙ (ap (λ xs. puts before (filter p xs)) (in_order_puts rs)
    ∙ (filter_puts p rs ∙ sym (in_order_puts (filter p rs))))

all_pass : (xs : List Record) → filter (λ _. true) xs ≡ xs
all_pass [] = refl
all_pass (x ∷ xs) = ap (λ ys. x ∷ ys) (all_pass xs)

order_twice : (rs : List Record) → in_order (in_order rs) ≡ in_order rs
order_twice rs =
    in_order_puts (in_order rs)
    ∙ (ap (puts before) (in_order_puts rs)
    ∙ (ap (puts before) (sym (all_pass (puts before rs)))
    ∙ (filter_puts (λ _. true) rs ∙ (ap (puts before) (all_pass rs) ∙ sym (in_order_puts rs)))))

and_no : (a b : Bool) → (a && false) ≡ (b && false)
and_no true true = refl
and_no true false = refl
and_no false true = refl
and_no false false = refl

twins_back : (test : List (List ℕ) → Bool) (x y : Record) → twins test x y ≡ twins test y x
unfolding twins
twins_back test x y =
    elim (cases_Bool (both_are 12 x y)) [
      | inl t ↦
          let u : both_are 12 y x ≡ true = both_back 12 y x ∙ t in
          rw (t, u, one_owner x y t) refl
      | inr f ↦
          let u : both_are 12 y x ≡ false = both_back 12 y x ∙ f in
          rw (f, u) (and_no (test x.owner) (test y.owner))
    ]

broken_order : (apex : List (List ℕ)) (rs : List Record) → broken_records apex (in_order rs) ≡ broken_records apex rs
unfolding broken_records
broken_order apex rs =
    rw in_order_puts
    (rw (
      any_puts before (is_version apex) rs,
      sum_puts before (λ r. cond (is_version apex r) 1 0) rs,
      any_puts before (λ r. is_version apex r && not (same_label r.rdata version_2)) rs,
      two_puts before (twins (is_node apex)) (twins_back (is_node apex)) rs,
      two_puts before (twins (is_coo apex)) (twins_back (is_coo apex)) rs,
      sum_puts before (λ r. cond (is_member apex r) 1 0) rs,
    ) refl)

abbrev with : List (List ℕ) → Record → Option (List (List ℕ)) → List (List ℕ) → Option Node
with apex r coo groups =
    if is_member apex r
    then option_and_then
    (λ label. option_map (λ zone. record { label = label; zone = zone; coo = coo; groups = groups }) (target_of r))
    (first_label r.owner)
    else None

node_order : (apex : List (List ℕ)) (rs : List Record) (r : Record) → node_of apex (in_order rs) r ≡ node_of apex rs r
unfolding node_of
node_order apex rs r =
    let coo : coo_of (in_order rs) r.owner ≡ coo_of rs r.owner =
    ap (λ (xs : List Record). option_and_then target_of (slice_get (of_type 12 xs) 0))
    (owned_order rs (coo_name r.owner)) in
    let groups : groups_of (in_order rs) r.owner ≡ groups_of rs r.owner = ap
    (λ (xs : List Record). map (λ (s : Record). s.rdata) (of_type 16 xs)) (owned_order rs (group_name r.owner)) in
    ap (λ c. with apex r c (groups_of (in_order rs) r.owner)) coo ∙ ap (λ g. with apex r (coo_of rs r.owner) g) groups

nodes_order : (apex : List (List ℕ)) (rs : List Record) → nodes_of apex (in_order rs) ≡ nodes_of apex rs
nodes_order apex rs =
    ap (λ f. filter_map f (in_order (in_order rs))) (λ i r. node_order apex rs r i)
    ∙ ap (filter_map (node_of apex rs)) (order_twice rs)

listing_order : (apex : List (List ℕ)) (rs : List Record) → listing_of apex (in_order rs) ≡ listing_of apex rs
listing_order apex rs = rw (broken_order apex rs, nodes_order apex rs) refl

pub order_is_free : (apex : List (List ℕ)) (rs ss : List Record) → in_order rs ≡ in_order ss
    → listing_of apex rs ≡ listing_of apex ss
order_is_free apex rs ss e = sym (listing_order apex rs) ∙ (ap (listing_of apex) e ∙ listing_order apex ss)
