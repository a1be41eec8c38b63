-- What a listing leaves, at each zone by itself.
use Rattle.std.proofs.Common.{◌≡◌, Bool, true, false, not, ◌&&◌, ℕ, List, [], ◌∷◌, map, refl, sym, ◌∙◌, ap, inl, inr}
use Rattle.std.proofs.Common.{Ordering, Less, Equal, Greater, is_lt}
use Rattle.std.specs.Prelude.{Option, Some, None, IfSome, filter, if◌then◌else◌}
use Rattle.std.specs.Option.{option_map, option_eq}
use Rattle.std.specs.Str.{bytes_eq}
use Rattle.std.specs.Ordering.{ordering_reverse}
use Rattle.std.specs.List.{find, filter_map}
use Rattle.std.specs.List.Sorted.{IsStrictlySortedBy, ties}
use Rattle.std.proofs.lemmas.Bool.{cases_Bool}
use Rattle.std.proofs.lemmas.Cmp.{tied_itself}
use Rattle.dz_name.specs.Words.{Name}
use Rattle.dz_name.specs.Name.{canonical_order, same_name, same_label}
use Rattle.dz_name.specs.Order.{canonical_total, canonical_same, same_decides}
use Rattle.dz_member.specs.declared.listing.Node.{Node}
use Rattle.dz_member.specs.declared.change.What.{What}
use Rattle.dz_member.specs.declared.change.Change.{Change}
use Rattle.dz_member.specs.Membership.{MemberOf}
use Rattle.dz_member.specs.Fold.{FoldOf, member_of}
use Rattle.dz_member.specs.Process.{Judgement, judged, judged_at, held_here, held_elsewhere, listed, consents}
use Rattle.dz_member.specs.Process.{choice_in, is_catalog, node_of, zones_of, in_zone_order, process, changes}
use Rattle.dz_member.specs.Process.{EachZone}
use Rattle.dz_member.specs.inner.Kept.{members_from, changes_from}
use Rattle.dz_member.proofs.EachLemmas.{merged, lacks, has, each_of, kept_rises, none_of}
use Rattle.dz_member.proofs.OrderLemmas.{node_before}
use Rattle.dz_member.proofs.OrderLemmas.{before_is}
use Rattle.dz_member.proofs.SortLemmas.{ties_sorted_by}

-- what is judged to be at a zone has that zone
abbrev pub Own : Name → Judgement → Type 0
Own zone j = IfSome j.stands (λ m. m.zone ≡ zone)

own_if : (zone : Name) (b : Bool) (x y : Judgement) → Own zone x → Own zone y → Own zone (if b then x else y)
own_if zone true x y a b = a
own_if zone false x y a b = b

pub found_zone : {X : Type 0} (key : X → Name) (zone : Name) (xs : List X)
    → IfSome (find (λ x. same_name (key x) zone) xs) (λ x. key x ≡ zone)
found_zone key zone [] = tt
found_zone key zone (x ∷ xs) =
    elim (cases_Bool (same_name (key x) zone)) [
      | inl t ↦ rw t ((same_decides (key x) zone).0 t)
      | inr f ↦ rw f (found_zone key zone xs)
    ]

own_listed : (fold : FoldOf) (catalog : Name) (position : ℕ) (zone : Name) (m : Option MemberOf) (n : Node)
    → IfSome m (λ x. x.zone ≡ zone) → n.zone ≡ zone → Own zone (listed fold catalog position m n)
own_listed fold catalog position zone None n a b = b
own_listed fold catalog position zone (Some m) n a b =
    own_if zone (same_name m.catalog catalog) (held_here fold catalog position m n)
    (held_elsewhere fold catalog position m n)
    (own_if zone (same_label m.label n.label) _ _
    (own_if zone (option_eq bytes_eq m.choice (choice_in fold.config catalog n)) _ _ a a) b)
    (own_if zone (consents fold catalog m) _ _ (own_if zone (same_label m.label n.label) _ _ a b) a)

own : (fold : FoldOf) (catalog : Name) (position : ℕ) (zone : Name) (m : Option MemberOf) (n : Option Node)
    → IfSome m (λ x. x.zone ≡ zone) → IfSome n (λ x. x.zone ≡ zone)
    → Own zone (judged fold catalog position m n)
unfolding judged
own fold catalog position zone None None a b = tt
own fold catalog position zone (Some m) None a b = own_if zone (same_name m.catalog catalog) _ _ tt a
own fold catalog position zone None (Some n) a b =
    own_if zone (is_catalog fold n.zone) _ _ tt (own_listed fold catalog position zone None n a b)
own fold catalog position zone (Some m) (Some n) a b =
    own_if zone (is_catalog fold n.zone) _ _ a (own_listed fold catalog position zone (Some m) n a b)

pub nothing : (fold : FoldOf) (catalog : Name) (position : ℕ)
    → judged fold catalog position None None ≡ record { stands = None; change = None }
unfolding judged
nothing fold catalog position = refl

-- the nodes in zone order have at each zone what the nodes have
tied_same : (z zone : Name) (k : Ordering) → canonical_order z zone ≡ k
    → same_name zone z ≡ (not (is_lt k) && not (is_lt (ordering_reverse k)))
tied_same z zone Less e =
    elim (cases_Bool (same_name zone z)) [
      | inr f ↦ f
      | inl t ↦ (let q : zone ≡ z = (same_decides zone z).0 t in
          let l : canonical_order z z ≡ Less = rw q at e in let r = tied_itself canonical_total z in absurd (cc))
    ]
tied_same z zone Equal e = (same_decides zone z).1 (sym (canonical_same z zone e))
tied_same z zone Greater e =
    elim (cases_Bool (same_name zone z)) [
      | inr f ↦ f
      | inl t ↦ (let q : zone ≡ z = (same_decides zone z).0 t in
          let l : canonical_order z z ≡ Greater = rw q at e in let r = tied_itself canonical_total z in absurd (cc))
    ]

at_zone : Name → Node
at_zone z = record { label = []; zone = z; coo = None; groups = [] }

ties_is : (z : Name) (n : Node) → same_name n.zone z ≡ ties node_before (at_zone z) n
unfolding at_zone
ties_is z n = tied_same z n.zone (canonical_order z n.zone) refl
    ∙ ap (λ (k : Ordering). not (is_lt (canonical_order z n.zone)) && not (is_lt k))
    (sym (canonical_total.antisymm n.zone z))

find_first : {X : Type 0} (p q : X → Bool) → ((x : X) → p x ≡ q x) → (xs : List X)
    → find p xs ≡ find (λ _. true) (filter q xs)
find_first p q h [] = refl
find_first p q h (x ∷ xs) =
    elim (cases_Bool (q x)) [ inl t ↦ rw (h x, t) refl | inr f ↦ rw (h x, f) (find_first p q h xs) ]

pub ordered_node : (zone : Name) (nodes : List Node) → node_of zone (in_zone_order nodes) ≡ node_of zone nodes
ordered_node zone nodes =
    find_first (λ n. same_name n.zone zone) (ties node_before (at_zone zone)) (ties_is zone) (in_zone_order nodes)
    ∙ ap (λ ns. find (λ _. true) ns) (ties_sorted_by node_before (before_is (λ (n : Node). n)) (at_zone zone) nodes)
    ∙ sym (find_first (λ n. same_name n.zone zone) (ties node_before (at_zone zone)) (ties_is zone) nodes)

abbrev pub change_at : Name → What → Change
change_at zone what = record { zone = zone; what = what }

-- what the nodes leave in zone order is what the definitions say
pub members_are : (fold : FoldOf) (catalog : Name) (nodes : List Node) (position : ℕ)
    → members_from fold catalog position (in_zone_order nodes) ≡ (process fold catalog nodes position).members
unfolding members_from process
members_are fold catalog nodes position =
    λ i. filter_map (λ z. (judged fold catalog position (member_of z fold.members) (ordered_node z nodes i)).stands)
    (zones_of fold.members nodes)

pub changes_are : (fold : FoldOf) (catalog : Name) (nodes : List Node) (position : ℕ)
    → changes_from fold catalog position (in_zone_order nodes) ≡ changes fold catalog nodes position
unfolding changes_from changes
changes_are fold catalog nodes position = λ i. filter_map (λ z. option_map (change_at z)
    (judged fold catalog position (member_of z fold.members) (ordered_node z nodes i)).change)
    (zones_of fold.members nodes)

what_of : (zone : Name) (r : Option What) → option_map (λ (c : Change). c.what) (option_map (change_at zone) r) ≡ r
what_of zone None = refl
what_of zone (Some what) = refl

pub change_own : (zone : Name) (r : Option What) → IfSome (option_map (change_at zone) r) (λ (c : Change). c.zone ≡ zone)
change_own zone None = tt
change_own zone (Some what) = refl

-- each zone by itself
module _ (fold : FoldOf) (catalog : Name) (nodes : List Node) (position : ℕ)
    (up : IsStrictlySortedBy canonical_order (map (λ m. m.zone) fold.members))
    (rise : IsStrictlySortedBy canonical_order (map (λ n. n.zone) (in_zone_order nodes))) where
  pub zones_rise : IsStrictlySortedBy canonical_order (zones_of fold.members nodes)
  zones_rise = merged canonical_order canonical_total same_name same_decides canonical_same
      (map (λ m. m.zone) fold.members) (map (λ n. n.zone) (in_zone_order nodes)) up rise

  own_at : (z : Name) → IfSome (judged_at fold catalog nodes position z).stands (λ m. m.zone ≡ z)
  own_at z =
      own fold catalog position z _ _ (found_zone (λ m. m.zone) z fold.members) (found_zone (λ n. n.zone) z nodes)

  pub empty_at : (z : Name)
      → has canonical_order canonical_total same_name same_decides canonical_same z (zones_of fold.members nodes)
      ≡ false → judged_at fold catalog nodes position z ≡ record { stands = None; change = None }
  empty_at z e =
      let both = lacks canonical_order canonical_total same_name same_decides canonical_same z
      (map (λ m. m.zone) fold.members) (map (λ n. n.zone) (in_zone_order nodes)) e in
      let a : member_of z fold.members ≡ None = none_of canonical_order canonical_total same_name same_decides
      canonical_same (λ m. m.zone) z fold.members both.0 in
      let b : node_of z (in_zone_order nodes) ≡ None = none_of canonical_order canonical_total same_name same_decides
      canonical_same (λ n. n.zone) z (in_zone_order nodes) both.1 in
      let b' : node_of z nodes ≡ None = sym (ordered_node z nodes) ∙ b in
      rw (a, b') (nothing fold catalog position)

  pub order_after : IsStrictlySortedBy canonical_order
      (map (λ m. m.zone) (process fold catalog nodes position).members)
  unfolding process
  order_after = kept_rises canonical_order canonical_total same_name same_decides canonical_same (λ m. m.zone)
      (λ z. (judged_at fold catalog nodes position z).stands) own_at (zones_of fold.members nodes) zones_rise

  pub each_zone : EachZone fold catalog nodes position (process fold catalog nodes position)
      (changes fold catalog nodes position)
  unfolding process changes
  each_zone = record {
    member = λ z. each_of canonical_order canonical_total same_name same_decides canonical_same (λ m. m.zone)
        (λ y. (judged_at fold catalog nodes position y).stands) own_at z (zones_of fold.members nodes) zones_rise
        (λ e. ap (λ (j : Judgement). j.stands) (empty_at z e));
    change = λ z.
        let h : Name → Option Change =
        λ y. option_map (change_at y) (judged_at fold catalog nodes position y).change in
        let e = each_of canonical_order canonical_total same_name same_decides canonical_same
        (λ (c : Change). c.zone) h (λ y. change_own y (judged_at fold catalog nodes position y).change) z
        (zones_of fold.members nodes) zones_rise
        (λ e. ap (λ (j : Judgement). option_map (change_at z) j.change) (empty_at z e)) in
        rw e (what_of z (judged_at fold catalog nodes position z).change);
  }
