-- Memberships in a map: the words of the map are those of the memberships.
use Rattle.std.proofs.Common.{◌≡◌, ℕ, zero, suc, true, List, [], ◌∷◌, map, refl, sym, ◌∙◌, ap}
use Rattle.std.specs.Prelude.{Some, None, slice_get, option_map, position, if◌then◌else◌}
use Rattle.std.specs.List.{find, AllByRecursion}
use Rattle.std.specs.List.Sorted.{IsStrictlySortedBy}
use Rattle.std.specs.Ordering.{eq_by_cmp}
use Rattle.std.specs.FinMap as fin
use Rattle.std.specs.FinMap.Entries.{below_all}
use Rattle.std.specs.declared.cmp.Ordering.TheVariants.{Less}
use Rattle.dz_chunks.specs.Map.{place_in, without_key}
use Rattle.dz_name.specs.Words.{Name}
use Rattle.dz_name.specs.Name.{canonical_order, same_name}
use Rattle.dz_name.specs.Order.{names_equal, same_ties, canonical_total, canonical_same, same_decides}
use Rattle.dz_member.proofs.MapLemmas as maps
use Rattle.dz_member.specs.declared.membership.Membership.{Membership}
use Rattle.dz_member.proofs.SearchLemmas.{position_map}
use Rattle.dz_member.specs.inner.Members.{entries_of, members_of, IsOwn, AreMembers}

pub members_back : (ms : List Membership) → members_of (entries_of ms) ≡ ms
members_back [] = refl
members_back (m ∷ ms) = ap (λ l. m ∷ l) (members_back ms)

pub own_entries : (ms : List Membership) → AllByRecursion IsOwn (entries_of ms)
own_entries [] = tt
own_entries (m ∷ ms) = (refl, own_entries ms)

same_back : (a b : Name) → same_name a b ≡ eq_by_cmp canonical_order b a
same_back a b = names_equal.symm a b ∙ same_ties b a

pub keyed : (es : List (Name × Membership)) → AllByRecursion IsOwn es → es ≡ entries_of (members_of es)
keyed [] own = refl
keyed (e ∷ es) own = ap (λ (z : Name). (z, e.1) ∷ es) own.0 ∙ ap (λ l. (e.1.zone, e.1) ∷ l) (keyed es own.1)

place_members : (zone : Name) (ms : List Membership)
    → place_in canonical_order zone (entries_of ms) ≡ position (λ m. same_name m.zone zone) ms
place_members zone ms =
    position_map (λ (e : Name × Membership). eq_by_cmp canonical_order zone e.0) (λ m. (m.zone, m)) ms
    ∙ sym (λ i. position (λ (m : Membership). same_back m.zone zone i) ms)

pub place_entries : (zone : Name) (es : List (Name × Membership)) → AllByRecursion IsOwn es
    → place_in canonical_order zone es ≡ position (λ m. same_name m.zone zone) (members_of es)
place_entries zone es own =
    ap (λ (l : List (Name × Membership)). place_in canonical_order zone l) (keyed es own)
    ∙ place_members zone (members_of es)

pub get_member : (es : List (Name × Membership)) (place : ℕ)
    → slice_get (members_of es) place ≡ option_map (λ e. e.1) (slice_get es place)
get_member [] place = refl
get_member (e ∷ es) zero = refl
get_member (e ∷ es) (suc place) = get_member es place

below : (zone : Name) (ms : List Membership) → AllByRecursion (λ z. canonical_order zone z ≡ Less) (map (λ m. m.zone) ms)
    → below_all canonical_order zone (entries_of ms) ≡ true
below zone [] h = refl
below zone (m ∷ ms) h = rw (h.0, below zone ms h.1) refl

pub sorted_entries : (ms : List Membership) → IsStrictlySortedBy canonical_order (map (λ m. m.zone) ms)
    → fin.is_sorted canonical_order (entries_of ms) ≡ true
unfolding IsStrictlySortedBy
sorted_entries [] up = refl
sorted_entries (m ∷ ms) up = rw (below m.zone ms up.0, sorted_entries ms up.1) refl

pub kept_members : (ms : List Membership) (es : List (Name × Membership))
    → IsStrictlySortedBy canonical_order (map (λ m. m.zone) ms) → es ≡ entries_of ms → AreMembers es
kept_members ms es up e = record {
  own = rw e (own_entries ms);
  order = rw (e, members_back ms) up;
}

pub no_members : (es : List (Name × Membership)) → es ≡ [] → AreMembers es
unfolding IsStrictlySortedBy
no_members es e = record { own = rw e tt; order = rw e tt }

-- ---- what the map does by zones
abbrev zone_of : Membership → Name
zone_of m = m.zone

pub find_member : (z : Name) (es : List (Name × Membership)) → AreMembers es
    → fin.find canonical_order z es ≡ find (λ m. same_name m.zone z) (members_of es)
find_member z es a =
    maps.find_values canonical_order canonical_total same_name same_decides canonical_same zone_of z es a.own

pub members_put : (m : Membership) (es : List (Name × Membership)) → AreMembers es
    → AreMembers (fin.put canonical_order m.zone m es)
members_put m es a = record {
  own = maps.put_own canonical_order canonical_total same_name same_decides canonical_same zone_of m es a.own;
  order = maps.put_rises canonical_order canonical_total same_name same_decides canonical_same zone_of m es a.own
      a.order;
}

pub members_left : (z : Name) (es : List (Name × Membership)) → AreMembers es
    → AreMembers (without_key canonical_order z es)
members_left z es a = record {
  own = maps.without_own canonical_order canonical_total same_name same_decides canonical_same zone_of z es a.own;
  order = maps.without_rises canonical_order canonical_total same_name same_decides canonical_same zone_of z es a.own
      a.order;
}

pub put_member : (z : Name) (m : Membership) (es : List (Name × Membership)) → AreMembers es
    → find (λ m. same_name m.zone z) (members_of (fin.put canonical_order m.zone m es))
    ≡ (if same_name m.zone z then Some m else find (λ m. same_name m.zone z) (members_of es))
put_member z m es a =
    maps.put_at canonical_order canonical_total same_name same_decides canonical_same zone_of z m es a.own

pub left_member : (z k : Name) (es : List (Name × Membership)) → AreMembers es
    → find (λ m. same_name m.zone z) (members_of (without_key canonical_order k es))
    ≡ (if same_name k z then None else find (λ m. same_name m.zone z) (members_of es))
left_member z k es a =
    maps.without_at canonical_order canonical_total same_name same_decides canonical_same zone_of z k es a.own
