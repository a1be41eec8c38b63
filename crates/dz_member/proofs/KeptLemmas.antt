-- Memberships with numbers, and with names.
use Rattle.std.proofs.Common.{get_or, refl, sym, Bool, false, ◌<◌, ◌≡◌, ℕ, List, [], map, replicate, length, ap, subst, ◌∙◌, arith}
use Rattle.std.specs.Prelude.{Option, Some, None, position, slice_get}
use Rattle.std.specs.List.{All}
use Rattle.std.specs.List.Sorted.{IsStrictlySortedBy}
use Rattle.std.proofs.lemmas.Simd.{map-map}
use Rattle.std.proofs.lemmas.List.{length-replicate, length-map, get_or-replicate}
use Rattle.std.proofs.lemmas.Option.{slice_get_read, slice_get_within, get_or_from_slice_get}
use Rattle.dz_name.specs.Words.{Name}
use Rattle.dz_name.specs.Name.{canonical_order, same_name}
use Rattle.dz_settings.specs.declared.config.CatalogSettings.{CatalogSettings}
use Rattle.dz_member.specs.declared.listing.Node.{Node}
use Rattle.dz_member.specs.declared.membership.Membership.{Membership}
use Rattle.dz_settings.specs.Config.{IsAllowed}
use Rattle.dz_member.specs.Membership.{MemberOf, shown, IsNumbered}
use Rattle.dz_member.specs.inner.Kept.{IsKept}
use Rattle.dz_member.proofs.SearchLemmas.{position_map}

pub zones_shown : (catalogs : List CatalogSettings) (ms : List Membership)
    → map (λ (m : MemberOf). m.zone) (map (shown catalogs) ms) ≡ map (λ (m : Membership). m.zone) ms
zones_shown catalogs ms = map-map (λ (m : MemberOf). m.zone) (shown catalogs) ms

pub zones_rise : (catalogs : List CatalogSettings) (ms : List Membership)
    → IsStrictlySortedBy canonical_order (map (λ (m : MemberOf). m.zone) (map (shown catalogs) ms))
    → IsStrictlySortedBy canonical_order (map (λ (m : Membership). m.zone) ms)
zones_rise catalogs ms up =
    subst (λ (zs : List Name). IsStrictlySortedBy canonical_order zs) (zones_shown catalogs ms) up

pub place_shown : (catalogs : List CatalogSettings) (ms : List Membership) (zone : Name)
    → position (λ (m : MemberOf). same_name m.zone zone) (map (shown catalogs) ms)
    ≡ position (λ (m : Membership). same_name m.zone zone) ms
place_shown catalogs ms zone = position_map (λ (m : MemberOf). same_name m.zone zone) (shown catalogs) ms

-- the fold of a configuration alone
none_numbered : (catalogs : List CatalogSettings) → All (IsNumbered catalogs) []
none_numbered catalogs k d inside = absurd (omega arith)

none_known : {X : Type 0} (count : ℕ) (n : ℕ) (x : X) → slice_get (replicate count None) n ≡ Some (Some x) → ⊥
none_known {X} count n x e =
    let within = slice_get_within (replicate count None) n (Some x) e in
    let at : get_or (replicate count None) n None ≡ Some x =
    get_or_from_slice_get (replicate count None) n (Some x) None e in
    let none = get_or-replicate count n None None (omega (arith, within, length-replicate {A = Option X} count None)) in
    let bad : None ≡ Some x = sym none ∙ at in cc

pub kept_start : (catalogs : List CatalogSettings) (listings : List (Option (List Node))) (settled : List Bool)
    (count : ℕ) → IsAllowed catalogs → listings ≡ replicate count None → settled ≡ replicate count false
    → count ≡ length catalogs → IsKept catalogs [] listings settled
unfolding IsStrictlySortedBy
kept_start catalogs listings settled count allowed none unsettled is = record {
  fold = record { allowed = allowed; rises = tt; each = ap length none ∙ length-replicate count None ∙ is };
  numbered = none_numbered catalogs;
  few = omega arith;
  known = λ n ns e. absurd (none_known count n ns (rw none at e));
  marks = ap length unsettled ∙ length-replicate count false ∙ is;
  marked = λ n ns t e. absurd (none_known count n ns (rw none at e));
}

-- the membership at a place
pub record IsAt (catalogs : List CatalogSettings) (ms : List Membership) (place : ℕ) (m : Membership) : Type 0 where
  pub numbered : IsNumbered catalogs m
  pub is : slice_get ms place ≡ Some m

pub at_place : (catalogs : List CatalogSettings) (ms : List Membership) (place : ℕ) (m : Membership)
    → All (IsNumbered catalogs) ms → place < length (map (shown catalogs) ms) → m ≡ get_or ms place m
    → IsAt catalogs ms place m
at_place catalogs ms place m all inside e =
    let lt : place < length ms = omega (arith, length-map ms (shown catalogs), inside) in
    record {
      numbered = subst (IsNumbered catalogs) (sym e) (all place m lt);
      is = slice_get_read ms (length ms) place m refl lt e;
    }
