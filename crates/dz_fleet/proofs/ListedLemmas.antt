-- What a listing changes of the members.
use Rattle.std.proofs.Common.{◌≡◌, ℕ, Bool, true, false, List, map, refl, sym, ◌∙◌, ap, Some, None, Ok, Err}
use Rattle.std.proofs.Common.{◌∷◌, [], not, subst, inl, inr}
use Rattle.std.specs.Prelude.{Option, Result, IfSome, is_some, if◌then◌else◌}
use Rattle.std.proofs.lemmas.Bool.{cases_Bool}
use Rattle.std.specs.Option.{option_map, option_or, option_eq}
use Rattle.std.specs.Str.{bytes_eq}
use Rattle.std.specs.List.{list_any}
use Rattle.std.specs.List.Sorted.{IsStrictlySortedBy}
use Rattle.dz_name.specs.Words.{Name}
use Rattle.dz_name.specs.Name.{same_name, same_label, canonical_order}
use Rattle.dz_name.specs.Order.{canonical_total, canonical_same, same_decides}
use Rattle.dz_record.specs.Record.{Record}
use Rattle.dz_zone.specs.Version.{Zone}
use Rattle.dz_settings.specs.Twice.{has_twice}
use Rattle.dz_member.specs.declared.change.What.{What}
use Rattle.dz_member.specs.declared.change.What.TheVariants.{Added, Removed}
use Rattle.dz_member.specs.Membership.{MemberOf}
use Rattle.dz_member.specs.declared.change.Change.{Change}
use Rattle.dz_member.specs.declared.listing.Node.{Node}
use Rattle.dz_member.specs.declared.listing.Broken.{Broken as Reason}
use Rattle.dz_member.specs.declared.listing.Broken.TheVariants.{ZoneTwice}
use Rattle.dz_member.specs.Listing.{same_zone}
use Rattle.dz_member.specs.Fold.{FoldOf, IsFold, member_of}
use Rattle.dz_member.specs.Process.{Judgement, choice_in, consents, is_catalog, judged, judged_at, node_of, zones_of}
use Rattle.dz_member.specs.Process.{in_zone_order, process, changes}
use Rattle.dz_member.proofs.EachLemmas.{merged, kept_rises}
use Rattle.dz_member.proofs.LawLemmas.{stays_without}
use Rattle.dz_member.proofs.OrderLemmas.{sorted_rise}
use Rattle.dz_member.proofs.ZoneLemmas.{order_after, each_zone}
use Rattle.dz_catalog.specs.Listing.{listing_of, listing_from}
use Rattle.dz_catalog.specs.Member.{nodes_of}
use Rattle.dz_catalog.specs.Broken.{broken_records}
use Rattle.dz_take.specs.Transfer.{Decision, up_to_date, new, refused}
use Rattle.dz_history.specs.State.{State, IsState, catalog_at}
use Rattle.dz_history.specs.After.{taken, taken_from, catalog_after, relisted, counted, listed, with_version}
use Rattle.dz_history.specs.After.{aftermath_of, aftermath_from, listing_aftermath}
use Rattle.dz_fleet.specs.inner.Relisting.{change_of, is_entry, keeps_places, AreRelisted, AreSameZones, AreListed}
use Rattle.dz_fleet.specs.inner.Relisting.{IsListed}
use Rattle.dz_fleet.proofs.StretchLemmas.{zones_by}

-- ---- a listing has no zone twice
once_by : (made nodes : List Node) (o : Option Reason) (b : Bool) → has_twice same_zone made ≡ b
    → listing_from made (option_or o (if b then Some ZoneTwice else None)) ≡ Ok nodes
    → has_twice same_zone nodes ≡ false
once_by made nodes (Some reason) b t e = absurd (cc e)
once_by made nodes None true t e = absurd (cc e)
once_by made nodes None false t e = let same : made ≡ nodes = cc e in ap (has_twice same_zone) (sym same) ∙ t

once_of : (apex : Name) (records : List Record) (nodes : List Node) → listing_of apex records ≡ Ok nodes
    → has_twice same_zone nodes ≡ false
once_of apex records nodes e = once_by (nodes_of apex records) nodes (broken_records apex records)
    (has_twice same_zone (nodes_of apex records)) refl e

-- ---- a zone without an entry is a member afterwards exactly where it was one
by_test : (P : Judgement → Type 0) (b : Bool) (x y : Judgement) → P x → P y → P (if b then x else y)
by_test P true x y f g = f
by_test P false x y f g = g

abbrev HasNoEntry : Option What → Type 0
HasNoEntry change = (what : What) → change ≡ Some what → is_entry what ≡ false

abbrev Stays : Option MemberOf → Judgement → Type 0
Stays held j = HasNoEntry j.change → is_some j.stands ≡ is_some held

module _ (fold : FoldOf) (catalog : Name) (position : ℕ) where
  judged_stays : (held : Option MemberOf) (n : Option Node) → Stays held (judged fold catalog position held n)
  unfolding judged
  judged_stays None None = λ _. refl
  judged_stays (Some m) None =
      by_test (Stays (Some m)) (same_name m.catalog catalog) _ _ (λ h. absurd (cc (h (Removed catalog) refl)))
      (λ _. refl)
  judged_stays None (Some n) =
      by_test (Stays None) (is_catalog fold n.zone) _ _ (λ _. refl) (λ h. absurd (cc (h (Added catalog) refl)))
  judged_stays (Some m) (Some n) =
      let P : Judgement → Type 0 = Stays (Some m) in
      by_test P (is_catalog fold n.zone) _ _ (λ _. refl)
      (by_test P (same_name m.catalog catalog) _ _
      (by_test P (same_label m.label n.label) _ _
      (by_test P (option_eq bytes_eq m.choice (choice_in fold.config catalog n)) _ _ (λ _. refl) (λ _. refl))
      (λ _. refl))
      (by_test P (consents fold catalog m) _ _ (by_test P (same_label m.label n.label) _ _ (λ _. refl) (λ _. refl))
      (λ _. refl)))

found_entry : (zone : Name) (cs : List Change) (c : Change) → list_any (λ x. is_entry x.what) cs ≡ false
    → change_of zone cs ≡ Some c → is_entry c.what ≡ false
found_entry zone [] c none e = absurd (cc e)
found_entry zone (x ∷ xs) c none e = elim (cases_Bool (is_entry x.what)) [
  | inl t ↦ absurd (let bad : true ≡ false = rw t at none in cc bad)
  | inr f ↦ elim (cases_Bool (same_name x.zone zone)) [
    | inl u ↦ let same : x ≡ c = (let s : Some x ≡ Some c = rw u at e in cc s) in
        subst (λ (y : Change). is_entry y.what ≡ false) same f
    | inr g ↦ found_entry zone xs c (rw f at none) (rw g at e)
  ]
]

no_entry : (zone : Name) (cs : List Change) (o : Option Change) (r : Option What) → change_of zone cs ≡ o
    → option_map (λ (c : Change). c.what) o ≡ r → list_any (λ x. is_entry x.what) cs ≡ false → HasNoEntry r
no_entry zone cs None r e f none what is = absurd (let bad : None ≡ Some what = f ∙ is in cc bad)
no_entry zone cs (Some c) r e f none what is =
    let same : c.what ≡ what = (let s : Some c.what ≡ Some what = f ∙ is in cc s) in
    subst (λ w. is_entry w ≡ false) same (found_entry zone cs c none e)

none_any : (b : Bool) → not b ≡ true → b ≡ false
none_any true e = absurd (cc e)
none_any false e = refl

-- ---- the members and the changes of a listing
no_change : (zone : Name) (cs : List Change) (r : Option What)
    → option_map (λ c. c.what) (change_of zone cs) ≡ r → change_of zone cs ≡ None → r ≡ None
no_change zone cs r e none = sym e ∙ ap (option_map (λ (c : Change). c.what)) none

module _ (fold : FoldOf) (catalog : Name) (nodes : List Node) (position : ℕ) (ok : IsFold fold)
    (once : has_twice same_zone nodes ≡ false) where
  own_by : (zone : Name) (r : Option What)
      → IfSome (option_map (λ what. record { zone = zone; what = what }) r) (λ (c : Change). c.zone ≡ zone)
  own_by zone None = tt
  own_by zone (Some what) = refl

  changes_rise : IsStrictlySortedBy canonical_order (map (λ c. c.zone) (changes fold catalog nodes position))
  unfolding changes
  changes_rise =
      let rise = sorted_rise nodes once in
      let zones : IsStrictlySortedBy canonical_order (zones_of fold.members nodes) =
      merged canonical_order canonical_total same_name same_decides canonical_same (map (λ m. m.zone) fold.members)
      (map (λ n. n.zone) (in_zone_order nodes)) ok.rises rise in
      kept_rises canonical_order canonical_total same_name same_decides canonical_same (λ (c : Change). c.zone)
      (λ zone. option_map (λ what. record { zone = zone; what = what })
      (judged_at fold catalog nodes position zone).change)
      (λ zone. own_by zone (judged_at fold catalog nodes position zone).change) (zones_of fold.members nodes) zones

  processed : AreRelisted fold.members (process fold catalog nodes position).members
      (changes fold catalog nodes position)
  processed =
      let rise = sorted_rise nodes once in
      let each = each_zone fold catalog nodes position ok.rises rise in
      record {
        rose = ok.rises;
        rises = order_after fold catalog nodes position ok.rises rise;
        order = changes_rise;
        stays = λ zone none. each.member zone ∙ stays_without fold catalog nodes position zone
            (no_change zone (changes fold catalog nodes position) _ (each.change zone) none);
      }

  same_zones : keeps_places (changes fold catalog nodes position) ≡ true
      → AreSameZones fold.members (process fold catalog nodes position).members
  same_zones keeps =
      let rise = sorted_rise nodes once in
      let each = each_zone fold catalog nodes position ok.rises rise in
      let cs = changes fold catalog nodes position in
      let none : list_any (λ x. is_entry x.what) cs ≡ false = none_any (list_any (λ x. is_entry x.what) cs) keeps in
      zones_by fold.members (process fold catalog nodes position).members ok.rises
      (order_after fold catalog nodes position ok.rises rise)
      (λ zone. ap is_some (each.member zone)
      ∙ judged_stays fold catalog position (member_of zone fold.members) (node_of zone nodes)
      (no_entry zone cs (change_of zone cs) (judged_at fold catalog nodes position zone).change refl (each.change zone)
      none))

  listed_members : AreListed fold.members (process fold catalog nodes position).members
      (changes fold catalog nodes position)
  listed_members = record { members = processed; zones = same_zones }

-- ---- after a transfer
by_listing : (s : State) (catalog : Name) (number : ℕ) (zone : Zone) (r : Result (List Node) Reason) → IsState s
    → listing_of zone.apex zone.records ≡ r
    → IsListed s (counted (listed (with_version s number zone) catalog r)) (listing_aftermath s catalog r)
unfolding counted relisted
by_listing s catalog number zone (Err reason) ok e = tt
by_listing s catalog number zone (Ok nodes) ok e =
    listed_members s.fold catalog nodes s.count ok.fold (once_of zone.apex zone.records nodes e)

by_decision : (s : State) (zone : Name) (moment : ℕ) (o : Option ℕ) (d : Decision) → IsState s
    → IsListed s (counted (taken_from s zone moment d o)) (aftermath_from s zone d o)
unfolding catalog_after
by_decision s zone moment None d ok = tt
by_decision s zone moment (Some number) up_to_date ok = tt
by_decision s zone moment (Some number) (refused fault) ok = tt
by_decision s zone moment (Some number) (new version) ok =
    by_listing s zone number version (listing_of version.apex version.records) ok refl

pub listed_taken : (s : State) (zone : Name) (moment : ℕ) (d : Decision) → IsState s
    → IsListed s (taken s zone moment d) (aftermath_of s zone d)
unfolding taken aftermath_of
listed_taken s zone moment d ok = by_decision s zone moment (catalog_at s zone) d ok
