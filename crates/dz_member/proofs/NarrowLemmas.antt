-- A fold with the members of some zones alone: what is judged there is what the whole fold judges.
use Rattle.std.proofs.Common.{◌≡◌, ℕ, zero, suc, ◌<◌, ◌≤◌, Bool, true, false, ◌||◌, not, List, [], ◌∷◌, ◌++◌, map, length, get_or}
use Rattle.std.proofs.Common.{refl, sym, ◌∙◌, ap, subst, inl, inr, arith}
use Rattle.std.specs.Prelude.{Option, Some, None, IfSome, is_some, slice_get}
use Rattle.std.specs.Option.{option_map, ForSome}
use Rattle.std.specs.List.{find, list_any, list_all, All}
use Rattle.std.specs.List.Sorted.{IsStrictlySortedBy}
use Rattle.std.proofs.lemmas.Bool.{cases_Bool}
use Rattle.std.proofs.lemmas.List.Folds.{list_any-append}
use Rattle.std.proofs.lemmas.List.Sums.{AllPass-from_list_all}
use Rattle.std.proofs.lemmas.Option.{slice_get-get_or}
use Rattle.dz_name.specs.Words.{Name}
use Rattle.dz_name.specs.Name.{canonical_order, same_name, same_label}
use Rattle.dz_name.specs.Order.{canonical_total, canonical_same, same_decides}
use Rattle.dz_settings.specs.declared.config.CatalogSettings.{CatalogSettings}
use Rattle.dz_settings.specs.Twice.{has_twice}
use Rattle.dz_member.specs.declared.listing.Node.{Node}
use Rattle.dz_member.specs.declared.edit.Edit.{Edit}
use Rattle.dz_member.specs.declared.change.Change.{Change}
use Rattle.dz_member.specs.declared.membership.Membership.{Membership}
use Rattle.dz_member.specs.Listing.{IsListing, same_zone}
use Rattle.dz_member.specs.Membership.{MemberOf, shown, IsNumbered}
use Rattle.dz_member.specs.Fold.{FoldOf, IsFold, member_of, listing_of}
use Rattle.dz_member.specs.Process.{Judgement, judged, judged_at, node_of, in_zone_order, zones_of, process, changes}
use Rattle.dz_member.specs.Settled.{IsSettled}
use Rattle.dz_member.specs.Edit.{edited, AreEdits, AreFree, nodes_put, nodes_replaced, is_touched}
use Rattle.dz_member.specs.inner.Edits.{is_one, is_free, membership_of, IsTouched, IsReplaced, AreAfter, IsLast, IsProcessed}
use Rattle.dz_member.specs.inner.Kept.{fold_in, IsKept, catalog_at}
use Rattle.dz_member.proofs.AfterLemmas.{view_fold, view_known, view_marked}
use Rattle.dz_member.proofs.EachLemmas.{kept_rises}
use Rattle.dz_member.proofs.EditLemmas.{edited_zones, edited_listing}
use Rattle.dz_member.proofs.EditedLemmas.{found_shown}
use Rattle.dz_member.proofs.FewLemmas.{few_zones_stand}
use Rattle.dz_member.proofs.EditLemmas.{judged_touched, judged_untouched}
use Rattle.dz_member.proofs.InLemmas.{IsIn, found_in, in_all, rising_found}
use Rattle.dz_member.proofs.KeptLemmas.{zones_shown}
use Rattle.dz_member.proofs.NumberLemmas.{listing_back}
use Rattle.dz_member.proofs.OrderLemmas.{sorted_rise}
use Rattle.dz_member.proofs.SameLemmas.{changes_by_zone}
use Rattle.dz_member.proofs.ZoneLemmas.{each_zone, zones_rise, change_at, change_own, found_zone, nothing}

pub changes_rise : (fold : FoldOf) (catalog : Name) (nodes : List Node) (position : ℕ)
    → IsStrictlySortedBy canonical_order (map (λ m. m.zone) fold.members)
    → IsStrictlySortedBy canonical_order (map (λ n. n.zone) (in_zone_order nodes))
    → IsStrictlySortedBy canonical_order (map (λ c. c.zone) (changes fold catalog nodes position))
unfolding changes
changes_rise fold catalog nodes position up rise =
    kept_rises canonical_order canonical_total same_name same_decides canonical_same (λ (c : Change). c.zone)
    (λ z. option_map (change_at z) (judged_at fold catalog nodes position z).change)
    (λ z. change_own z (judged_at fold catalog nodes position z).change) (zones_of fold.members nodes)
    (zones_rise fold catalog nodes position up rise)

-- a change is known by its zone and what happened
whole : (z : Name) (o : Option Change) → IfSome o (λ c. c.zone ≡ z)
    → o ≡ option_map (change_at z) (option_map (λ c. c.what) o)
whole z None own = refl
whole z (Some c) own = λ i. Some record { zone = own i; what = c.what }

found_whole : (z : Name) (cs : List Change) → find (λ c. same_name c.zone z) cs
    ≡ option_map (change_at z) (option_map (λ c. c.what) (find (λ c. same_name c.zone z) cs))
found_whole z cs = whole z (find (λ c. same_name c.zone z) cs) (found_zone (λ (c : Change). c.zone) z cs)

all_of : {X : Type 0} (P : X → Type 0) (xs : List X) → ((x : X) → IsIn x xs → P x) → All P xs
all_of P [] h k d lt = absurd (omega (arith, lt))
all_of P (x ∷ xs) h zero d lt = h x (inl refl)
all_of P (x ∷ xs) h (suc k) d lt = all_of P xs (λ y i. h y (inr i)) k d (omega (arith, lt))

pub after_all : (P : Membership → Type 0) (before others after : List Membership) (zones : List Name)
    → IsReplaced before others zones after → All P before → All P others → All P after
after_all P before others after zones rep a b = all_of P after (λ x i.
    let found : membership_of x.zone after ≡ Some x =
    rising_found same_name same_decides (λ (m : Membership). m.zone) canonical_order canonical_total after x rep.order i in
    let is = sym (rep.each x.zone) ∙ found in
    elim (cases_Bool (is_one zones x.zone)) [
      | inl t ↦ in_all P others x b (found_in (λ m. same_name m.zone x.zone) others x (rw t at is)).0
      | inr f ↦ in_all P before x a (found_in (λ m. same_name m.zone x.zone) before x (rw f at is)).0
    ])

pub touched_all : (fold : FoldOf) (zones : List Name) (touched : List Membership) → IsTouched fold zones touched
    → All (IsNumbered fold.config) touched
touched_all fold zones touched t = all_of (IsNumbered fold.config) touched (λ x i. t.numbered x.zone x
    (rising_found same_name same_decides (λ (m : Membership). m.zone) canonical_order canonical_total touched x
    t.order i))

module _ (fold : FoldOf) (catalog : Name) (position : ℕ) where
  same_judged : (ms : List MemberOf) (h : Option MemberOf) (n : Option Node)
      → judged (record fold { members = ms }) catalog position h n ≡ judged fold catalog position h n
  unfolding judged
  same_judged ms None None = refl
  same_judged ms (Some m) None = refl
  same_judged ms None (Some n) = refl
  same_judged ms (Some m) (Some n) = refl

  module _ (zones : List Name) (put : List Node) (l : IsListing put)
      (away : (zone : Name) → is_one zones zone ≡ false → node_of zone put ≡ None) (touched : List Membership)
      (t : IsTouched fold zones touched) where
    abbrev narrow : FoldOf
    narrow = record fold { members = map (shown fold.config) touched }

    narrow_rises : IsStrictlySortedBy canonical_order (map (λ m. m.zone) narrow.members)
    narrow_rises = subst (λ (zs : List Name). IsStrictlySortedBy canonical_order zs)
        (sym (zones_shown fold.config touched)) t.order

    judged_one : (z : Name) → is_one zones z ≡ true → judged_at narrow catalog put position z
        ≡ judged fold catalog position (member_of z fold.members) (node_of z put)
    judged_one z e = same_judged narrow.members (member_of z narrow.members) (node_of z put)
        ∙ ap (λ (o : Option MemberOf). judged fold catalog position o (node_of z put)) (rw e at (t.each z))

    judged_other : (z : Name) → is_one zones z ≡ false
        → judged_at narrow catalog put position z ≡ record { stands = None; change = None }
    judged_other z e = same_judged narrow.members (member_of z narrow.members) (node_of z put)
        ∙ ((λ i. judged fold catalog position ((rw e at (t.each z)) i) (away z e i)) ∙ nothing fold catalog position)

    pub are_after : (before others after : List Membership) (cs : List Change)
        → map (shown fold.config) before ≡ fold.members
        → map (shown fold.config) others ≡ (process narrow catalog put position).members
        → IsReplaced before others zones after → cs ≡ changes narrow catalog put position
        → AreAfter fold catalog position zones put after cs
    are_after before others after cs was is rep told =
        let rise = sorted_rise put l.zones in
        let each = each_zone narrow catalog put position narrow_rises rise in
        record {
          members = λ z. sym (found_shown fold z after) ∙ (ap (option_map (shown fold.config)) (rep.each z)
              ∙ elim (cases_Bool (is_one zones z)) [
                | inl e ↦ rw e (found_shown fold z others ∙ (ap (member_of z) is ∙ (each.member z
                    ∙ ap (λ (j : Judgement). j.stands) (judged_one z e))))
                | inr e ↦ rw e (found_shown fold z before ∙ ap (member_of z) was)
              ]);
          order = rep.order;
          changes = λ z. ap (λ (xs : List Change). option_map (λ c. c.what) (find (λ c. same_name c.zone z) xs)) told
              ∙ (each.change z ∙ elim (cases_Bool (is_one zones z)) [
                | inl e ↦ rw e (ap (λ (j : Judgement). j.change) (judged_one z e))
                | inr e ↦ rw e (ap (λ (j : Judgement). j.change) (judged_other z e))
              ]);
          told = subst (λ (xs : List Change). IsStrictlySortedBy canonical_order (map (λ c. c.zone) xs)) (sym told)
              (changes_rise narrow catalog put position narrow_rises rise);
        }

-- ---- the zones that edits touch
one_of : (z : Name) (ns : List Node) → is_one (map (λ n. n.zone) ns) z ≡ is_some (node_of z ns)
one_of z [] = refl
one_of z (n ∷ ns) = elim (cases_Bool (same_name n.zone z)) [ inl t ↦ rw t refl | inr f ↦ rw f (one_of z ns) ]

pub one_touched : (z : Name) (nodes : List Node) (edits : List Edit)
    → is_one (map (λ n. n.zone) (nodes_put edits) ++ map (λ n. n.zone) (nodes_replaced nodes edits)) z
    ≡ is_touched nodes edits z
one_touched z nodes edits =
    list_any-append (λ y. same_name y z) (map (λ n. n.zone) (nodes_put edits))
    (map (λ n. n.zone) (nodes_replaced nodes edits))
    ∙ (λ i. one_of z (nodes_put edits) i || one_of z (nodes_replaced nodes edits) i)

no_node : (o : Option Node) → is_some o ≡ false → o ≡ None
no_node None e = refl
no_node (Some n) e = absurd (let bad : true ≡ false = e in cc)

left_none : (a b : Bool) → (a || b) ≡ false → a ≡ false
left_none true b e = absurd (let bad : true ≡ false = e in cc)
left_none false b e = refl

pub not_put : (put replaced : List Node) (z : Name)
    → is_one (map (λ n. n.zone) put ++ map (λ n. n.zone) replaced) z ≡ false → node_of z put ≡ None
not_put put replaced z e = no_node (node_of z put) (sym (one_of z put)
    ∙ left_none (is_one (map (λ n. n.zone) put) z) (is_one (map (λ n. n.zone) replaced) z)
    (sym (list_any-append (λ y. same_name y z) (map (λ n. n.zone) put) (map (λ n. n.zone) replaced)) ∙ e))

either : (a b : Bool) → (not a || b) ≡ true → a ≡ true → b ≡ true
either true b e t = e
either false b e t = absurd (let bad : false ≡ true = t in cc)

pub free_of : (fold : FoldOf) (catalog : Name) (edits : List Edit) (put : List Node)
    → list_all (λ n. is_free fold catalog edits n.zone) put ≡ true
    → All (λ n. ForSome (member_of n.zone fold.members)
    (λ m. same_name m.catalog catalog ≡ true → list_any (λ e. same_label e.label m.label) edits ≡ true)) put
free_of fold catalog edits put e k d lt m is mine =
    let n = get_or put k d in
    let free : is_free fold catalog edits n.zone ≡ true =
    AllPass-from_list_all (λ n. is_free fold catalog edits n.zone) put e k d lt in
    either (same_name m.catalog catalog) (list_any (λ x. same_label x.label m.label) edits) (rw is at free) mine

-- ---- after edits of a settled catalog
module _ (fold : FoldOf) (catalog : Name) (nodes : List Node) (edits : List Edit) (position : ℕ) (f : IsFold fold)
    (l : IsListing nodes) (settled : IsSettled fold catalog nodes) (a : AreEdits edits)
    (free : AreFree fold catalog edits) (once : has_twice same_zone (nodes_put edits) ≡ false)
    (after : List Membership) (cs : List Change)
    (are : AreAfter fold catalog position
    (map (λ n. n.zone) (nodes_put edits) ++ map (λ n. n.zone) (nodes_replaced nodes edits)) (nodes_put edits) after cs)
  where
    abbrev members : List MemberOf
    members = map (shown fold.config) after

    new : (z : Name) → is_touched nodes edits z ≡ true → member_of z members
        ≡ (judged fold catalog position (member_of z fold.members) (node_of z (nodes_put edits))).stands
    new z t = rw (one_touched z nodes edits, t) at (are.members z)

    old : (z : Name) → is_touched nodes edits z ≡ false → member_of z members ≡ member_of z fold.members
    old z t = rw (one_touched z nodes edits, t) at (are.members z)

    pub few_members : members ≡ (process fold catalog (edited nodes edits) position).members
    few_members = few_zones_stand fold catalog nodes edits position f l settled a free once members
        (subst (λ (zs : List Name). IsStrictlySortedBy canonical_order zs) (sym (zones_shown fold.config after)) are.order)
        new old

    rise : IsStrictlySortedBy canonical_order (map (λ (n : Node). n.zone) (in_zone_order (edited nodes edits)))
    rise = sorted_rise (edited nodes edits) (edited_zones fold catalog nodes edits l settled a free once)

    told : (z : Name) → option_map (λ (c : Change). c.what) (find (λ c. same_name c.zone z) cs)
        ≡ (judged_at fold catalog (edited nodes edits) position z).change
    told z = elim (cases_Bool (is_touched nodes edits z)) [
      | inl t ↦ (rw (one_touched z nodes edits, t) at (are.changes z))
          ∙ ap (λ (j : Judgement). j.change) (sym (judged_touched fold catalog nodes edits l settled a free once position z t))
      | inr u ↦ (rw (one_touched z nodes edits, u) at (are.changes z))
          ∙ ap (λ (j : Judgement). j.change) (sym (judged_untouched fold catalog nodes edits l settled a free once position z u))
    ]

    pub few_changes : cs ≡ changes fold catalog (edited nodes edits) position
    few_changes =
        let all = changes fold catalog (edited nodes edits) position in
        changes_by_zone cs all are.told (changes_rise fold catalog (edited nodes edits) position f.rises rise) (λ z.
        found_whole z cs ∙ (ap (option_map (change_at z)) (told z
        ∙ sym ((each_zone fold catalog (edited nodes edits) position f.rises rise).change z)) ∙ sym (found_whole z all)))

-- the same, of the nodes that were put in and the zones as they are kept
pub record AreFew (fold : FoldOf) (catalog : Name) (nodes : List Node) (edits : List Edit) (position : ℕ)
    (after : List Membership) (cs : List Change) : Type 0 where
  pub members_are : map (shown fold.config) after ≡ (process fold catalog (edited nodes edits) position).members
  pub changes_are : cs ≡ changes fold catalog (edited nodes edits) position

module _ (fold : FoldOf) (catalog : Name) (nodes : List Node) (edits : List Edit) (position : ℕ) (f : IsFold fold)
    (l : IsListing nodes) (settled : IsSettled fold catalog nodes) (a : AreEdits edits)
    (free : AreFree fold catalog edits) (put : List Node) (is : put ≡ nodes_put edits) (listed : IsListing put) where
  once_put : has_twice same_zone (nodes_put edits) ≡ false
  once_put = subst (λ (ns : List Node). has_twice same_zone ns ≡ false) is listed.zones

  pub few_listing : length (edited nodes edits) ≤ 65536 → IsListing (edited nodes edits)
  few_listing few = edited_listing fold catalog nodes edits l settled a free once_put few

  pub few_after : (zones : List Name)
      → zones ≡ map (λ n. n.zone) put ++ map (λ n. n.zone) (nodes_replaced nodes edits) → (after : List Membership)
      → (cs : List Change) → AreAfter fold catalog position zones put after cs
      → AreFew fold catalog nodes edits position after cs
  few_after zones zs after cs are =
      let first = subst (λ (ys : List Name). AreAfter fold catalog position ys put after cs) zs are in
      let second = subst (λ (ns : List Node). AreAfter fold catalog position
      (map (λ n. n.zone) ns ++ map (λ n. n.zone) (nodes_replaced nodes edits)) ns after cs) is first in
      record {
        members_are = few_members fold catalog nodes edits position f l settled a free once_put after cs second;
        changes_are = few_changes fold catalog nodes edits position f l settled a free once_put after cs second;
      }

-- ---- the last listing of a catalog that is marked
pub if_map : {X Y : Type 0} (f : X → Y) (P : Y → Type 0) (o : Option X) → IfSome (option_map f o) P
    → IfSome o (λ x. P (f x))
if_map f P None h = h
if_map f P (Some x) h = h

pub if_weaker : {X : Type 0} (P Q : X → Type 0) → ((x : X) → P x → Q x) → (o : Option X) → IfSome o P → IfSome o Q
if_weaker P Q f None h = h
if_weaker P Q f (Some x) h = f x h

pub last_processed : (fold : FoldOf) (name catalog : Name) (ns nodes : List Node) (edits : List Edit) (position : ℕ)
    → name ≡ catalog → listing_of fold name ≡ Some ns → listing_of fold catalog ≡ Some nodes → (after : FoldOf)
    → (cs : List Change) → IsProcessed fold name (edited ns edits) position after cs
    → IsProcessed fold catalog (edited nodes edits) position after cs
last_processed fold name catalog ns nodes edits position is a b after cs p =
    let both : Some ns ≡ Some nodes = sym a ∙ (ap (listing_of fold) is ∙ b) in
    let same : ns ≡ nodes = cc in
    subst (λ (xs : List Node). IsProcessed fold catalog (edited xs edits) position after cs) same
    (subst (λ (z : Name). IsProcessed fold z (edited ns edits) position after cs) is p)

pub last_marked : (fold : FoldOf) (catalogs : List CatalogSettings) (members : List Membership)
    (listings : List (Option (List Node))) (settled : List Bool) → fold_in catalogs members listings ≡ fold
    → IsKept catalogs members listings settled → (k : ℕ) → k < length fold.config → get_or settled k false ≡ true
    → (o : Option (List Node)) → o ≡ get_or fold.listings k None → IfSome o (λ ns. IsLast fold (catalog_at fold k) ns)
last_marked fold catalogs members listings settled view kept k inside mark None e = tt
last_marked fold catalogs members listings settled view kept k inside mark (Some ns) e =
    let f = view_fold fold catalogs members listings settled view kept in
    let at : slice_get fold.listings k ≡ Some (Some ns) =
    slice_get-get_or fold.listings k None (omega (arith, f.each, inside)) ∙ ap Some (sym e) in
    let config : length catalogs ≡ length fold.config = ap (λ (g : FoldOf). length g.config) view in
    record {
      known = listing_back fold k f.allowed inside ∙ sym e;
      listing = view_known fold catalogs members listings settled view kept k ns at;
      settled = view_marked fold catalogs members listings settled view kept k ns
          (slice_get-get_or settled k false (omega (arith, kept.marks, config, inside)) ∙ ap Some mark) at;
    }
