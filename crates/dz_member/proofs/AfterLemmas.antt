-- The fold after a listing: what it has is kept, and the marks of settled catalogs are right.
use Rattle.std.proofs.Common.{◌≡◌, ℕ, ◌<◌, Bool, true, false, not, ◌&&◌, List, [], ◌∷◌, map, length, get_or, refl, sym}
use Rattle.std.proofs.Common.{◌∙◌, ap, subst, inl, inr, arith, ◌^◌, replicate}
use Rattle.std.specs.Prelude.{Option, Some, None, slice_get, slice_set, slice_index_or, nat_eq}
use Rattle.std.specs.List.{All, AllByRecursion, list_any, range_with_len}
use Rattle.std.specs.List.Sorted.{IsStrictlySortedBy}
use Rattle.std.proofs.lemmas.Bool.{cases_eq, false_from_ne_true, or_parts}
use Rattle.std.proofs.lemmas.Bool.Decides.{nat_tests}
use Rattle.std.proofs.lemmas.List.{get_or-set_same, get_or-set_other, length-set, length-replicate, get_or-replicate}
use Rattle.std.proofs.lemmas.List.Elements.{recursion_from_All}
use Rattle.std.proofs.lemmas.List.FromFn.{get_or-map-range_with_len, length-map-range_with_len}
use Rattle.std.proofs.lemmas.Option.{slice_get-get_or, slice_get_within, get_or_from_slice_get}
use Rattle.dz_name.specs.Words.{Name}
use Rattle.dz_name.specs.Name.{canonical_order, same_name}
use Rattle.dz_name.specs.Order.{same_decides}
use Rattle.dz_settings.specs.declared.config.CatalogSettings.{CatalogSettings}
use Rattle.dz_settings.specs.Config.{IsAllowed}
use Rattle.dz_member.specs.declared.listing.Node.{Node}
use Rattle.dz_member.specs.declared.membership.Membership.{Membership}
use Rattle.dz_member.specs.declared.change.Change.{Change}
use Rattle.dz_member.specs.declared.change.Happening.{Happening}
use Rattle.dz_member.specs.declared.change.Happened.{Happened}
use Rattle.dz_member.specs.declared.change.Happened.TheVariants as happened
use Rattle.dz_member.specs.Listing.{IsListing}
use Rattle.dz_member.specs.Laws.{is_clash}
use Rattle.dz_member.specs.Membership.{MemberOf, settings_at, shown, IsNumbered}
use Rattle.dz_member.specs.Fold.{FoldOf, IsFold}
use Rattle.dz_member.specs.Process.{process, changes, EachZone}
use Rattle.dz_member.specs.Settled.{IsSettled, moves_from}
use Rattle.dz_member.specs.inner.Happened.{what_of, change_of, IsConfigured, clashes, leaves, is_settled_after}
use Rattle.dz_member.specs.inner.Kept.{fold_in, IsKept}
use Rattle.dz_member.proofs.KeptLemmas.{zones_shown}
use Rattle.dz_member.proofs.NumberLemmas.{number_back, one_number}
use Rattle.dz_member.proofs.ProcessLemmas.{fold_is}
use Rattle.dz_member.proofs.OrderLemmas.{sorted_rise}
use Rattle.dz_member.proofs.SettledLemmas.{settled_after, others_settled}
use Rattle.dz_member.proofs.ZoneLemmas.{order_after, each_zone}

-- ---- what is told by numbers is told by names
any_along : {X Y : Type 0} (P : X → Type 0) (f : X → Y) (p : X → Bool) (q : Y → Bool)
    → ((x : X) → P x → p x ≡ false → q (f x) ≡ false) → (xs : List X) → AllByRecursion P xs
    → list_any p xs ≡ false → list_any q (map f xs) ≡ false
any_along P f p q h [] a e = refl
any_along P f p q h (x ∷ xs) a e =
    let parts = or_parts (p x) (list_any p xs) e in
    rw (h x a.0 parts.0) (any_along P f p q h xs a.1 parts.1)

no_clash : (cs : List CatalogSettings) (what : Happened) → clashes what ≡ false → is_clash (what_of cs what) ≡ false
no_clash cs (happened.Added n) e = refl
no_clash cs (happened.Removed n) e = refl
no_clash cs (happened.Reset n) e = refl
no_clash cs (happened.Moved a b) e = refl
no_clash cs (happened.MovedReset a b) e = refl
no_clash cs (happened.Clash None) e = absurd (let bad : true ≡ false = e in cc)
no_clash cs (happened.Clash (Some n)) e = absurd (let bad : true ≡ false = e in cc)
no_clash cs (happened.Regrouped n) e = refl

module _ (cs : List CatalogSettings) (allowed : IsAllowed cs) (n : ℕ) (inside : n < length cs) where
  apart : (a : ℕ) → a < length cs → nat_eq a n ≡ false
      → same_name (settings_at cs a).name (settings_at cs n).name ≡ false
  apart a lt e = false_from_ne_true (same_name (settings_at cs a).name (settings_at cs n).name) (λ t.
      let same : a ≡ n = (one_number cs a n allowed lt inside).0 t in
      let yes : nat_eq a n ≡ true = grind (arith, nat_tests, same) in
      let bad : true ≡ false = sym yes ∙ e in cc)

  no_move : (what : Happened) → IsConfigured cs what → leaves n what ≡ false
      → moves_from (settings_at cs n).name (what_of cs what) ≡ false
  no_move (happened.Added a) i e = refl
  no_move (happened.Removed a) i e = refl
  no_move (happened.Reset a) i e = refl
  no_move (happened.Moved a b) i e = apart a i.0 e
  no_move (happened.MovedReset a b) i e = apart a i.0 e
  no_move (happened.Clash None) i e = refl
  no_move (happened.Clash (Some a)) i e = refl
  no_move (happened.Regrouped a) i e = refl

not_true : (b : Bool) → not b ≡ true → b ≡ false
not_true true e = absurd (cc)
not_true false e = refl

and_parts : (a b : Bool) → (a && b) ≡ true → (a ≡ true) × (b ≡ true)
and_parts true b e = (refl, e)
and_parts false b e = absurd (cc)

-- ---- the listing that is the last one now, and the others
record Last (listings : List (Option (List Node))) (k n : ℕ) (nodes ns : List Node) : Type 0 where
  pub this : n ≡ k → ns ≡ nodes
  pub other : (n ≡ k → ⊥) → slice_get listings n ≡ Some (Some ns)

last_of : (listings : List (Option (List Node))) (k n : ℕ) (nodes ns : List Node) → k < length listings
    → slice_get (slice_set listings k (Some nodes)) n ≡ Some (Some ns) → Last listings k n nodes ns
last_of listings k n nodes ns lt e =
    let next = slice_set listings k (Some nodes) in
    let within : n < length next = slice_get_within next n (Some ns) e in
    let at : get_or next n None ≡ Some ns = get_or_from_slice_get next n (Some ns) None e in
    record {
      this = λ same.
          let here : get_or next k None ≡ Some nodes = get_or-set_same listings k (Some nodes) None lt in
          let there : get_or next k None ≡ Some ns = subst (λ (i : ℕ). get_or next i None ≡ Some ns) same at in
          let both : Some nodes ≡ Some ns = sym here ∙ there in cc;
      other = λ differ.
          let old : get_or next n None ≡ get_or listings n None =
          get_or-set_other listings k n (Some nodes) None differ in
          let less : n < length listings = omega (arith, within, length-set listings k (Some nodes)) in
          slice_get-get_or listings n None less ∙ ap Some (sym old ∙ at);
    }

module _ (fold : FoldOf) (k : ℕ) (nodes : List Node) (position : ℕ) (f : IsFold fold) (inside : k < length fold.config)
    (l : IsListing nodes) where
  abbrev name : Name
  name = (settings_at fold.config k).name

  pub is_after : (members : List MemberOf) → members ≡ (process fold name nodes position).members
      → record fold { members = members; listings = slice_set fold.listings k (Some nodes) }
      ≡ process fold name nodes position
  is_after members is = fold_is fold name nodes nodes position k members refl (number_back fold.config k f.allowed inside) is

  pub after_each : (after : FoldOf) (cs : List Change) → after ≡ process fold name nodes position
      → cs ≡ changes fold name nodes position → EachZone fold name nodes position after cs
  after_each after cs a b =
      let each = each_zone fold name nodes position f.rises (sorted_rise nodes l.zones) in
      subst (λ (r : List Change). EachZone fold name nodes position after r) (sym b)
      (subst (λ (g : FoldOf). EachZone fold name nodes position g (changes fold name nodes position)) (sym a) each)

  pub after_fold : (members : List MemberOf) → members ≡ (process fold name nodes position).members
      → IsFold (record fold { members = members; listings = slice_set fold.listings k (Some nodes) })
  after_fold members is = record {
    allowed = f.allowed;
    rises = subst (λ (ms : List MemberOf). IsStrictlySortedBy canonical_order (map (λ m. m.zone) ms)) (sym is)
        (order_after fold name nodes position f.rises (sorted_rise nodes l.zones));
    each = length-set fold.listings k (Some nodes) ∙ f.each;
  }

  pub after_known : ((n : ℕ) (ns : List Node) → slice_get fold.listings n ≡ Some (Some ns) → IsListing ns)
      → (n : ℕ) (ns : List Node) → slice_get (slice_set fold.listings k (Some nodes)) n ≡ Some (Some ns) → IsListing ns
  after_known known n ns e =
      let last = last_of fold.listings k n nodes ns (omega (arith, f.each, inside)) e in
      elim (cases_eq n k) [
        | inl same ↦ subst IsListing (sym (last.this same)) l
        | inr differ ↦ known n ns (last.other differ)
      ]

  module _ (settled : List Bool) (hs : List Happening)
      (told : map (change_of fold.config) hs ≡ changes fold name nodes position)
      (configured : All (λ h. IsConfigured fold.config h.what) hs) (marks : length settled ≡ length fold.config)
      (known : (n : ℕ) (ns : List Node) → slice_get fold.listings n ≡ Some (Some ns) → IsListing ns)
      (marked : (n : ℕ) (ns : List Node) → slice_get settled n ≡ Some true
      → slice_get fold.listings n ≡ Some (Some ns) → IsSettled fold (settings_at fold.config n).name ns) where
    abbrev next : List Bool
    next = map (is_settled_after settled k hs) (range_with_len 0 (length settled))

    every : AllByRecursion (λ (h : Happening). IsConfigured fold.config h.what) hs
    every = recursion_from_All (λ (h : Happening). IsConfigured fold.config h.what) hs configured

    mine : list_any (λ h. clashes h.what) hs ≡ false → IsSettled (process fold name nodes position) name nodes
    mine none = settled_after fold name nodes position f l
        (rw (number_back fold.config k f.allowed inside) refl)
        (subst (λ (cs : List Change). list_any (λ c. is_clash c.what) cs ≡ false) told
        (any_along (λ (h : Happening). IsConfigured fold.config h.what) (change_of fold.config) (λ h. clashes h.what)
        (λ c. is_clash c.what) (λ h i e. no_clash fold.config h.what e) hs every none))

    others : (n : ℕ) (ns : List Node) → n < length fold.config → nat_eq n k ≡ false → slice_get settled n ≡ Some true
        → slice_get fold.listings n ≡ Some (Some ns) → list_any (λ h. leaves n h.what) hs ≡ false
        → IsSettled (process fold name nodes position) (settings_at fold.config n).name ns
    others n ns lt differ mark e none =
        let away : same_name (settings_at fold.config n).name name ≡ false =
        apart fold.config f.allowed k inside n lt differ in
        others_settled fold name (settings_at fold.config n).name nodes ns position f l
        (λ same. let t : same_name (settings_at fold.config n).name name ≡ true =
        (same_decides (settings_at fold.config n).name name).1 same in
        let bad : true ≡ false = sym t ∙ away in cc)
        (marked n ns mark e)
        (subst (λ (cs : List Change). list_any (λ c. moves_from (settings_at fold.config n).name c.what) cs ≡ false)
        told
        (any_along (λ (h : Happening). IsConfigured fold.config h.what) (change_of fold.config)
        (λ h. leaves n h.what) (λ c. moves_from (settings_at fold.config n).name c.what)
        (λ h i e. no_move fold.config f.allowed n lt h.what i e) hs every none))

    pub after_marked : (n : ℕ) (ns : List Node) → slice_get next n ≡ Some true
        → slice_get (slice_set fold.listings k (Some nodes)) n ≡ Some (Some ns)
        → IsSettled (process fold name nodes position) (settings_at fold.config n).name ns
    after_marked n ns mark e =
        let last = last_of fold.listings k n nodes ns (omega (arith, f.each, inside)) e in
        let long : length next ≡ length settled =
        length-map-range_with_len (is_settled_after settled k hs) 0 (length settled) in
        let within : n < length settled = omega (arith, long, slice_get_within next n true mark) in
        let at : is_settled_after settled k hs n ≡ true =
        sym (get_or-map-range_with_len (is_settled_after settled k hs) 0 (length settled) n n false within
        (omega arith)) ∙ get_or_from_slice_get next n true false mark in
        elim (cases_eq n k) [
          | inl same ↦
              let t : nat_eq n k ≡ true = grind (arith, nat_tests, same) in
              let none : not (list_any (λ h. clashes h.what) hs) ≡ true = rw t at at in
              subst (λ (xs : List Node). IsSettled (process fold name nodes position) (settings_at fold.config n).name xs)
              (sym (last.this same))
              (subst (λ (i : ℕ). IsSettled (process fold name nodes position) (settings_at fold.config i).name nodes)
              (sym same) (mine (not_true _ none)))
          | inr differ ↦
              let d : nat_eq n k ≡ false = grind (arith, nat_tests, differ) in
              let both : (slice_index_or settled n false && not (list_any (λ h. leaves n h.what) hs)) ≡ true =
              rw d at at in
              let parts = and_parts _ _ both in
              let was : slice_get settled n ≡ Some true =
              slice_get-get_or settled n false within ∙ ap Some parts.0 in
              others n ns (omega (arith, marks, within)) d was (last.other differ) (not_true _ parts.1)
        ]

-- ---- what is kept afterwards
module _ (fold : FoldOf) (catalogs : List CatalogSettings) (members : List Membership)
    (listings : List (Option (List Node))) (settled : List Bool) (view : fold_in catalogs members listings ≡ fold)
    (kept : IsKept catalogs members listings settled) where
  pub view_fold : IsFold fold
  view_fold = subst IsFold view kept.fold

  pub view_known : (n : ℕ) (ns : List Node) → slice_get fold.listings n ≡ Some (Some ns) → IsListing ns
  view_known n ns e = kept.known n ns
      (subst (λ (f : FoldOf). slice_get f.listings n ≡ Some (Some ns)) (sym view) e)

  view_marks : length settled ≡ length fold.config
  view_marks = subst (λ (f : FoldOf). length settled ≡ length f.config) view kept.marks

  pub view_marked : (n : ℕ) (ns : List Node) → slice_get settled n ≡ Some true → slice_get fold.listings n ≡ Some (Some ns)
      → IsSettled fold (settings_at fold.config n).name ns
  view_marked n ns t e = subst (λ (f : FoldOf). IsSettled f (settings_at f.config n).name ns) view
      (kept.marked n ns t (subst (λ (f : FoldOf). slice_get f.listings n ≡ Some (Some ns)) (sym view) e))

  none_marked : (count n : ℕ) → slice_get (replicate count false) n ≡ Some true → ⊥
  none_marked count n e =
      let within = slice_get_within (replicate count false) n true e in
      let at : get_or (replicate count false) n false ≡ true =
      get_or_from_slice_get (replicate count false) n true false e in
      let none = get_or-replicate count n false false (omega (arith, within, length-replicate {A = Bool} count false)) in
      let bad : false ≡ true = sym none ∙ at in cc

  pub kept_narrowed : (ms : List Membership) (count : ℕ) → IsStrictlySortedBy canonical_order (map (λ m. m.zone) ms)
      → All (IsNumbered fold.config) ms → length ms < 2 ^ 63 → count ≡ length fold.config
      → IsKept fold.config ms fold.listings (replicate count false)
  kept_narrowed ms count up numbered few is = record {
    fold = record {
      allowed = view_fold.allowed;
      rises = subst (λ (zs : List Name). IsStrictlySortedBy canonical_order zs) (sym (zones_shown fold.config ms)) up;
      each = view_fold.each;
    };
    numbered = numbered;
    few = few;
    known = view_known;
    marks = length-replicate count false ∙ is;
    marked = λ n ns t e. absurd (none_marked count n t);
  }

  module _ (k : ℕ) (nodes : List Node) (position : ℕ) (inside : k < length fold.config) (l : IsListing nodes)
      (after : List Membership) (is : map (shown fold.config) after
      ≡ (process fold (settings_at fold.config k).name nodes position).members) where
    pub kept_after : (hs : List Happening) → All (IsNumbered fold.config) after → length after < 2 ^ 63
        → map (change_of fold.config) hs ≡ changes fold (settings_at fold.config k).name nodes position
        → All (λ h. IsConfigured fold.config h.what) hs
        → IsKept fold.config after (slice_set fold.listings k (Some nodes))
        (map (is_settled_after settled k hs) (range_with_len 0 (length settled)))
    kept_after hs numbered few told configured = record {
      fold = after_fold fold k nodes position view_fold inside l (map (shown fold.config) after) is;
      numbered = numbered;
      few = few;
      known = after_known fold k nodes position view_fold inside l view_known;
      marks = length-map-range_with_len (is_settled_after settled k hs) 0 (length settled) ∙ view_marks;
      marked = λ n ns t e.
          subst (λ (f : FoldOf). IsSettled f (settings_at fold.config n).name ns)
          (sym (is_after fold k nodes position view_fold inside l (map (shown fold.config) after) is))
          (after_marked fold k nodes position view_fold inside l settled hs told configured view_marks view_known
          view_marked n ns t e);
    }
