-- Catalogs that are settled: what they hold is what they list, and stays so.
use Rattle.std.proofs.Common.{◌≡◌, ◌≢◌, ℕ, Bool, true, false, List, refl, sym, ◌∙◌, ap, subst, inl, inr}
use Rattle.std.specs.Prelude.{Option, Some, None, IsSome}
use Rattle.std.specs.Option.{option_map, option_eq}
use Rattle.std.specs.List.{find, list_any}
use Rattle.std.specs.Str.{bytes_eq}
use Rattle.std.proofs.lemmas.Bool.{cases_Bool, false_from_ne_true}
use Rattle.std.proofs.lemmas.Slice.Eq.{bytes_eq-Decides}
use Rattle.dz_name.specs.Words.{Name, Octets}
use Rattle.dz_name.specs.Name.{same_name, same_label}
use Rattle.dz_name.specs.Order.{same_decides, same_label_decides}
use Rattle.dz_member.specs.declared.listing.Node.{Node}
use Rattle.dz_member.specs.declared.change.What.{What}
use Rattle.dz_member.specs.declared.change.What.TheVariants.{Added, Removed, Reset, Moved, MovedReset, Clash}
use Rattle.dz_member.specs.declared.change.What.TheVariants.{Regrouped}
use Rattle.dz_member.specs.declared.change.Change.{Change}
use Rattle.dz_member.specs.Listing.{IsListing}
use Rattle.dz_member.specs.Membership.{MemberOf}
use Rattle.dz_member.specs.Fold.{FoldOf, IsFold, member_of, number_of}
use Rattle.dz_member.specs.Process.{Judgement, judged, judged_at, choice_in, consents, is_catalog, node_of, process}
use Rattle.dz_member.specs.Process.{changes}
use Rattle.dz_member.specs.Laws.{is_clash, told_again}
use Rattle.dz_member.specs.Settled.{IsSettled, moves_from}
use Rattle.dz_member.proofs.InLemmas.{found_in, any_in}
use Rattle.dz_member.proofs.LawLemmas.{every}
use Rattle.dz_member.proofs.ZoneLemmas.{each_zone}
use Rattle.dz_member.proofs.OrderLemmas.{sorted_rise}
use Rattle.dz_member.proofs.AgainLemmas.{changes_once}

same_choice : (a b : Option Octets) → option_eq bytes_eq a b ≡ true → a ≡ b
same_choice None None t = refl
same_choice None (Some b) t = absurd (cc)
same_choice (Some a) None t = absurd (cc)
same_choice (Some a) (Some b) t = ap Some ((bytes_eq-Decides a b).0 t)

choice_itself : (a b : Option Octets) → a ≡ b → option_eq bytes_eq a b ≡ true
choice_itself None None e = refl
choice_itself None (Some b) e = absurd (cc)
choice_itself (Some a) None e = absurd (cc)
choice_itself (Some a) (Some b) e = let same : a ≡ b = cc in (bytes_eq-Decides a b).1 same

-- ---- a zone that is listed, and of which nothing is told
pub record IsHeld (fold : FoldOf) (catalog : Name) (held : Option MemberOf) (n : Node) : Type 0 where
  pub member : MemberOf
  pub is : held ≡ Some member
  pub mine : member.catalog ≡ catalog
  pub label : member.label ≡ n.label
  pub choice : member.choice ≡ choice_in fold.config catalog n
  pub other : is_catalog fold n.zone ≡ false

told : (X : Type 0) (what : What) (o : Option What) → o ≡ Some what → o ≡ None → X
told X what o e f = absurd (let q : Some what ≡ None = sym e ∙ f in cc)

module _ (fold : FoldOf) (catalog : Name) (p : ℕ) where
  held_none : (n : Node) → (judged fold catalog p None (Some n)).change ≡ None → IsHeld fold catalog None n
  unfolding judged
  held_none n e =
      elim (cases_Bool (is_catalog fold n.zone)) [
        | inl t ↦ absurd (let q : Some (Clash None) ≡ None = rw t at e in cc)
        | inr f ↦ absurd (let q : Some (Added catalog) ≡ None = rw f at e in cc)
      ]

  held_some : (m : MemberOf) (n : Node) → (judged fold catalog p (Some m) (Some n)).change ≡ None
      → IsHeld fold catalog (Some m) n
  unfolding judged
  held_some m n e =
      elim (cases_Bool (is_catalog fold n.zone)) [
        | inl t ↦ absurd (let q : Some (Clash None) ≡ None = rw t at e in cc)
        | inr f ↦ elim (cases_Bool (same_name m.catalog catalog)) [
          | inl c ↦ elim (cases_Bool (same_label m.label n.label)) [
            | inl l ↦ elim (cases_Bool (option_eq bytes_eq m.choice (choice_in fold.config catalog n))) [
              | inl w ↦ record {
                member = m;
                is = refl;
                mine = (same_decides m.catalog catalog).0 c;
                label = (same_label_decides m.label n.label).0 l;
                choice = same_choice m.choice (choice_in fold.config catalog n) w;
                other = f;
              }
              | inr w ↦ absurd (let q : Some (Regrouped catalog) ≡ None = rw (f, c, l, w) at e in cc)
            ]
            | inr l ↦ absurd (let q : Some (Reset catalog) ≡ None = rw (f, c, l) at e in cc)
          ]
          | inr c ↦ elim (cases_Bool (consents fold catalog m)) [
            | inl y ↦ elim (cases_Bool (same_label m.label n.label)) [
              | inl l ↦ absurd (let q : Some (Moved m.catalog catalog) ≡ None = rw (f, c, y, l) at e in cc)
              | inr l ↦ absurd (let q : Some (MovedReset m.catalog catalog) ≡ None = rw (f, c, y, l) at e in cc)
            ]
            | inr y ↦ absurd (let q : Some (Clash (Some m.catalog)) ≡ None = rw (f, c, y) at e in cc)
          ]
        ]
      ]

  pub settled_held : (held : Option MemberOf) (n : Node) → (judged fold catalog p held (Some n)).change ≡ None
      → IsHeld fold catalog held n
  settled_held None n e = held_none n e
  settled_held (Some m) n e = held_some m n e

  settled_back : (held : Option MemberOf) (n : Node) → IsHeld fold catalog held n
      → (judged fold catalog p held (Some n)).change ≡ None
  unfolding judged
  settled_back None n h = absurd (let e = h.is in cc)
  settled_back (Some m) n h =
      let same : h.member ≡ m = (let e : Some m ≡ Some h.member = h.is in cc) in
      let c : same_name m.catalog catalog ≡ true =
      (same_decides m.catalog catalog).1 (ap (λ (x : MemberOf). x.catalog) (sym same) ∙ h.mine) in
      let l : same_label m.label n.label ≡ true =
      (same_label_decides m.label n.label).1 (ap (λ (x : MemberOf). x.label) (sym same) ∙ h.label) in
      let w : option_eq bytes_eq m.choice (choice_in fold.config catalog n) ≡ true =
      choice_itself m.choice (choice_in fold.config catalog n)
      (ap (λ (x : MemberOf). x.choice) (sym same) ∙ h.choice) in
      rw (h.other, c, l, w) refl

  settled_left : (m : MemberOf) → (judged fold catalog p (Some m) None).change ≡ None
      → same_name m.catalog catalog ≡ false
  unfolding judged
  settled_left m e =
      elim (cases_Bool (same_name m.catalog catalog)) [
        | inr f ↦ f
        | inl t ↦ absurd (let q : Some (Removed catalog) ≡ None = rw t at e in cc)
      ]

  left_settled : (held : Option MemberOf)
      → ((m : MemberOf) → held ≡ Some m → same_name m.catalog catalog ≡ false)
      → (judged fold catalog p held None).change ≡ None
  unfolding judged
  left_settled None h = refl
  left_settled (Some m) h = rw (h m refl) refl

  -- a zone that another catalog holds, and that doesn't leave it, stays as it is
  stays_there : (m : MemberOf) (n : Option Node) → same_name m.catalog catalog ≡ false
      → ((what : What) → (judged fold catalog p (Some m) n).change ≡ Some what → moves_from m.catalog what ≡ false)
      → (judged fold catalog p (Some m) n).stands ≡ Some m
  unfolding judged
  stays_there m None c h = rw c refl
  stays_there m (Some n) c h =
      let itself : same_name m.catalog m.catalog ≡ true = (same_decides m.catalog m.catalog).1 refl in
      elim (cases_Bool (is_catalog fold n.zone)) [
        | inl t ↦ rw t refl
        | inr f ↦ elim (cases_Bool (consents fold catalog m)) [
          | inr y ↦ rw (f, c, y) refl
          | inl y ↦ elim (cases_Bool (same_label m.label n.label)) [
            | inl l ↦ absurd (let q : same_name m.catalog m.catalog ≡ false =
                h (Moved m.catalog catalog) (rw (f, c, y, l) refl) in
                let bad : true ≡ false = sym itself ∙ q in cc)
            | inr l ↦ absurd (let q : same_name m.catalog m.catalog ≡ false =
                h (MovedReset m.catalog catalog) (rw (f, c, y, l) refl) in
                let bad : true ≡ false = sym itself ∙ q in cc)
          ]
        ]
      ]

-- ---- what a settled catalog lists, it holds, and the other way round
pub settled_node : (fold : FoldOf) (catalog : Name) (nodes : List Node) (zone : Name) (n : Node)
    → IsSettled fold catalog nodes → node_of zone nodes ≡ Some n
    → (m : MemberOf) × (member_of zone fold.members ≡ Some m) × (m.catalog ≡ catalog) × (m.label ≡ n.label)
    × (m.choice ≡ choice_in fold.config catalog n)
settled_node fold catalog nodes zone n settled e =
    let h = settled_held fold catalog 0 (member_of zone fold.members) n
    (subst (λ (o : Option Node). (judged fold catalog 0 (member_of zone fold.members) o).change ≡ None) e
    (settled 0 zone)) in
    (h.member, h.is, h.mine, h.label, h.choice)

member_settled : (fold : FoldOf) (catalog : Name) (m : MemberOf) (o : Option Node)
    → (judged fold catalog 0 (Some m) o).change ≡ None → m.catalog ≡ catalog
    → (n : Node) × (o ≡ Some n) × (n.label ≡ m.label)
member_settled fold catalog m None e mine = absurd (
    let f = settled_left fold catalog 0 m e in
    let t : same_name m.catalog catalog ≡ true = (same_decides m.catalog catalog).1 mine in
    let bad : true ≡ false = sym t ∙ f in cc
    )
member_settled fold catalog m (Some n) e mine =
    let h = settled_held fold catalog 0 (Some m) n e in
    let same : m ≡ h.member = (let q : Some m ≡ Some h.member = h.is in cc) in
    (n, refl, sym h.label ∙ ap (λ (x : MemberOf). x.label) (sym same))

pub settled_member : (fold : FoldOf) (catalog : Name) (nodes : List Node) (zone : Name) (m : MemberOf)
    → IsSettled fold catalog nodes → member_of zone fold.members ≡ Some m → m.catalog ≡ catalog
    → (n : Node) × (node_of zone nodes ≡ Some n) × (n.label ≡ m.label)
settled_member fold catalog nodes zone m settled e mine =
    member_settled fold catalog m (node_of zone nodes)
    (subst (λ (o : Option MemberOf). (judged fold catalog 0 o (node_of zone nodes)).change ≡ None) e (settled 0 zone))
    mine

-- ---- what is told of no zone is no change of any zone
what_tested : (test : What → Bool) (o : Option Change) (what : What) → ((c : Change) → o ≡ Some c → test c.what ≡ false)
    → option_map (λ (c : Change). c.what) o ≡ Some what → test what ≡ false
what_tested test None what h e = absurd (cc)
what_tested test (Some c) what h e =
    let same : c.what ≡ what = cc in subst (λ w. test w ≡ false) same (h c refl)

pub change_tested : (fold : FoldOf) (catalog : Name) (nodes : List Node) (position : ℕ) → IsFold fold → IsListing nodes
    → (test : What → Bool) → list_any (λ c. test c.what) (changes fold catalog nodes position) ≡ false
    → (zone : Name) (what : What) → (judged_at fold catalog nodes position zone).change ≡ Some what
    → test what ≡ false
change_tested fold catalog nodes position h l test none zone what e =
    let cs = changes fold catalog nodes position in
    let each = each_zone fold catalog nodes position h.rises (sorted_rise nodes l.zones) in
    what_tested test (find (λ c. same_name c.zone zone) cs) what
    (λ c found. false_from_ne_true (test c.what) (λ t.
    let i = found_in (λ (c : Change). same_name c.zone zone) cs c found in
    let q : list_any (λ c. test c.what) cs ≡ true = any_in (λ (c : Change). test c.what) cs c i.0 t in
    let bad : true ≡ false = sym q ∙ none in cc))
    (each.change zone ∙ e)

-- ---- a catalog is settled after its listing, unless there is a clash
no_more : (o : Option What) → ((what : What) → o ≡ Some what → is_clash what ≡ false) → told_again o ≡ None
no_more None h = refl
no_more (Some (Added c)) h = refl
no_more (Some (Removed c)) h = refl
no_more (Some (Reset c)) h = refl
no_more (Some (Moved c d)) h = refl
no_more (Some (MovedReset c d)) h = refl
no_more (Some (Clash holder)) h = absurd (let bad : true ≡ false = h (Clash holder) refl in cc)
no_more (Some (Regrouped c)) h = refl

pub settled_after : (fold : FoldOf) (catalog : Name) (nodes : List Node) (position : ℕ) → IsFold fold → IsListing nodes
    → IsSome (number_of fold.config catalog)
    → list_any (λ c. is_clash c.what) (changes fold catalog nodes position) ≡ false
    → IsSettled (process fold catalog nodes position) catalog nodes
settled_after fold catalog nodes position h l some none =
    λ later zone. (changes_once fold catalog nodes position later h l some).change zone
    ∙ no_more (judged_at fold catalog nodes position zone).change
    (change_tested fold catalog nodes position h l is_clash none zone)

-- ---- other catalogs stay settled, unless a zone leaves them
module _ (fold : FoldOf) (catalog other : Name) (p : ℕ) (apart : other ≢ catalog) where
  -- no member is one of the other catalog's, if none was
  abbrev HoldsNone : Option MemberOf → Type 0
  HoldsNone held = (m : MemberOf) → held ≡ Some m → same_name m.catalog other ≡ false

  not_here : (n m : MemberOf) → n.catalog ≡ catalog → Some n ≡ Some m → same_name m.catalog other ≡ false
  not_here n m is e =
      let same : n ≡ m = cc in
      false_from_ne_true (same_name m.catalog other) (λ t. apart (sym ((same_decides m.catalog other).0 t)
      ∙ ap (λ (x : MemberOf). x.catalog) (sym same) ∙ is))

  as_before : (n m : MemberOf) → same_name n.catalog other ≡ false → n.catalog ≡ m.catalog
      → same_name m.catalog other ≡ false
  as_before n m f e = subst (λ (c : Name). same_name c other ≡ false) e f

  none_of : (held : Option MemberOf) (n : Option Node) → HoldsNone held → HoldsNone (judged fold catalog p held n).stands
  none_of = every fold catalog p (λ held j. HoldsNone held → HoldsNone j.stands) (λ h m e. absurd (cc))
      (λ m h x e. absurd (cc)) (λ m h x e. h x e) (λ held h x e. h x e) (λ m h x e. h x e)
      (λ m c h x e. as_before m x (h m refl) (let s : record m { choice = c } ≡ x = cc in
      ap (λ (y : MemberOf). y.catalog) s))
      (λ m c yes h x e. not_here (record m { catalog = catalog; choice = c }) x refl e)
      (λ n is h x e. not_here n x is e)
      (λ m n was is h x e. not_here n x is e)
      (λ m n yes is h x e. not_here n x is e)

  module _ (q : ℕ) (ms : List MemberOf) (ls : List (Option (List Node))) where
    abbrev after : FoldOf
    after = record fold { members = ms; listings = ls }

    still : (held : Option MemberOf) (n o : Option Node) → (judged fold other q held o).change ≡ None
        → ((what : What) → (judged fold catalog p held n).change ≡ Some what → moves_from other what ≡ false)
        → (judged after other q (judged fold catalog p held n).stands o).change ≡ None
    still None n None e h =
        left_settled after other q (judged fold catalog p None n).stands (none_of None n (λ m f. absurd (cc)))
    still (Some m) n None e h =
        left_settled after other q (judged fold catalog p (Some m) n).stands (none_of (Some m) n (λ x f.
        let same : m ≡ x = cc in
        subst (λ (y : MemberOf). same_name y.catalog other ≡ false) same (settled_left fold other q m e)))
    still None n (Some x) e h = absurd (let f = (settled_held fold other q None x e).is in cc)
    still (Some m) n (Some x) e h =
        let held = settled_held fold other q (Some m) x e in
        let same : held.member ≡ m = (let f : Some m ≡ Some held.member = held.is in cc) in
        let mine : m.catalog ≡ other = ap (λ (y : MemberOf). y.catalog) (sym same) ∙ held.mine in
        let c : same_name m.catalog catalog ≡ false =
        false_from_ne_true (same_name m.catalog catalog)
        (λ t. apart (sym mine ∙ (same_decides m.catalog catalog).0 t)) in
        let s = stays_there fold catalog p m n c
        (λ what f. subst (λ (y : Name). moves_from y what ≡ false) (sym mine) (h what f)) in
        subst (λ (y : Option MemberOf). (judged after other q y (Some x)).change ≡ None) (sym s)
        (settled_back after other q (Some m) x record {
          member = held.member;
          is = held.is;
          mine = held.mine;
          label = held.label;
          choice = held.choice;
          other = held.other;
        })

pub others_settled : (fold : FoldOf) (catalog other : Name) (nodes others : List Node) (position : ℕ) → IsFold fold
    → IsListing nodes → other ≢ catalog → IsSettled fold other others
    → list_any (λ c. moves_from other c.what) (changes fold catalog nodes position) ≡ false
    → IsSettled (process fold catalog nodes position) other others
unfolding process
others_settled fold catalog other nodes others position h l apart settled none =
    λ later zone.
    let after = process fold catalog nodes position in
    let each = each_zone fold catalog nodes position h.rises (sorted_rise nodes l.zones) in
    let at : judged_at after other others later zone
    ≡ judged after other later (judged_at fold catalog nodes position zone).stands (node_of zone others) =
    ap (λ (o : Option MemberOf). judged after other later o (node_of zone others)) (each.member zone) in
    ap (λ (j : Judgement). j.change) at
    ∙ still fold catalog other position apart later after.members after.listings (member_of zone fold.members)
    (node_of zone nodes) (node_of zone others) (settled later zone)
    (change_tested fold catalog nodes position h l (moves_from other) none zone)
