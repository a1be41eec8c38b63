-- What edits leave at each label, and at each zone.
use Rattle.std.proofs.Common.{◌≡◌, ◌⊎◌, ◌≤◌, ℕ, true, false, List, [], ◌∷◌, map, length, refl, sym, ◌∙◌, ap}
use Rattle.std.proofs.Common.{subst, inl, inr, Less, Equal}
use Rattle.std.specs.Prelude.{Option, Some, None, is_some, if◌then◌else◌}
use Rattle.std.specs.Option.{option_map_or, ForSome}
use Rattle.std.specs.Ordering.{is_eq}
use Rattle.std.specs.List.{find, AllByRecursion, list_any}
use Rattle.std.specs.List.Sorted.{IsStrictlySortedBy}
use Rattle.std.proofs.lemmas.Bool.{cases_Bool, or_cases, or_left, or_right}
use Rattle.std.proofs.lemmas.List.Elements.{All-head, All-tail}
use Rattle.std.proofs.lemmas.Map.Keys.{sorted_head, sorted_tail}
use Rattle.dz_name.specs.Words.{Name, Octets}
use Rattle.dz_name.specs.Name.{same_name, same_label, label_order}
use Rattle.dz_name.specs.Order.{label_total, same_decides, same_label_decides, same_label_ties}
use Rattle.dz_member.specs.declared.listing.Node.{Node}
use Rattle.dz_member.specs.declared.edit.Edit.{Edit}
use Rattle.dz_member.specs.Listing.{IsListing, same_zone}
use Rattle.dz_settings.specs.Twice.{has_twice}
use Rattle.dz_member.specs.Fold.{FoldOf, member_of}
use Rattle.dz_member.specs.Process.{judged, judged_at, node_of}
use Rattle.dz_member.specs.Settled.{IsSettled}
use Rattle.dz_member.specs.Edit.{edited_at, edited, AreEdits, nodes_put, nodes_replaced, is_touched, AreFree}
use Rattle.dz_member.proofs.WalkLemmas.{nothing}
use Rattle.dz_member.proofs.InLemmas.{IsIn, found_in, any_none, in_all, in_kept, made_of, same_options, found_key}
use Rattle.dz_member.proofs.InLemmas.{none_key, once_found, one_key, rising_found, once_by}
use Rattle.dz_member.proofs.PutLemmas.{put_found, put_rises}
use Rattle.dz_member.proofs.SettledLemmas.{settled_node}
use Rattle.dz_member.proofs.LawLemmas.{stays_without}

abbrev label_of : Node → Octets
label_of n = n.label

abbrev edit_label : Edit → Octets
edit_label e = e.label

abbrev zone_of : Node → Name
zone_of n = n.zone

-- the node, and the edit, of a label
abbrev node_at : Octets → List Node → Option Node
node_at label nodes = find (λ n. same_label n.label label) nodes

abbrev edit_at : Octets → List Edit → Option Edit
edit_at label edits = find (λ e. same_label e.label label) edits

label_exact : (a b : Octets) → label_order a b ≡ Equal → a ≡ b
label_exact a b e = (same_label_decides a b).0 (same_label_ties a b ∙ ap is_eq e)

-- ---- at each label
pub at_found : (nodes : List Node) (e : Edit) (label : Octets) → ForSome e.node (λ n. n.label ≡ e.label)
    → node_at label (edited_at nodes e) ≡ (if same_label e.label label then e.node else node_at label nodes)
at_found nodes e label own =
    put_found label_order label_total same_label same_label_decides label_exact label_of e.label e.node nodes label own

pub at_rises : (nodes : List Node) (e : Edit) → ForSome e.node (λ n. n.label ≡ e.label)
    → IsStrictlySortedBy label_order (map (λ n. n.label) nodes)
    → IsStrictlySortedBy label_order (map (λ n. n.label) (edited_at nodes e))
at_rises nodes e own up =
    put_rises label_order label_total same_label same_label_decides label_exact label_of e.label e.node nodes own up

rest_edits : (e : Edit) (edits : List Edit) → AreEdits (e ∷ edits) → AreEdits edits
rest_edits e edits a = record {
  labels = sorted_tail label_order e.label (map edit_label edits) a.labels;
  own = All-tail (λ (x : Edit). ForSome x.node (λ n. n.label ≡ x.label)) e edits a.own;
}

first_own : (e : Edit) (edits : List Edit) → AreEdits (e ∷ edits) → ForSome e.node (λ n. n.label ≡ e.label)
first_own e edits a = All-head (λ (x : Edit). ForSome x.node (λ n. n.label ≡ x.label)) e edits a.own

-- a label that is edited has the node of its edit, and another one what it had
pub edited_at_label : (nodes : List Node) (edits : List Edit) (label : Octets) → AreEdits edits
    → find (λ n. same_label n.label label) (edited nodes edits)
    ≡ option_map_or (λ e. e.node) (find (λ e. same_label e.label label) edits)
    (find (λ n. same_label n.label label) nodes)
edited_at_label nodes [] label a = refl
edited_at_label nodes (e ∷ edits) label a =
    let rest = edited_at_label (edited_at nodes e) edits label (rest_edits e edits a) in
    let here = at_found nodes e label (first_own e edits a) in
    rest ∙ ap (λ (o : Option Node). option_map_or (λ (x : Edit). x.node) (edit_at label edits) o) here
    ∙ (elim (cases_Bool (same_label e.label label)) [
      | inl t ↦
          let is : e.label ≡ label = (same_label_decides e.label label).0 t in
          let less : AllByRecursion (λ k. label_order label k ≡ Less) (map edit_label edits) =
          subst (λ (l : Octets). AllByRecursion (λ k. label_order l k ≡ Less) (map edit_label edits)) is
          (sorted_head label_order e.label (map edit_label edits) a.labels) in
          let none : edit_at label edits ≡ None =
          nothing label_order label_total same_label same_label_decides edit_label label edits less in
          rw (none, t) refl
      | inr f ↦ rw f refl
    ])

pub edited_rises : (nodes : List Node) (edits : List Edit) → AreEdits edits
    → IsStrictlySortedBy label_order (map (λ n. n.label) nodes)
    → IsStrictlySortedBy label_order (map (λ n. n.label) (edited nodes edits))
edited_rises nodes [] a up = up
edited_rises nodes (e ∷ edits) a up =
    edited_rises (edited_at nodes e) edits (rest_edits e edits a) (at_rises nodes e (first_own e edits a) up)

-- ---- which nodes there are
edit_there : (edits : List Edit) (e : Edit) → AreEdits edits → IsIn e edits → edit_at e.label edits ≡ Some e
edit_there edits e a i =
    rising_found same_label same_label_decides edit_label label_order label_total edits e a.labels i

node_there : (nodes : List Node) (n : Node) → IsStrictlySortedBy label_order (map (λ n. n.label) nodes)
    → IsIn n nodes → node_at n.label nodes ≡ Some n
node_there nodes n up i =
    rising_found same_label same_label_decides label_of label_order label_total nodes n up i

-- a node that is there was put in, or was there and its label isn't edited
abbrev IsFrom : List Node → List Edit → Node → Type 0
IsFrom nodes edits n = IsIn n (nodes_put edits) ⊎ (IsIn n nodes × (edit_at n.label edits ≡ None))

from_found : (nodes : List Node) (edits : List Edit) (n : Node) (o : Option Edit) → edit_at n.label edits ≡ o
    → option_map_or (λ (e : Edit). e.node) o (node_at n.label nodes) ≡ Some n → IsFrom nodes edits n
from_found nodes edits n None is found =
    inr ((found_in (λ (m : Node). same_label m.label n.label) nodes n found).0, is)
from_found nodes edits n (Some e) is found = inl
    (in_kept (λ (x : Edit). x.node) edits e n (found_in (λ (x : Edit). same_label x.label n.label) edits e is).0 found)

module _ (nodes : List Node) (edits : List Edit) (a : AreEdits edits)
    (up : IsStrictlySortedBy label_order (map (λ n. n.label) nodes)) where
  is_from : (n : Node) → IsIn n (edited nodes edits) → IsFrom nodes edits n
  is_from n i =
      from_found nodes edits n (edit_at n.label edits) refl
      (sym (edited_at_label nodes edits n.label a)
      ∙ node_there (edited nodes edits) n (edited_rises nodes edits a up) i)

  put_there : (n : Node) → IsIn n (nodes_put edits) → IsIn n (edited nodes edits)
  put_there n i =
      let made = made_of (λ (e : Edit). e.node) edits n i in
      let own : n.label ≡ made.of.label =
      in_all (λ (e : Edit). ForSome e.node (λ m. m.label ≡ e.label)) edits made.of a.own made.inside n made.is in
      let there : edit_at n.label edits ≡ Some made.of = subst (λ (l : Octets). edit_at l edits ≡ Some made.of)
      (sym own) (edit_there edits made.of a made.inside) in
      let found : node_at n.label (edited nodes edits) ≡ Some n = edited_at_label nodes edits n.label a
      ∙ ap (λ (o : Option Edit). option_map_or (λ (e : Edit). e.node) o (node_at n.label nodes)) there ∙ made.is in
      (found_in (λ (m : Node). same_label m.label n.label) (edited nodes edits) n found).0

  left_there : (n : Node) → IsIn n nodes → edit_at n.label edits ≡ None → IsIn n (edited nodes edits)
  left_there n i none =
      let found : node_at n.label (edited nodes edits) ≡ Some n = edited_at_label nodes edits n.label a
      ∙ ap (λ (o : Option Edit). option_map_or (λ (e : Edit). e.node) o (node_at n.label nodes)) none
      ∙ node_there nodes n up i in
      (found_in (λ (m : Node). same_label m.label n.label) (edited nodes edits) n found).0

-- ---- which zones are touched
some_of : {X : Type 0} (o : Option X) → is_some o ≡ true → (x : X) × (o ≡ Some x)
some_of None t = absurd (cc)
some_of (Some x) t = (x, refl)

touched_put : (nodes : List Node) (edits : List Edit) (zone : Name) (n : Node)
    → node_of zone (nodes_put edits) ≡ Some n → is_touched nodes edits zone ≡ true
touched_put nodes edits zone n e =
    or_left (is_some (node_of zone (nodes_put edits))) (is_some (node_of zone (nodes_replaced nodes edits)))
    (ap is_some e)

touched_replaced : (nodes : List Node) (edits : List Edit) (zone : Name) (n : Node)
    → node_of zone (nodes_replaced nodes edits) ≡ Some n → is_touched nodes edits zone ≡ true
touched_replaced nodes edits zone n e =
    or_right (is_some (node_of zone (nodes_put edits))) (is_some (node_of zone (nodes_replaced nodes edits)))
    (ap is_some e)

-- a node that is one of some is found by its zone, if it isn't there that none is
some_zone : (nodes : List Node) (n : Node) → IsIn n nodes → (m : Node) × (node_of n.zone nodes ≡ Some m)
some_zone nodes n i =
    elim (node_of n.zone nodes) as (λ o. node_of n.zone nodes ≡ o → (m : Node) × (node_of n.zone nodes ≡ Some m)) [
      | None ↦ λ e. absurd (none_key same_name same_decides zone_of nodes n.zone n e i refl)
      | Some m ↦ λ e. (m, e)
    ] refl

module _ (fold : FoldOf) (catalog : Name) (nodes : List Node) (edits : List Edit) (l : IsListing nodes)
    (settled : IsSettled fold catalog nodes) (a : AreEdits edits) (free : AreFree fold catalog edits)
    (once : has_twice same_zone (nodes_put edits) ≡ false) where
  -- no node that was put in has the zone of one that stays
  no_clash : (n m : Node) → IsIn n (nodes_put edits) → IsIn m nodes → edit_at m.label edits ≡ None → n.zone ≡ m.zone
      → ⊥
  no_clash n m i j none e =
      let held = settled_node fold catalog nodes m.zone m settled
      (once_found same_name same_decides zone_of nodes m l.zones j) in
      let here : member_of n.zone fold.members ≡ Some held.0 =
      subst (λ (z : Name). member_of z fold.members ≡ Some held.0) (sym e) held.1 in
      let mine : same_name held.0.catalog catalog ≡ true = (same_decides held.0.catalog catalog).1 held.2 in
      let is : list_any (λ x. same_label x.label held.0.label) edits ≡ true =
      in_all (λ (x : Node). ForSome (member_of x.zone fold.members)
      (λ y. same_name y.catalog catalog ≡ true → list_any (λ z. same_label z.label y.label) edits ≡ true))
      (nodes_put edits) n free i held.0 here mine in
      let not : list_any (λ x. same_label x.label held.0.label) edits ≡ false =
      any_none (λ (x : Edit). same_label x.label held.0.label) edits
      (subst (λ (k : Octets). edit_at k edits ≡ None) (sym held.3) none) in
      let bad : true ≡ false = sym is ∙ not in cc

  one_label : (n m : Node) → IsFrom nodes edits n → IsFrom nodes edits m → n.zone ≡ m.zone → n.label ≡ m.label
  one_label n m (inl i) (inl j) e =
      ap label_of (one_key same_name same_decides zone_of (nodes_put edits) n m once i j e)
  one_label n m (inl i) (inr j) e = absurd (no_clash n m i j.0 j.1 e)
  one_label n m (inr i) (inl j) e = absurd (no_clash m n j i.0 i.1 (sym e))
  one_label n m (inr i) (inr j) e = ap label_of (one_key same_name same_decides zone_of nodes n m l.zones i.0 j.0 e)

  pub edited_zones : has_twice same_zone (edited nodes edits) ≡ false
  edited_zones = once_by same_label same_label_decides label_of label_order label_total same_zone (edited nodes edits)
      (edited_rises nodes edits a l.labels)
      (λ n m i j t. one_label n m (is_from nodes edits a l.labels n i) (is_from nodes edits a l.labels m j)
      ((same_decides n.zone m.zone).0 t))

  pub edited_listing : length (edited nodes edits) ≤ 65536 → IsListing (edited nodes edits)
  edited_listing few = record { labels = edited_rises nodes edits a l.labels; zones = edited_zones; few = few }

  -- ---- at each zone
  node_is : (zone : Name) (n : Node) → IsIn n (edited nodes edits) → n.zone ≡ zone
      → node_of zone (edited nodes edits) ≡ Some n
  node_is zone n i e = subst (λ (z : Name). node_of z (edited nodes edits) ≡ Some n) e
      (once_found same_name same_decides zone_of (edited nodes edits) n edited_zones i)

  put_is : (zone : Name) (n : Node) → IsIn n (nodes_put edits) → n.zone ≡ zone
      → node_of zone (nodes_put edits) ≡ Some n
  put_is zone n i e = subst (λ (z : Name). node_of z (nodes_put edits) ≡ Some n) e
      (once_found same_name same_decides zone_of (nodes_put edits) n once i)

  was_is : (zone : Name) (n : Node) → IsIn n nodes → n.zone ≡ zone → node_of zone nodes ≡ Some n
  was_is zone n i e =
      subst (λ (z : Name). node_of z nodes ≡ Some n) e (once_found same_name same_decides zone_of nodes n l.zones i)

  -- a zone that is touched is that of no node that stays
  none_stays : (zone : Name) (n : Node) → is_touched nodes edits zone ≡ true → IsIn n nodes
      → edit_at n.label edits ≡ None → n.zone ≡ zone → ⊥
  none_stays zone n t i none e =
      elim (or_cases (is_some (node_of zone (nodes_put edits)))
      (is_some (node_of zone (nodes_replaced nodes edits))) t) as (λ _. ⊥) [
        | inl s ↦
            let m = some_of (node_of zone (nodes_put edits)) s in
            let there = found_key same_name same_decides zone_of (nodes_put edits) zone m.0 m.1 in
            no_clash m.0 n there.0 i none (there.1 ∙ sym e)
        | inr s ↦
            let m = some_of (node_of zone (nodes_replaced nodes edits)) s in
            let there = found_key same_name same_decides zone_of (nodes_replaced nodes edits) zone m.0 m.1 in
            let made = made_of (λ (x : Edit). node_at x.label nodes) edits m.0 there.0 in
            let was = found_key same_label same_label_decides label_of nodes made.of.label m.0 made.is in
            let same : m.0 ≡ n =
            one_key same_name same_decides zone_of nodes m.0 n l.zones was.0 i (there.1 ∙ sym e) in
            none_key same_label same_label_decides edit_label edits n.label made.of none made.inside
            (sym was.1 ∙ ap label_of same)
      ]

  pub edited_touched : (zone : Name) → is_touched nodes edits zone ≡ true
      → node_of zone (edited nodes edits) ≡ node_of zone (nodes_put edits)
  edited_touched zone t = same_options (node_of zone (edited nodes edits)) (node_of zone (nodes_put edits))
      (λ n e.
      let there = found_key same_name same_decides zone_of (edited nodes edits) zone n e in
      elim (is_from nodes edits a l.labels n there.0) as (λ _. node_of zone (nodes_put edits) ≡ Some n) [
        | inl i ↦ put_is zone n i there.1
        | inr i ↦ absurd (none_stays zone n t i.0 i.1 there.1)
      ])
      (λ n e.
      let there = found_key same_name same_decides zone_of (nodes_put edits) zone n e in
      node_is zone n (put_there nodes edits a l.labels n there.0) there.1)

  -- a node of a zone that isn't touched is at a label that isn't edited
  not_edited : (zone : Name) (n : Node) → is_touched nodes edits zone ≡ false → IsIn n nodes → n.zone ≡ zone
      → edit_at n.label edits ≡ None
  not_edited zone n f i e =
      elim (edit_at n.label edits) as (λ o. edit_at n.label edits ≡ o → o ≡ None) [
        | None ↦ λ is. refl
        | Some x ↦ λ is. absurd (
            let there = found_key same_label same_label_decides edit_label edits n.label x is in
            let was : node_at x.label nodes ≡ Some n =
            subst (λ (k : Octets). node_at k nodes ≡ Some n) (sym there.1) (node_there nodes n l.labels i) in
            let in' : IsIn n (nodes_replaced nodes edits) =
            in_kept (λ (y : Edit). node_at y.label nodes) edits x n there.0 was in
            let m = some_zone (nodes_replaced nodes edits) n in' in
            let found : node_of zone (nodes_replaced nodes edits) ≡ Some m.0 =
            subst (λ (z : Name). node_of z (nodes_replaced nodes edits) ≡ Some m.0) e m.1 in
            let bad : true ≡ false = sym (touched_replaced nodes edits zone m.0 found) ∙ f in cc
            )
      ] refl

  pub edited_untouched : (zone : Name) → is_touched nodes edits zone ≡ false
      → node_of zone (edited nodes edits) ≡ node_of zone nodes
  edited_untouched zone f = same_options (node_of zone (edited nodes edits)) (node_of zone nodes)
      (λ n e.
      let there = found_key same_name same_decides zone_of (edited nodes edits) zone n e in
      elim (is_from nodes edits a l.labels n there.0) as (λ _. node_of zone nodes ≡ Some n) [
        | inl i ↦ absurd (
            let bad : true ≡ false = sym (touched_put nodes edits zone n (put_is zone n i there.1)) ∙ f in cc
            )
        | inr i ↦ was_is zone n i.0 there.1
      ])
      (λ n e.
      let there = found_key same_name same_decides zone_of nodes zone n e in
      node_is zone n
      (left_there nodes edits a l.labels n there.0 (not_edited zone n f there.0 there.1)) there.1)

  pub edited_node : (zone : Name)
      → (is_touched nodes edits zone ≡ true
      → node_of zone (edited nodes edits) ≡ node_of zone (nodes_put edits))
      × (is_touched nodes edits zone ≡ false → node_of zone (edited nodes edits) ≡ node_of zone nodes)
  edited_node zone = (edited_touched zone, edited_untouched zone)

  -- ---- what is judged
  pub judged_touched : (position : ℕ) (zone : Name) → is_touched nodes edits zone ≡ true
      → judged_at fold catalog (edited nodes edits) position zone
      ≡ judged fold catalog position (member_of zone fold.members) (node_of zone (nodes_put edits))
  judged_touched position zone t =
      ap (λ (o : Option Node). judged fold catalog position (member_of zone fold.members) o) (edited_touched zone t)

  pub judged_untouched : (position : ℕ) (zone : Name) → is_touched nodes edits zone ≡ false
      → judged_at fold catalog (edited nodes edits) position zone
      ≡ record { stands = member_of zone fold.members; change = None }
  judged_untouched position zone f =
      let none = settled position zone in
      let stays = stays_without fold catalog nodes position zone none in
      ap (λ (o : Option Node). judged fold catalog position (member_of zone fold.members) o) (edited_untouched zone f)
      ∙ (λ i. record { stands = stays i; change = none i })

  pub edited_judged : (position : ℕ) (zone : Name)
      → (is_touched nodes edits zone ≡ false → judged_at fold catalog (edited nodes edits) position zone
      ≡ record { stands = member_of zone fold.members; change = None })
      × (is_touched nodes edits zone ≡ true → judged_at fold catalog (edited nodes edits) position zone
      ≡ judged fold catalog position (member_of zone fold.members) (node_of zone (nodes_put edits)))
  edited_judged position zone = (judged_untouched position zone, judged_touched position zone)
