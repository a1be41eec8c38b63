-- A listing that is processed twice.
use Rattle.std.proofs.Common.{◌≡◌, ◌≢◌, ℕ, true, false, List, map, refl, sym, ◌∙◌, ap, subst, inl, inr}
use Rattle.std.proofs.Common.{get_or}
use Rattle.std.specs.Prelude.{Option, Some, None, IsSome, slice_set, if◌then◌else◌}
use Rattle.std.specs.Option.{option_map_or, option_eq}
use Rattle.std.specs.Str.{bytes_eq}
use Rattle.std.specs.List.Sorted.{IsStrictlySortedBy}
use Rattle.std.proofs.lemmas.Bool.{cases_Bool}
use Rattle.std.proofs.lemmas.List.{get_or-set_other, set-set}
use Rattle.std.proofs.lemmas.Slice.Eq.{bytes_eq-Decides}
use Rattle.dz_name.specs.Words.{Name, Octets}
use Rattle.dz_name.specs.Name.{canonical_order, same_name, same_label}
use Rattle.dz_name.specs.Order.{same_decides, same_label_decides}
use Rattle.dz_member.specs.declared.listing.Node.{Node}
use Rattle.dz_member.specs.declared.change.What.TheVariants.{Clash}
use Rattle.dz_member.specs.Listing.{IsListing}
use Rattle.dz_member.specs.Membership.{MemberOf, settings_at}
use Rattle.dz_member.specs.Fold.{FoldOf, IsFold, member_of, number_of, listing_of, with_listing}
use Rattle.dz_member.specs.Process.{Judgement, judged, judged_at, choice_in, consents, coo_names, held_here}
use Rattle.dz_member.specs.Process.{held_elsewhere, unlisted, listed, is_catalog, node_of, process, entered}
use Rattle.dz_member.specs.Process.{in_zone_order}
use Rattle.dz_member.specs.Laws.{ChangesOnce, Again, told_again}
use Rattle.dz_member.proofs.SameLemmas.{members_by_zone}
use Rattle.dz_member.proofs.NumberLemmas.{number_names}
use Rattle.dz_member.proofs.ZoneLemmas.{order_after, each_zone}
use Rattle.dz_member.proofs.OrderLemmas.{sorted_rise}

-- ---- one zone, judged again
itself : (name : Name) → same_name name name ≡ true
itself name = (same_decides name name).1 refl

same_choice_itself : (choice : Option Octets) → option_eq bytes_eq choice choice ≡ true
same_choice_itself None = refl
same_choice_itself (Some word) = (bytes_eq-Decides word word).1 refl

module _ (fold : FoldOf) (catalog : Name) (p q : ℕ) (ms : List MemberOf) (ls : List (Option (List Node)))
    (same : (m : MemberOf) → same_name m.catalog catalog ≡ false
    → consents (record fold { members = ms; listings = ls }) catalog m ≡ consents fold catalog m) where
  abbrev pub after : FoldOf
  after = record fold { members = ms; listings = ls }

  abbrev pub Twice : Option Node → Judgement → Type 0
  Twice n j = (judged after catalog q j.stands n).stands ≡ j.stands
      × ((judged after catalog q j.stands n).change ≡ told_again j.change)

  -- a member of this catalog under its label and of its choice
  settled : (m : MemberOf) (n : Node) → is_catalog fold n.zone ≡ false → same_name m.catalog catalog ≡ true
      → same_label m.label n.label ≡ true → option_eq bytes_eq m.choice (choice_in fold.config catalog n) ≡ true
      → judged after catalog q (Some m) (Some n) ≡ record { stands = Some m; change = None }
  unfolding judged
  settled m n f c l w = rw (f, c, l, w) refl

  twice_here : (m : MemberOf) (n : Node) → is_catalog fold n.zone ≡ false → same_name m.catalog catalog ≡ true
      → Twice (Some n) (held_here fold catalog p m n)
  twice_here m n f c =
      let choice = choice_in fold.config catalog n in
      elim (cases_Bool (same_label m.label n.label)) [
        | inl l ↦ elim (cases_Bool (option_eq bytes_eq m.choice choice)) [
          | inl w ↦ rw (l, w) (let e = settled m n f c l w in
              (ap (λ (j : Judgement). j.stands) e, ap (λ (j : Judgement). j.change) e))
          | inr u ↦ rw (l, u) (let e = settled (record m { choice = choice }) n f c l (same_choice_itself choice) in
              (ap (λ (j : Judgement). j.stands) e, ap (λ (j : Judgement). j.change) e))
        ]
        | inr u ↦ rw u (let e = settled (entered fold catalog p n) n f (itself catalog)
            ((same_label_decides n.label n.label).1 refl) (same_choice_itself choice) in
            (ap (λ (j : Judgement). j.stands) e, ap (λ (j : Judgement). j.change) e))
      ]

  twice_clash : (m : MemberOf) (n : Node) → is_catalog fold n.zone ≡ false → same_name m.catalog catalog ≡ false
      → consents fold catalog m ≡ false
      → judged after catalog q (Some m) (Some n) ≡ record { stands = Some m; change = Some (Clash (Some m.catalog)) }
  unfolding judged
  twice_clash m n f c u = rw (f, c, same m c, u) refl

  twice_elsewhere : (m : MemberOf) (n : Node) → is_catalog fold n.zone ≡ false → same_name m.catalog catalog ≡ false
      → Twice (Some n) (held_elsewhere fold catalog p m n)
  twice_elsewhere m n f c =
      let choice = choice_in fold.config catalog n in
      elim (cases_Bool (consents fold catalog m)) [
        | inl y ↦ elim (cases_Bool (same_label m.label n.label)) [
          | inl l ↦ rw (y, l) (let e = settled (record m { catalog = catalog; choice = choice }) n f (itself catalog) l
              (same_choice_itself choice) in
              (ap (λ (j : Judgement). j.stands) e, ap (λ (j : Judgement). j.change) e))
          | inr u ↦ rw (y, u) (let e = settled (entered fold catalog p n) n f (itself catalog)
              ((same_label_decides n.label n.label).1 refl) (same_choice_itself choice) in
              (ap (λ (j : Judgement). j.stands) e, ap (λ (j : Judgement). j.change) e))
        ]
        | inr u ↦ rw u (let e = twice_clash m n f c u in
            (ap (λ (j : Judgement). j.stands) e, ap (λ (j : Judgement). j.change) e))
      ]

  twice_listed : (held : Option MemberOf) (n : Node) → is_catalog fold n.zone ≡ false
      → Twice (Some n) (listed fold catalog p held n)
  twice_listed None n f =
      let e = settled (entered fold catalog p n) n f (itself catalog) ((same_label_decides n.label n.label).1 refl)
      (same_choice_itself (choice_in fold.config catalog n)) in
      (ap (λ (j : Judgement). j.stands) e, ap (λ (j : Judgement). j.change) e)
  twice_listed (Some m) n f =
      elim (cases_Bool (same_name m.catalog catalog)) [
        | inl c ↦ rw c (twice_here m n f c)
        | inr c ↦ rw c (twice_elsewhere m n f c)
      ]

  twice_configured : (held : Option MemberOf) (n : Node) → is_catalog fold n.zone ≡ true
      → judged after catalog q held (Some n) ≡ record { stands = held; change = Some (Clash None) }
  unfolding judged
  twice_configured None n t = rw t refl
  twice_configured (Some m) n t = rw t refl

  first_listed : (held : Option MemberOf) (n : Node) → judged fold catalog p held (Some n) ≡ (if is_catalog fold n.zone
      then record { stands = held; change = Some (Clash None) } else listed fold catalog p held n)
  unfolding judged
  first_listed None n = refl
  first_listed (Some m) n = refl

  twice_unlisted : (m : MemberOf) → Twice None (unlisted catalog m)
  unfolding judged
  twice_unlisted m =
      elim (cases_Bool (same_name m.catalog catalog)) [
        | inl c ↦ rw c (refl, refl)
        | inr c ↦ rw (c, c) (refl, refl)
      ]

  twice_none : Twice None (judged fold catalog p None None)
  unfolding judged
  twice_none = (refl, refl)

  twice_left : (m : MemberOf) → Twice None (judged fold catalog p (Some m) None)
  unfolding judged
  twice_left m = twice_unlisted m

  pub twice : (held : Option MemberOf) (n : Option Node) → Twice n (judged fold catalog p held n)
  twice None None = twice_none
  twice (Some m) None = twice_left m
  twice held (Some n) =
      subst (Twice (Some n)) (sym (first_listed held n))
      (elim (cases_Bool (is_catalog fold n.zone)) [
        | inl t ↦ rw t (let e = twice_configured held n t in
            (ap (λ (j : Judgement). j.stands) e, ap (λ (j : Judgement). j.change) e))
        | inr f ↦ rw f (twice_listed held n f)
      ])

-- ---- the listings afterwards
pub record Found (o : Option ℕ) : Type 0 where
  pub number : ℕ
  pub is : o ≡ Some number

found_of : (o : Option ℕ) → IsSome o → Found o
found_of None h = absurd (cc)
found_of (Some k) h = record { number = k; is = refl }

other_at : (ls : List (Option (List Node))) (k : ℕ) (v : Option (List Node)) (o : Option ℕ)
    → ((j : ℕ) → o ≡ Some j → j ≢ k)
    → option_map_or (λ j. get_or (slice_set ls k v) j None) o None ≡ option_map_or (λ j. get_or ls j None) o None
other_at ls k v None h = refl
other_at ls k v (Some j) h = get_or-set_other ls k j v None (h j refl)

module _ (fold : FoldOf) (catalog : Name) (nodes : List Node) (k : ℕ)
    (is : number_of fold.config catalog ≡ Some k) where
  set_is : with_listing fold catalog nodes ≡ slice_set fold.listings k (Some nodes)
  set_is = rw is refl

  listing_other : (ms : List MemberOf) (holder : Name) → same_name holder catalog ≡ false → listing_of
      (record fold { members = ms; listings = with_listing fold catalog nodes }) holder ≡ listing_of fold holder
  listing_other ms holder f =
      rw set_is
      (other_at fold.listings k (Some nodes) (number_of fold.config holder) (λ j e same_one.
      let a = (number_names fold.config holder j e).is in
      let b = (number_names fold.config catalog k is).is in
      let one : holder ≡ catalog = sym a ∙ ap (λ (n : ℕ). (settings_at fold.config n).name) same_one ∙ b in
      let t : same_name holder catalog ≡ true = (same_decides holder catalog).1 one in
      let bad : true ≡ false = sym t ∙ f in cc))

  consents_other : (ms : List MemberOf) (m : MemberOf) → same_name m.catalog catalog ≡ false
      → consents (record fold { members = ms; listings = with_listing fold catalog nodes }) catalog m
      ≡ consents fold catalog m
  consents_other ms m f = ap (λ (o : Option (List Node)). option_map_or (λ ns. coo_names ns m.label catalog) o false)
      (listing_other ms m.catalog f)

  set_twice : (ms : List MemberOf)
      → with_listing (record fold { members = ms; listings = with_listing fold catalog nodes }) catalog nodes
      ≡ with_listing fold catalog nodes
  set_twice ms = rw is (set-set fold.listings k (Some nodes) (Some nodes))

-- ---- the law
module _ (fold : FoldOf) (catalog : Name) (nodes : List Node) (p q : ℕ) (h : IsFold fold) (l : IsListing nodes) (k : ℕ)
    (is : number_of fold.config catalog ≡ Some k) where
  rise : IsStrictlySortedBy canonical_order (map (λ (n : Node). n.zone) (in_zone_order nodes))
  rise = sorted_rise nodes l.zones

  judged_twice : (z : Name)
      → (judged (process fold catalog nodes p) catalog q (judged_at fold catalog nodes p z).stands
      (node_of z nodes)).stands ≡ (judged_at fold catalog nodes p z).stands
      × ((judged (process fold catalog nodes p) catalog q (judged_at fold catalog nodes p z).stands
      (node_of z nodes)).change ≡ told_again (judged_at fold catalog nodes p z).change)
  unfolding process
  judged_twice z =
      twice fold catalog p q (process fold catalog nodes p).members (with_listing fold catalog nodes)
      (λ m f. consents_other fold catalog nodes k is (process fold catalog nodes p).members m f)
      (member_of z fold.members) (node_of z nodes)

  at_again : (z : Name) → judged_at (process fold catalog nodes p) catalog nodes q z
      ≡ judged (process fold catalog nodes p) catalog q (judged_at fold catalog nodes p z).stands (node_of z nodes)
  at_again z = ap (λ (held : Option MemberOf). judged (process fold catalog nodes p) catalog q held (node_of z nodes))
      ((each_zone fold catalog nodes p h.rises rise).member z)

  members_again : (process (process fold catalog nodes p) catalog nodes q).members
      ≡ (process fold catalog nodes p).members
  members_again =
      let up = order_after fold catalog nodes p h.rises rise in
      members_by_zone (process (process fold catalog nodes p) catalog nodes q).members
      (process fold catalog nodes p).members
      (order_after (process fold catalog nodes p) catalog nodes q up rise) up
      (λ z.
      (each_zone (process fold catalog nodes p) catalog nodes q up rise).member z
      ∙ ap (λ (j : Judgement). j.stands) (at_again z) ∙ (judged_twice z).0
      ∙ sym ((each_zone fold catalog nodes p h.rises rise).member z))

  fold_again : process (process fold catalog nodes p) catalog nodes q ≡ process fold catalog nodes p
  unfolding process
  fold_again =
      let ms = members_again in
      let ls = set_twice fold catalog nodes k is (process fold catalog nodes p).members in
      λ i. record { config = fold.config; members = ms i; listings = ls i }

  again : Again fold catalog nodes p q
  again = record {
    stays = fold_again;
    change = λ z. ap (λ (j : Judgement). j.change) (at_again z) ∙ (judged_twice z).1;
  }

pub changes_once : ChangesOnce
changes_once fold catalog nodes p q h l some =
    let f = found_of (number_of fold.config catalog) some in
    again fold catalog nodes p q h l f.number f.is
