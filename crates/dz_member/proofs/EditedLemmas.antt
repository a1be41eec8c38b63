-- What edits touch, step by step.
use Rattle.std.proofs.Common.{◌≡◌, ℕ, Bool, true, false, ◌||◌, List, [], ◌∷◌, ◌++◌, map, refl, sym, ◌∙◌, ap, subst}
use Rattle.std.proofs.Common.{inl, inr, length, take, get_or, ◌<◌, ◌+◌}
use Rattle.std.specs.Prelude.{Result, Ok, Err, IfOk}
use Rattle.std.proofs.lemmas.List.{take_more, map-append, append_assoc}
use Rattle.std.proofs.lemmas.List.Elements.{filter_map-append}
use Rattle.std.specs.Prelude.{Option, Some, None, IfSome, if◌then◌else◌}
use Rattle.std.specs.Option.{option_map, option_to_list, ForSome}
use Rattle.std.specs.List.{find, filter_map, cons_option}
use Rattle.std.specs.List.Sorted.{IsStrictlySortedBy}
use Rattle.std.proofs.lemmas.Bool.{cases_Bool}
use Rattle.std.proofs.lemmas.List.Folds.{list_any-append}
use Rattle.dz_keys.specs.Labels.{label_same}
use Rattle.dz_name.specs.Words.{Name, Octets}
use Rattle.dz_name.specs.Name.{canonical_order, same_name, label_order, same_label}
use Rattle.dz_name.specs.Order.{same_decides, label_total, same_label_decides}
use Rattle.dz_member.specs.declared.listing.Node.{Node}
use Rattle.dz_member.specs.declared.edit.Edit.{Edit}
use Rattle.dz_member.specs.declared.membership.Membership.{Membership}
use Rattle.dz_member.specs.Membership.{MemberOf, shown, IsNumbered}
use Rattle.dz_member.specs.Fold.{FoldOf, member_of}
use Rattle.dz_member.specs.Edit.{edited_at, edited}
use Rattle.dz_member.specs.inner.Edits.{is_one, membership_of, IsTouched, IsReplaced}
use Rattle.dz_member.proofs.EditLemmas.{at_found, at_rises}
use Rattle.dz_member.proofs.SameLemmas.{same_by_key}
use Rattle.dz_member.proofs.WalkedLemmas.{found_map}
use Rattle.dz_member.proofs.ZoneLemmas.{found_zone}

or_none : (b : Bool) → (b || false) ≡ b
or_none true = refl
or_none false = refl

pub one_more : (zones : List Name) (y z : Name) → is_one (zones ++ y ∷ []) z ≡ (is_one zones z || same_name y z)
one_more zones y z = list_any-append (λ x. same_name x z) zones (y ∷ [])
    ∙ ap (λ b. is_one zones z || b) (or_none (same_name y z))

-- what two facts of an answer give
pub both_of : {T E : Type 0} (r : Result T E) (P Q S : T → Type 0) → ((x : T) → P x → Q x → S x) → IfOk r P
    → IfOk r Q → IfOk r S
both_of (Ok x) P Q S f p q = f x p q
both_of (Err e) P Q S f p q = p

-- one element more
listed : {Y : Type 0} (o : Option Y) → cons_option o [] ≡ option_to_list o
listed None = refl
listed (Some y) = refl

pub kept_next : {X Y : Type 0} (f : X → Option Y) (xs : List X) (k : ℕ) (x : X) → k < length xs → x ≡ get_or xs k x
    → filter_map f (take (k + 1) xs) ≡ filter_map f (take k xs) ++ option_to_list (f x)
kept_next f xs k x lt is = ap (filter_map f) (take_more xs k x lt)
    ∙ (ap (λ y. filter_map f (take k xs ++ y ∷ [])) (sym is)
    ∙ (filter_map-append f (take k xs) (x ∷ []) ∙ ap (λ ys. filter_map f (take k xs) ++ ys) (listed (f x))))

mapped : {X Y : Type 0} (g : X → Y) (o : Option X) → map g (option_to_list o) ≡ option_to_list (option_map g o)
mapped g None = refl
mapped g (Some x) = refl

pub zones_next : {X Y Z : Type 0} (g : Y → Z) (f : X → Option Y) (zs : List Z) (xs : List X) (k : ℕ) (x : X)
    → k < length xs → x ≡ get_or xs k x
    → (zs ++ map g (filter_map f (take k xs))) ++ option_to_list (option_map g (f x))
    ≡ zs ++ map g (filter_map f (take (k + 1) xs))
zones_next g f zs xs k x lt is = append_assoc zs (map g (filter_map f (take k xs))) (option_to_list (option_map g (f x)))
    ∙ ap (λ ys. zs ++ ys) (sym (ap (map g) (kept_next f xs k x lt is)
    ∙ (map-append g (filter_map f (take k xs)) (option_to_list (f x))
    ∙ ap (λ ys. map g (filter_map f (take k xs)) ++ ys) (mapped g (f x)))))

pub next_is : {X : Type 0} (xs : List X) (k : ℕ) (x : X) → k < length xs → x ≡ get_or xs k x
    → take (k + 1) xs ≡ take k xs ++ x ∷ []
next_is xs k x lt is = take_more xs k x lt ∙ ap (λ y. take k xs ++ y ∷ []) (sym is)

-- ---- memberships of zones
module _ (fold : FoldOf) where
  pub found_shown : (z : Name) (ms : List Membership)
      → option_map (shown fold.config) (membership_of z ms) ≡ member_of z (map (shown fold.config) ms)
  found_shown z ms = found_map (λ (m : MemberOf). same_name m.zone z) (shown fold.config) ms

  pub touched_first : IsTouched fold [] []
  unfolding IsStrictlySortedBy
  touched_first = record { each = λ z. refl; numbered = λ z m e. absurd (cc); order = tt }

  pub touched_none : (zones : List Name) (t : List Membership) (y : Name) → IsTouched fold zones t
      → member_of y fold.members ≡ None → IsTouched fold (zones ++ y ∷ []) t
  touched_none zones t y h none = record {
    each = λ z. h.each z ∙ sym (more z);
    numbered = h.numbered;
    order = h.order;
  }
    where
      more : (z : Name) → (if is_one (zones ++ y ∷ []) z then member_of z fold.members else None)
          ≡ (if is_one zones z then member_of z fold.members else None)
      more z = rw (one_more zones y z) (elim (cases_Bool (is_one zones z)) [
        | inl t ↦ rw t refl
        | inr f ↦ elim (cases_Bool (same_name y z)) [
          | inr g ↦ rw (f, g) refl
          | inl s ↦
              let n : member_of z fold.members ≡ None =
              subst (λ x. member_of x fold.members ≡ None) ((same_decides y z).0 s) none in rw (f, s, n) refl
        ]
      ])

  pub touched_some : (zones : List Name) (t next : List Membership) (y : Name) (m : Membership)
      → IsTouched fold zones t → Some (shown fold.config m) ≡ member_of y fold.members → IsNumbered fold.config m
      → IsStrictlySortedBy canonical_order (map (λ m. m.zone) next)
      → ((z : Name) → membership_of z next ≡ (if same_name m.zone z then Some m else membership_of z t))
      → IsTouched fold (zones ++ y ∷ []) next
  touched_some zones t next y m h is numbered up each = record {
    each = λ z. sym (found_shown z next) ∙ (ap (option_map (shown fold.config)) (each z) ∙ at z);
    numbered = λ z x e. elim (cases_Bool (same_name m.zone z)) [
      | inl s ↦ let q : Some m ≡ Some x = sym (rw s at (each z)) ∙ e in
          let same : m ≡ x = cc in subst (IsNumbered fold.config) same numbered
      | inr f ↦ h.numbered z x (sym (rw f at (each z)) ∙ e)
    ];
    order = up;
  }
    where
      own : m.zone ≡ y
      own = subst (λ (o : Option MemberOf). IfSome o (λ x. x.zone ≡ y)) (sym is)
          (found_zone (λ (x : MemberOf). x.zone) y fold.members)

      at : (z : Name) → option_map (shown fold.config) (if same_name m.zone z then Some m else membership_of z t)
          ≡ (if is_one (zones ++ y ∷ []) z then member_of z fold.members else None)
      at z = (λ i. option_map (shown fold.config) (if same_name (own i) z then Some m else membership_of z t))
          ∙ (rw (one_more zones y z) (elim (cases_Bool (same_name y z)) [
            | inl s ↦
                let n : member_of z fold.members ≡ Some (shown fold.config m) =
                subst (λ x. member_of x fold.members ≡ Some (shown fold.config m)) ((same_decides y z).0 s) (sym is) in
                elim (cases_Bool (is_one zones z)) [ inl o ↦ rw (s, o, n) refl | inr o ↦ rw (s, o, n) refl ]
            | inr f ↦ rw (f, or_none (is_one zones z)) (found_shown z t ∙ h.each z)
          ]))

-- ---- what is replaced
pub replaced_first : (before others : List Membership) → IsStrictlySortedBy canonical_order (map (λ m. m.zone) before)
    → IsReplaced before others [] before
replaced_first before others up = record { each = λ z. refl; order = up }

pub replaced_more : (before others cur next : List Membership) (zones : List Name) (y : Name)
    → IsReplaced before others zones cur → IsStrictlySortedBy canonical_order (map (λ m. m.zone) next)
    → ((z : Name) → membership_of z next ≡ (if same_name y z then membership_of y others else membership_of z cur))
    → IsReplaced before others (zones ++ y ∷ []) next
replaced_more before others cur next zones y h up each = record { each = λ z. each z ∙ at z; order = up }
  where
    at : (z : Name) → (if same_name y z then membership_of y others else membership_of z cur)
        ≡ (if is_one (zones ++ y ∷ []) z then membership_of z others else membership_of z before)
    at z = rw (one_more zones y z) (elim (cases_Bool (same_name y z)) [
      | inl s ↦
          let n : membership_of y others ≡ membership_of z others =
          ap (λ x. membership_of x others) ((same_decides y z).0 s) in
          elim (cases_Bool (is_one zones z)) [ inl o ↦ rw (s, o) n | inr o ↦ rw (s, o) n ]
      | inr f ↦ rw (f, or_none (is_one zones z)) (h.each z)
    ])

pub replaced_some : (others cur next : List Membership) (y : Name) (m : Membership)
    → Some m ≡ membership_of y others
    → ((z : Name) → membership_of z next ≡ (if same_name m.zone z then Some m else membership_of z cur))
    → (z : Name) → membership_of z next ≡ (if same_name y z then membership_of y others else membership_of z cur)
replaced_some others cur next y m is each z =
    let own : m.zone ≡ y = subst (λ (o : Option Membership). IfSome o (λ x. x.zone ≡ y)) (sym is)
    (found_zone (λ (x : Membership). x.zone) y others) in
    each z ∙ (λ i. if same_name (own i) z then is i else membership_of z cur)

-- ---- one edit
pub edited_more : (ns : List Node) (es : List Edit) (e : Edit)
    → edited ns (es ++ e ∷ []) ≡ edited_at (edited ns es) e
edited_more ns [] e = refl
edited_more ns (x ∷ es) e = edited_more (edited_at ns x) es e

abbrev at_label : Octets → List Node → Option Node
at_label z ns = find (λ n. same_label n.label z) ns

pub edited_one : (ns next : List Node) (e : Edit) → ForSome e.node (λ n. n.label ≡ e.label)
    → IsStrictlySortedBy label_order (map (λ n. n.label) ns)
    → IsStrictlySortedBy label_order (map (λ n. n.label) next)
    → ((z : Octets) → at_label z next ≡ (if same_label e.label z then e.node else at_label z ns))
    → next ≡ edited_at ns e
edited_one ns next e own up rise each =
    same_by_key label_order label_total same_label same_label_decides label_same (λ (n : Node). n.label) next
    (edited_at ns e) rise (at_rises ns e own up) (λ z. each z ∙ sym (at_found ns e z own))
