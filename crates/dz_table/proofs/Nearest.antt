-- The closest slot, against its words, and by its place in canonical order.
use Rattle.std.proofs.Common.{◌≡◌, ℕ, ◌≤◌, zero, suc, Bool, true, false, List, [], ◌∷◌, ◌++◌, length, take, drop, refl}
use Rattle.std.proofs.Common.{sym, ◌∙◌, ap, subst, arith, inl, inr, length-append}
use Rattle.std.specs.Prelude.{Option, Some, None, reverse}
use Rattle.std.specs.Option.{option_or}
use Rattle.std.specs.List.{AllByRecursion, find, All, Contains}
use Rattle.std.specs.Ordering.{is_gt, nat_cmp, ordering_reverse}
use Rattle.std.specs.Cmp.{IsTotalOrder, nat_cmp_total, tied_itself}
use Rattle.std.specs.Cmp.Lexicographic.{slice_cmp, lists_total}
use Rattle.std.specs.FinMap.{slice_cmp-IsAntisymmetric, nat_cmp-IsAntisymmetric}
use Rattle.std.specs.declared.cmp.Ordering.{Ordering}
use Rattle.std.specs.declared.cmp.Ordering.TheVariants.{Less, Equal, Greater}
use Rattle.std.proofs.lemmas.Bool.{cases_Bool, false≢true, false_from_ne_true}
use Rattle.std.proofs.lemmas.List.{reverse-append, reverse-reverse, take-append-drop}
use Rattle.std.proofs.lemmas.List.Elements.{All-from_recursion}
use Rattle.dz_name.specs.Name.{canonical_order, same_name, upward, IsWithin}
use Rattle.dz_name.specs.Order.{canonical_total, canonical_same, same_decides}
use Rattle.dz_table.specs.Slot.{SlotOf}
use Rattle.dz_table.specs.Table.{slot_of, first_held, closest, IsNearest, IsClosest}
use Rattle.dz_table.proofs.Rising.{all_weaker}

find_some : {X : Type 0} (p : X → Bool) (xs : List X) (x : X) → find p xs ≡ Some x → Contains xs x × (p x ≡ true)
find_some p [] x e = absurd (cc)
find_some p (y ∷ ys) x e =
    elim (cases_Bool (p y)) [
      | inl t ↦ let same : y ≡ x = (let s : Some y ≡ Some x = rw t at e in cc) in
          rw (← same) ((zero, omega arith, refl), t)
      | inr f ↦ let h = find_some p ys x (rw f at e) in ((suc h.0.0, omega arith, h.0.2), h.1)
    ]

find_none : {X : Type 0} (p : X → Bool) (xs : List X) → find p xs ≡ None → AllByRecursion (λ y. p y ≡ false) xs
find_none p [] e = tt
find_none p (y ∷ ys) e =
    elim (cases_Bool (p y)) [
      | inl t ↦ let s : Some y ≡ None = rw t at e in absurd (cc)
      | inr f ↦ (f, find_none p ys (rw f at e))
    ]

-- a suffix of a name that isn't the name is a suffix of what follows its first label
within_rest : (label : List ℕ) (labels zone : List (List ℕ)) → IsWithin (label ∷ labels) zone
    → same_name zone (label ∷ labels) ≡ false → IsWithin labels zone
within_rest label labels zone ([], e) f = let t = (same_decides zone (label ∷ labels)).1 (sym e) in absurd (cc)
within_rest label labels zone (first ∷ front, e) f = (front, cc)

within_longer : (label : List ℕ) (labels zone : List (List ℕ)) → IsWithin labels zone → IsWithin (label ∷ labels) zone
within_longer label labels zone w = (label ∷ w.0, ap (λ xs. label ∷ xs) w.1)

within_le : (name zone : List (List ℕ)) → IsWithin name zone → length zone ≤ length name
within_le name zone w = omega (arith, ap length w.1, length-append w.0 zone)

within_root : (zone : List (List ℕ)) → IsWithin [] zone → same_name zone [] ≡ false → ⊥
within_root zone ([], e) f = let t = (same_decides zone []).1 (sym e) in cc
within_root zone (first ∷ front, e) f = cc

own_nearest : (slots : List SlotOf) (name : List (List ℕ)) (slot : SlotOf) → slot_of name slots ≡ Some slot
    → IsNearest slots name slot
own_nearest slots name slot e =
    let h = find_some (λ s. same_name s.zone name) slots slot e in
    let same : slot.zone ≡ name = (same_decides slot.zone name).0 h.1 in
    record {
      held = h.0;
      encloses = ([], sym same);
      nearest = λ k d inside w. rw same (within_le name _ w);
    }

none_own : (slots : List SlotOf) (name : List (List ℕ)) → slot_of name slots ≡ None
    → All (λ s. same_name s.zone name ≡ false) slots
none_own slots name e =
    All-from_recursion (λ s. same_name s.zone name ≡ false) slots (find_none (λ s. same_name s.zone name) slots e)

up_again : (slots : List SlotOf) (label : List ℕ) (labels : List (List ℕ)) (r : Option SlotOf)
    → slot_of (label ∷ labels) slots ≡ None → IsClosest slots labels r → IsClosest slots (label ∷ labels) r
up_again slots label labels None e h =
    λ k d inside w. h k d inside (within_rest label labels _ w (none_own slots (label ∷ labels) e k d inside))
up_again slots label labels (Some slot) e h =
    record {
      held = h.held;
      encloses = within_longer label labels slot.zone h.encloses;
      nearest = λ k d inside w.
          h.nearest k d inside (within_rest label labels _ w (none_own slots (label ∷ labels) e k d inside));
    }

-- the closest slot is what the words say
pub closest_is : (slots : List SlotOf) (name : List (List ℕ)) → IsClosest slots name (closest slots name)
unfolding closest first_held upward
closest_is slots [] =
    elim (slot_of [] slots) as (λ r. slot_of [] slots ≡ r → IsClosest slots [] (option_or r None)) [
      | None ↦ λ e k d inside w. within_root _ w (none_own slots [] e k d inside)
      | Some slot ↦ λ e. own_nearest slots [] slot e
    ] refl
closest_is slots (label ∷ labels) =
    elim (slot_of (label ∷ labels) slots) as (λ r. slot_of (label ∷ labels) slots ≡ r
    → IsClosest slots (label ∷ labels) (option_or r (first_held slots (upward labels)))) [
      | None ↦ λ e. up_again slots label labels (first_held slots (upward labels)) e (closest_is slots labels)
      | Some slot ↦ λ e. own_nearest slots (label ∷ labels) slot e
    ] refl

pub closest_answer : (slots : List SlotOf) (name : List (List ℕ)) (r : Option SlotOf) → r ≡ closest slots name
    → IsClosest slots name r
closest_answer slots name r e = rw e (closest_is slots name)

-- a slot found at the name itself
own_closest : (slots : List SlotOf) (name : List (List ℕ)) (slot : SlotOf) → slot_of name slots ≡ Some slot
    → closest slots name ≡ Some slot
unfolding closest first_held upward
own_closest slots [] slot e = rw e refl
own_closest slots (label ∷ labels) slot e = rw e refl

not_found : (slots : List SlotOf) (name : List (List ℕ)) → AllByRecursion (λ s. same_name s.zone name ≡ false) slots
    → slot_of name slots ≡ None
not_found [] name h = refl
not_found (s ∷ slots) name h = rw h.0 (not_found slots name h.1)

other_name : (zone name : List (List ℕ)) → ¬ (zone ≡ name) → same_name zone name ≡ false
other_name zone name ne = false_from_ne_true (same_name zone name) (λ t. ne ((same_decides zone name).0 t))

-- where no zone encloses the name, there is no closest slot
pub none_closest : (slots : List SlotOf) (name : List (List ℕ)) → AllByRecursion (λ s. ¬ IsWithin name s.zone) slots
    → closest slots name ≡ None
unfolding closest first_held upward
none_closest slots [] h =
    rw (not_found slots [] (all_weaker (λ s. ¬ IsWithin [] s.zone) (λ s. same_name s.zone [] ≡ false)
    (λ s apart. other_name s.zone [] (λ e. apart ([], sym e))) slots h)) refl
none_closest slots (label ∷ labels) h =
    rw (not_found slots (label ∷ labels)
    (all_weaker (λ s. ¬ IsWithin (label ∷ labels) s.zone) (λ s. same_name s.zone (label ∷ labels) ≡ false)
    (λ s apart. other_name s.zone (label ∷ labels) (λ e. apart ([], sym e))) slots h))
    (none_closest slots labels (all_weaker (λ s. ¬ IsWithin (label ∷ labels) s.zone) (λ s. ¬ IsWithin labels s.zone)
    (λ s apart w. apart (within_longer label labels s.zone w)) slots h))

too_long : (label : List ℕ) (front above : List (List ℕ)) → ¬ IsWithin above (label ∷ (front ++ above))
too_long label front above w =
    absurd (omega (arith, within_le above (label ∷ (front ++ above)) w, length-append front above))

-- the closest slot of a name is that of a name above it, where that is within each zone that encloses the name
pub climbed : (slots : List SlotOf) (front above : List (List ℕ))
    → AllByRecursion (λ s. IsWithin (front ++ above) s.zone → IsWithin above s.zone) slots
    → closest slots (front ++ above) ≡ closest slots above
unfolding closest first_held upward
climbed slots [] above h = refl
climbed slots (label ∷ front) above h =
    rw (not_found slots (label ∷ (front ++ above)) (all_weaker (λ s. IsWithin (label ∷ (front ++ above)) s.zone
    → IsWithin above s.zone) (λ s. same_name s.zone (label ∷ (front ++ above)) ≡ false)
    (λ s up. other_name s.zone (label ∷ (front ++ above))
    (λ e. too_long label front above (subst (λ z. IsWithin above z) e (up ([], sym e))))) slots h))
    (climbed slots front above (all_weaker (λ s. IsWithin (label ∷ (front ++ above)) s.zone → IsWithin above s.zone)
    (λ s. IsWithin (front ++ above) s.zone → IsWithin above s.zone)
    (λ s up w. up (within_longer label (front ++ above) s.zone w)) slots h))

-- the names of a subtree are together in canonical order, the name above them first
label_total : IsTotalOrder (slice_cmp nat_cmp)
label_total = lists_total nat_cmp_total

first_of_tree : (zone rest : List (List ℕ)) → is_gt (slice_cmp (slice_cmp nat_cmp) zone (zone ++ rest)) ≡ false
first_of_tree [] [] = refl
first_of_tree [] (label ∷ rest) = refl
first_of_tree (label ∷ zone) rest = rw (tied_itself label_total label) (first_of_tree zone rest)

tree_between : (zone name rest : List (List ℕ)) → is_gt (slice_cmp (slice_cmp nat_cmp) zone name) ≡ false
    → is_gt (slice_cmp (slice_cmp nat_cmp) name (zone ++ rest)) ≡ false
    → (more : List (List ℕ)) × (name ≡ zone ++ more)
tree_between [] name rest a b = (name, refl)
tree_between (l ∷ zone) [] rest a b = absurd (false≢true (sym a))
tree_between (l ∷ zone) (m ∷ name) rest a b = go (slice_cmp nat_cmp l m) refl (tree_between zone name rest)
  where
    go : (o : Ordering) → slice_cmp nat_cmp l m ≡ o
        → (is_gt (slice_cmp (slice_cmp nat_cmp) zone name) ≡ false
        → is_gt (slice_cmp (slice_cmp nat_cmp) name (zone ++ rest)) ≡ false
        → (more : List (List ℕ)) × (name ≡ zone ++ more))
        → (more : List (List ℕ)) × (m ∷ name ≡ l ∷ (zone ++ more))
    go Less e ih =
        let back : slice_cmp nat_cmp m l ≡ Greater = label_total.antisymm m l ∙ ap ordering_reverse e in
        let bad : true ≡ false = rw back at b in
        absurd (false≢true (sym bad))
    go Equal e ih =
        let back : slice_cmp nat_cmp m l ≡ Equal = label_total.antisymm m l ∙ ap ordering_reverse e in
        let low = rw e at a in
        let high = rw back at b in
        let r = ih low high in
        let same : l ≡ m = slice_cmp-IsAntisymmetric nat_cmp-IsAntisymmetric l m e in
        (r.0, ap (λ x. x ∷ name) (sym same) ∙ ap (λ t. l ∷ t) r.1)
    go Greater e ih = let bad : true ≡ false = rw e at a in absurd (false≢true (sym bad))

pub above_first : (name zone : List (List ℕ)) → IsWithin name zone → is_gt (canonical_order zone name) ≡ false
above_first name zone w =
    let e : reverse name ≡ reverse zone ++ reverse w.0 = ap (λ l. reverse l) w.1 ∙ reverse-append w.0 zone in
    rw e (first_of_tree (reverse zone) (reverse w.0))

pub within_between : (name zone other : List (List ℕ)) → IsWithin name zone
    → is_gt (canonical_order zone other) ≡ false → is_gt (canonical_order other name) ≡ false → IsWithin other zone
within_between name zone other w a b =
    let e : reverse name ≡ reverse zone ++ reverse w.0 = ap (λ l. reverse l) w.1 ∙ reverse-append w.0 zone in
    let c : is_gt (slice_cmp (slice_cmp nat_cmp) (reverse other) (reverse zone ++ reverse w.0)) ≡ false = rw e at b in
    let r = tree_between (reverse zone) (reverse other) (reverse w.0) a c in (
      reverse r.0,
      sym (reverse-reverse other) ∙ (ap (λ l. reverse l) r.1
          ∙ (reverse-append (reverse zone) r.0 ∙ ap (λ l. reverse r.0 ++ l) (reverse-reverse zone))),
    )

-- two names neither of which comes after the other are one
neither_after : (a b : List (List ℕ)) → is_gt (canonical_order a b) ≡ false
    → is_gt (canonical_order b a) ≡ false → a ≡ b
neither_after a b h k = go (canonical_order a b) refl h
  where
    go : (o : Ordering) → canonical_order a b ≡ o → is_gt o ≡ false → a ≡ b
    go Less e g =
        let back : canonical_order b a ≡ Greater = canonical_total.antisymm b a ∙ ap ordering_reverse e in
        let bad : true ≡ false = rw back at k in
        absurd (false≢true (sym bad))
    go Equal e g = canonical_same a b e
    go Greater e g = absurd (false≢true (sym g))

-- the last slot that doesn't come after a name
pub record IsLast (slots : List SlotOf) (name : List (List ℕ)) (slot : SlotOf) : Type 0 where
  pub own : slot_of slot.zone slots ≡ Some slot
  pub upto : is_gt (canonical_order slot.zone name) ≡ false
  pub last : AllByRecursion
      (λ s. is_gt (canonical_order s.zone name) ≡ false → is_gt (canonical_order s.zone slot.zone) ≡ false) slots

-- each zone that encloses the name encloses the zone of that slot
pub last_within : (slots : List SlotOf) (name : List (List ℕ)) (slot : SlotOf) → IsLast slots name slot
    → AllByRecursion (λ s. IsWithin name s.zone → IsWithin slot.zone s.zone) slots
last_within slots name slot is =
    all_weaker (λ s. is_gt (canonical_order s.zone name) ≡ false → is_gt (canonical_order s.zone slot.zone) ≡ false)
    (λ s. IsWithin name s.zone → IsWithin slot.zone s.zone)
    (λ s low w. within_between name s.zone slot.zone w (low (above_first name s.zone w)) is.upto) slots is.last

-- it is the closest one if its zone encloses the name
pub last_closest : (slots : List SlotOf) (name : List (List ℕ)) (slot : SlotOf) → IsLast slots name slot
    → IsWithin name slot.zone → closest slots name ≡ Some slot
last_closest slots name slot is w =
    let all = subst (λ n. AllByRecursion (λ s. IsWithin n s.zone → IsWithin slot.zone s.zone) slots) w.1
    (last_within slots name slot is) in
    ap (closest slots) w.1 ∙ (climbed slots w.0 slot.zone all ∙ own_closest slots slot.zone slot is.own)

-- .. and else the search goes on with the longest name that encloses both
pub last_climbed : (slots : List SlotOf) (name : List (List ℕ)) (slot : SlotOf) (n : ℕ) → IsLast slots name slot
    → ((zone : List (List ℕ)) → IsWithin name zone → IsWithin slot.zone zone → IsWithin (drop n name) zone)
    → closest slots (drop n name) ≡ closest slots name
last_climbed slots name slot n is longest =
    let split : take n name ++ drop n name ≡ name = take-append-drop n name in
    let all = all_weaker (λ s. IsWithin name s.zone → IsWithin slot.zone s.zone)
    (λ s. IsWithin name s.zone → IsWithin (drop n name) s.zone)
    (λ s up w. longest s.zone w (up w)) slots (last_within slots name slot is) in
    let again =
    subst (λ m. AllByRecursion (λ s. IsWithin m s.zone → IsWithin (drop n name) s.zone) slots) (sym split) all in
    sym (climbed slots (take n name) (drop n name) again) ∙ ap (closest slots) split

-- .. which has fewer labels
pub last_shorter : (slots : List SlotOf) (name : List (List ℕ)) (slot : SlotOf) (n : ℕ) → IsLast slots name slot
    → ¬ IsWithin name slot.zone → IsWithin slot.zone (drop n name) → 1 ≤ n
last_shorter slots name slot zero is apart w =
    absurd (apart ([], neither_after name slot.zone (above_first slot.zone name w) is.upto))
last_shorter slots name slot (suc n) is apart w = omega arith
