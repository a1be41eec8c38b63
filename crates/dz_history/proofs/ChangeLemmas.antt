-- The slots after a listing are those before it, each change made one by one.
use Rattle.std.proofs.Common.{◌≡◌, ◌≢◌, ℕ, ◌<◌, true, false, List, [], ◌∷◌, map, refl, sym, ◌∙◌, ap, subst, arith}
use Rattle.std.proofs.Common.{inl, inr, Some, None}
use Rattle.std.specs.Prelude.{Option, IsSome, IfSome, fold, if◌then◌else◌}
use Rattle.std.specs.Option.{option_map, option_eq, unwrap_or}
use Rattle.std.specs.List.{AllByRecursion, find, filter_map, cons_option}
use Rattle.std.specs.List.Sorted.{IsStrictlySortedBy}
use Rattle.std.specs.Ordering.{is_eq, ordering_reverse}
use Rattle.std.specs.Str.{bytes_eq}
use Rattle.std.specs.declared.cmp.Ordering.{Ordering}
use Rattle.std.specs.declared.cmp.Ordering.TheVariants.{Less, Equal, Greater}
use Rattle.std.proofs.lemmas.Bool.{cases_Bool}
use Rattle.std.proofs.lemmas.Option.{none-some}
use Rattle.dz_name.specs.Words.{Name}
use Rattle.dz_name.specs.Name.{same_name, same_label, canonical_order}
use Rattle.dz_name.specs.Order.{canonical_total, canonical_same, same_decides, same_ties}
use Rattle.dz_member.specs.declared.listing.Node.{Node}
use Rattle.dz_member.specs.declared.change.Change.{Change}
use Rattle.dz_member.specs.declared.change.What.{What}
use Rattle.dz_member.specs.declared.change.What.TheVariants.{Added, Removed, Reset, Moved, MovedReset, Clash}
use Rattle.dz_member.specs.declared.change.What.TheVariants.{Regrouped}
use Rattle.dz_member.specs.Membership.{MemberOf}
use Rattle.dz_member.specs.Fold.{FoldOf, IsFold, member_of}
use Rattle.dz_member.specs.Process.{Judgement, choice_in, consents, is_catalog, entered, judged, node_of, judged_at}
use Rattle.dz_member.specs.Process.{zones_of, changes}
use Rattle.dz_table.specs.Slot.{SlotOf}
use Rattle.dz_table.specs.Table.{IsTable, slot_order, slot_of}
use Rattle.dz_table.proofs.Putting.{put_rises, put_own, put_others, without_rises, without_own, without_others}
use Rattle.dz_table.proofs.Rising.{all_weaker}
use Rattle.dz_history.specs.State.{State, IsState, HasBegun, member_at}
use Rattle.dz_history.specs.After.{fresh, slot_after}
use Rattle.dz_history.specs.inner.Changed.{after_what, after_change, AreListed}
use Rattle.dz_history.proofs.FindLemmas.{found_passes}
use Rattle.dz_history.proofs.JudgedLemmas.{by_test, found_all}
use Rattle.dz_history.proofs.SlotLemmas.{slot_zone, slots_zones, rises_by, slot_same, slot_again, slot_new}
use Rattle.dz_history.proofs.StateLemmas.{same_found}

-- the slot of a zone after what happened to it
slot_by : What → Name → Option SlotOf → Option SlotOf
slot_by (Added catalog) zone slot = Some (fresh zone)
slot_by (Reset catalog) zone slot = Some (fresh zone)
slot_by (MovedReset from to) zone slot = Some (fresh zone)
slot_by (Removed catalog) zone slot = None
slot_by (Moved from to) zone slot = slot
slot_by (Clash holder) zone slot = slot
slot_by (Regrouped catalog) zone slot = slot

-- .. where something did
slot_if : Option What → Name → Option SlotOf → Option SlotOf
slot_if None zone slot = slot
slot_if (Some what) zone slot = slot_by what zone slot

by_again : (w : What) (zone : Name) (slot : Option SlotOf) → slot_by w zone (slot_by w zone slot) ≡ slot_by w zone slot
unfolding slot_by
by_again (Added catalog) zone slot = refl
by_again (Reset catalog) zone slot = refl
by_again (MovedReset from to) zone slot = refl
by_again (Removed catalog) zone slot = refl
by_again (Moved from to) zone slot = refl
by_again (Clash holder) zone slot = refl
by_again (Regrouped catalog) zone slot = refl

-- one change
what_rises : (w : What) (zone : Name) (slots : List SlotOf) → IsTable slots → IsTable (after_what slots zone w)
what_rises (Added catalog) zone slots up = put_rises slots _ (fresh zone) up refl
what_rises (Reset catalog) zone slots up = put_rises slots _ (fresh zone) up refl
what_rises (MovedReset from to) zone slots up = put_rises slots _ (fresh zone) up refl
what_rises (Removed catalog) zone slots up = without_rises slots _ zone up refl
what_rises (Moved from to) zone slots up = up
what_rises (Clash holder) zone slots up = up
what_rises (Regrouped catalog) zone slots up = up

what_own : (w : What) (zone : Name) (slots : List SlotOf)
    → slot_of zone (after_what slots zone w) ≡ slot_by w zone (slot_of zone slots)
unfolding slot_by
what_own (Added catalog) zone slots = put_own slots _ (fresh zone) refl
what_own (Reset catalog) zone slots = put_own slots _ (fresh zone) refl
what_own (MovedReset from to) zone slots = put_own slots _ (fresh zone) refl
what_own (Removed catalog) zone slots = without_own slots _ zone refl
what_own (Moved from to) zone slots = refl
what_own (Clash holder) zone slots = refl
what_own (Regrouped catalog) zone slots = refl

what_others : (w : What) (zone z : Name) (slots : List SlotOf) → z ≢ zone
    → slot_of z (after_what slots zone w) ≡ slot_of z slots
what_others (Added catalog) zone z slots ne = put_others slots _ (fresh zone) z refl ne
what_others (Reset catalog) zone z slots ne = put_others slots _ (fresh zone) z refl ne
what_others (MovedReset from to) zone z slots ne = put_others slots _ (fresh zone) z refl ne
what_others (Removed catalog) zone z slots ne = without_others slots _ zone z refl ne
what_others (Moved from to) zone z slots ne = refl
what_others (Clash holder) zone z slots ne = refl
what_others (Regrouped catalog) zone z slots ne = refl

apart_of : (a b : Name) → same_name a b ≡ false → b ≢ a
apart_of a b f e = absurd (let t : same_name a b ≡ true = (same_decides a b).1 (sym e) in cc)

change_rises : (c : Change) (slots : List SlotOf) → IsTable slots → IsTable (after_change slots c)
unfolding after_change
change_rises c slots up = what_rises c.what c.zone slots up

change_own : (c : Change) (z : Name) (w : What) (slots : List SlotOf) → c.zone ≡ z → c.what ≡ w
    → slot_of z (after_change slots c) ≡ slot_by w z (slot_of z slots)
unfolding after_change
change_own c z w slots e h = rw (e, h) (what_own w z slots)

change_others : (c : Change) (z : Name) (slots : List SlotOf) → same_name c.zone z ≡ false
    → slot_of z (after_change slots c) ≡ slot_of z slots
unfolding after_change
change_others c z slots f = what_others c.what c.zone z slots (apart_of c.zone z f)

-- all changes
all_rise : (cs : List Change) (slots : List SlotOf) → IsTable slots → IsTable (fold after_change slots cs)
all_rise [] slots up = up
all_rise (c ∷ cs) slots up = all_rise cs (after_change slots c) (change_rises c slots up)

zone_is : (c : Change) (z : Name) → same_name c.zone z ≡ true → c.zone ≡ z
zone_is c z t = (same_decides c.zone z).0 t

module _ (z : Name) (w : What) where
  settled : (cs : List Change) (slots : List SlotOf) (x : Option SlotOf)
      → AllByRecursion (λ c. c.zone ≡ z → c.what ≡ w) cs → slot_of z slots ≡ slot_by w z x
      → slot_of z (fold after_change slots cs) ≡ slot_by w z x
  settled [] slots x a h = h
  settled (c ∷ cs) slots x a h = elim (cases_Bool (same_name c.zone z)) [
    | inl t ↦ settled cs (after_change slots c) x a.1
        (change_own c z w slots (zone_is c z t) (a.0 (zone_is c z t)) ∙ (ap (slot_by w z) h ∙ by_again w z x))
    | inr f ↦ settled cs (after_change slots c) x a.1 (change_others c z slots f ∙ h)
  ]

  told : (cs : List Change) (slots : List SlotOf) (found : Change)
      → AllByRecursion (λ c. c.zone ≡ z → c.what ≡ w) cs → Some found ≡ find (λ c. same_name c.zone z) cs
      → slot_of z (fold after_change slots cs) ≡ slot_by w z (slot_of z slots)
  told [] slots found a e = absurd (cc)
  told (c ∷ cs) slots found a e = elim (cases_Bool (same_name c.zone z)) [
    | inl t ↦ settled cs (after_change slots c) (slot_of z slots) a.1
        (change_own c z w slots (zone_is c z t) (a.0 (zone_is c z t)))
    | inr f ↦ told cs (after_change slots c) found a.1 (rw f at e) ∙ ap (slot_by w z) (change_others c z slots f)
  ]

untold : (z : Name) (cs : List Change) (slots : List SlotOf) → AllByRecursion (λ c. c.zone ≢ z) cs
    → slot_of z (fold after_change slots cs) ≡ slot_of z slots
untold z [] slots a = refl
untold z (c ∷ cs) slots a = elim (cases_Bool (same_name c.zone z)) [
  | inl t ↦ absurd (a.0 (zone_is c z t))
  | inr f ↦ untold z cs (after_change slots c) a.1 ∙ change_others c z slots f
]

-- each change is what was judged of its zone
module _ (known : FoldOf) (catalog : Name) (nodes : List Node) (position : ℕ) where
  abbrev IsJudged : Change → Type 0
  IsJudged c = (judged_at known catalog nodes position c.zone).change ≡ Some c.what

  one_judged : (zone : Name) (o : Option What) (cs : List Change)
      → (judged_at known catalog nodes position zone).change ≡ o → AllByRecursion IsJudged cs
      → AllByRecursion IsJudged (cons_option (option_map (λ what. record { zone = zone; what = what }) o) cs)
  one_judged zone None cs e a = a
  one_judged zone (Some w) cs e a = (e, a)

  zones_judged : (zones : List Name) → AllByRecursion IsJudged (filter_map
      (λ zone. option_map (λ what. record { zone = zone; what = what })
      (judged_at known catalog nodes position zone).change) zones)
  zones_judged [] = tt
  zones_judged (zone ∷ zones) = one_judged zone _ _ refl (zones_judged zones)

  changes_judged : AllByRecursion IsJudged (changes known catalog nodes position)
  unfolding changes
  changes_judged = zones_judged (zones_of known.members nodes)

  -- so the slot of a zone afterwards is the one by what was judged of it
  never : (z : Name) (c : Change) → (judged_at known catalog nodes position z).change ≡ None → IsJudged c
      → c.zone ≢ z
  never z c none h e =
      none-some c.what (sym none ∙ (ap (λ y. (judged_at known catalog nodes position y).change) (sym e) ∙ h))

  always : (z : Name) (w : What) (c : Change) → (judged_at known catalog nodes position z).change ≡ Some w
      → IsJudged c → c.zone ≡ z → c.what ≡ w
  always z w c some h e =
      let s : Some c.what ≡ Some w =
      sym h ∙ (ap (λ y. (judged_at known catalog nodes position y).change) e ∙ some) in
      cc

  by_found : (z : Name) (w : What) (cs : List Change) (slots : List SlotOf) (f : Option Change)
      → AllByRecursion (λ c. c.zone ≡ z → c.what ≡ w) cs → find (λ c. same_name c.zone z) cs ≡ f
      → option_map (λ c. c.what) f ≡ Some w
      → slot_of z (fold after_change slots cs) ≡ slot_by w z (slot_of z slots)
  by_found z w cs slots None a e h = absurd (none-some w h)
  by_found z w cs slots (Some found) a e h = told z w cs slots found a (sym e)

  by_changes : (z : Name) (cs : List Change) (slots : List SlotOf) (o : Option What)
      → (judged_at known catalog nodes position z).change ≡ o → AllByRecursion IsJudged cs
      → option_map (λ c. c.what) (find (λ c. same_name c.zone z) cs) ≡ o
      → slot_of z (fold after_change slots cs) ≡ slot_if o z (slot_of z slots)
  unfolding slot_if
  by_changes z cs slots None is a e =
      untold z cs slots (all_weaker IsJudged (λ c. c.zone ≢ z) (λ c h. never z c is h) cs a)
  by_changes z cs slots (Some w) is a e = by_found z w cs slots (find (λ c. same_name c.zone z) cs)
      (all_weaker IsJudged (λ c. c.zone ≡ z → c.what ≡ w) (λ c h. always z w c is h) cs a) refl e

-- a zone that is no member has no slot
none_found : (zone : Name) (ms : List MemberOf) (slots : List SlotOf)
    → map (λ slot. slot.zone) slots ≡ map (λ m. m.zone) ms → None ≡ member_of zone ms → slot_of zone slots ≡ None
none_found zone [] [] e h = refl
none_found zone [] (slot ∷ slots) e h = absurd (cc)
none_found zone (m ∷ ms) [] e h = absurd (cc)
none_found zone (m ∷ ms) (slot ∷ slots) e h =
    let first : slot.zone ≡ m.zone = cc in
    let rest : map (λ x. x.zone) slots ≡ map (λ x. x.zone) ms = cc in
    elim (cases_Bool (same_name m.zone zone)) [
      | inl t ↦ absurd (none-some m (rw t at h))
      | inr f ↦ rw (first, f) (none_found zone ms slots rest (rw f at h))
    ]

-- the slot of a zone among those after a listing
after_of : (s : State) (z : Name) (ms : List MemberOf)
    → slot_of z (map (slot_after s) ms) ≡ option_map (slot_after s) (member_of z ms)
after_of s z [] = refl
after_of s z (m ∷ ms) = elim (cases_Bool (same_name m.zone z)) [
  | inl t ↦ let u : same_name (slot_after s m).zone z ≡ true = ap (λ k. same_name k z) (slot_zone s m) ∙ t in
      rw (t, u) refl
  | inr f ↦ let g : same_name (slot_after s m).zone z ≡ false = ap (λ k. same_name k z) (slot_zone s m) ∙ f in
      rw (f, g) (after_of s z ms)
]

there : (o : Option SlotOf) (d : SlotOf) → IsSome o → Some (unwrap_or o d) ≡ o
there None d h = absurd (cc)
there (Some slot) d h = refl

member_zone : (s : State) (m : MemberOf) (z : Name) → Some m ≡ member_at s z → m.zone ≡ z
member_zone s m z e =
    (same_decides m.zone z).0 (found_passes (λ (x : MemberOf). same_name x.zone z) s.fold.members m e)

-- a member that goes on keeps its slot, and one that enters has a fresh one
goes_on : (s : State) → IsState s → (m after : MemberOf) (z : Name) → Some m ≡ member_at s z → after.zone ≡ m.zone
    → after.incarnation ≡ m.incarnation → Some (slot_after s after) ≡ slot_of z s.table
goes_on s ok m after z e same i =
    let zone : after.zone ≡ z = same ∙ member_zone s m z e in
    let some : IsSome (member_of z s.fold.members) = rw (← e) refl in
    ap Some (slot_same s after m (e ∙ ap (member_at s) (sym zone)) (sym i))
    ∙ (ap (λ y. Some (unwrap_or (slot_of y s.table) (fresh y))) zone
    ∙ there (slot_of z s.table) (fresh z) (same_found z s.fold.members s.table ok.members some))

begun : (s : State) → IsState s → (m : MemberOf) (z : Name) → Some m ≡ member_at s z → m.incarnation < s.count
begun s ok m z e =
    let h : IfSome (member_at s z) (HasBegun s.count) = found_all (HasBegun s.count) z s.fold.members ok.begun in
    (rw (← e) at h).1

enters : (s : State) → IsState s → (after : MemberOf) (z : Name) (held : Option MemberOf) → held ≡ member_at s z
    → after.zone ≡ z → after.incarnation ≡ s.count → slot_after s after ≡ fresh z
enters s ok after z None e zone i = slot_new s after (e ∙ ap (member_at s) (sym zone)) ∙ ap fresh zone
enters s ok after z (Some m) e zone i =
    slot_again s after m (e ∙ ap (member_at s) (sym zone))
    (λ same. omega (arith, begun s ok m z e, same, i)) ∙ ap fresh zone

module _ (s : State) (ok : IsState s) (catalog : Name) (nodes : List Node) (z : Name) where
  abbrev IsTold : Judgement → Type 0
  IsTold j = option_map (slot_after s) j.stands ≡ slot_if j.change z (slot_of z s.table)

  node_zone : (n : Node) → Some n ≡ node_of z nodes → n.zone ≡ z
  node_zone n e = (same_decides n.zone z).0 (found_passes (λ (x : Node). same_name x.zone z) nodes n e)

  judged_told : (held : Option MemberOf) → held ≡ member_at s z → (node : Option Node) → node ≡ node_of z nodes
      → IsTold (judged s.fold catalog s.count held node)
  unfolding judged slot_if slot_by
  judged_told None e None n = sym (none_found z s.fold.members s.table ok.members e)
  judged_told (Some m) e None n =
      by_test IsTold (same_name m.catalog catalog) _ _ (λ _. refl) (λ _. goes_on s ok m m z e refl refl)
  judged_told None e (Some node) n =
      by_test IsTold (is_catalog s.fold node.zone) _ _
      (λ _. sym (none_found z s.fold.members s.table ok.members e))
      (λ _. ap Some (enters s ok (entered s.fold catalog s.count node) z None e (node_zone node n) refl))
  judged_told (Some m) e (Some node) n =
      let fresh_one : slot_after s (entered s.fold catalog s.count node) ≡ fresh z =
      enters s ok (entered s.fold catalog s.count node) z (Some m) e (node_zone node n) refl in
      let choice = choice_in s.fold.config catalog node in
      by_test IsTold (is_catalog s.fold node.zone) _ _ (λ _. goes_on s ok m m z e refl refl)
      (λ _. by_test IsTold (same_name m.catalog catalog) _ _
      (λ _. by_test IsTold (same_label m.label node.label) _ _
      (λ _. by_test IsTold (option_eq bytes_eq m.choice choice) _ _ (λ _. goes_on s ok m m z e refl refl)
      (λ _. goes_on s ok m (record m { choice = choice }) z e refl refl))
      (λ _. ap Some fresh_one))
      (λ _. by_test IsTold (consents s.fold catalog m) _ _
      (λ _. by_test IsTold (same_label m.label node.label) _ _
      (λ _. goes_on s ok m (record m { catalog = catalog; choice = choice }) z e refl refl) (λ _. ap Some fresh_one))
      (λ _. goes_on s ok m m z e refl refl)))

-- ---- tables are equal where each zone has the same slot in both
first_own : (x : SlotOf) (xs : List SlotOf) → slot_of x.zone (x ∷ xs) ≡ Some x
first_own x xs = let t : same_name x.zone x.zone ≡ true = (same_decides x.zone x.zone).1 refl in rw t refl

none_behind : (z : Name) (xs : List SlotOf) → AllByRecursion (λ x. canonical_order z x.zone ≡ Less) xs
    → slot_of z xs ≡ None
none_behind z [] h = refl
none_behind z (x ∷ xs) h =
    let f : same_name x.zone z ≡ false =
    same_ties x.zone z ∙ ap is_eq (canonical_total.antisymm x.zone z ∙ ap ordering_reverse h.0) in
    rw f (none_behind z xs h.1)

all_further : (z : Name) (x : SlotOf) (xs : List SlotOf) → canonical_order z x.zone ≡ Less
    → AllByRecursion (λ y. slot_order x y ≡ Less) xs → AllByRecursion (λ y. canonical_order z y.zone ≡ Less) xs
all_further z x xs lt h =
    all_weaker (λ y. slot_order x y ≡ Less) (λ y. canonical_order z y.zone ≡ Less)
    (λ y l. canonical_total.trans z x.zone y.zone lt l) xs h

-- the first of one isn't in the other
first_gone : (x y : SlotOf) (xs ys : List SlotOf) → canonical_order x.zone y.zone ≡ Less
    → AllByRecursion (λ s. slot_order y s ≡ Less) ys
    → slot_of x.zone (x ∷ xs) ≢ slot_of x.zone (y ∷ ys)
first_gone x y xs ys lt up h =
    none-some x (sym (none_behind x.zone (y ∷ ys) (lt, all_further x.zone y ys lt up)) ∙ (sym h ∙ first_own x xs))

first_same : (x y : SlotOf) (xs ys : List SlotOf) → AllByRecursion (λ s. slot_order x s ≡ Less) xs
    → AllByRecursion (λ s. slot_order y s ≡ Less) ys → slot_of x.zone (x ∷ xs) ≡ slot_of x.zone (y ∷ ys)
    → slot_of y.zone (x ∷ xs) ≡ slot_of y.zone (y ∷ ys) → x ≡ y
first_same x y xs ys a b h k = go (canonical_order x.zone y.zone) refl
  where
    go : (o : Ordering) → canonical_order x.zone y.zone ≡ o → x ≡ y
    go Less e = absurd (first_gone x y xs ys e b h)
    go Greater e =
        let lt : canonical_order y.zone x.zone ≡ Less =
        canonical_total.antisymm y.zone x.zone ∙ ap ordering_reverse e in
        absurd (first_gone y x ys xs lt a (sym k))
    go Equal e =
        let zone : x.zone ≡ y.zone = canonical_same x.zone y.zone e in
        let some : Some x ≡ Some y = sym (first_own x xs)
        ∙ (h ∙ (ap (λ z. slot_of z (y ∷ ys)) zone ∙ first_own y ys)) in
        cc

-- the same slots behind the first
same_behind : (x y : SlotOf) (xs ys : List SlotOf) → x.zone ≡ y.zone
    → AllByRecursion (λ s. slot_order x s ≡ Less) xs → AllByRecursion (λ s. slot_order y s ≡ Less) ys
    → (z : Name) → slot_of z (x ∷ xs) ≡ slot_of z (y ∷ ys) → slot_of z xs ≡ slot_of z ys
same_behind x y xs ys e a b z h = elim (cases_Bool (same_name x.zone z)) [
  | inl t ↦
      let here : x.zone ≡ z = (same_decides x.zone z).0 t in
      let one : slot_of z xs ≡ None = subst (λ k. slot_of k xs ≡ None) here (none_behind x.zone xs a) in
      let two : slot_of z ys ≡ None = subst (λ k. slot_of k ys ≡ None) (sym e ∙ here) (none_behind y.zone ys b) in
      one ∙ sym two
  | inr f ↦ let g : same_name y.zone z ≡ false = ap (λ k. same_name k z) (sym e) ∙ f in rw (f, g) at h
]

tables_same : (xs ys : List SlotOf) → IsTable xs → IsTable ys → ((z : Name) → slot_of z xs ≡ slot_of z ys) → xs ≡ ys
unfolding IsStrictlySortedBy
tables_same [] [] a b h = refl
tables_same [] (y ∷ ys) a b h = absurd (none-some y (h y.zone ∙ first_own y ys))
tables_same (x ∷ xs) [] a b h = absurd (none-some x (sym (h x.zone) ∙ first_own x xs))
tables_same (x ∷ xs) (y ∷ ys) a b h =
    let first = first_same x y xs ys a.0 b.0 (h x.zone) (h y.zone) in
    ap (λ s. s ∷ xs) first ∙ ap (λ l. y ∷ l)
    (tables_same xs ys a.1 b.1 (λ z. same_behind x y xs ys (ap (λ s. s.zone) first) a.0 b.0 z (h z)))

-- ---- the slots after a listing
pub changes_table : (s : State) (after : FoldOf) (cs : List Change) → IsState s → IsFold after
    → AreListed s after cs → fold after_change s.table cs ≡ map (slot_after s) after.members
changes_table s after cs ok is_fold listed =
    let each : (z : Name) → slot_of z (fold after_change s.table cs) ≡ slot_of z (map (slot_after s) after.members) =
    λ z. by_changes s.fold listed.catalog listed.nodes s.count z cs s.table _ refl
    (subst (AllByRecursion (IsJudged s.fold listed.catalog listed.nodes s.count)) (sym listed.changes)
    (changes_judged s.fold listed.catalog listed.nodes s.count)) (listed.each.change z)
    ∙ sym (after_of s z after.members ∙ (ap (option_map (slot_after s)) (listed.each.member z)
    ∙ judged_told s ok listed.catalog listed.nodes z (member_of z s.fold.members) refl
    (node_of z listed.nodes) refl)) in
    tables_same _ _
    (all_rise cs s.table (rises_by (λ slot. slot.zone) canonical_order s.table (rw ok.members ok.fold.rises)))
    (rises_by (λ slot. slot.zone) canonical_order (map (slot_after s) after.members)
    (rw (slots_zones s after.members) is_fold.rises)) each
