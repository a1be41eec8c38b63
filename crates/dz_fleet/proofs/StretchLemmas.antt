-- Members before and after a listing, from one changed zone to the next.
use Rattle.std.proofs.Common.{◌≡◌, ◌+◌, ◌≤◌, true, false, List, [], ◌∷◌, map, take, drop, length}
use Rattle.std.proofs.Common.{refl, sym, ◌∙◌, ap, subst, arith, inl, inr, Some, None, suc, cond}
use Rattle.std.specs.Prelude.{Option, is_some}
use Rattle.std.specs.List.{find, AllByRecursion}
use Rattle.std.specs.List.Sorted.{IsStrictlySortedBy}
use Rattle.std.specs.Ordering.{is_eq, ordering_reverse}
use Rattle.std.specs.declared.cmp.Ordering.TheVariants.{Less, Greater}
use Rattle.std.proofs.lemmas.Bool.{cases_Bool}
use Rattle.dz_name.specs.Words.{Name}
use Rattle.dz_name.specs.Name.{same_name, canonical_order}
use Rattle.dz_name.specs.Order.{canonical_total, canonical_same, same_decides, same_ties}
use Rattle.dz_member.specs.declared.change.Change.{Change}
use Rattle.dz_member.specs.Membership.{MemberOf}
use Rattle.dz_member.specs.Fold.{member_of}
use Rattle.dz_member.proofs.EachLemmas.{by_order}
use Rattle.dz_member.proofs.WalkLemmas.{all_more}
use Rattle.dz_fleet.specs.inner.Relisting.{change_of, AreRelisted, count_before, is_at}

-- ---- names in order
pub greater_apart : (a b : Name) → canonical_order a b ≡ Greater → same_name a b ≡ false
greater_apart a b h = same_ties a b ∙ ap is_eq h

pub less_back : (a b : Name) → canonical_order a b ≡ Less → canonical_order b a ≡ Greater
less_back a b h = canonical_total.antisymm b a ∙ ap ordering_reverse h

pub greater_back : (a b : Name) → canonical_order a b ≡ Greater → canonical_order b a ≡ Less
greater_back a b h = canonical_total.antisymm b a ∙ ap ordering_reverse h

pub itself : (a : Name) → same_name a a ≡ true
itself a = (same_decides a a).1 refl

-- ---- what stands at a zone of a list that rises
module _ {X : Type 0} (key : X → Name) where
  abbrev of : Name → List X → Option X
  of z xs = find (λ x. same_name (key x) z) xs

  none_above : (z : Name) (xs : List X) → AllByRecursion (λ k. canonical_order z k ≡ Less) (map key xs) → of z xs ≡ None
  none_above z [] a = refl
  none_above z (x ∷ xs) a = rw (greater_apart (key x) z (less_back z (key x) a.0)) (none_above z xs a.1)

  pub none_before : (z : Name) (x : X) (xs : List X) → IsStrictlySortedBy canonical_order (map key (x ∷ xs))
      → canonical_order z (key x) ≡ Less → of z (x ∷ xs) ≡ None
  unfolding IsStrictlySortedBy
  none_before z x xs up lt =
      none_above z (x ∷ xs) (
        lt,
        all_more (λ k. canonical_order (key x) k ≡ Less) (λ k. canonical_order z k ≡ Less)
            (λ k l. canonical_total.trans z (key x) k lt l) (map key xs) up.0,
      )

  pub first_at : (x : X) (xs : List X) → of (key x) (x ∷ xs) ≡ Some x
  first_at x xs = rw (itself (key x)) refl

  pub rest_rises : (x : X) (xs : List X) → IsStrictlySortedBy canonical_order (map key (x ∷ xs))
      → IsStrictlySortedBy canonical_order (map key xs)
  unfolding IsStrictlySortedBy
  rest_rises x xs up = up.1

  pub rest_none : (x : X) (xs : List X) (z : Name) → IsStrictlySortedBy canonical_order (map key (x ∷ xs)) → key x ≡ z
      → of z xs ≡ None
  unfolding IsStrictlySortedBy
  rest_none x xs z up e =
      none_above z xs (subst (λ y. AllByRecursion (λ k. canonical_order y k ≡ Less) (map key xs)) e up.0)

-- ---- the first of two lists
pub record Heads (m n : MemberOf) (ms ns : List MemberOf) (cs : List Change) : Type 0 where
  pub same : n ≡ m
  pub tails : AreRelisted ms ns cs

module _ (m n : MemberOf) (ms ns : List MemberOf) (cs : List Change) (h : AreRelisted (m ∷ ms) (n ∷ ns) cs) where
  tails_stay : n ≡ m → (y : Name) → change_of y cs ≡ None → member_of y ns ≡ member_of y ms
  tails_stay e y none =
      elim (cases_Bool (same_name m.zone y)) [
        | inl t ↦
            let is : m.zone ≡ y = (same_decides m.zone y).0 t in
            let is' : n.zone ≡ y = ap (λ (x : MemberOf). x.zone) e ∙ is in
            rest_none (λ (x : MemberOf). x.zone) n ns y h.rises is'
            ∙ sym (rest_none (λ (x : MemberOf). x.zone) m ms y h.rose is)
        | inr f ↦
            let f' : same_name n.zone y ≡ false = ap (λ (x : MemberOf). same_name x.zone y) e ∙ f in
            let all = h.stays y none in
            rw (f, f') at all
      ]

  heads : change_of m.zone cs ≡ None → (canonical_order n.zone m.zone ≡ Less → change_of n.zone cs ≡ None)
      → Heads m n ms ns cs
  heads none none' =
      by_order (canonical_order n.zone m.zone)
      (λ l.
      let a : Some n ≡ None =
      sym (first_at (λ (x : MemberOf). x.zone) n ns) ∙ (h.stays n.zone (none' l)
      ∙ none_before (λ (x : MemberOf). x.zone) n.zone m ms h.rose l) in
      absurd (cc a))
      (λ e.
      let is : n.zone ≡ m.zone = canonical_same n.zone m.zone e in
      let a : Some n ≡ Some m =
      sym (first_at (λ (x : MemberOf). x.zone) n ns) ∙ (ap (λ z. member_of z (n ∷ ns)) is
      ∙ (h.stays m.zone none ∙ first_at (λ (x : MemberOf). x.zone) m ms)) in
      let same : n ≡ m = cc a in
      record {
        same = same;
        tails = record {
          rose = rest_rises (λ (x : MemberOf). x.zone) m ms h.rose;
          rises = rest_rises (λ (x : MemberOf). x.zone) n ns h.rises;
          order = h.order;
          stays = tails_stay same;
        };
      })
      (λ g.
      let l : canonical_order m.zone n.zone ≡ Less = greater_back n.zone m.zone g in
      let a : None ≡ Some m =
      sym (none_before (λ (x : MemberOf). x.zone) m.zone n ns h.rises l) ∙ (h.stays m.zone none
      ∙ first_at (λ (x : MemberOf). x.zone) m ms) in
      absurd (cc a))

-- ---- without changes the lists are the same
pub same_rest : (ms ns : List MemberOf) → AreRelisted ms ns [] → ns ≡ ms
same_rest [] [] h = refl
same_rest [] (n ∷ ns) h =
    absurd (let a : Some n ≡ None = sym (first_at (λ (x : MemberOf). x.zone) n ns) ∙ h.stays n.zone refl in cc a)
same_rest (m ∷ ms) [] h =
    absurd (let a : None ≡ Some m = h.stays m.zone refl ∙ first_at (λ (x : MemberOf). x.zone) m ms in cc a)
same_rest (m ∷ ms) (n ∷ ns) h =
    let both = heads m n ms ns [] h refl (λ _. refl) in
    let e = same_rest ms ns both.tails in
    λ i. both.same i ∷ e i

-- ---- two lists in which the same zones stand
some_at : (m : MemberOf) (ms : List MemberOf) → is_some (member_of m.zone (m ∷ ms)) ≡ true
some_at m ms = ap is_some (first_at (λ (x : MemberOf). x.zone) m ms)

none_at : (z : Name) (m : MemberOf) (ms : List MemberOf)
    → IsStrictlySortedBy canonical_order (map (λ m. m.zone) (m ∷ ms)) → canonical_order z m.zone ≡ Less
    → is_some (member_of z (m ∷ ms)) ≡ false
none_at z m ms up lt = ap is_some (none_before (λ (x : MemberOf). x.zone) z m ms up lt)

zones_rest : (m n : MemberOf) (ms ns : List MemberOf)
    → IsStrictlySortedBy canonical_order (map (λ m. m.zone) (m ∷ ms))
    → IsStrictlySortedBy canonical_order (map (λ m. m.zone) (n ∷ ns)) → n.zone ≡ m.zone
    → ((z : Name) → is_some (member_of z (n ∷ ns)) ≡ is_some (member_of z (m ∷ ms)))
    → (z : Name) → is_some (member_of z ns) ≡ is_some (member_of z ms)
zones_rest m n ms ns up up' e h z = elim (cases_Bool (same_name m.zone z)) [
  | inl t ↦
      let is : m.zone ≡ z = (same_decides m.zone z).0 t in
      ap is_some (rest_none (λ (x : MemberOf). x.zone) n ns z up' (e ∙ is)
      ∙ sym (rest_none (λ (x : MemberOf). x.zone) m ms z up is))
  | inr f ↦ let f' : same_name n.zone z ≡ false = rw e f in let all = h z in rw (f', f) at all
]

pub zones_by : (ms ns : List MemberOf) → IsStrictlySortedBy canonical_order (map (λ m. m.zone) ms)
    → IsStrictlySortedBy canonical_order (map (λ m. m.zone) ns)
    → ((z : Name) → is_some (member_of z ns) ≡ is_some (member_of z ms))
    → map (λ m. m.zone) ns ≡ map (λ m. m.zone) ms
zones_by [] [] up up' h = refl
zones_by [] (n ∷ ns) up up' h =
    absurd (let bad : true ≡ false = sym (some_at n ns) ∙ h n.zone in cc bad)
zones_by (m ∷ ms) [] up up' h =
    absurd (let bad : false ≡ true = h m.zone ∙ some_at m ms in cc bad)
zones_by (m ∷ ms) (n ∷ ns) up up' h =
    by_order (canonical_order n.zone m.zone)
    (λ l. absurd (let bad : true ≡ false = sym (some_at n ns) ∙ (h n.zone ∙ none_at n.zone m ms up l) in cc bad))
    (λ q.
    let e : n.zone ≡ m.zone = canonical_same n.zone m.zone q in
    let rest = zones_by ms ns (rest_rises (λ (x : MemberOf). x.zone) m ms up)
    (rest_rises (λ (x : MemberOf). x.zone) n ns up') (zones_rest m n ms ns up up' e h) in
    λ i. e i ∷ rest i)
    (λ g.
    let l : canonical_order m.zone n.zone ≡ Less = greater_back n.zone m.zone g in
    absurd (let bad : false ≡ true = sym (none_at m.zone n ns up' l) ∙ (h m.zone ∙ some_at m ms) in cc bad))

-- ---- members before a changed zone are the same
none_lower : (z y : Name) (ms : List MemberOf) → IsStrictlySortedBy canonical_order (map (λ m. m.zone) ms)
    → count_before z ms ≡ 0 → canonical_order y z ≡ Less → member_of y ms ≡ None
none_lower z y [] up e lt = refl
none_lower z y (m ∷ ms) up e lt =
    by_order (canonical_order m.zone z)
    (λ l. absurd (let one : 1 + count_before z ms ≡ 0 = rw l at e in omega (arith, one)))
    (λ q. let is : m.zone ≡ z = canonical_same m.zone z q in
    none_before (λ (x : MemberOf). x.zone) y m ms up (subst (λ k. canonical_order y k ≡ Less) (sym is) lt))
    (λ g. none_before (λ (x : MemberOf). x.zone) y m ms up
    (canonical_total.trans y z m.zone lt (greater_back m.zone z g)))

none_counted : (c : Change) (cs : List Change) (ms ns : List MemberOf) → AreRelisted ms ns (c ∷ cs)
    → count_before c.zone ms ≡ 0 → count_before c.zone ns ≡ 0
none_counted c cs ms [] h e = refl
none_counted c cs ms (n ∷ ns) h e =
    by_order (canonical_order n.zone c.zone)
    (λ l. absurd (let a : Some n ≡ None =
    sym (first_at (λ (x : MemberOf). x.zone) n ns)
    ∙ (h.stays n.zone (none_before (λ (x : Change). x.zone) n.zone c cs h.order l)
    ∙ none_lower c.zone n.zone ms h.rose e l) in cc a))
    (λ q. rw q refl)
    (λ g. rw g refl)

pub record Stretch (ms ns : List MemberOf) (cs : List Change) (z : Name) : Type 0 where
  pub fits : count_before z ms ≤ length ns
  pub same : take (count_before z ms) ns ≡ take (count_before z ms) ms
  pub ahead : AreRelisted (drop (count_before z ms) ms) (drop (count_before z ms) ns) cs
  pub none : count_before z (drop (count_before z ms) ms) ≡ 0
  pub none_after : count_before z (drop (count_before z ms) ns) ≡ 0

none_stretch : (c : Change) (cs : List Change) (ms ns : List MemberOf) → AreRelisted ms ns (c ∷ cs)
    → count_before c.zone ms ≡ 0 → Stretch ms ns (c ∷ cs) c.zone
none_stretch c cs ms ns h e = record {
  fits = omega (arith, e);
  same = rw e refl;
  ahead = rw e h;
  none = rw e e;
  none_after = rw e (none_counted c cs ms ns h e);
}

one_longer : (c : Change) (cs : List Change) (m n : MemberOf) (ms ns : List MemberOf)
    → canonical_order m.zone c.zone ≡ Less → n ≡ m → Stretch ms ns (c ∷ cs) c.zone
    → Stretch (m ∷ ms) (n ∷ ns) (c ∷ cs) c.zone
one_longer c cs m n ms ns l e s =
    let k : count_before c.zone (m ∷ ms) ≡ suc (count_before c.zone ms) =
    (let more : 1 + count_before c.zone ms ≡ suc (count_before c.zone ms) = omega arith in rw l more) in
    record {
      fits = rw k (omega (arith, s.fits));
      same = rw k (λ i. e i ∷ s.same i);
      ahead = rw k s.ahead;
      none = rw k s.none;
      none_after = rw k s.none_after;
    }

pub stretch : (c : Change) (cs : List Change) (ms ns : List MemberOf) → AreRelisted ms ns (c ∷ cs)
    → Stretch ms ns (c ∷ cs) c.zone
stretch c cs [] ns h = none_stretch c cs [] ns h refl
stretch c cs (m ∷ ms) [] h =
    by_order (canonical_order m.zone c.zone)
    (λ l. absurd (let a : None ≡ Some m =
    h.stays m.zone (none_before (λ (x : Change). x.zone) m.zone c cs h.order l)
    ∙ first_at (λ (x : MemberOf). x.zone) m ms in cc a))
    (λ q. none_stretch c cs (m ∷ ms) [] h (rw q refl))
    (λ g. none_stretch c cs (m ∷ ms) [] h (rw g refl))
stretch c cs (m ∷ ms) (n ∷ ns) h =
    by_order (canonical_order m.zone c.zone)
    (λ l.
    let both = heads m n ms ns (c ∷ cs) h (none_before (λ (x : Change). x.zone) m.zone c cs h.order l)
    (λ less. none_before (λ (x : Change). x.zone) n.zone c cs h.order
    (canonical_total.trans n.zone m.zone c.zone less l)) in
    one_longer c cs m n ms ns l both.same (stretch c cs ms ns both.tails))
    (λ q. none_stretch c cs (m ∷ ms) (n ∷ ns) h (rw q refl))
    (λ g. none_stretch c cs (m ∷ ms) (n ∷ ns) h (rw g refl))

-- ---- behind a changed zone
-- members without the first one, if it is of this zone
abbrev pub past : Name → List MemberOf → List MemberOf
past z ms = drop (cond (is_at z ms 0) 1 0) ms

past_rises : (z : Name) (ms : List MemberOf) → IsStrictlySortedBy canonical_order (map (λ m. m.zone) ms)
    → IsStrictlySortedBy canonical_order (map (λ m. m.zone) (past z ms))
past_rises z [] up = up
past_rises z (m ∷ ms) up = elim (cases_Bool (same_name m.zone z)) [
  | inl t ↦ rw t (rest_rises (λ (x : MemberOf). x.zone) m ms up)
  | inr f ↦ rw f up
]

past_none : (z : Name) (ms : List MemberOf) → IsStrictlySortedBy canonical_order (map (λ m. m.zone) ms)
    → count_before z ms ≡ 0 → member_of z (past z ms) ≡ None
past_none z [] up e = refl
past_none z (m ∷ ms) up e = elim (cases_Bool (same_name m.zone z)) [
  | inl t ↦ rw t (rest_none (λ (x : MemberOf). x.zone) m ms z up ((same_decides m.zone z).0 t))
  | inr f ↦ rw f (by_order (canonical_order m.zone z)
      (λ l. absurd (let one : 1 + count_before z ms ≡ 0 = rw l at e in omega (arith, one)))
      (λ q. absurd (let t : false ≡ true = sym f ∙ (same_decides m.zone z).1 (canonical_same m.zone z q) in cc t))
      (λ g. none_before (λ (x : MemberOf). x.zone) z m ms up (greater_back m.zone z g)))
]

past_other : (z y : Name) (ms : List MemberOf) → same_name z y ≡ false → member_of y (past z ms) ≡ member_of y ms
past_other z y [] other = refl
past_other z y (m ∷ ms) other = elim (cases_Bool (same_name m.zone z)) [
  | inl t ↦
      let is : m.zone ≡ z = (same_decides m.zone z).0 t in
      let f : same_name m.zone y ≡ false = rw is other in
      rw (t, f) refl
  | inr f ↦ rw f refl
]

pub passed : (c : Change) (cs : List Change) (ms ns : List MemberOf) → AreRelisted ms ns (c ∷ cs)
    → count_before c.zone ms ≡ 0 → count_before c.zone ns ≡ 0 → AreRelisted (past c.zone ms) (past c.zone ns) cs
passed c cs ms ns h e f = record {
  rose = past_rises c.zone ms h.rose;
  rises = past_rises c.zone ns h.rises;
  order = rest_rises (λ (x : Change). x.zone) c cs h.order;
  stays = λ y none. elim (cases_Bool (same_name c.zone y)) [
    | inl t ↦
        let is : c.zone ≡ y = (same_decides c.zone y).0 t in
        subst (λ z. member_of z (past c.zone ns) ≡ member_of z (past c.zone ms)) is
        (past_none c.zone ns h.rises f ∙ sym (past_none c.zone ms h.rose e))
    | inr u ↦
        let still : change_of y (c ∷ cs) ≡ None = rw u none in
        past_other c.zone y ns u ∙ (h.stays y still ∙ sym (past_other c.zone y ms u))
  ];
}
