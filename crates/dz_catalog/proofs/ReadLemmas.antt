-- Nodes that are read at their labels.
use Rattle.std.proofs.Common.{◌≡◌, ℕ, suc, ◌+◌, ◌<◌, ◌≤◌, Bool, true, false, List, [], ◌∷◌, ◌++◌, length, map}
use Rattle.std.proofs.Common.{refl, sym, ◌∙◌, ap, subst, arith, inl, inr, is_eq}
use Rattle.std.proofs.Common.{length-append, Err, get_or, ◌||◌}
use Rattle.std.proofs.lemmas.Bool.Decides.{nat_tests}
use Rattle.dz_name.specs.declared.text.NameError.{NameError}
use Rattle.std.specs.Prelude.{nat_lt, filter, find, ◌==◌, ◌&&◌, slice_get, Option, Some, None}
use Rattle.std.specs.Prelude.{if◌then◌else◌, MatchOption, IfSome, IfNone}
use Rattle.std.specs.Option.{option_map, option_and_then, ForSome}
use Rattle.std.specs.List.{All, AllByRecursion, filter_map, cons_option, list_any, count_by}
use Rattle.std.specs.List.Sorted.{IsStrictlySortedBy}
use Rattle.std.proofs.lemmas.Bool.{cases_Bool, both_ways, and_parts, or_parts, or_cases, eqb-true}
use Rattle.std.proofs.lemmas.List.Elements.{filter_agree, recursion_from_All}
use Rattle.dz_name.specs.Name.{same_name, same_label, is_within, first_label, label_order, wire_of, child_of}
use Rattle.dz_name.specs.Order.{same_decides}
use Rattle.dz_name.proofs.PartLemmas.{within_suffix}
use Rattle.dz_record.specs.Record.{Record, IsRecord, record_order, target_of}
use Rattle.dz_zone.specs.Apart.{missing_in}
use Rattle.dz_zone.specs.Valid.{some_two, both_are}
use Rattle.dz_zone.proofs.MissingLemmas.{kept_where}
use Rattle.dz_runs.specs.Runs.{of_type, records_of}
use Rattle.dz_runs.specs.Node.{from_key}
use Rattle.dz_runs.proofs.InOrder.{key_filter, key_test}
use Rattle.dz_member.specs.declared.edit.Edit.{Edit}
use Rattle.dz_member.specs.declared.listing.Node.{Node}
use Rattle.dz_member.specs.Edit.{edited, AreEdits}
use Rattle.std.specs.Borrow.{Bor}
use Rattle.dz_member.specs.declared.listing.Broken.{Broken}
use Rattle.dz_member.specs.declared.listing.Broken.TheVariants.{NoVersion, VersionTwice, OtherVersion, MemberTwice}
use Rattle.dz_member.specs.declared.listing.Broken.TheVariants.{CooTwice, TooManyMembers}
use Rattle.std.proofs.lemmas.Slice.Eq.{bytes_eq-Decides}
use Rattle.dz_catalog.specs.Broken.{twins, no_version, version_twice, other_version, member_twice, coo_twice, too_many}
use Rattle.dz_catalog.specs.Broken.{broken_records, by_count}
use Rattle.dz_catalog.specs.Member.{zones_of, is_node, is_coo, is_member, coo_name, group_name, node_of}
use Rattle.dz_catalog.specs.Member.{coo_of, groups_of, nodes_of}
use Rattle.dz_catalog.specs.inner.Below.{is_at}
use Rattle.dz_catalog.specs.inner.Labels.{node_name, node_at, node_with, has_twins, IsReadAt, AreReadAt}
use Rattle.dz_catalog.proofs.EditLemmas.{at, edits, same_label as one_label, label_itself, one_list, all_rise}
use Rattle.dz_catalog.proofs.EditLemmas.{all_found}
use Rattle.dz_catalog.proofs.ListingLemmas.{node_shape, owner_is, owner_named, labels_rise}
use Rattle.dz_catalog.proofs.ListingLemmas.{nodes_are, as_many}

-- ---- the records of a name and a type
pub rrset_kept : (records : List Record) (name : List (List ℕ)) (kind : ℕ) → IsStrictlySortedBy record_order records
    → of_type kind (records_of records name) ≡ filter (is_at kind name) records
rrset_kept records name kind up =
    sym (key_filter records name kind up)
    ∙ filter_agree (λ s. is_eq (from_key name kind s)) (is_at kind name) (λ s. key_test name kind s) records

at_owner : (kind : ℕ) (name : List (List ℕ)) (r : Record) → is_at kind name r ≡ true → r.owner ≡ name
at_owner kind name r t = (same_decides r.owner name).0 (and_parts (r.kind == kind) (same_name r.owner name) t).1

at_kind : (kind : ℕ) (name : List (List ℕ)) (r : Record) → is_at kind name r ≡ true → r.kind ≡ kind
at_kind kind name r t = eqb-true r.kind kind (and_parts (r.kind == kind) (same_name r.owner name) t).0

-- there are none where the name would be too long
pub none_long : (records : List Record) (name : List (List ℕ)) (kind : ℕ) → 255 < length (wire_of name)
    → All IsRecord records → filter (is_at kind name) records ≡ []
none_long [] name kind much held = refl
none_long (r ∷ rs) name kind much held =
    elim (cases_Bool (is_at kind name r)) [
      | inl t ↦
          let short : length (wire_of r.owner) ≤ 255 = (held 0 r (omega arith)).owner.short in
          let size : length (wire_of r.owner) ≡ length (wire_of name) =
          ap (λ n. length (wire_of n)) (at_owner kind name r t) in
          absurd (omega arith)
      | inr f ↦ rw f (none_long rs name kind much (λ k d lt. held (suc k) d (omega arith)))
    ]

long_child : (name : List (List ℕ)) (label : List ℕ) (e : NameError) → Err e ≡ child_of name label
    → 255 < length (wire_of (label ∷ name))
unfolding wire_of
long_child name label e h =
    elim (cases_Bool (nat_lt (length (wire_of name) + length label) 255)) [
      | inl t ↦ let g = rw t at h in absurd (cc)
      | inr f ↦
          let much : 255 ≤ length (wire_of name) + length label = grind (arith, nat_tests, f) in
          omega (arith, length-append label (wire_of name), much)
    ]

pub no_child : (name : List (List ℕ)) (label made : List ℕ) (e : NameError) → label ≡ made → Err e ≡ child_of name made
    → 255 < length (wire_of (label ∷ name))
no_child name label made e is h = rw is (long_child name made e h)

pub longer : (name : List (List ℕ)) (label : List ℕ) → 255 < length (wire_of name)
    → 255 < length (wire_of (label ∷ name))
unfolding wire_of
longer name label h = omega (arith, length-append label (wire_of name))

-- ---- the node at a label
node_is_at : (apex : List (List ℕ)) (label : List ℕ) (r : Record) → is_at 12 (node_name apex label) r ≡ true
    → is_member apex r ≡ true
node_is_at apex label r t =
    let owner = at_owner 12 (node_name apex label) r t in
    let kind = and_parts (r.kind == 12) (same_name r.owner (node_name apex label)) t in
    rw (kind.0, owner) ((same_decides (zones_of apex) (zones_of apex)).1 refl)

-- what a record at a label makes is the node of that label
made_at : (apex : List (List ℕ)) (all : List Record) (label : List ℕ) (r : Record) (n : Node)
    → is_at 12 (node_name apex label) r ≡ true → node_of apex all r ≡ Some n → n.label ≡ label
made_at apex all label r n t e =
    let shape = node_shape apex all r n e in
    let owner = at_owner 12 (node_name apex label) r t in
    let first : first_label r.owner ≡ Some label = rw owner refl in
    let both : Some label ≡ Some n.label = sym first ∙ shape.label in
    cc

-- and a record elsewhere makes another one
made_elsewhere : (apex : List (List ℕ)) (all : List Record) (label : List ℕ) (r : Record) (n : Node)
    → is_at 12 (node_name apex label) r ≡ false → node_of apex all r ≡ Some n → at label n ≡ false
made_elsewhere apex all label r n f e =
    let shape = node_shape apex all r n e in
    elim (cases_Bool (at label n)) [
      | inr g ↦ g
      | inl t ↦
          let l : n.label ≡ label = one_label n.label label t in
          let parts = and_parts (r.kind == 12) (is_node apex r.owner) shape.member in
          let owner : r.owner ≡ node_name apex label =
          owner_is apex r.owner label parts.1 (shape.label ∙ ap Some l) in
          let there : is_at 12 (node_name apex label) r ≡ true =
          rw parts.0 ((same_decides r.owner (node_name apex label)).1 owner) in
          absurd (both_ways (is_at 12 (node_name apex label) r) f there)
    ]

found_step : (apex : List (List ℕ)) (all : List Record) (label : List ℕ) (r : Record) (rest : List Node)
    (o : Option Node) → node_of apex all r ≡ o → is_at 12 (node_name apex label) r ≡ true
    → find (at label) (cons_option o rest) ≡ o
found_step apex all label r rest None e t = absurd (owner_named apex all r r.owner refl (node_is_at apex label r t) e)
found_step apex all label r rest (Some n) e t =
    let l = made_at apex all label r n t e in
    rw (l, label_itself label) refl

past_step : (apex : List (List ℕ)) (all : List Record) (label : List ℕ) (r : Record) (rest : List Node)
    (o : Option Node) → node_of apex all r ≡ o → is_at 12 (node_name apex label) r ≡ false
    → find (at label) (cons_option o rest) ≡ find (at label) rest
past_step apex all label r rest None e f = refl
past_step apex all label r rest (Some n) e f = rw (made_elsewhere apex all label r n f e) refl

pub found_at : (apex : List (List ℕ)) (all : List Record) (label : List ℕ) (rs : List Record)
    → find (at label) (filter_map (node_of apex all) rs)
    ≡ option_and_then (node_of apex all) (find (is_at 12 (node_name apex label)) rs)
found_at apex all label [] = refl
found_at apex all label (r ∷ rs) =
    elim (cases_Bool (is_at 12 (node_name apex label) r)) [
      | inl t ↦ rw t (found_step apex all label r (filter_map (node_of apex all) rs) (node_of apex all r) refl t)
      | inr f ↦
          rw f (past_step apex all label r (filter_map (node_of apex all) rs) (node_of apex all r) refl f
          ∙ found_at apex all label rs)
    ]

pub first_kept : (p : Record → Bool) (xs : List Record) → slice_get (filter p xs) 0 ≡ find p xs
first_kept p [] = refl
first_kept p (x ∷ xs) = elim (cases_Bool (p x)) [ inl t ↦ rw t refl | inr f ↦ rw f (first_kept p xs) ]

-- the node at a label, by the records of three names
made_with : (apex : List (List ℕ)) (records : List Record) (label : List ℕ) (coos groups : List Record) (r : Record)
    → IsStrictlySortedBy record_order records → r.owner ≡ node_name apex label → is_member apex r ≡ true
    → coos ≡ filter (is_at 12 (coo_name (node_name apex label))) records
    → groups ≡ filter (is_at 16 (group_name (node_name apex label))) records
    → node_of apex records r ≡ node_with label coos groups r
unfolding node_of
made_with apex records label coos groups r up owner member c g =
    let name = node_name apex label in
    let first : first_label r.owner ≡ Some label = rw owner refl in
    let coo : coo_of records r.owner ≡ option_and_then target_of (slice_get coos 0) =
    rw (owner, c) (ap (λ (xs : List Record). option_and_then target_of (slice_get xs 0))
    (rrset_kept records (coo_name name) 12 up)) in
    let texts : groups_of records r.owner ≡ map (λ s. s.rdata) groups =
    rw (owner, g) (ap (map (λ (s : Record). s.rdata)) (rrset_kept records (group_name name) 16 up)) in
    rw (member, first) (λ i. option_map (λ zone. record { label = label; zone = zone; coo = coo i; groups = texts i })
    (target_of r))

first_is_at : (p : Record → Bool) (xs : List Record) (r : Record) → find p xs ≡ Some r → p r ≡ true
first_is_at p [] r e = absurd (cc)
first_is_at p (x ∷ xs) r e =
    elim (cases_Bool (p x)) [
      | inl t ↦ let f : Some x ≡ Some r = rw t at e in let g : x ≡ r = cc in subst (λ y. p y ≡ true) g t
      | inr f ↦ first_is_at p xs r (rw f at e)
    ]

and_then_by : (f g : Record → Option Node) (o : Option Record) → ((r : Record) → o ≡ Some r → f r ≡ g r)
    → option_and_then f o ≡ option_and_then g o
and_then_by f g None h = refl
and_then_by f g (Some r) h = h r refl

pub node_read : (apex : List (List ℕ)) (records : List Record) (label : List ℕ) (members coos groups : List Record)
    → IsStrictlySortedBy record_order records
    → members ≡ filter (is_at 12 (node_name apex label)) records
    → coos ≡ filter (is_at 12 (coo_name (node_name apex label))) records
    → groups ≡ filter (is_at 16 (group_name (node_name apex label))) records
    → option_and_then (node_with label coos groups) (slice_get members 0) ≡ node_at apex records label
node_read apex records label members coos groups up m c g =
    let p = is_at 12 (node_name apex label) in
    let first : slice_get members 0 ≡ find p records =
    ap (λ (xs : List Record). slice_get xs 0) m ∙ first_kept p records in
    ap (option_and_then (node_with label coos groups)) first
    ∙ sym (and_then_by (node_of apex records) (node_with label coos groups) (find p records) (λ r e.
    let t = first_is_at p records r e in
    made_with apex records label coos groups r up (at_owner 12 (node_name apex label) r t)
    (node_is_at apex label r t) c g))

-- the node of an edit is at its label
own_by : (apex : List (List ℕ)) (records : List Record) (label : List ℕ) (o : Option Node) (f : Option Record)
    → find (is_at 12 (node_name apex label)) records ≡ f → o ≡ option_and_then (node_of apex records) f
    → (n : Node) → o ≡ Some n → n.label ≡ label
own_by apex records label o None e is n some = absurd (let q = sym is ∙ some in cc)
own_by apex records label o (Some r) e is n some =
    made_at apex records label r n (first_is_at (is_at 12 (node_name apex label)) records r e) (sym is ∙ some)

-- ---- labels that no record is within
abbrev pub Untouched : List (List ℕ) → List ℕ → List Record → Type 0
Untouched apex label rs = AllByRecursion (λ r. is_within r.owner (node_name apex label) ≡ false) rs

not_within : (apex : List (List ℕ)) (label : List ℕ) (front : List (List ℕ)) (kind : ℕ) (r : Record)
    → is_within r.owner (node_name apex label) ≡ false
    → is_at kind (front ++ node_name apex label) r ≡ false
not_within apex label front kind r f =
    elim (cases_Bool (is_at kind (front ++ node_name apex label) r)) [
      | inr g ↦ g
      | inl t ↦
          let owner = at_owner kind (front ++ node_name apex label) r t in
          let inside = (within_suffix r.owner (node_name apex label)).1 (front, owner) in
          absurd (both_ways (is_within r.owner (node_name apex label)) f inside)
    ]

each_more : {X : Type 0} (P Q : X → Type 0) → ((x : X) → P x → Q x) → (xs : List X) → AllByRecursion P xs
    → AllByRecursion Q xs
each_more P Q f [] h = tt
each_more P Q f (x ∷ xs) h = (f x h.0, each_more P Q f xs h.1)

unchanged : (apex : List (List ℕ)) (label : List ℕ) (front : List (List ℕ)) (kind : ℕ) (before after : List Record)
    → IsStrictlySortedBy record_order before → IsStrictlySortedBy record_order after
    → Untouched apex label (missing_in after before) → Untouched apex label (missing_in before after)
    → filter (is_at kind (front ++ node_name apex label)) before
    ≡ filter (is_at kind (front ++ node_name apex label)) after
unchanged apex label front kind before after up vp gone come =
    let fails = each_more (λ (r : Record). is_within r.owner (node_name apex label) ≡ false)
    (λ r. is_at kind (front ++ node_name apex label) r ≡ false) (not_within apex label front kind) in
    kept_where (is_at kind (front ++ node_name apex label)) before after up vp (fails (missing_in after before) gone)
    (fails (missing_in before after) come)

-- the node there is the same in both versions
node_same : (apex : List (List ℕ)) (label : List ℕ) (before after : List Record)
    → IsStrictlySortedBy record_order before → IsStrictlySortedBy record_order after
    → Untouched apex label (missing_in after before) → Untouched apex label (missing_in before after)
    → node_at apex before label ≡ node_at apex after label
node_same apex label before after up vp gone come =
    let members = filter (is_at 12 (node_name apex label)) after in
    let coos = filter (is_at 12 (coo_name (node_name apex label))) after in
    let groups = filter (is_at 16 (group_name (node_name apex label))) after in
    let m = unchanged apex label [] 12 before after up vp gone come in
    let c = unchanged apex label ((99 ∷ 111 ∷ 111 ∷ []) ∷ []) 12 before after up vp gone come in
    let g = unchanged apex label ((103 ∷ 114 ∷ 111 ∷ 117 ∷ 112 ∷ []) ∷ []) 16 before after up vp gone come in
    sym (node_read apex before label members coos groups up (sym m) (sym c) (sym g))
    ∙ node_read apex after label members coos groups vp refl refl refl

-- ---- no name has two PTR records
both_twins : (test : List (List ℕ) → Bool) (name : List (List ℕ)) (r s : Record) → test name ≡ true
    → is_at 12 name r ≡ true → is_at 12 name s ≡ true → twins test r s ≡ true
unfolding twins both_are
both_twins test name r s is t u =
    let a = and_parts (r.kind == 12) (same_name r.owner name) t in
    let b = and_parts (s.kind == 12) (same_name s.owner name) u in
    let x = at_owner 12 name r t in
    let y = at_owner 12 name s u in
    let same : same_name r.owner s.owner ≡ true = (same_decides r.owner s.owner).1 (x ∙ sym y) in
    let tested : test r.owner ≡ true = rw x is in
    rw (tested, same, a.0, b.0) refl

no_other : (test : List (List ℕ) → Bool) (name : List (List ℕ)) (r : Record) (rs : List Record) → test name ≡ true
    → is_at 12 name r ≡ true → list_any (twins test r) rs ≡ false → filter (is_at 12 name) rs ≡ []
no_other test name r [] is t e = refl
no_other test name r (s ∷ ss) is t e =
    let parts = or_parts (twins test r s) (list_any (twins test r) ss) e in
    elim (cases_Bool (is_at 12 name s)) [
      | inl u ↦ absurd (both_ways (twins test r s) parts.0 (both_twins test name r s is t u))
      | inr f ↦ rw f (no_other test name r ss is t parts.1)
    ]

one_alone : (test : List (List ℕ) → Bool) (name : List (List ℕ)) (rs : List Record) → test name ≡ true
    → some_two (twins test) rs ≡ false → length (filter (is_at 12 name) rs) ≤ 1
unfolding some_two
one_alone test name [] is e = omega arith
one_alone test name (r ∷ rs) is e =
    let parts = or_parts (list_any (twins test r) rs) (some_two (twins test) rs) e in
    elim (cases_Bool (is_at 12 name r)) [
      | inl t ↦ rw (t, no_other test name r rs is t parts.0) (omega arith)
      | inr f ↦ rw f (one_alone test name rs is parts.1)
    ]

fewer : (p : Record → Bool) (r : Record) (rs : List Record) → length (filter p rs) ≤ length (filter p (r ∷ rs))
fewer p r rs = elim (cases_Bool (p r)) [ inl t ↦ rw t (omega arith) | inr f ↦ rw f (omega arith) ]

-- a record and one of some others are twins
pub record IsTwin (test : List (List ℕ) → Bool) (r : Record) (ss : List Record) : Type 0 where
  pub tested : test r.owner ≡ true
  pub first : is_at 12 r.owner r ≡ true
  pub other : 1 ≤ length (filter (is_at 12 r.owner) ss)

twin_first : (test : List (List ℕ) → Bool) (r s : Record) (ss : List Record) → twins test r s ≡ true
    → IsTwin test r (s ∷ ss)
unfolding twins both_are
twin_first test r s ss t =
    let parts = and_parts (test r.owner) (both_are 12 r s) t in
    let both = and_parts (same_name r.owner s.owner) ((r.kind == 12) && (s.kind == 12)) parts.1 in
    let kinds = and_parts (r.kind == 12) (s.kind == 12) both.1 in
    let same : s.owner ≡ r.owner = sym ((same_decides r.owner s.owner).0 both.0) in
    let a : is_at 12 r.owner r ≡ true = rw kinds.0 ((same_decides r.owner r.owner).1 refl) in
    let b : is_at 12 r.owner s ≡ true = rw kinds.1 ((same_decides s.owner r.owner).1 same) in
    record { tested = parts.0; first = a; other = rw b (omega arith) }

some_twin : (test : List (List ℕ) → Bool) (r : Record) (ss : List Record) → list_any (twins test r) ss ≡ true
    → IsTwin test r ss
some_twin test r [] e = absurd (cc)
some_twin test r (s ∷ ss) e =
    elim (or_cases (twins test r s) (list_any (twins test r) ss) e) [
      | inl t ↦ twin_first test r s ss t
      | inr u ↦
          let rest = some_twin test r ss u in
          record {
            tested = rest.tested;
            first = rest.first;
            other = omega (arith, rest.other, fewer (is_at 12 r.owner) s ss);
          }
    ]

none_twins : (test : List (List ℕ) → Bool) (rs : List Record)
    → ((name : List (List ℕ)) → test name ≡ true → length (filter (is_at 12 name) rs) ≤ 1)
    → some_two (twins test) rs ≡ false
unfolding some_two
none_twins test [] h = refl
none_twins test (r ∷ rs) h =
    let rest = none_twins test rs (λ name is. omega (arith, h name is, fewer (is_at 12 name) r rs)) in
    elim (cases_Bool (list_any (twins test r) rs)) [
      | inl t ↦
          let twin = some_twin test r rs t in
          let all = rw twin.first at (h r.owner twin.tested) in
          absurd (omega (arith, all, twin.other))
      | inr f ↦ rw (f, rest) refl
    ]

-- ---- the names of nodes and of changes of ownership
node_named : (apex name : List (List ℕ)) → is_node apex name ≡ true
    → (label : List ℕ) × (name ≡ node_name apex label)
node_named apex [] t = absurd (cc)
node_named apex (label ∷ above) t =
    (label, ap (λ (n : List (List ℕ)). label ∷ n) ((same_decides above (zones_of apex)).0 t))

coo_named : (apex name : List (List ℕ)) → is_coo apex name ≡ true
    → (label : List ℕ) × (name ≡ coo_name (node_name apex label))
coo_named apex [] t = absurd (cc)
coo_named apex (first ∷ above) t =
    let parts = and_parts (same_label first (99 ∷ 111 ∷ 111 ∷ [])) (is_node apex above) t in
    let f : first ≡ 99 ∷ 111 ∷ 111 ∷ [] = (bytes_eq-Decides first (99 ∷ 111 ∷ 111 ∷ [])).0 parts.0 in
    let named = node_named apex above parts.1 in
    (named.0, λ i. f i ∷ named.1 i)

is_named : (apex : List (List ℕ)) (label : List ℕ) → is_node apex (node_name apex label) ≡ true
is_named apex label = (same_decides (zones_of apex) (zones_of apex)).1 refl

coo_is_named : (apex : List (List ℕ)) (label : List ℕ) → is_coo apex (coo_name (node_name apex label)) ≡ true
coo_is_named apex label = is_named apex label

-- ---- what the edits are made of
-- each edit is read, and a label without one is untouched
pub record AreReadAll (apex : List (List ℕ)) (before after : List Record) (es : List Edit) : Type 0 where
  pub rises : IsStrictlySortedBy record_order before
  pub after_rises : IsStrictlySortedBy record_order after
  pub each : AllByRecursion (IsReadAt apex after) es
  pub gone : (k : List ℕ) → list_any (edits k) es ≡ false → Untouched apex k (missing_in after before)
  pub come : (k : List ℕ) → list_any (edits k) es ≡ false → Untouched apex k (missing_in before after)

pick : (P : Edit → Type 0) (Q : Type 0) (k : List ℕ) (es : List Edit) → AllByRecursion P es
    → ((e : Edit) → P e → e.label ≡ k → Q) → list_any (edits k) es ≡ true → Q
pick P Q k [] h f t = absurd (cc)
pick P Q k (e ∷ es) h f t =
    elim (cases_Bool (edits k e)) [
      | inl u ↦ f e h.0 (one_label e.label k u)
      | inr g ↦ pick P Q k es h.1 f (rw g at t)
    ]

pub owns : (apex : List (List ℕ)) (after : List Record) (es : List Edit) → AllByRecursion (IsReadAt apex after) es
    → AllByRecursion (λ e. ForSome e.node (λ n. n.label ≡ e.label)) es
owns apex after [] h = tt
owns apex after (e ∷ es) h = (
  own_by apex after e.label e.node (find (is_at 12 (node_name apex e.label)) after) refl h.0.node,
  owns apex after es h.1,
)

-- at each label the node that is found after the edits is the one of the later version
found_same : (apex : List (List ℕ)) (before after : List Record) (es : List Edit) → AreReadAll apex before after es
    → (k : List ℕ) → find (at k) (filter_map (node_of apex after) after)
    ≡ find (at k) (edited (filter_map (node_of apex before) before) es)
found_same apex before after es read k =
    let nodes = filter_map (node_of apex before) before in
    let here = each_more (IsReadAt apex after) (λ e. e.label ≡ k → e.node ≡ node_at apex after k)
    (λ e is l. is.node ∙ ap (node_at apex after) l) es read.each in
    found_at apex after k after
    ∙ sym (all_found es nodes k (node_at apex after k) (owns apex after es read.each) here (λ none.
    found_at apex before k before
    ∙ node_same apex k before after read.rises read.after_rises (read.gone k none) (read.come k none)))

-- each name has one PTR record at most
one_each : (apex : List (List ℕ)) (before after : List Record) (es : List Edit) (front : List (List ℕ))
    (test : List (List ℕ) → Bool) → AreReadAll apex before after es → some_two (twins test) before ≡ false
    → ((label : List ℕ) → test (front ++ node_name apex label) ≡ true)
    → AllByRecursion (λ e. length (filter (is_at 12 (front ++ node_name apex e.label)) after) ≤ 1) es
    → (k : List ℕ) → length (filter (is_at 12 (front ++ node_name apex k)) after) ≤ 1
one_each apex before after es front test read once named each k =
    elim (cases_Bool (list_any (edits k) es)) [
      | inl t ↦ pick (λ e. length (filter (is_at 12 (front ++ node_name apex e.label)) after) ≤ 1)
          (length (filter (is_at 12 (front ++ node_name apex k)) after) ≤ 1) k es each
          (λ e h l. rw l at h) t
      | inr f ↦
          rw (← unchanged apex k front 12 before after read.rises read.after_rises (read.gone k f) (read.come k f))
          (one_alone test (front ++ node_name apex k) before (named k) once)
    ]

pub members_once : (apex : List (List ℕ)) (before after : List Record) (es : List Edit)
    → AreReadAll apex before after es → member_twice apex before ≡ false → member_twice apex after ≡ false
members_once apex before after es read once =
    none_twins (is_node apex) after (λ name is.
    let named = node_named apex name is in
    rw named.1 (one_each apex before after es [] (is_node apex) read once (is_named apex)
    (each_more (IsReadAt apex after) (λ e. length (filter (is_at 12 (node_name apex e.label)) after) ≤ 1)
    (λ e h. h.member) es read.each) named.0))

pub coos_once : (apex : List (List ℕ)) (before after : List Record) (es : List Edit)
    → AreReadAll apex before after es → coo_twice apex before ≡ false → coo_twice apex after ≡ false
coos_once apex before after es read once =
    none_twins (is_coo apex) after (λ name is.
    let named = coo_named apex name is in
    rw named.1 (one_each apex before after es ((99 ∷ 111 ∷ 111 ∷ []) ∷ []) (is_coo apex) read once (coo_is_named apex)
    (each_more (IsReadAt apex after) (λ e. length (filter (is_at 12 (coo_name (node_name apex e.label))) after) ≤ 1)
    (λ e h. h.coo) es read.each) named.0))

none_parts : (a b c d e f : Bool) (p q r s t u : Broken)
    → (if a then Some p else if b then Some q else if c then Some r else if d then Some s else if e then Some t
    else if f then Some u else None) ≡ None → (d ≡ false) × (e ≡ false)
none_parts true b c d e f p q r s t u h = absurd (cc)
none_parts false true c d e f p q r s t u h = absurd (cc)
none_parts false false true d e f p q r s t u h = absurd (cc)
none_parts false false false true e f p q r s t u h = absurd (cc)
none_parts false false false false true f p q r s t u h = absurd (cc)
none_parts false false false false false f p q r s t u h = (refl, refl)

sound : (apex : List (List ℕ)) (rs : List Record) → broken_records apex rs ≡ None
    → (member_twice apex rs ≡ false) × (coo_twice apex rs ≡ false)
unfolding broken_records
sound apex rs h =
    none_parts (no_version apex rs) (version_twice apex rs) (other_version apex rs) (member_twice apex rs)
    (coo_twice apex rs) (too_many apex rs)
    NoVersion VersionTwice OtherVersion MemberTwice CooTwice TooManyMembers h

-- ---- what the reader of edits says
pub nodes_edited : (apex : List (List ℕ)) (before after : List Record) (es : List Edit)
    → AreReadAll apex before after es → broken_records apex before ≡ None
    → nodes_of apex after ≡ edited (nodes_of apex before) es
nodes_edited apex before after es read none =
    let once = sound apex before none in
    let nodes = filter_map (node_of apex before) before in
    let rest : filter_map (node_of apex after) after ≡ edited nodes es =
    one_list (filter_map (node_of apex after) after) (edited nodes es)
    (labels_rise apex after after read.after_rises (members_once apex before after es read once.0))
    (all_rise es nodes (owns apex after es read.each) (labels_rise apex before before read.rises once.0))
    (found_same apex before after es read) in
    nodes_are apex after read.after_rises
    ∙ (rest ∙ ap (λ ns. edited ns es) (sym (nodes_are apex before read.rises)))

pub not_broken : (apex : List (List ℕ)) (before after : List Record) (es : List Edit)
    → AreReadAll apex before after es → broken_records apex before ≡ None
    → ((no_version apex after || version_twice apex after) || other_version apex after) ≡ false
    → broken_records apex after ≡ by_count apex after
unfolding broken_records
not_broken apex before after es read none good =
    let once = sound apex before none in
    let two = or_parts (no_version apex after || version_twice apex after) (other_version apex after) good in
    let one = or_parts (no_version apex after) (version_twice apex after) two.0 in
    let members = members_once apex before after es read once.0 in
    let coos = coos_once apex before after es read once.1 in
    rw (one.0, one.1, two.1, members, coos) refl

pub many_nodes : (apex : List (List ℕ)) (rs : List Record) → IsStrictlySortedBy record_order rs
    → count_by (is_member apex) rs ≡ length (nodes_of apex rs)
many_nodes apex rs up = sym (as_many apex rs rs) ∙ ap length (sym (nodes_are apex rs up))

-- ---- what the code tells
untouched_from : (apex : List (List ℕ)) (k : List ℕ) (bs : List (Bor Record)) (rs : List Record)
    → map (λ r. r.now) bs ≡ rs → list_any (λ r. is_within r.now.owner (node_name apex k)) bs ≡ false
    → Untouched apex k rs
untouched_from apex k [] rs e f = rw (← e) tt
untouched_from apex k (b ∷ bs) rs e f =
    let parts = or_parts (is_within b.now.owner (node_name apex k))
    (list_any (λ r. is_within r.now.owner (node_name apex k)) bs) f in
    rw (← e) (parts.0, untouched_from apex k bs (map (λ r. r.now) bs) refl parts.1)

unlisted : (k : List ℕ) (es : List Edit) → list_any (edits k) es ≡ false
    → list_any (λ q. is_eq (label_order k q)) (map (λ e. e.label) es) ≡ false
unlisted k [] f = refl
unlisted k (e ∷ es) f =
    let parts = or_parts (edits k e) (list_any (edits k) es) f in
    let other : is_eq (label_order k e.label) ≡ false =
    elim (cases_Bool (is_eq (label_order k e.label))) [
      | inr g ↦ g
      | inl t ↦
          let same = one_label k e.label t in
          absurd (both_ways (edits k e) parts.0 (rw same (label_itself e.label)))
    ] in
    rw (other, unlisted k es parts.1) refl

pub read_all : (apex : List (List ℕ)) (before after : List Record) (es : List Edit) (keys : List (List ℕ))
    (gone come : List (Bor Record)) → IsStrictlySortedBy record_order before → IsStrictlySortedBy record_order after
    → AreReadAt apex after keys es → map (λ r. r.now) gone ≡ missing_in after before
    → map (λ r. r.now) come ≡ missing_in before after
    → ((k : List ℕ) → list_any (λ q. is_eq (label_order k q)) keys
    ≡ (list_any (λ r. is_within r.now.owner (node_name apex k)) gone
    || list_any (λ r. is_within r.now.owner (node_name apex k)) come)) → AreReadAll apex before after es
read_all apex before after es keys gone come up vp read g c told =
    let none = λ (k : List ℕ) (f : list_any (edits k) es ≡ false).
    or_parts (list_any (λ r. is_within r.now.owner (node_name apex k)) gone)
    (list_any (λ r. is_within r.now.owner (node_name apex k)) come)
    (sym (told k) ∙ (ap (list_any (λ q. is_eq (label_order k q))) (sym read.labels_are) ∙ unlisted k es f)) in
    record {
      rises = up;
      after_rises = vp;
      each = recursion_from_All (IsReadAt apex after) es read.each;
      gone = λ k f. untouched_from apex k gone (missing_in after before) g (none k f).0;
      come = λ k f. untouched_from apex k come (missing_in before after) c (none k f).1;
    }

own_all : (apex : List (List ℕ)) (records : List Record) (es : List Edit) → All (IsReadAt apex records) es
    → All (λ e. ForSome e.node (λ n. n.label ≡ e.label)) es
own_all apex records es h k d lt =
    let e = get_or es k d in
    own_by apex records e.label e.node (find (is_at 12 (node_name apex e.label)) records) refl (h k d lt).node

pub are_edits : (apex : List (List ℕ)) (records : List Record) (keys : List (List ℕ)) (es : List Edit)
    → AreReadAt apex records keys es → AreEdits es
are_edits apex records keys es read = record {
  labels = rw read.labels_are read.rises;
  own = own_all apex records es read.each;
}

-- ---- why there are none
twin_members : (apex : List (List ℕ)) (records : List Record) (label : List ℕ) (xs : List Record)
    → xs ≡ filter (is_at 12 (node_name apex label)) records → 1 < length xs → has_twins apex records ≡ true
twin_members apex records label xs e h =
    elim (cases_Bool (member_twice apex records)) [
      | inl t ↦ rw t refl
      | inr f ↦
          let one = one_alone (is_node apex) (node_name apex label) records (is_named apex label) f in
          let size : length xs ≡ length (filter (is_at 12 (node_name apex label)) records) = ap length e in
          absurd (omega arith)
    ]

or_last : (a b : Bool) → b ≡ true → (a || b) ≡ true
or_last true b e = refl
or_last false b e = e

twin_coos : (apex : List (List ℕ)) (records : List Record) (label : List ℕ) (xs : List Record)
    → xs ≡ filter (is_at 12 (coo_name (node_name apex label))) records → 1 < length xs
    → has_twins apex records ≡ true
twin_coos apex records label xs e h =
    elim (cases_Bool (coo_twice apex records)) [
      | inl t ↦ or_last (member_twice apex records) (coo_twice apex records) t
      | inr f ↦
          let one = one_alone (is_coo apex) (coo_name (node_name apex label)) records (coo_is_named apex label) f in
          let size : length xs ≡ length (filter (is_at 12 (coo_name (node_name apex label))) records) = ap length e in
          absurd (omega arith)
    ]

not_counted : (a b c d e f : Bool) → (a || (b || (c || (d || e)))) ≡ true
    → (if a then Some NoVersion else if b then Some VersionTwice else if c then Some OtherVersion
    else if d then Some MemberTwice else if e then Some CooTwice else if f then Some TooManyMembers else None)
    ≡ (if f then Some TooManyMembers else None) → ⊥
not_counted true b c d e true t h = absurd (cc)
not_counted true b c d e false t h = absurd (cc)
not_counted false true c d e true t h = absurd (cc)
not_counted false true c d e false t h = absurd (cc)
not_counted false false true d e true t h = absurd (cc)
not_counted false false true d e false t h = absurd (cc)
not_counted false false false true e true t h = absurd (cc)
not_counted false false false true e false t h = absurd (cc)
not_counted false false false false true true t h = absurd (cc)
not_counted false false false false true false t h = absurd (cc)
not_counted false false false false false f t h = absurd (cc)

pub broken_for : (apex : List (List ℕ)) (rs : List Record)
    → (no_version apex rs || (version_twice apex rs || (other_version apex rs || has_twins apex rs))) ≡ true
    → broken_records apex rs ≡ by_count apex rs → ⊥
unfolding broken_records
broken_for apex rs t h =
    not_counted (no_version apex rs) (version_twice apex rs) (other_version apex rs) (member_twice apex rs)
    (coo_twice apex rs) (too_many apex rs) t h

-- ---- an edit
pub no_node : (apex : List (List ℕ)) (records : List Record) (label : List ℕ) (e : Edit) → e.label ≡ label
    → e.node ≡ None → 255 < length (wire_of (node_name apex label)) → All IsRecord records
    → IsReadAt apex records e
no_node apex records label e is none much held =
    let m : filter (is_at 12 (node_name apex e.label)) records ≡ [] =
    none_long records (node_name apex e.label) 12 (rw is much) held in
    let c : filter (is_at 12 (coo_name (node_name apex e.label))) records ≡ [] =
    none_long records (coo_name (node_name apex e.label)) 12
    (longer (node_name apex e.label) (99 ∷ 111 ∷ 111 ∷ []) (rw is much)) held in
    let first : find (is_at 12 (node_name apex e.label)) records ≡ None =
    sym (first_kept (is_at 12 (node_name apex e.label)) records) ∙ ap (λ (xs : List Record). slice_get xs 0) m in
    record {
      node = none ∙ rw first refl;
      member = rw m (omega arith);
      coo = rw c (omega arith);
    }

few_of : (xs ys : List Record) → xs ≡ ys → nat_lt 1 (length xs) ≡ false → length ys ≤ 1
few_of xs ys e f =
    let n : length xs ≡ length ys = ap length e in
    let few : length xs ≤ 1 = grind (arith, nat_tests, f) in
    omega arith

pub few_told : (members coos xs ys : List Record) → members ≡ xs → coos ≡ ys
    → (nat_lt 1 (length members) || nat_lt 1 (length coos)) ≡ false → (length xs ≤ 1) × (length ys ≤ 1)
few_told members coos xs ys m c f =
    let parts = or_parts (nat_lt 1 (length members)) (nat_lt 1 (length coos)) f in
    (few_of members xs m parts.0, few_of coos ys c parts.1)

more_than_one : (xs : List Record) → nat_lt 1 (length xs) ≡ true → 1 < length xs
more_than_one xs t = grind (arith, nat_tests, t)

pub twins_told : (apex : List (List ℕ)) (records : List Record) (label : List ℕ) (members coos : List Record)
    → members ≡ filter (is_at 12 (node_name apex label)) records
    → coos ≡ filter (is_at 12 (coo_name (node_name apex label))) records
    → (nat_lt 1 (length members) || nat_lt 1 (length coos)) ≡ true → has_twins apex records ≡ true
twins_told apex records label members coos m c t =
    elim (or_cases (nat_lt 1 (length members)) (nat_lt 1 (length coos)) t) [
      | inl u ↦ twin_members apex records label members m (more_than_one members u)
      | inr u ↦ twin_coos apex records label coos c (more_than_one coos u)
    ]

pub some_from : {X : Type 0} (P : Type 0) {Q R : X → Type 0} (o : Option X) → MatchOption o P Q
    → ((x : X) → Q x → R x) → IfSome o R
some_from P None m f = tt
some_from P (Some x) m f = f x m

pub none_from : {X : Type 0} {P S : Type 0} (Q : X → Type 0) (o : Option X) → MatchOption o P Q → (P → S)
    → IfNone o S
none_from Q None m f = f m
none_from Q (Some x) m f = tt

pub version_true : (a b c d : Bool) → ((a || b) || c) ≡ true → (a || (b || (c || d))) ≡ true
version_true true b c d e = refl
version_true false true c d e = refl
version_true false false c d e = rw e refl

pub twins_true : (a b c d : Bool) → d ≡ true → (a || (b || (c || d))) ≡ true
twins_true a b c d e = or_last a (b || (c || d)) (or_last b (c || d) (or_last c d e))
