-- The pieces of a reply, one after another.
use Rattle.std.proofs.Common.{◌≡◌, ℕ, zero, suc, ◌+◌, ◌-◌, ◌<◌, ◌≤◌, List, [], ◌∷◌, ◌++◌, length, take, drop, refl}
use Rattle.std.proofs.Common.{sym, ◌∙◌, ap, arith, length-append, append_assoc, Option, Some, None, get_or, inl, inr}
use Rattle.std.specs.Option.{option_map_or}
use Rattle.std.specs.Prelude.{true, false, ◌==◌, ◌≢◌, not, is_some}
use Rattle.std.specs.List.{flat_map}
use Rattle.std.proofs.lemmas.List.{drop_more, drop_all, length-drop, append-nil, take-append-drop, take-append-le}
use Rattle.std.proofs.lemmas.List.{take_all}
use Rattle.dz_name.specs.Name.{IsWithin, is_within, wire_of}
use Rattle.dz_name.proofs.PartLemmas.{within_suffix}
use Rattle.std.proofs.lemmas.Bool.{cases_lt, false_from_ne_true}
use Rattle.dz_name.specs.Numbers.{two, four}
use Rattle.dz_record.specs.Record.{Record, octets_behind_owner}
use Rattle.dz_reply.specs.Layout.{owner_octets, pointer_to, entry_octets, entries_octets}
use Rattle.std.proofs.lemmas.List.Folds.{flat_map-map}
use Rattle.dz_reply.specs.Layout.{entries, entry, entry_ttl, least_ttl}
use Rattle.std.proofs.lemmas.Bool.Decides.{nat_tests}
use Rattle.dz_header.specs.Writing.{Writing, also}
use Rattle.dz_reply.specs.declared.layout.Shown.{Shown}
use Rattle.dz_reply.specs.inner.Owner.{owner_shown}
use Rattle.dz_header.proofs.WriterLemmas.{also_append, also_nil, also_over}

pointed : (question labels : List (List ℕ)) → 0 < length labels → is_within question labels ≡ true
    → owner_octets question labels ≡ pointer_to question labels
unfolding owner_octets
pointed question [] some h = absurd (omega arith)
pointed question (label ∷ labels) some h = rw h refl

spelled : (question owner : List (List ℕ)) (k : ℕ) → k < length owner → is_within question (drop k owner) ≡ false
    → owner_octets question (drop k owner)
    ≡ (length (get_or owner k []) ∷ get_or owner k []) ++ owner_octets question (drop (k + 1) owner)
unfolding owner_octets
spelled question owner k some h =
    let e = drop_more owner k [] some in
    let f = rw e at h in
    rw (e, f) refl

-- the first labels in the wire form
abbrev pub heads : ℕ → List (List ℕ) → List ℕ
heads zero o = []
heads (suc k) [] = []
heads (suc k) (l ∷ ls) = length l ∷ (l ++ heads k ls)

heads_wire : (k : ℕ) (o : List (List ℕ)) → heads k o ++ wire_of (drop k o) ≡ wire_of o
unfolding wire_of
heads_wire zero o = refl
heads_wire (suc k) [] = refl
heads_wire (suc k) (l ∷ ls) =
    ap (λ xs. length l ∷ xs) (append_assoc l (heads k ls) (wire_of (drop k ls)) ∙ ap (λ xs. l ++ xs) (heads_wire k ls))

heads_more : (k : ℕ) (o : List (List ℕ)) → k < length o
    → heads (suc k) o ≡ heads k o ++ (length (get_or o k []) ∷ get_or o k [])
heads_more k [] few = absurd (omega arith)
heads_more zero (l ∷ ls) few = ap (λ xs. length l ∷ xs) (append-nil l)
heads_more (suc k) (l ∷ ls) few =
    ap (λ xs. length l ∷ xs) (ap (λ xs. l ++ xs) (heads_more k ls (omega arith))
    ∙ sym (append_assoc l (heads k ls) (length (get_or ls k []) ∷ get_or ls k [])))

heads_taken : (k : ℕ) (o : List (List ℕ))
    → take (length (wire_of o) - length (wire_of (drop k o))) (wire_of o) ≡ heads k o
heads_taken k o =
    let e : wire_of o ≡ heads k o ++ wire_of (drop k o) = sym (heads_wire k o) in
    let f : length (wire_of o) - length (wire_of (drop k o)) ≡ length (heads k o) =
    omega (arith, ap length e, length-append (heads k o) (wire_of (drop k o))) in
    (λ i. take (f i) (e i)) ∙ (take-append-le (length (heads k o)) (heads k o) (wire_of (drop k o)) (omega arith)
    ∙ take_all (length (heads k o)) (heads k o) (omega arith))

pub owner_pointed : (question owner : List (List ℕ)) (k : ℕ) (wire behind : List ℕ) (size pointer : ℕ)
    → k < length owner → is_within question (drop k owner) ≡ true
    → heads k owner ++ owner_octets question (drop k owner) ≡ owner_octets question owner → wire ≡ wire_of owner
    → behind ≡ wire_of (drop k owner)
    → size ≡ length wire - length behind → two pointer ≡ pointer_to question (drop k owner)
    → take size wire ++ two pointer ≡ owner_octets question owner
owner_pointed question owner k wire behind size pointer some h so_far wire_is behind_is size_is pointer_is =
    let e : size ≡ length (wire_of owner) - length (wire_of (drop k owner)) =
    size_is ∙ (λ i. length (wire_is i) - length (behind_is i)) in
    let f : take size wire ≡ heads k owner = (λ i. take (e i) (wire_is i)) ∙ heads_taken k owner in
    (λ i. f i ++ pointer_is i) ∙ (ap (λ xs. heads k owner ++ xs)
    (sym (pointed question (drop k owner) (omega (arith, length-drop {A = List ℕ})) h)) ∙ so_far)

pub owner_further : (question owner : List (List ℕ)) (k : ℕ) → k < length owner
    → is_within question (drop k owner) ≡ false
    → heads k owner ++ owner_octets question (drop k owner) ≡ owner_octets question owner
    → heads (k + 1) owner ++ owner_octets question (drop (k + 1) owner) ≡ owner_octets question owner
owner_further question owner k some h so_far =
    let piece : List ℕ = length (get_or owner k []) ∷ get_or owner k [] in
    let one : k + 1 ≡ suc k = omega arith in
    ap (λ xs. xs ++ owner_octets question (drop (k + 1) owner)) (ap (λ n. heads n owner) one ∙ heads_more k owner some)
    ∙ (append_assoc (heads k owner) piece (owner_octets question (drop (k + 1) owner))
    ∙ (ap (λ xs. heads k owner ++ xs) (sym (spelled question owner k some h)) ∙ so_far))

-- .. up to the longest suffix that the owner shares with the question's name
passed_over : (question owner : List (List ℕ)) (skip : ℕ) → skip ≤ length owner
    → ((k : ℕ) → k < skip → is_within question (drop k owner) ≡ false)
    → heads skip owner ++ owner_octets question (drop skip owner) ≡ owner_octets question owner
passed_over question owner zero le apart = refl
passed_over question owner (suc k) le apart =
    let e : k + 1 ≡ suc k = omega arith in
    rw e at (owner_further question owner k (omega arith) (apart k (omega arith))
    (passed_over question owner k (omega arith) (λ j lt. apart j (omega arith))))

no_longer_shared : (question owner : List (List ℕ)) (skip : ℕ) → skip ≤ length owner
    → ((zone : List (List ℕ)) → IsWithin owner zone → IsWithin question zone → IsWithin (drop skip owner) zone)
    → (k : ℕ) → k < skip → is_within question (drop k owner) ≡ false
no_longer_shared question owner skip le longest k lt =
    false_from_ne_true (is_within question (drop k owner)) (λ t.
    let w = longest (drop k owner) (take k owner, sym (take-append-drop k owner))
    ((within_suffix question (drop k owner)).0 t) in
    absurd
    (omega (arith, ap length w.1, length-append w.0 (drop k owner), length-drop k owner, length-drop skip owner)))

none_left_of : (question : List (List ℕ)) → owner_octets question [] ≡ wire_of []
unfolding owner_octets wire_of
none_left_of question = refl

pub owner_whole : (question owner : List (List ℕ)) (k : ℕ) (wire : List ℕ) → length owner ≤ k
    → heads k owner ++ owner_octets question (drop k owner) ≡ owner_octets question owner → wire ≡ wire_of owner
    → wire ++ [] ≡ owner_octets question owner
owner_whole question owner k wire all so_far is =
    let e : drop k owner ≡ [] = drop_all k owner all in
    let f : owner_octets question (drop k owner) ≡ wire_of (drop k owner) =
    ap (owner_octets question) e ∙ (none_left_of question ∙ ap wire_of (sym e)) in
    append-nil wire ∙ (is ∙ (sym (heads_wire k owner) ∙ (ap (λ xs. heads k owner ++ xs) (sym f) ∙ so_far)))

wire_some : (name : List (List ℕ)) → 1 ≤ length (wire_of name)
unfolding wire_of
wire_some [] = omega arith
wire_some (label ∷ labels) = omega arith

-- a wire form of one octet is the root's
root_left : (name : List (List ℕ)) → length (wire_of name) ≤ 1 → length name ≡ 0
unfolding wire_of
root_left [] few = refl
root_left (label ∷ labels) few = absurd (omega (arith, few, length-append label (wire_of labels), wire_some labels))

none_further : (owner : List (List ℕ)) (skip : ℕ) → length (wire_of (drop skip owner)) ≤ 1 → length owner ≤ skip
none_further owner skip few = omega (arith, root_left (drop skip owner) few, length-drop skip owner)

root_wire : (name : List (List ℕ)) → length name ≡ 0 → length (wire_of name) ≡ 1
unfolding wire_of
root_wire [] none = refl
root_wire (label ∷ labels) none = absurd (omega (arith, none))

some_left : (owner : List (List ℕ)) (skip : ℕ) → skip ≤ length owner → 1 < length (wire_of (drop skip owner))
    → skip < length owner
some_left owner skip le some = elim (cases_lt skip (length owner)) [
  | inl lt ↦ lt
  | inr ge ↦ absurd (omega (arith, some, root_wire (drop skip owner) (omega (arith, ge, length-drop skip owner))))
]

module _ (question owner : List (List ℕ)) (skip : ℕ) (le : skip ≤ length owner)
    (shares : IsWithin question (drop skip owner))
    (longest : (zone : List (List ℕ)) → IsWithin owner zone → IsWithin question zone → IsWithin (drop skip owner) zone)
    (wire shared : List ℕ) (wire_is : wire ≡ wire_of owner) (shared_is : shared ≡ wire_of (drop skip owner)) where
  so_far : heads skip owner ++ owner_octets question (drop skip owner) ≡ owner_octets question owner
  so_far = passed_over question owner skip le (no_longer_shared question owner skip le longest)

  pub owner_shared : (size pointer : ℕ) → 1 < length shared → size ≡ length wire - length shared → two pointer
      ≡ pointer_to question (drop skip owner) → take size wire ++ two pointer ≡ owner_octets question owner
  owner_shared size pointer some size_is pointer_is =
      owner_pointed question owner skip wire shared size pointer
      (some_left owner skip le (omega (arith, some, ap length shared_is)))
      ((within_suffix question (drop skip owner)).1 shares) so_far wire_is shared_is size_is pointer_is

  pub owner_apart : length shared ≤ 1 → wire ++ [] ≡ owner_octets question owner
  owner_apart few = owner_whole question owner skip wire
      (none_further owner skip (omega (arith, few, ap length shared_is))) so_far wire_is

pub front_none : (w : Writing) (xs : List ℕ) → length xs ≡ 0 → w ≡ also w xs
front_none w [] e = sym (also_nil w)
front_none w (x ∷ xs) e = absurd (omega (arith, e))

pub shown_whole : (s : Shown) (w w1 : Writing) → s.pointer ≡ None → w1 ≡ also w s.front.now
    → w1 ≡ also w (owner_shown s)
shown_whole s w w1 is e =
    e ∙ ap (also w) (sym (append-nil s.front.now) ∙ ap (λ p. s.front.now ++ option_map_or (λ n. two n) p []) (sym is))

pub shown_pointed : (s : Shown) (pointer : ℕ) (w w1 w2 : Writing) → s.pointer ≡ Some pointer → w1 ≡ also w s.front.now
    → w2 ≡ also w1 (two pointer) → w2 ≡ also w (owner_shown s)
shown_pointed s pointer w w1 w2 is e f =
    f ∙ (ap (λ x. also x (two pointer)) e ∙ (sym (also_append w s.front.now (two pointer))
    ∙ ap (λ p. also w (s.front.now ++ option_map_or (λ n. two n) p [])) (sym is)))

-- records, of which the first are written
pub also_more : (w w' w'' : Writing) (octets : Record → List ℕ) (rs : List Record) (i : ℕ) (r : Record) → i < length rs
    → r ≡ get_or rs i r
    → also w' (flat_map octets (drop i rs)) ≡ also w (flat_map octets rs) → w'' ≡ also w' (octets r)
    → also w'' (flat_map octets (drop (i + 1) rs)) ≡ also w (flat_map octets rs)
also_more w w' w'' octets rs i r h item before is =
    let e : drop i rs ≡ r ∷ drop (i + 1) rs = drop_more rs i r h ∙ ap (λ x. x ∷ drop (i + 1) rs) (sym item) in
    let f : also w' (octets r ++ flat_map octets (drop (i + 1) rs)) ≡ also w (flat_map octets rs) = rw e at before in
    rw is (sym (also_append w' (octets r) (flat_map octets (drop (i + 1) rs))) ∙ f)

pub also_done : (w w' : Writing) (octets : Record → List ℕ) (rs : List Record) (i : ℕ) → length rs ≤ i
    → also w' (flat_map octets (drop i rs)) ≡ also w (flat_map octets rs) → w' ≡ also w (flat_map octets rs)
also_done w w' octets rs i h before =
    sym (also_nil w') ∙ (ap (λ x. also w' (flat_map octets x)) (sym (drop_all i rs h)) ∙ before)

none_left : (x : Option (List ℕ)) → not (is_some x) ≡ true → x ≡ None
none_left None h = refl
none_left (Some xs) h = absurd (cc)

pub also_full : (w w' : Writing) (a b : List ℕ) → not (is_some w'.octets) ≡ true → also w' a ≡ also w b → w' ≡ also w b
also_full w w' a b full before = sym (also_over w' a (none_left w'.octets full)) ∙ before

-- a record of a list, under an owner
abbrev pub entry_in : List (List ℕ) → List (List ℕ) → List Record → Record → List ℕ
entry_in question owner rs r = entry_octets question (entry owner (entry_ttl rs r) r)

pub entry_least : (rs : List Record) (kind ttl : ℕ) (r : Record) → kind ≡ r.kind → ttl ≡ entry_ttl rs r → kind ≢ 46
    → ttl ≡ least_ttl kind rs
entry_least rs kind ttl r same is ne =
    let f : (r.kind == 46) ≡ false = grind (arith, nat_tests) in
    rw (f, ← same) at is

pub all_entries : (question owner : List (List ℕ)) (rs : List Record)
    → entries_octets question (entries owner rs) ≡ flat_map (entry_in question owner rs) rs
unfolding entries_octets entries
all_entries question owner rs = flat_map-map (entry_octets question) (λ r. entry owner (entry_ttl rs r) r) rs

-- a record under an owner, piece by piece
pub entry_written : (question owner : List (List ℕ)) (ttl : ℕ) (r : Record) (w w1 w2 w3 w4 : Writing)
    → w1 ≡ also w (owner_octets question owner) → w2 ≡ also w1 (two r.kind ++ two 1)
    → w3 ≡ also w2 (four ttl) → w4 ≡ also w3 (two (length r.rdata) ++ r.rdata)
    → w4 ≡ also w (entry_octets question (entry owner ttl r))
unfolding entry_octets entry
entry_written question owner ttl r w w1 w2 w3 w4 e1 e2 e3 e4 =
    let head : List ℕ = owner_octets question owner in
    let kind : List ℕ = two r.kind ++ two 1 in
    let size : List ℕ = two (length r.rdata) ++ r.rdata in
    let steps : w4 ≡ also (also (also (also w head) kind) (four ttl)) size =
    e4 ∙ ap (λ x. also x size) (e3 ∙ ap (λ x. also x (four ttl)) (e2 ∙ ap (λ x. also x kind) e1)) in
    let joins : also w (head ++ (kind ++ (four ttl ++ size))) ≡ also (also (also (also w head) kind) (four ttl)) size =
    also_append w head (kind ++ (four ttl ++ size)) ∙ also_append (also w head) kind (four ttl ++ size)
    ∙ also_append (also (also w head) kind) (four ttl) size in
    let split : kind ++ (four ttl ++ size) ≡ two r.kind ++ (two 1 ++ (four ttl ++ size)) =
    append_assoc (two r.kind) (two 1) (four ttl ++ size) in
    steps ∙ sym joins ∙ ap (λ xs. also w (head ++ xs)) split

-- .. all that follows its owner at once
pub entry_at_once : (question owner : List (List ℕ)) (ttl : ℕ) (r : Record) (w w1 w2 : Writing)
    → w1 ≡ also w (owner_octets question owner) → w2 ≡ also w1 (octets_behind_owner r) → ttl ≡ r.ttl
    → w2 ≡ also w (entry_octets question (entry owner ttl r))
unfolding entry_octets entry
entry_at_once question owner ttl r w w1 w2 e1 e2 same =
    rw same
    (e2 ∙ ap (λ x. also x (octets_behind_owner r)) e1
    ∙ sym (also_append w (owner_octets question owner) (octets_behind_owner r)))
