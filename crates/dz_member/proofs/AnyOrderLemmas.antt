-- Nodes in another order have the same node at each zone.
use Rattle.std.proofs.Common.{◌≡◌, ℕ, zero, suc, Bool, true, false, List, [], ◌∷◌, get_or, refl, sym, ◌∙◌, ap, arith}
use Rattle.std.proofs.Common.{inl, inr}
use Rattle.std.specs.Prelude.{Option, Some, None}
use Rattle.std.specs.List.{find, list_any, Contains}
use Rattle.std.specs.List.Sorted.{IsPermutation}
use Rattle.std.proofs.lemmas.Bool.{cases_Bool}
use Rattle.std.proofs.lemmas.Option.{slice_get-get_or}
use Rattle.std.proofs.lemmas.List.Sorted.{IsPermutation-sym, Contains-permutation, list_any-IsPermutation}
use Rattle.dz_name.specs.Words.{Name}
use Rattle.dz_name.specs.Name.{same_name}
use Rattle.dz_name.specs.Order.{same_decides}
use Rattle.dz_member.specs.declared.listing.Node.{Node}
use Rattle.dz_member.specs.Listing.{same_zone}
use Rattle.dz_settings.specs.Twice.{has_twice}
use Rattle.dz_member.specs.Fold.{member_of}
use Rattle.dz_member.specs.Process.{judged}
use Rattle.dz_member.specs.Laws.{InAnyOrder}
use Rattle.dz_member.proofs.NumberLemmas.{one_place}

-- what is found of a test in a list
abbrev HasFound : (Node → Bool) → List Node → Option Node → Type 0
HasFound p ns None = list_any p ns ≡ false
HasFound p ns (Some n) = Contains ns n × (p n ≡ true) × (list_any p ns ≡ true)

found_more : (p : Node → Bool) (n : Node) (ns : List Node) → p n ≡ false → (o : Option Node) → HasFound p ns o
    → HasFound p (n ∷ ns) o
found_more p n ns f None h = rw f h
found_more p n ns f (Some m) h = ((suc h.0.0, omega (arith, h.0.1), h.0.2), h.1, rw f h.2)

has_found : (p : Node → Bool) (ns : List Node) → HasFound p ns (find p ns)
has_found p [] = refl
has_found p (n ∷ ns) =
    elim (cases_Bool (p n)) [
      | inl t ↦ rw t ((zero, omega arith, refl), t, rw t refl)
      | inr f ↦ rw f (found_more p n ns f (find p ns) (has_found p ns))
    ]

zone_flips : (a b : Node) → same_zone a b ≡ true → same_zone b a ≡ true
zone_flips a b t = (same_decides b.zone a.zone).1 (sym ((same_decides a.zone b.zone).0 t))

one_node : (ns : List Node) (a b : Node) → has_twice same_zone ns ≡ false → Contains ns a → Contains ns b
    → a.zone ≡ b.zone → a ≡ b
one_node ns a b once p q e =
    let both : Some (get_or ns q.0 a) ≡ Some (get_or ns q.0 b) =
    sym (slice_get-get_or ns q.0 a q.1) ∙ slice_get-get_or ns q.0 b q.1 in
    let at : get_or ns q.0 a ≡ b = (let u : get_or ns q.0 a ≡ get_or ns q.0 b = cc in u ∙ q.2) in
    let zones : (get_or ns p.0 a).zone ≡ (get_or ns q.0 a).zone =
    ap (λ (n : Node). n.zone) p.2 ∙ e ∙ sym (ap (λ (n : Node). n.zone) at) in
    let same : p.0 ≡ q.0 = one_place same_zone zone_flips ns p.0 q.0 a once p.1 q.1
    ((same_decides (get_or ns p.0 a).zone (get_or ns q.0 a).zone).1 zones) in
    sym p.2 ∙ ap (λ (k : ℕ). get_or ns k a) same ∙ at

same_found : (z : Name) (ns ms : List Node) (o r : Option Node) → IsPermutation ns ms → has_twice same_zone ns ≡ false
    → HasFound (λ n. same_name n.zone z) ns o → HasFound (λ n. same_name n.zone z) ms r → o ≡ r
same_found z ns ms None None moved once a b = refl
same_found z ns ms None (Some m) moved once a b =
    absurd (let e = list_any-IsPermutation (λ n. same_name n.zone z) ns ms moved in
    let q : false ≡ true = sym a ∙ e ∙ b.2 in cc)
same_found z ns ms (Some n) None moved once a b =
    absurd (let e = list_any-IsPermutation (λ n. same_name n.zone z) ns ms moved in
    let q : true ≡ false = sym a.2 ∙ e ∙ b in cc)
same_found z ns ms (Some n) (Some m) moved once a b =
    let there = Contains-permutation ms ns m (IsPermutation-sym ns ms moved) b.0 in
    let zones : n.zone ≡ m.zone = (same_decides n.zone z).0 a.1 ∙ sym ((same_decides m.zone z).0 b.1) in
    ap Some (one_node ns n m once a.0 there zones)

pub in_any_order : InAnyOrder
in_any_order fold catalog nodes others position zone moved once =
    let p : Node → Bool = λ n. same_name n.zone zone in
    ap (λ (o : Option Node). judged fold catalog position (member_of zone fold.members) o)
    (same_found zone nodes others (find p nodes) (find p others) moved once (has_found p nodes) (has_found p others))
