-- What holds of each member after a listing: it held of the member before, or it holds of what enters.
use Rattle.std.proofs.Common.{◌≡◌, ℕ, Bool, true, false, List, [], ◌∷◌, refl, inl, inr, Some, None}
use Rattle.std.specs.Prelude.{Option, IfSome, if◌then◌else◌}
use Rattle.std.specs.Option.{option_eq}
use Rattle.std.specs.List.{AllByRecursion, filter_map, cons_option}
use Rattle.std.specs.Str.{bytes_eq}
use Rattle.std.proofs.lemmas.Bool.{cases_Bool}
use Rattle.dz_name.specs.Words.{Name, Octets}
use Rattle.dz_name.specs.Name.{same_name, same_label}
use Rattle.dz_member.specs.declared.listing.Node.{Node}
use Rattle.dz_member.specs.Membership.{MemberOf}
use Rattle.dz_member.specs.Fold.{FoldOf, member_of}
use Rattle.dz_member.specs.Process.{Judgement, choice_in, consents, is_catalog, entered, judged, node_of, judged_at}
use Rattle.dz_member.specs.Process.{zones_of, process}

pub by_test : (P : Judgement → Type 0) (b : Bool) (x y : Judgement) → (b ≡ true → P x) → (b ≡ false → P y)
    → P (if b then x else y)
by_test P true x y f g = f refl
by_test P false x y f g = g refl

pub found_all : (P : MemberOf → Type 0) (zone : Name) (ms : List MemberOf) → AllByRecursion P ms
    → IfSome (member_of zone ms) P
found_all P zone [] a = tt
found_all P zone (m ∷ ms) a =
    elim (cases_Bool (same_name m.zone zone)) [ inl t ↦ rw t a.0 | inr f ↦ rw f (found_all P zone ms a.1) ]

one_more : (P : MemberOf → Type 0) (o : Option MemberOf) (ms : List MemberOf) → IfSome o P → AllByRecursion P ms
    → AllByRecursion P (cons_option o ms)
one_more P None ms h rest = rest
one_more P (Some m) ms h rest = (h, rest)

module _ (fold : FoldOf) (catalog : Name) (position : ℕ) (P : MemberOf → Type 0)
    (regrouped : (m : MemberOf) (choice : Option Octets) → P m → P (record m { choice = choice }))
    (moved : (m : MemberOf) (choice : Option Octets) → P m → P (record m { catalog = catalog; choice = choice }))
    (enters : (n : Node) → is_catalog fold n.zone ≡ false → P (entered fold catalog position n)) where
  judged_all : (held : Option MemberOf) → IfSome held P → (n : Option Node)
      → IfSome (judged fold catalog position held n).stands P
  unfolding judged
  judged_all None h None = tt
  judged_all (Some m) h None = by_test (λ j. IfSome j.stands P) (same_name m.catalog catalog) _ _ (λ _. tt) (λ _. h)
  judged_all None h (Some n) =
      by_test (λ j. IfSome j.stands P) (is_catalog fold n.zone) _ _ (λ _. tt) (λ f. enters n f)
  judged_all (Some m) h (Some n) =
      let Q : Judgement → Type 0 = λ j. IfSome j.stands P in
      let choice : Option Octets = choice_in fold.config catalog n in
      by_test Q (is_catalog fold n.zone) _ _ (λ _. h)
      (λ f. by_test Q (same_name m.catalog catalog) _ _
      (λ _. by_test Q (same_label m.label n.label) _ _
      (λ _. by_test Q (option_eq bytes_eq m.choice choice) _ _ (λ _. h) (λ _. regrouped m choice h))
      (λ _. enters n f))
      (λ _. by_test Q (consents fold catalog m) _ _
      (λ _. by_test Q (same_label m.label n.label) _ _ (λ _. moved m choice h) (λ _. enters n f)) (λ _. h)))

  all_zones : (nodes : List Node) → AllByRecursion P fold.members → (zones : List Name)
      → AllByRecursion P (filter_map (λ zone. (judged_at fold catalog nodes position zone).stands) zones)
  all_zones nodes h [] = tt
  all_zones nodes h (zone ∷ zones) =
      one_more P _ _ (judged_all (member_of zone fold.members) (found_all P zone fold.members h) (node_of zone nodes))
      (all_zones nodes h zones)

  pub processed_all : (nodes : List Node) → AllByRecursion P fold.members
      → AllByRecursion P (process fold catalog nodes position).members
  unfolding process
  processed_all nodes h = all_zones nodes h (zones_of fold.members nodes)
