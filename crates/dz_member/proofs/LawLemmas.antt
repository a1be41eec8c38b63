-- Laws of what a listing changes, case by case.
use Rattle.std.proofs.Common.{◌≡◌, ◌≢◌, ℕ, Bool, true, false, List, map, refl, sym, ◌∙◌, ap, subst}
use Rattle.std.specs.Prelude.{Option, Some, None, if◌then◌else◌}
use Rattle.std.specs.Option.{option_map, option_eq}
use Rattle.std.specs.Str.{bytes_eq}
use Rattle.std.specs.List.{IsDistinct}
use Rattle.std.proofs.lemmas.Map.Keys.{IsDistinct-from_sorted}
use Rattle.dz_name.specs.Words.{Name}
use Rattle.dz_name.specs.Name.{canonical_order, same_name, same_label}
use Rattle.dz_name.specs.Order.{same_decides, same_ties}
use Rattle.dz_member.specs.declared.listing.Node.{Node}
use Rattle.dz_member.specs.declared.change.What.{What}
use Rattle.dz_member.specs.declared.change.What.TheVariants.{Added, Removed, Reset, Moved, MovedReset, Clash}
use Rattle.dz_member.specs.declared.change.What.TheVariants.{Regrouped}
use Rattle.dz_member.specs.Membership.{MemberOf}
use Rattle.dz_member.specs.Fold.{FoldOf, member_of}
use Rattle.dz_member.specs.Process.{Judgement, judged, choice_in, consents, held_here, held_elsewhere, listed}
use Rattle.dz_member.specs.Process.{is_catalog, node_of}
use Rattle.dz_member.specs.Laws.{HeldOnce, MovesWithConsent, KeepsState, StaysWithout, ClashStays, is_kept, is_clash}

pub held_once : HeldOnce
held_once fold h =
    subst (λ (e : Name → Name → Bool). IsDistinct e (map (λ (m : MemberOf). m.zone) fold.members))
    (λ i a b. sym (same_ties a b) i)
    (IsDistinct-from_sorted canonical_order (map (λ (m : MemberOf). m.zone) fold.members) h.rises)

-- what is shown of both arms of a test holds of the choice
by_test : (P : Judgement → Type 0) (b : Bool) (x y : Judgement) → (b ≡ true → P x) → (b ≡ false → P y)
    → P (if b then x else y)
by_test P true x y f g = f refl
by_test P false x y f g = g refl

-- what every case of the judgement has
module _ (fold : FoldOf) (catalog : Name) (position : ℕ) (P : Option MemberOf → Judgement → Type 0)
    (none : P None record { stands = None; change = None })
    (removed : (m : MemberOf) → P (Some m) record { stands = None; change = Some (Removed catalog) })
    (stays : (m : MemberOf) → P (Some m) record { stands = Some m; change = None })
    (configured : (held : Option MemberOf) → P held record { stands = held; change = Some (Clash None) })
    (clash : (m : MemberOf) → P (Some m) record { stands = Some m; change = Some (Clash (Some m.catalog)) })
    (regrouped : (m : MemberOf) (choice : Option (List ℕ))
    → P (Some m) record { stands = Some (record m { choice = choice }); change = Some (Regrouped catalog) })
    (moved : (m : MemberOf) (choice : Option (List ℕ)) → consents fold catalog m ≡ true → P (Some m) record {
      stands =
          Some (record m { catalog = catalog; choice = choice });
      change = Some (Moved m.catalog catalog);
    })
    (added : (n : MemberOf) → n.catalog ≡ catalog → P None record { stands = Some n; change = Some (Added catalog) })
    (reset : (m n : MemberOf) → m.catalog ≡ catalog → n.catalog ≡ catalog
    → P (Some m) record { stands = Some n; change = Some (Reset catalog) })
    (moved_reset : (m n : MemberOf) → consents fold catalog m ≡ true → n.catalog ≡ catalog
    → P (Some m) record { stands = Some n; change = Some (MovedReset m.catalog catalog) }) where
  here : (m : MemberOf) (n : Node) → m.catalog ≡ catalog → P (Some m) (held_here fold catalog position m n)
  here m n is =
      by_test (P (Some m)) (same_label m.label n.label) _ _
      (λ _. by_test (P (Some m)) (option_eq bytes_eq m.choice (choice_in fold.config catalog n)) _ _ (λ _. stays m)
      (λ _. regrouped m (choice_in fold.config catalog n)))
      (λ _. reset m _ is refl)

  elsewhere : (m : MemberOf) (n : Node) → P (Some m) (held_elsewhere fold catalog position m n)
  elsewhere m n =
      by_test (P (Some m)) (consents fold catalog m) _ _
      (λ yes. by_test (P (Some m)) (same_label m.label n.label) _ _
      (λ _. moved m (choice_in fold.config catalog n) yes) (λ _. moved_reset m _ yes refl))
      (λ _. clash m)

  at_listed : (held : Option MemberOf) (n : Node) → P held (listed fold catalog position held n)
  at_listed None n = added _ refl
  at_listed (Some m) n = by_test (P (Some m)) (same_name m.catalog catalog) _ _
      (λ t. here m n ((same_decides m.catalog catalog).0 t)) (λ _. elsewhere m n)

  pub every : (held : Option MemberOf) (n : Option Node) → P held (judged fold catalog position held n)
  unfolding judged
  every None None = none
  every (Some m) None = by_test (P (Some m)) (same_name m.catalog catalog) _ _ (λ _. removed m) (λ _. stays m)
  every None (Some n) = by_test (P None) (is_catalog fold n.zone) _ _ (λ _. configured None) (λ _. at_listed None n)
  every (Some m) (Some n) =
      by_test (P (Some m)) (is_catalog fold n.zone) _ _ (λ _. configured (Some m)) (λ _. at_listed (Some m) n)

-- ---- the laws
abbrev Without : Option MemberOf → Judgement → Type 0
Without held j = j.change ≡ None → j.stands ≡ held

pub stays_without : StaysWithout
stays_without fold catalog nodes position zone =
    every fold catalog position Without (λ _. refl) (λ m e. absurd (cc)) (λ m _. refl) (λ held _. refl)
    (λ m _. refl) (λ m c e. absurd (cc)) (λ m c y e. absurd (cc)) (λ n y e. absurd (cc)) (λ m n y z e. absurd (cc))
    (λ m n y z e. absurd (cc))
    (member_of zone fold.members) (node_of zone nodes)

abbrev Clashes : What → Option MemberOf → Judgement → Type 0
Clashes what held j = j.change ≡ Some what → is_clash what ≡ true → j.stands ≡ held

not_clash : (a b : What) (X : Type 0) → is_clash a ≡ false → Some a ≡ Some b → is_clash b ≡ true → X
not_clash a b X f e t = let same : a ≡ b = cc in let q : false ≡ true = sym f ∙ ap is_clash same ∙ t in absurd (cc)

pub clash_stays : ClashStays
clash_stays fold catalog nodes position zone what =
    every fold catalog position (Clashes what) (λ _ _. refl) (λ m e t. not_clash _ _ _ refl e t) (λ m _ _. refl)
    (λ held _ _. refl) (λ m _ _. refl) (λ m c e t. not_clash _ _ _ refl e t) (λ m c y e t. not_clash _ _ _ refl e t)
    (λ n y e t. not_clash _ _ _ refl e t)
    (λ m n y z e t. not_clash _ _ _ refl e t) (λ m n y z e t. not_clash _ _ _ refl e t)
    (member_of zone fold.members) (node_of zone nodes)

abbrev Keeps : What → Option MemberOf → Judgement → Type 0
Keeps what held j = j.change ≡ Some what → is_kept what ≡ true
    → option_map (λ (m : MemberOf). m.label) j.stands ≡ option_map (λ (m : MemberOf). m.label) held
    × (option_map (λ (m : MemberOf). m.incarnation) j.stands ≡ option_map (λ (m : MemberOf). m.incarnation) held)

not_kept : (a b : What) (X : Type 0) → is_kept a ≡ false → Some a ≡ Some b → is_kept b ≡ true → X
not_kept a b X f e t = let same : a ≡ b = cc in let q : false ≡ true = sym f ∙ ap is_kept same ∙ t in absurd (cc)

pub keeps_state : KeepsState
keeps_state fold catalog nodes position zone what =
    every fold catalog position (Keeps what) (λ _ _. (refl, refl)) (λ m e t. not_kept _ _ _ refl e t)
    (λ m _ _. (refl, refl)) (λ held _ _. (refl, refl)) (λ m _ _. (refl, refl)) (λ m c _ _. (refl, refl))
    (λ m c y _ _. (refl, refl)) (λ n y e t. not_kept _ _ _ refl e t)
    (λ m n y z e t. not_kept _ _ _ refl e t) (λ m n y z e t. not_kept _ _ _ refl e t)
    (member_of zone fold.members) (node_of zone nodes)

-- held before, and held afterwards by another holder
abbrev Moves : FoldOf → Name → MemberOf → MemberOf → Option MemberOf → Judgement → Type 0
Moves fold catalog before after held j = held ≡ Some before → j.stands ≡ Some after → before.catalog ≢ after.catalog
    → (consents fold catalog before ≡ true) × (after.catalog ≡ catalog)

same_some : (a b : MemberOf) → Some a ≡ Some b → a ≡ b
same_some a b e = cc

unmoved : (a before after : MemberOf) (X : Type 0) → Some a ≡ Some before → Some a ≡ Some after
    → before.catalog ≢ after.catalog → X
unmoved a before after X e f apart =
    absurd (apart (ap (λ (m : MemberOf). m.catalog) (sym (same_some a before e) ∙ same_some a after f)))

pub moves_with_consent : MovesWithConsent
moves_with_consent fold catalog nodes position zone before after =
    every fold catalog position (Moves fold catalog before after)
    (λ e f d. absurd (cc)) (λ m e f d. absurd (cc)) (λ m e f d. unmoved m before after _ e f d)
    (λ held e f d. unmoved before before after _ refl (sym e ∙ f) d) (λ m e f d. unmoved m before after _ e f d)
    (λ m c e f d. absurd (d (ap (λ (x : MemberOf). x.catalog) (sym (same_some m before e))
    ∙ ap (λ (x : MemberOf). x.catalog) (same_some _ after f))))
    (λ m c yes e f d. (
      subst (λ (x : MemberOf). consents fold catalog x ≡ true) (same_some m before e) yes,
      ap (λ (x : MemberOf). x.catalog) (sym (same_some _ after f)),
    ))
    (λ n is e f d. absurd (cc))
    (λ m n was is e f d. absurd (d (ap (λ (x : MemberOf). x.catalog) (sym (same_some m before e)) ∙ was ∙ sym is
    ∙ ap (λ (x : MemberOf). x.catalog) (same_some n after f))))
    (λ m n yes is e f d. (
      subst (λ (x : MemberOf). consents fold catalog x ≡ true) (same_some m before e) yes,
      ap (λ (x : MemberOf). x.catalog) (sym (same_some n after f)) ∙ is,
    ))
    (member_of zone fold.members) (node_of zone nodes)
