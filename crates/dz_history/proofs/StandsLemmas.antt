-- What is current before and after a transfer's entry.
use Rattle.std.proofs.Common.{◌≡◌, ◌⊎◌, ℕ, ◌<◌, Bool, true, false, List, [], ◌∷◌, refl, sym, ◌∙◌, ap, subst, arith}
use Rattle.std.proofs.Common.{inl, inr, Some, None, cond}
use Rattle.std.specs.Prelude.{Option, ⊤, ◌==◌, IfSome}
use Rattle.std.specs.Option.{option_map, option_map_or, option_eq}
use Rattle.std.specs.List.{filter_map, cons_option}
use Rattle.std.specs.Str.{bytes_eq}
use Rattle.std.proofs.lemmas.Bool.{cases_Bool}
use Rattle.std.proofs.lemmas.Bool.Decides.{nat_tests}
use Rattle.dz_name.specs.Words.{Name}
use Rattle.dz_name.specs.Name.{same_name, same_label}
use Rattle.dz_name.specs.Order.{same_decides}
use Rattle.dz_settings.specs.declared.config.CatalogSettings.{CatalogSettings}
use Rattle.dz_member.specs.declared.listing.Node.{Node}
use Rattle.dz_member.specs.Membership.{MemberOf}
use Rattle.dz_member.specs.Fold.{FoldOf, number_of, member_of}
use Rattle.dz_member.specs.Process.{Judgement, choice_in, consents, is_catalog, judged, node_of, judged_at, zones_of}
use Rattle.dz_member.specs.Process.{process}
use Rattle.dz_member.proofs.ZoneLemmas.{found_zone}
use Rattle.dz_history.specs.declared.entry.Taken.{Taken}
use Rattle.dz_history.specs.declared.entry.Entry.TheVariants.{Transfer}
use Rattle.dz_history.specs.State.{State, IsState, HasBegun, catalog_at, member_at, incarnation_at, incarnation_from}
use Rattle.dz_history.specs.State.{stands}
use Rattle.dz_history.specs.After.{counted, relisted, step}
use Rattle.dz_history.proofs.JudgedLemmas.{found_all}
use Rattle.dz_history.proofs.StateLemmas.{incarnation_catalog}
use Rattle.dz_history.proofs.StepLemmas.{step_by, config_step}

-- ---- an incarnation after a listing is the one before, or has the listing's position
abbrev CameOf : Name → ℕ → Option MemberOf → Option MemberOf → Type 0
CameOf zone position held None = ⊤
CameOf zone position held (Some m) =
    (m.zone ≡ zone) × ((option_map (λ x. x.incarnation) held ≡ Some m.incarnation) ⊎ (m.incarnation ≡ position))

came_zone : (zone : Name) (position : ℕ) (held o : Option MemberOf) → CameOf zone position held o
    → IfSome o (λ m. m.zone ≡ zone)
came_zone zone position held None c = tt
came_zone zone position held (Some m) c = c.0

came_same : (zone : Name) (position : ℕ) (held : Option MemberOf) → IfSome held (λ m. m.zone ≡ zone)
    → CameOf zone position held held
came_same zone position None h = tt
came_same zone position (Some m) h = (h, inl refl)

by_test : (P : Judgement → Type 0) (b : Bool) (x y : Judgement) → P x → P y → P (cond b x y)
by_test P true x y f g = f
by_test P false x y f g = g

module _ (fold : FoldOf) (catalog : Name) (position : ℕ) where
  judged_came : (zone : Name) (held : Option MemberOf) → IfSome held (λ m. m.zone ≡ zone) → (n : Option Node)
      → IfSome n (λ x. x.zone ≡ zone) → CameOf zone position held (judged fold catalog position held n).stands
  unfolding judged
  judged_came zone None h None k = tt
  judged_came zone (Some m) h None k =
      by_test (λ j. CameOf zone position (Some m) j.stands) (same_name m.catalog catalog) _ _ tt (h, inl refl)
  judged_came zone None h (Some n) k =
      by_test (λ j. CameOf zone position None j.stands) (is_catalog fold n.zone) _ _ tt (k, inr refl)
  judged_came zone (Some m) h (Some n) k =
      let P : Judgement → Type 0 = λ j. CameOf zone position (Some m) j.stands in
      by_test P (is_catalog fold n.zone) _ _ (h, inl refl)
      (by_test P (same_name m.catalog catalog) _ _
      (by_test P (same_label m.label n.label) _ _
      (by_test P (option_eq bytes_eq m.choice (choice_in fold.config catalog n)) _ _ (h, inl refl) (h, inl refl))
      (k, inr refl))
      (by_test P (consents fold catalog m) _ _ (by_test P (same_label m.label n.label) _ _ (h, inl refl) (k, inr refl))
      (h, inl refl)))

  at_came : (nodes : List Node) (zone : Name)
      → CameOf zone position (member_of zone fold.members) (judged_at fold catalog nodes position zone).stands
  at_came nodes zone = judged_came zone (member_of zone fold.members) (found_zone (λ m. m.zone) zone fold.members)
      (node_of zone nodes) (found_zone (λ n. n.zone) zone nodes)

-- a list made zone by zone has at a zone what was made of that zone, or nothing
found_of : (g : Name → Option MemberOf) → ((z : Name) → IfSome (g z) (λ m. m.zone ≡ z))
    → (zone : Name) (zs : List Name)
    → (member_of zone (filter_map g zs) ≡ None) ⊎ (member_of zone (filter_map g zs) ≡ g zone)
found_of g own zone [] = inl refl
found_of g own zone (z ∷ zs) =
    elim (g z) as (λ r. g z ≡ r → IfSome r (λ m. m.zone ≡ z)
    → (member_of zone (cons_option r (filter_map g zs)) ≡ None)
    ⊎ (member_of zone (cons_option r (filter_map g zs)) ≡ g zone)) [
      | None ↦ λ e h. found_of g own zone zs
      | Some m ↦ λ e h. elim (cases_Bool (same_name m.zone zone)) [
        | inl t ↦ inr (let same : z ≡ zone = sym h ∙ (same_decides m.zone zone).0 t in rw t (sym e ∙ ap g same))
        | inr f ↦ rw f (found_of g own zone zs)
      ]
    ] refl (own z)

module _ (fold : FoldOf) (catalog : Name) (position : ℕ) where
  pub processed_came : (nodes : List Node) (zone : Name) → CameOf zone position (member_of zone fold.members)
      (member_of zone (process fold catalog nodes position).members)
  unfolding process
  processed_came nodes zone =
      let g : Name → Option MemberOf = λ z. (judged_at fold catalog nodes position z).stands in
      let own : (z : Name) → IfSome (g z) (λ m. m.zone ≡ z) =
      λ z. came_zone z position (member_of z fold.members) (g z) (at_came fold catalog position nodes z) in
      elim (found_of g own zone (zones_of fold.members nodes)) [
        | inl none ↦ rw none tt
        | inr e ↦ rw e (at_came fold catalog position nodes zone)
      ]

came_step : (s : State) (t : Taken) (zone : Name)
    → CameOf zone s.count (member_at s zone) (member_at (step s (Transfer t)) zone)
unfolding counted relisted
came_step s t zone =
    let stays : CameOf zone s.count (member_at s zone) (member_at s zone) =
    came_same zone s.count (member_at s zone) (found_zone (λ m. m.zone) zone s.fold.members) in
    step_by s t (λ x. CameOf zone s.count (member_at s zone) (member_at x zone)) stays (λ _ _ _. stays)
    (λ _ _ _ _. stays) (λ _ _ nodes _ _ _. processed_came s.fold t.zone s.count nodes zone)

came_member : (count : ℕ) (zone : Name) (i : ℕ) (held o : Option MemberOf) → CameOf zone count held o
    → option_map_or (λ j. j == i) (option_map (λ (m : MemberOf). m.incarnation) o) false ≡ true
    → (option_map_or (λ j. j == i) (option_map (λ (m : MemberOf). m.incarnation) held) false ≡ true) ⊎ (i ≡ count)
came_member count zone i held None c h = absurd (cc)
came_member count zone i held (Some m) c h = elim (c.1) [
  | inl e ↦ inl (rw e h)
  | inr e ↦ inr (grind (arith, nat_tests))
]

came_from : (s x : State) (zone : Name) (i : ℕ) (o : Option ℕ) → CameOf zone s.count (member_at s zone)
    (member_at x zone) → option_map_or (λ j. j == i) (incarnation_from x zone o) false ≡ true
    → (option_map_or (λ j. j == i) (incarnation_from s zone o) false ≡ true) ⊎ (i ≡ s.count)
came_from s x zone i (Some number) c h = inl h
came_from s x zone i None c h = came_member s.count zone i (member_at s zone) (member_at x zone) c h

-- a new incarnation has the number of its entry
pub came_by : (s : State) (t : Taken) (zone : Name) (i : ℕ) → stands (step s (Transfer t)) zone i ≡ true
    → (stands s zone i ≡ true) ⊎ (i ≡ s.count)
unfolding incarnation_at
came_by s t zone i h =
    let x = step s (Transfer t) in
    came_from s x zone i (catalog_at s zone) (came_step s t zone)
    (subst (λ (cs : List CatalogSettings).
    option_map_or (λ j. j == i) (incarnation_from x zone (number_of cs zone)) false ≡ true) (config_step s t) h)

-- ---- incarnations are positions of entries before
begun_before : (count i : ℕ) (o : Option MemberOf) → IfSome o (HasBegun count)
    → option_map_or (λ j. j == i) (option_map (λ (m : MemberOf). m.incarnation) o) false ≡ true → i < count
begun_before count i None b h = absurd (cc)
begun_before count i (Some m) b h = let lt : m.incarnation < count = b.1 in grind (arith, nat_tests)

old_from : (s : State) → IsState s → (zone : Name) (i : ℕ) (o : Option ℕ)
    → option_map_or (λ j. j == i) (incarnation_from s zone o) false ≡ true → i < s.count
old_from s ok zone i (Some number) h = let some : 0 < s.count = ok.some in grind (arith, nat_tests)
old_from s ok zone i None h =
    begun_before s.count i (member_at s zone) (found_all (HasBegun s.count) zone s.fold.members ok.begun) h

pub stands_old : (s : State) → IsState s → (zone : Name) (i : ℕ) → stands s zone i ≡ true → i < s.count
unfolding incarnation_at
stands_old s ok zone i h = old_from s ok zone i (catalog_at s zone) h

-- ---- catalogs
pub catalog_step : (s : State) (t : Taken) (zone : Name) → catalog_at (step s (Transfer t)) zone ≡ catalog_at s zone
catalog_step s t zone = ap (λ (cs : List CatalogSettings). number_of cs zone) (config_step s t)

pub catalog_stands : (s : State) (zone : Name) (number : ℕ) → Some number ≡ catalog_at s zone → stands s zone 0 ≡ true
catalog_stands s zone number e = rw (incarnation_catalog s zone number e) refl

pub stands_catalog : (s : State) (t : Taken) (zone : Name) (number : ℕ) → Some number ≡ catalog_at s zone
    → (stands s zone 0 ≡ true) × (stands (step s (Transfer t)) zone 0 ≡ true)
stands_catalog s t zone number e = (
  catalog_stands s zone number e,
  catalog_stands (step s (Transfer t)) zone number (e ∙ sym (catalog_step s t zone)),
)
