-- What is held of a member was taken for it, since it began.
use Rattle.std.proofs.Common.{◌≡◌, ◌≢◌, ℕ, ◌+◌, ◌<◌, true, false, List, [], ◌∷◌, ◌++◌, map, length, take, refl, sym}
use Rattle.std.proofs.Common.{◌∙◌, ap, subst, inl, inr, Some, None, arith}
use Rattle.std.specs.Prelude.{Option, ◌==◌, slice_get, IfSome}
use Rattle.std.specs.Option.{option_map, option_map_or, option_and_then}
use Rattle.std.proofs.lemmas.Bool.{cases_Bool, false≢true}
use Rattle.std.proofs.lemmas.Bool.Decides.{nat_tests}
use Rattle.std.proofs.Math.Seq.{take-append_seam}
use Rattle.std.proofs.lemmas.List.{take-append-le}
use Rattle.std.proofs.lemmas.Option.{slice_get_within}
use Rattle.dz_name.specs.Words.{Name}
use Rattle.dz_name.specs.Name.{same_name}
use Rattle.dz_name.specs.Order.{same_decides}
use Rattle.dz_zone.specs.Version.{Zone}
use Rattle.dz_take.specs.Transfer.{Decision, up_to_date, new, refused}
use Rattle.dz_settings.specs.declared.config.CatalogSettings.{CatalogSettings}
use Rattle.dz_member.specs.Membership.{MemberOf}
use Rattle.dz_member.specs.Fold.{number_of, member_of}
use Rattle.dz_table.specs.Slot.{SlotOf}
use Rattle.dz_table.specs.Table.{put, slot_of}
use Rattle.dz_history.specs.declared.entry.Taken.{Taken}
use Rattle.dz_history.specs.declared.entry.Entry.{Entry}
use Rattle.dz_history.specs.declared.entry.Entry.TheVariants.{Setup, Transfer}
use Rattle.dz_history.specs.State.{State, opened, catalog_at, member_at, incarnation_at, held_at, stands}
use Rattle.dz_history.specs.After.{after, step, slot_after, counted, relisted, with_version, decision_of}
use Rattle.dz_history.specs.Legal.{CanFollow, IsLegal}
use Rattle.dz_history.specs.Places.{IsApart}
use Rattle.dz_history.specs.Laws.{CameBy, RecordsAreOwn}
use Rattle.dz_history.proofs.FindLemmas.{found_passes}
use Rattle.dz_history.proofs.JudgedLemmas.{found_all}
use Rattle.dz_history.proofs.LawLemmas.{empty}
use Rattle.dz_history.proofs.SlotLemmas.{slot_zone}
use Rattle.dz_history.proofs.StateLemmas.{incarnation_member, held_member}
use Rattle.dz_history.proofs.StepLemmas.{step_by}
use Rattle.dz_history.proofs.ListLemmas.{after_more, count_is, by_entries}
use Rattle.dz_history.proofs.StandsLemmas.{came_by, catalog_step}
use Rattle.dz_history.proofs.EndedLemmas.{none_old, old_is}
use Rattle.dz_history.proofs.ApartLemmas.{apart_opened, apart_step}
use Rattle.dz_history.proofs.PlaceLemmas.{IsMember, stands_member, get_front, get_behind}
use Rattle.dz_history.proofs.KeptLemmas.{version_in, slot_found, stands_by_fold, fold_of_member, keeps_from}
use Rattle.dz_history.proofs.KeptLemmas.{member_new, same_from, held_refused}

-- ---- with an entry more
came_more : (es : List Entry) (e : Entry) (zone : Name) (i : ℕ) (version : Zone) → CameBy es zone i version
    → CameBy (es ++ e ∷ []) zone i version
came_more es e zone i version c =
    let lt : c.place < length es = slice_get_within es c.place (Transfer c.taken) c.there in
    let first : take c.place (es ++ e ∷ []) ≡ take c.place es = take-append-le c.place es (e ∷ []) (omega arith) in
    record {
      place = c.place;
      taken = c.taken;
      behind = c.behind;
      there = get_front es (e ∷ []) c.place lt ∙ c.there;
      own = c.own;
      stood = c.stood;
      made = ap (λ (xs : List Entry). decision_of (after xs) c.taken) first ∙ c.made;
    }

came_now : (es : List Entry) (t : Taken) (i : ℕ) (version : Zone) → i < length es → t.incarnation ≡ i
    → decision_of (after es) t ≡ new version → CameBy (es ++ Transfer t ∷ []) t.zone i version
came_now es t i version lt is made =
    let last : slice_get (es ++ Transfer t ∷ []) (length es + 0) ≡ Some (Transfer t) =
    get_behind es (Transfer t ∷ []) 0 in
    record {
      place = length es;
      taken = t;
      behind = lt;
      there = ap (λ (n : ℕ). slice_get (es ++ Transfer t ∷ []) n) (let e : length es ≡ length es + 0 = omega arith in
          e) ∙ last;
      own = refl;
      stood = is;
      made = ap (λ (xs : List Entry). decision_of (after xs) t) (take-append_seam es (Transfer t ∷ [])) ∙ made;
    }

-- ---- of one zone one incarnation is current
one_of : (o : Option ℕ) (i j : ℕ) → option_map_or (λ k. k == i) o false ≡ true
    → option_map_or (λ k. k == j) o false ≡ true → i ≡ j
one_of None i j e f = absurd (cc)
one_of (Some k) i j e f = let a : (k == i) ≡ true = e in let b : (k == j) ≡ true = f in grind (arith, nat_tests)

one_stands : (s : State) (zone : Name) (i j : ℕ) → stands s zone i ≡ true → stands s zone j ≡ true → i ≡ j
one_stands s zone i j e f = one_of (incarnation_at s zone) i j e f

-- ---- a member that begins has no version
begun_other : (s : State) (zone : Name) (i : ℕ) → None ≡ catalog_at s zone → (stands s zone i ≡ true → ⊥)
    → option_map (λ (before : MemberOf). before.incarnation) (member_at s zone) ≢ Some i
begun_other s zone i none out e =
    out (ap (λ (o : Option ℕ). option_map_or (λ k. k == i) o false) (incarnation_member s zone none ∙ e)
    ∙ (let t : (i == i) ≡ true = grind (arith, nat_tests) in t))

listed_empty : (s : State) (ms : List MemberOf) (zone : Name) (i : ℕ) (m : MemberOf) → None ≡ catalog_at s zone
    → (stands s zone i ≡ true → ⊥) → member_of zone ms ≡ Some m → m.incarnation ≡ i
    → version_in zone (map (slot_after s) ms) ≡ None
listed_empty s ms zone i m none out f is =
    let own : m.zone ≡ zone = (same_decides m.zone zone).0 (found_passes (λ x. same_name x.zone zone) ms m (sym f)) in
    let found : slot_of zone (map (slot_after s) ms) ≡ Some (slot_after s m) =
    slot_found (slot_after s) (slot_zone s) zone ms ∙ ap (option_map (slot_after s)) f in
    let other : option_map (λ (before : MemberOf). before.incarnation) (member_at s m.zone) ≢ Some m.incarnation =
    λ e. begun_other s zone i none out
    (ap (λ (z : Name). option_map (λ (before : MemberOf). before.incarnation) (member_at s z)) (sym own) ∙ e
    ∙ ap Some is) in
    ap (option_and_then (λ (slot : SlotOf). slot.version)) found ∙ empty s m other

begun_empty : (s : State) (t : Taken) (zone : Name) (i : ℕ) → None ≡ catalog_at s zone → (stands s zone i ≡ true → ⊥)
    → stands (step s (Transfer t)) zone i ≡ true → held_at (step s (Transfer t)) zone ≡ None
unfolding counted relisted
begun_empty s t zone i none out up =
    let P : State → Type 0 = λ x. None ≡ catalog_at x zone → stands x zone i ≡ true → version_in zone x.table ≡ None in
    let kept : (x : State) → x.fold ≡ s.fold → P x = λ x e _ k. absurd (out (sym (stands_by_fold x s zone i e) ∙ k)) in
    let now : None ≡ catalog_at (step s (Transfer t)) zone = none ∙ sym (catalog_step s t zone) in
    held_member (step s (Transfer t)) zone now
    ∙ step_by s t P (kept (counted s) refl)
    (λ slot _ _. kept (counted (record s { table = put s.table slot })) refl)
    (λ number version _ _. kept (counted (with_version s number version)) refl)
    (λ number version nodes _ _ _ e k.
    let x : State = counted (relisted (with_version s number version) t.zone nodes) in
    let m : IsMember x zone i = stands_member x zone i e k in
    listed_empty (with_version s number version) x.fold.members zone i m.member none
    (λ h. out (sym (stands_by_fold (with_version s number version) s zone i refl) ∙ h)) m.is m.begun)
    now up

-- ---- with each entry
abbrev IsOwn : List Entry → Type 0
IsOwn es = (zone : Name) (i : ℕ) (version : Zone) → None ≡ catalog_at (after es) zone → stands (after es) zone i ≡ true
    → held_at (after es) zone ≡ Some version → CameBy es zone i version

own_nothing : IsOwn []
own_nothing zone i version none up h = absurd (omega (arith, none_old zone i up))

-- of the transfer's own zone
module _ (es : List Entry) (t : Taken) (legal : IsLegal es) (stood : stands (after es) t.zone t.incarnation ≡ true)
    (own : IsOwn es) (i : ℕ) (version : Zone) (none : None ≡ catalog_at (after es) t.zone) where
  same_by : (d : Decision) → decision_of (after es) t ≡ d → stands (after es) t.zone i ≡ true
      → held_at (step (after es) (Transfer t)) t.zone ≡ Some version → CameBy (es ++ Transfer t ∷ []) t.zone i version
  same_by up_to_date d up h = came_more es (Transfer t) t.zone i version
      (own t.zone i version none up (sym (same_from (after es) t None none d) ∙ h))
  same_by (refused fault) d up h = came_more es (Transfer t) t.zone i version
      (own t.zone i version none up (sym (held_refused (after es) t t.zone fault d) ∙ h))
  same_by (new zone) d up h =
      let some : Some zone ≡ Some version = sym (member_new (after es) t zone none d) ∙ h in
      let is : zone ≡ version = cc in
      let old : i < (after es).count = old_is es legal t.zone i up in
      came_now es t i version (omega (arith, count_is es legal))
      (one_stands (after es) t.zone t.incarnation i stood up) (d ∙ ap new is)

  own_same : stands (step (after es) (Transfer t)) t.zone i ≡ true
      → held_at (step (after es) (Transfer t)) t.zone ≡ Some version → CameBy (es ++ Transfer t ∷ []) t.zone i version
  own_same up h =
      same_by (decision_of (after es) t) refl (sym (stands_by_fold (step (after es) (Transfer t)) (after es) t.zone i
      (fold_of_member (after es) t (sym none))) ∙ up) h

-- of another zone
own_other : (es : List Entry) (t : Taken) → IsLegal es → IsOwn es → (zone : Name) (i : ℕ) (version : Zone)
    → None ≡ catalog_at (after es) zone → zone ≢ t.zone
    → stands (step (after es) (Transfer t)) zone i ≡ true → held_at (step (after es) (Transfer t)) zone ≡ Some version
    → CameBy (es ++ Transfer t ∷ []) zone i version
own_other es t legal own zone i version none ne up h = elim (came_by (after es) t zone i up) [
  | inl before ↦ came_more es (Transfer t) zone i version
      (own zone i version none before (sym (keeps_from (after es) t zone i None none before up ne) ∙ h))
  | inr is ↦
      let out : stands (after es) zone i ≡ true → ⊥ = λ k. omega (arith, old_is es legal zone i k) in
      absurd (let q : None ≡ Some version = sym (begun_empty (after es) t zone i none out up) ∙ h in cc)
]

own_setup : (es : List Entry) (config : List CatalogSettings) (zone : Name) (i : ℕ) (version : Zone)
    → None ≡ catalog_at (opened config) zone → stands (opened config) zone i ≡ true
    → CameBy (es ++ Setup config ∷ []) zone i version
own_setup es config zone i version none up =
    absurd (let q : false ≡ true = ap (λ (o : Option ℕ). option_map_or (λ k. k == i) o false)
    (sym (incarnation_member (opened config) zone none)) ∙ up in cc)

own_step : (es : List Entry) (e : Entry) → IsLegal es → CanFollow (after es) e → IsOwn es
    → (zone : Name) (i : ℕ) (version : Zone) → None ≡ catalog_at (step (after es) e) zone
    → stands (step (after es) e) zone i ≡ true
    → held_at (step (after es) e) zone ≡ Some version → CameBy (es ++ e ∷ []) zone i version
unfolding step
own_step es (Setup config) legal c own zone i version none up h = own_setup es config zone i version none up
own_step es (Transfer t) legal c own zone i version none up h =
    let before : None ≡ catalog_at (after es) zone = none ∙ catalog_step (after es) t zone in
    elim (cases_Bool (same_name zone t.zone)) [
      | inl k ↦
          let is : t.zone ≡ zone = sym ((same_decides zone t.zone).0 k) in
          let P : Name → Type 0 =
          λ z. None ≡ catalog_at (after es) z → stands (step (after es) (Transfer t)) z i ≡ true
          → held_at (step (after es) (Transfer t)) z ≡ Some version → CameBy (es ++ Transfer t ∷ []) z i version in
          subst P is (λ n u g. own_same es t legal c.1.stands own i version n u g) before up h
      | inr f ↦
          own_other es t legal own zone i version before
          (λ e. false≢true (sym f ∙ (same_decides zone t.zone).1 e)) up h
    ]

own_more : (es : List Entry) (e : Entry) → IsLegal es → CanFollow (after es) e → IsOwn es → IsOwn (es ++ e ∷ [])
own_more es e legal c own zone i version none up h =
    let is : after (es ++ e ∷ []) ≡ step (after es) e = after_more es e in
    own_step es e legal c own zone i version
    (none ∙ ap (λ (s : State). catalog_at s zone) is) (ap (λ (s : State). stands s zone i) (sym is) ∙ up)
    (ap (λ (s : State). held_at s zone) (sym is) ∙ h)

-- ---- the law
apart_one : (s : State) (e : Entry) → IsApart s → IsApart (step s e)
unfolding step
apart_one s (Setup config) h = apart_opened config
apart_one s (Transfer t) h = apart_step s t h

pub apart_is : (es : List Entry) → IsLegal es → IsApart (after es)
apart_is es legal = by_entries (λ fs. IsApart (after fs)) tt
    (λ fs e l c h. subst IsApart (sym (after_more fs e)) (apart_one (after fs) e h)) es legal

member_stands : (s : State) (m : MemberOf) → None ≡ catalog_at s m.zone → member_at s m.zone ≡ Some m
    → stands s m.zone m.incarnation ≡ true
member_stands s m none is =
    ap (λ (o : Option ℕ). option_map_or (λ k. k == m.incarnation) o false)
    (incarnation_member s m.zone none ∙ ap (option_map (λ (x : MemberOf). x.incarnation)) is)
    ∙ (let t : (m.incarnation == m.incarnation) ≡ true = grind (arith, nat_tests) in t)

pub records_own : RecordsAreOwn
records_own es m version legal is h =
    let s : State = after es in
    let apart : number_of s.fold.config m.zone ≡ None =
    subst (λ (o : Option MemberOf). IfSome o (λ x. number_of s.fold.config x.zone ≡ None)) is
    (found_all (λ x. number_of s.fold.config x.zone ≡ None) m.zone s.fold.members (apart_is es legal)) in
    by_entries IsOwn own_nothing own_more es legal m.zone m.incarnation version (sym apart)
    (member_stands s m (sym apart) is) h
