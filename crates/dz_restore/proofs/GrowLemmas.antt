-- What zones hold after one of them got a version in its turn.
use Rattle.std.proofs.Common.{◌≡◌, ◌≢◌, ◌⊎◌, ℕ, ◌+◌, ◌<◌, ◌≤◌, Bool, true, false, List, [], ◌∷◌, ◌++◌, length, refl}
use Rattle.std.proofs.Common.{sym, ◌∙◌, ap, subst, arith, inl, inr, Option, Some, None, length-append}
use Rattle.std.specs.Prelude.{slice_get, IsSome}
use Rattle.std.specs.Option.{option_and_then}
use Rattle.std.proofs.lemmas.Bool.{cases_Bool, cases_eq, cases_lt}
use Rattle.std.proofs.lemmas.Option.{same_Some, slice_get_within}
use Rattle.dz_name.specs.Words.{Name}
use Rattle.dz_name.specs.Name.{same_name}
use Rattle.dz_name.specs.Order.{same_decides}
use Rattle.dz_zone.specs.Version.{Zone}
use Rattle.dz_take.specs.Transfer.{Decision, new}
use Rattle.dz_member.specs.Membership.{MemberOf}
use Rattle.dz_member.specs.Fold.{FoldOf}
use Rattle.dz_table.specs.Slot.{SlotOf}
use Rattle.dz_table.specs.Table.{put, slot_of}
use Rattle.dz_table.proofs.Putting.{put_own, put_others}
use Rattle.dz_history.specs.declared.entry.Taken.{Taken}
use Rattle.dz_history.specs.declared.entry.Entry.{Entry}
use Rattle.dz_history.specs.declared.entry.Entry.TheVariants.{Transfer}
use Rattle.dz_history.specs.State.{State, IsState, catalog_at, member_at, held_at, stands}
use Rattle.dz_history.specs.After.{after, step, taken, decision_of, counted}
use Rattle.dz_history.specs.Legal.{IsLegal}
use Rattle.dz_history.specs.Places.{Seat, seats, place_at, IsApart}
use Rattle.dz_history.proofs.FindLemmas.{found_passes}
use Rattle.dz_history.proofs.KeptLemmas.{stands_by_fold, place_by_fold, fold_of_member, own_stands, held_keeps}
use Rattle.dz_history.proofs.KeptLemmas.{held_new}
use Rattle.dz_history.proofs.ListLemmas.{after_more, count_is}
use Rattle.dz_history.proofs.OwnLemmas.{records_own}
use Rattle.dz_history.proofs.PlaceLemmas.{place_catalog, place_seat, stands_zero, stands_member}
use Rattle.dz_history.proofs.StandsLemmas.{came_by, catalog_step, catalog_stands, stands_catalog}
use Rattle.dz_history.proofs.StateLemmas.{held_member, new_member, taken_member}
use Rattle.dz_history.proofs.StepLemmas.{config_step}
use Rattle.dz_store.specs.Kept.{KeptZone}
use Rattle.dz_fleet.proofs.TakeLemmas.{stands_some}
use Rattle.dz_restore.specs.Laws.{HasKeptMoments}
use Rattle.dz_restore.proofs.HoldLemmas.{to_hold, to_hold_by_fold, to_hold_by_config, placed, one_zone, number_within}
use Rattle.dz_restore.proofs.HoldLemmas.{after_catalogs, unplaced, Holds}

-- the version of a slot that is there
slot_version : (o : Option SlotOf) (slot : SlotOf) (version : Zone) → o ≡ Some slot → slot.version ≡ Some version
    → option_and_then (λ (x : SlotOf). x.version) o ≡ Some version
slot_version o slot version is has = ap (option_and_then (λ (x : SlotOf). x.version)) is ∙ has

none_held : (o : Option Zone) → ((version : Zone) → o ≡ Some version → ⊥) → o ≡ None
none_held None never = refl
none_held (Some version) never = absurd (never version refl)

module _ (es : List Entry) (t : Taken) (keeps : Name → Option KeptZone) (count : ℕ) (seat : Seat) (k : KeptZone)
    (legal : IsLegal es) (longer : IsLegal (es ++ Transfer t ∷ [])) (some : 0 < length es)
    (ok : IsState (after es)) (apart : IsApart (after es)) (ok_next : IsState (step (after es) (Transfer t)))
    (there : slice_get (seats (after es)) count ≡ Some seat) (own : t.zone ≡ seat.zone)
    (kept : keeps t.zone ≡ Some k) (made : decision_of (after es) t ≡ new k.version) (moment : t.moment ≡ k.refreshed)
    (hold : to_hold (after es) t.zone (keeps t.zone) ≡ Some k.version) (holds : Holds (after es) keeps count) where
  abbrev s : State
  s = after es

  abbrev next : State
  next = step (after es) (Transfer t)

  its_place : place_at s t.zone ≡ Some count
  its_place = subst (λ z. place_at s z ≡ Some count) (sym own) (place_seat s ok apart count seat there).0

  it_stands : IsSome (Rattle.dz_history.specs.State.incarnation_at s t.zone)
  it_stands = let up = placed s t.zone count its_place in stands_some s t.zone up.0 up.1

  it_holds : held_at next t.zone ≡ Some k.version
  it_holds = held_new s t k.version ok it_stands made

  -- another zone has another place
  elsewhere : (zone : Name) (p : ℕ) → zone ≢ t.zone → place_at s zone ≡ Some p → p ≢ count
  elsewhere zone p ne at same = ne (one_zone s zone p seat at (ap (λ n. slice_get (seats s) n) same ∙ there) ∙ sym own)

  -- ---- it is a member
  module _ (none : None ≡ catalog_at s t.zone) where
    same_fold : next.fold ≡ s.fold
    same_fold = fold_of_member s t (sym none)

    back : (zone : Name) (p : ℕ) → place_at next zone ≡ Some p → place_at s zone ≡ Some p
    back zone p at = sym (place_by_fold next s zone same_fold) ∙ at

    keeps_member : (zone : Name) (p : ℕ) → zone ≢ t.zone → place_at next zone ≡ Some p
        → held_at next zone ≡ held_at s zone
    keeps_member zone p ne at =
        let up = placed next zone p at in
        held_keeps s t zone up.0 ok (sym (stands_by_fold next s zone up.0 same_fold) ∙ up.1) up.1 ne

    front_member : (zone : Name) (p : ℕ) → place_at next zone ≡ Some p → p < count + 1
        → held_at next zone ≡ to_hold next zone (keeps zone)
    front_member zone p at lt = elim (cases_Bool (same_name zone t.zone)) [
      | inl t_is ↦ (
          let is : t.zone ≡ zone = sym ((same_decides zone t.zone).0 t_is) in
          subst (λ z. held_at next z ≡ to_hold next z (keeps z)) is
          (it_holds ∙ sym hold ∙ to_hold_by_fold s next t.zone (keeps t.zone) (sym same_fold))
          )
      | inr f_is ↦ (
          let ne : zone ≢ t.zone = λ e. let both : false ≡ true = sym f_is ∙ (same_decides zone t.zone).1 e in cc in
          let other = elsewhere zone p ne (back zone p at) in
          let less : p < count = elim (cases_eq p count) [ inl e ↦ absurd (other e) | inr g ↦ omega (arith, g, lt) ] in
          keeps_member zone p ne at ∙ holds.front zone p (back zone p at) less
          ∙ to_hold_by_fold s next zone (keeps zone) (sym same_fold)
          )
    ]

    rest_member : (zone : Name) (p : ℕ) → place_at next zone ≡ Some p → count + 1 ≤ p → held_at next zone ≡ None
    rest_member zone p at le =
        let ne : zone ≢ t.zone = λ e. (
        let both : Some count ≡ Some p = sym its_place ∙ ap (λ z. place_at s z) (sym e) ∙ back zone p at in
        let same : count ≡ p = same_Some count p both in
        omega (arith, same, le)
        ) in
        keeps_member zone p ne at ∙ holds.rest zone p (back zone p at) (omega (arith, le))

    table_is : next.table ≡ put s.table (record { zone = t.zone; refreshed = t.moment; version = Some k.version })
    unfolding counted step taken
    table_is = ap (λ (x : State). x.table) (ap (λ d. taken s t.zone t.moment d) made
        ∙ taken_member s t.zone t.moment (new k.version) none ∙ ap counted (new_member s t.zone t.moment k.version))

    moments_member : HasKeptMoments next keeps
    moments_member zone slot version no_catalog is has = elim (cases_Bool (same_name zone t.zone)) [
      | inl t_is ↦ (
          let same : zone ≡ t.zone = (same_decides zone t.zone).0 t_is in
          let mine : SlotOf = record { zone = t.zone; refreshed = t.moment; version = Some k.version } in
          let one : Some mine ≡ Some slot =
          sym (put_own s.table next.table mine table_is) ∙ ap (λ z. slot_of z next.table) (sym same) ∙ is in
          (k, ap keeps same ∙ kept, ap (λ (x : SlotOf). x.refreshed) (sym (same_Some mine slot one)) ∙ moment)
          )
      | inr f_is ↦ (
          let ne : zone ≢ t.zone = λ e. let both : false ≡ true = sym f_is ∙ (same_decides zone t.zone).1 e in cc in
          let mine : SlotOf = record { zone = t.zone; refreshed = t.moment; version = Some k.version } in
          holds.moments zone slot version (sym (catalog_step s t zone) ∙ no_catalog)
          (sym (put_others s.table next.table mine zone table_is ne) ∙ is) has
          )
    ]

    grown_member : Holds next keeps (count + 1)
    grown_member = record { front = front_member; rest = rest_member; moments = moments_member }

  -- ---- it is a catalog
  module _ (number : ℕ) (at_number : Some number ≡ catalog_at s t.zone) where
    number_is : number ≡ count
    number_is = same_Some number count (sym (place_catalog s t.zone number at_number) ∙ its_place)

    before_members : count < length s.fold.config
    before_members = subst (λ n. n < length s.fold.config) number_is (number_within s t.zone number at_number)

    same_config : next.fold.config ≡ s.fold.config
    same_config = config_step s t

    same_count : length next.fold.config ≡ length s.fold.config
    same_count = ap (λ config. length config) same_config

    -- another catalog
    module _ (zone : Name) (p other : ℕ) (ne : zone ≢ t.zone) (is : Some other ≡ catalog_at s zone)
        (at : place_at next zone ≡ Some p) where
      at_before : place_at s zone ≡ Some p
      at_before =
          place_catalog s zone other is ∙ sym (place_catalog next zone other (is ∙ sym (catalog_step s t zone))) ∙ at

      keeps_catalog : held_at next zone ≡ held_at s zone
      keeps_catalog = let up = stands_catalog s t zone other is in held_keeps s t zone 0 ok up.0 up.1 ne

      front_other : p < count + 1 → held_at next zone ≡ to_hold next zone (keeps zone)
      front_other lt =
          let apart_from = elsewhere zone p ne at_before in
          let less : p < count =
          elim (cases_eq p count) [ inl e ↦ absurd (apart_from e) | inr g ↦ omega (arith, g, lt) ] in
          keeps_catalog ∙ holds.front zone p at_before less
          ∙ to_hold_by_config s next zone other (keeps zone) (sym same_config) is

      rest_other : count + 1 ≤ p → held_at next zone ≡ None
      rest_other le = keeps_catalog ∙ holds.rest zone p at_before (omega (arith, le))

    -- a member, whose turn is still to come
    module _ (zone : Name) (p : ℕ) (is : None ≡ catalog_at s zone) (at : place_at next zone ≡ Some p) where
      is_next : None ≡ catalog_at next zone
      is_next = is ∙ sym (catalog_step s t zone)

      not_it : zone ≢ t.zone
      not_it e = let both : None ≡ Some number = is ∙ ap (λ z. catalog_at s z) e ∙ sym at_number in cc

      later_place : count + 1 ≤ p
      later_place = omega (arith, after_catalogs next zone p is_next at, same_count, before_members)

      begun_now : (i : ℕ) → stands next zone i ≡ true → i ≡ s.count → (version : Zone)
          → held_at next zone ≡ Some version → ⊥
      begun_now i up new_one version has =
          let m = stands_member next zone i is_next up in
          let zone_is : m.member.zone ≡ zone = (same_decides m.member.zone zone).0
          (found_passes (λ (x : MemberOf). same_name x.zone zone) next.fold.members m.member (sym m.is)) in
          let whole : after (es ++ Transfer t ∷ []) ≡ next = after_more es (Transfer t) in
          let member_is : member_at (after (es ++ Transfer t ∷ [])) m.member.zone ≡ Some m.member =
          ap (λ (x : State). member_at x m.member.zone) whole ∙ ap (λ z. member_at next z) zone_is ∙ m.is in
          let held_is : held_at (after (es ++ Transfer t ∷ [])) m.member.zone ≡ Some version =
          ap (λ (x : State). held_at x m.member.zone) whole ∙ ap (λ z. held_at next z) zone_is ∙ has in
          let came = records_own (es ++ Transfer t ∷ []) m.member version longer member_is held_is in
          let within : came.place < length (es ++ Transfer t ∷ []) =
          slice_get_within (es ++ Transfer t ∷ []) came.place (Transfer came.taken) came.there in
          let behind = came.behind in
          omega (arith, within, behind, m.begun, new_one, count_is es legal, length-append es (Transfer t ∷ []))

      none_yet : held_at next zone ≡ None
      none_yet =
          let up = placed next zone p at in
          elim (came_by s t zone up.0 up.1) [
            | inl before ↦ (
                let seated = Rattle.dz_history.proofs.PlaceLemmas.place_there s zone up.0 before in
                held_keeps s t zone up.0 ok before up.1 not_it
                ∙ holds.rest zone seated.place seated.at
                (omega (arith, after_catalogs s zone seated.place is seated.at, before_members))
                )
            | inr new_one ↦ none_held (held_at next zone) (λ version has. begun_now up.0 up.1 new_one version has)
          ]

    front_from : (zone : Name) (p : ℕ) (o : Option ℕ) → o ≡ catalog_at s zone → zone ≢ t.zone
        → place_at next zone ≡ Some p → p < count + 1 → held_at next zone ≡ to_hold next zone (keeps zone)
    front_from zone p (Some other) is ne at lt = front_other zone p other ne is at lt
    front_from zone p None is ne at lt = absurd (omega (arith, later_place zone p is at, lt))

    front_catalog : (zone : Name) (p : ℕ) → place_at next zone ≡ Some p → p < count + 1
        → held_at next zone ≡ to_hold next zone (keeps zone)
    front_catalog zone p at lt = elim (cases_Bool (same_name zone t.zone)) [
      | inl t_is ↦ (
          let is : t.zone ≡ zone = sym ((same_decides zone t.zone).0 t_is) in
          subst (λ z. held_at next z ≡ to_hold next z (keeps z)) is
          (it_holds ∙ sym hold ∙ to_hold_by_config s next t.zone number (keeps t.zone) (sym same_config) at_number)
          )
      | inr f_is ↦ front_from zone p (catalog_at s zone) refl
          (λ e. let both : false ≡ true = sym f_is ∙ (same_decides zone t.zone).1 e in cc) at lt
    ]

    rest_from : (zone : Name) (p : ℕ) (o : Option ℕ) → o ≡ catalog_at s zone → place_at next zone ≡ Some p
        → count + 1 ≤ p → held_at next zone ≡ None
    rest_from zone p None is at le = none_yet zone p is at
    rest_from zone p (Some other) is at le = elim (cases_Bool (same_name zone t.zone)) [
      | inl t_is ↦ (
          let same : zone ≡ t.zone = (same_decides zone t.zone).0 t_is in
          let mine : place_at next t.zone ≡ Some count = own_stands s t number (sym at_number) ∙ its_place in
          let both : Some p ≡ Some count = sym at ∙ ap (λ z. place_at next z) same ∙ mine in
          let e : p ≡ count = same_Some p count both in
          absurd (omega (arith, e, le))
          )
      | inr f_is ↦ rest_other zone p other (λ e. let both : false ≡ true = sym f_is ∙ (same_decides zone t.zone).1 e in
          cc) is at le
    ]

    rest_catalog : (zone : Name) (p : ℕ) → place_at next zone ≡ Some p → count + 1 ≤ p → held_at next zone ≡ None
    rest_catalog zone p at le = rest_from zone p (catalog_at s zone) refl at le

    nothing_held : (zone : Name) (o : Option ℕ) → place_at next zone ≡ o → None ≡ catalog_at s zone
        → held_at next zone ≡ None
    nothing_held zone None at is = unplaced next zone ok_next at
    nothing_held zone (Some p) at is = none_yet zone p is at

    moments_catalog : HasKeptMoments next keeps
    moments_catalog zone slot version no_catalog is has =
        let before : None ≡ catalog_at s zone = sym no_catalog ∙ catalog_step s t zone in
        let nothing = nothing_held zone (place_at next zone) refl before in
        let here : held_at next zone ≡ Some version =
        held_member next zone (sym no_catalog) ∙ slot_version (slot_of zone next.table) slot version is has in
        absurd (let both : None ≡ Some version = sym nothing ∙ here in cc)

    grown_catalog : Holds next keeps (count + 1)
    grown_catalog = record { front = front_catalog; rest = rest_catalog; moments = moments_catalog }

  grown_from : (o : Option ℕ) → o ≡ catalog_at s t.zone → Holds next keeps (count + 1)
  grown_from None e = grown_member e
  grown_from (Some number) e = grown_catalog number e

  pub grown : Holds next keeps (count + 1)
  grown = grown_from (catalog_at s t.zone) refl
