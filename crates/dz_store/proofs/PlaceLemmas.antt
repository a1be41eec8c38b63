-- The places of the records that count tell their payloads.
use Rattle.std.proofs.Common.{◌≡◌, ℕ, ◌+◌, ◌<◌, ◌≤◌, Bool, true, false, cond, List, [], ◌∷◌, ◌++◌, length, take, drop}
use Rattle.std.proofs.Common.{Option, Some, None, refl, sym, ap, subst, ◌∙◌, arith, append_assoc, length-append}
use Rattle.std.proofs.Common.{length-take}
use Rattle.std.specs.List.{fold}
use Rattle.std.specs.Int.{w64, to_be_bytes}
use Rattle.std.specs.Option.{option_map_or}
use Rattle.std.proofs.lemmas.List.{take_at, drop_at, drop-drop}
use Rattle.std.proofs.lemmas.List.Sums.{fold-append}
use Rattle.dz_name.specs.Words.{Name, Octets}
use Rattle.dz_name.specs.Name.{same_name}
use Rattle.dz_disk.specs.RecordLog.{body, log, records, IsSettled, IsPart}
use Rattle.std.specs.Prelude.{nat_le, ◌&&◌, ◌||◌, is_some}
use Rattle.std.specs.Ordering.{eq_by_cmp}
use Rattle.std.proofs.lemmas.Bool.{and_parts, false≢true}
use Rattle.dz_name.specs.Name.{canonical_order}
use Rattle.dz_name.specs.Order.{same_ties}
use Rattle.dz_store.specs.Payload.{reads, zone_of}
use Rattle.dz_store.specs.Store.{is_of, is_kept, counting, step}
use Rattle.dz_store.specs.inner.Places.{places, place_step, Far}
use Rattle.dz_store.specs.declared.places.Place.{Place}

-- a place has the payload, and ends within the records so far
pub record Tells (f : List ℕ) (end : ℕ) (place : Place) (payload : Octets) : Type 0 where
  pub octets : take place.size (drop (place.at + 9) f) ≡ payload
  pub size : length payload ≡ place.size
  pub within : place.at + 9 + place.size ≤ end

abbrev pub Agree : List ℕ → ℕ → Option Place → Option Octets → Type 0
Agree f end None None = Unit {0}
Agree f end (Some place) (Some payload) = Tells f end place payload
Agree f end None (Some payload) = ⊥
Agree f end (Some place) None = ⊥

later : (f : List ℕ) (end far : ℕ) (place : Option Place) (payload : Option Octets) → end ≤ far
    → Agree f end place payload → Agree f far place payload
later f end far None None le agree = tt
later f end far (Some place) (Some payload) le agree =
    record { octets = agree.octets; size = agree.size; within = omega (arith, le, agree.within) }
later f end far None (Some payload) le agree = agree
later f end far (Some place) None le agree = agree

either : (f : List ℕ) (end : ℕ) (b : Bool) (x y : Option Place) (p q : Option Octets) → Agree f end x p
    → Agree f end y q → Agree f end (cond b x y) (cond b p q)
either f end true x y p q first second = first
either f end false x y p q first second = second

module _ (f rest : List ℕ) (end : ℕ) (p : Octets) (ps : List Octets) (here : drop end f ≡ log (p ∷ ps) ++ rest) where
  parts : (body p ++ log ps) ++ rest ≡ to_be_bytes w64 (length p) ++ (p ++ (log ps ++ rest))
  unfolding body
  parts = append_assoc (body p) (log ps) rest ∙ append_assoc (to_be_bytes w64 (length p)) p (log ps ++ rest)

  payload_on : drop (end + 9) f ≡ p ++ (log ps ++ rest)
  payload_on =
      sym (drop-drop 9 end f) ∙ ap (λ l. drop 9 l) here ∙ ap (λ l. drop 8 l) parts
      ∙ drop_at (to_be_bytes w64 (length p)) (p ++ (log ps ++ rest)) 8 refl

  its_payload : take (length p) (drop (end + 9) f) ≡ p
  its_payload = ap (λ l. take (length p) l) payload_on ∙ take_at p (log ps ++ rest) (length p) refl

  next : drop (end + (9 + length p)) f ≡ log ps ++ rest
  next =
      let sum : end + (9 + length p) ≡ (end + 9) + length p = omega arith in
      ap (λ n. drop n f) sum ∙ sym (drop-drop (length p) (end + 9) f) ∙ ap (λ l. drop (length p) l) payload_on
      ∙ drop_at p (log ps ++ rest) (length p) refl

pub agree_on : (zone : Name) (f rest : List ℕ) (far : Far) (held : Option Octets) (list : List Octets)
    → drop far.end f ≡ log list ++ rest → Agree f far.end far.place held
    → Agree f (fold (place_step zone) far list).end (fold (place_step zone) far list).place
    (fold (step zone) held list)
agree_on zone f rest far held [] here agree = agree
agree_on zone f rest far held (p ∷ ps) here agree =
    let e = far.end + (9 + length p) in
    agree_on zone f rest (place_step zone far p) (step zone held p) ps (next f rest far.end p ps here)
    (either f e (is_of zone p) (cond (is_kept p) (Some (record { at = far.end; size = length p })) None) far.place
    (cond (is_kept p) (Some p) None) held
    (either f e (is_kept p) (Some (record { at = far.end; size = length p })) None (Some p) None
    (record { octets = its_payload f rest far.end p ps here; size = refl; within = omega arith }) tt)
    (later f far.end e far.place held (omega arith) agree))

length-first : (p : Octets) (ps : List Octets) → length (log (p ∷ ps)) ≡ (9 + length p) + length (log ps)
unfolding body
length-first p ps = omega (arith, length-append (body p) (log ps), length-append (to_be_bytes w64 (length p)) p)

end_on : (zone : Name) (far : Far) (list : List Octets)
    → (fold (place_step zone) far list).end ≡ far.end + length (log list)
end_on zone far [] = omega arith
end_on zone far (p ∷ ps) =
    let more = end_on zone (place_step zone far p) ps in
    let first = length-first p ps in
    omega (arith, more, first)

pub places_end : (zone : Name) (list : List Octets) → (places zone list).end ≡ length (log list)
places_end zone list = let e = end_on zone (record { end = 0; place = None }) list in omega (arith, e)

pub places_push : (zone : Name) (list : List Octets) (p : Octets)
    → places zone (list ++ p ∷ []) ≡ place_step zone (places zone list) p
places_push zone list p = fold-append (place_step zone) (record { end = 0; place = None }) list (p ∷ [])

-- whether a payload of a zone is of another
pub is_of_at : (zone z : Name) (p : Octets) → zone_of p ≡ Some z → is_of zone p ≡ same_name z zone
unfolding is_of
is_of_at zone z p is = ap (λ o. option_map_or (λ x. same_name x zone) o false) is

pub is_of_none : (zone : Name) (p : Octets) → zone_of p ≡ None → is_of zone p ≡ false
unfolding is_of
is_of_none zone p is = ap (λ o. option_map_or (λ x. same_name x zone) o false) is

-- one record more
pub placed : (zone z : Name) (list : List Octets) (p : Octets) (at : ℕ) (old new w : Option Place)
    → old ≡ (places zone list).place → at ≡ length (log list) → zone_of p ≡ Some z
    → w ≡ cond (is_kept p) (Some (record { at = at; size = length p })) None
    → new ≡ cond (eq_by_cmp canonical_order z zone) w old → new ≡ (places zone (list ++ p ∷ [])).place
placed zone z list p at old new w known here is what step =
    let same : eq_by_cmp canonical_order z zone ≡ is_of zone p = sym (is_of_at zone z p is ∙ same_ties z zone) in
    let end : at ≡ (places zone list).end = here ∙ sym (places_end zone list) in
    step ∙ ap (λ b. cond b w old) same ∙ ap (λ o. cond (is_of zone p) w o) known
    ∙ ap (λ x. cond (is_of zone p) x (places zone list).place)
    (what ∙ ap (λ n. cond (is_kept p) (Some (record { at = n; size = length p })) None) end)
    ∙ ap (λ (far : Far). far.place) (sym (places_push zone list p))

-- what counts for a zone, by its place
pub agrees : (zone : Name) (f junk : List ℕ) (list : List Octets) → f ≡ log list ++ 0 ∷ junk
    → Agree f (length (log list)) (places zone list).place (counting zone list)
agrees zone f junk list are = subst (λ e. Agree f e (places zone list).place (counting zone list))
    (places_end zone list) (agree_on zone f (0 ∷ junk) (record { end = 0; place = None }) None list are tt)

pub none_counts : (f : List ℕ) (end : ℕ) (place : Option Place) (held : Option Octets) → Agree f end place held
    → None ≡ place → None ≡ held
none_counts f end None None agree is = refl
none_counts f end None (Some p) agree is = absurd agree
none_counts f end (Some x) held agree is = absurd cc

pub one_within : (f : List ℕ) (end : ℕ) (place : Option Place) (held : Option Octets) (x : Place)
    → Agree f end place held → Some x ≡ place → x.at + 9 + x.size ≤ end
one_within f end None held x agree is = absurd cc
one_within f end (Some y) None x agree is = absurd agree
one_within f end (Some y) (Some p) x agree is =
    let same : y ≡ x = cc in
    subst (λ (z : Place). z.at + 9 + z.size ≤ end) same agree.within

pub one_counts : (f : List ℕ) (end : ℕ) (place : Option Place) (held : Option Octets) (x : Place)
    (part : Option Octets) → Agree f end place held → Some x ≡ place → IsPart part x.size (drop (x.at + 9) f)
    → part ≡ held
one_counts f end None held x part agree is there = absurd cc
one_counts f end (Some y) None x part agree is there = absurd agree
one_counts f end (Some y) (Some p) x None agree is there =
    let same : y ≡ x = cc in
    let tells = subst (λ z. Tells f end z p) same agree in
    absurd (omega (arith, there, tells.size, ap length tells.octets, length-take x.size (drop (x.at + 9) f)))
one_counts f end (Some y) (Some p) x (Some q) agree is there =
    let same : y ≡ x = cc in
    let tells = subst (λ z. Tells f end z p) same agree in
    ap (λ l. Some l) (there.0 ∙ tells.octets)

pub counts : {I : Type 0} (is_of : I → List Octets → Type 0) (may_leave : List ℕ → Type 0)
    (zone : Name) (f : List ℕ) (index : I) (end : ℕ) → IsSettled reads is_of may_leave index end f
    → Agree f end (places zone (records reads f)).place (counting zone (records reads f))
counts is_of may_leave zone f index end stored =
    subst (λ e. Agree f e (places zone (records reads f)).place (counting zone (records reads f))) (sym stored.ends)
    (agrees zone f stored.rest.junk (records reads f) stored.rest.are)
