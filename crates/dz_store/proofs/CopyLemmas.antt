-- What counts for a zone is a payload of that zone, and the list that is made anew has it.
use Rattle.std.proofs.Common.{◌≡◌, ℕ, ◌+◌, ◌<◌, ◌≤◌, Bool, true, false, cond, List, [], ◌∷◌, ◌++◌, length, take}
use Rattle.std.proofs.Common.{get_or, Option, Some, None, refl, sym, ap, subst, ◌∙◌, arith, inl, inr}
use Rattle.std.specs.Prelude.{is_some, IfSome, ◌||◌}
use Rattle.std.specs.List.{fold, list_any, AllByRecursion}
use Rattle.std.specs.Map.{lookup, keys_of}
use Rattle.std.specs.Ordering.{eq_by_cmp}
use Rattle.std.specs.Option.{option_to_list}
use Rattle.std.specs.BTreeMap.{BTreeMap, get, keys}
use Rattle.std.proofs.lemmas.Bool.{cases_Bool}
use Rattle.std.proofs.lemmas.List.{append-nil, take_all}
use Rattle.std.proofs.lemmas.List.Folds.{list_any_more}
use Rattle.std.proofs.lemmas.List.Sums.{fold-append}
use Rattle.std.specs.Cmp.{eq_by_cmp_equiv}
use Rattle.std.proofs.lemmas.Bool.{false≢true}
use Rattle.dz_store.proofs.PlaceLemmas.{is_of_at, is_of_none, Agree, none_counts}
use Rattle.dz_name.specs.Words.{Name, Octets}
use Rattle.dz_name.specs.Name.{same_name, canonical_order}
use Rattle.dz_name.specs.Order.{same_decides, same_ties, canonical_total}
use Rattle.dz_disk.specs.RecordLog.{IsPayload, ArePayloads}
use Rattle.dz_store.specs.Payload.{reads, zone_of}
use Rattle.dz_store.specs.Store.{is_of, is_kept, counting, step}
use Rattle.dz_store.specs.inner.Places.{places}
use Rattle.dz_store.specs.declared.places.Place.{Place}

-- it is of the zone, kept, and reads
pub record IsOwn (zone : Name) (p : Octets) : Type 0 where
  pub own : is_of zone p ≡ true
  pub keeps : is_kept p ≡ true
  pub readable : reads p ≡ true

abbrev Own : Name → Option Octets → Type 0
Own zone held = IfSome held (IsOwn zone)

either_own : (zone : Name) (b : Bool) (x y : Option Octets) → (b ≡ true → Own zone x) → Own zone y
    → Own zone (cond b x y)
either_own zone true x y first second = first refl
either_own zone false x y first second = second

own_on : (zone : Name) (held : Option Octets) (list : List Octets) → Own zone held → ArePayloads reads list
    → Own zone (fold (step zone) held list)
own_on zone held [] own fits = own
own_on zone held (p ∷ ps) own fits =
    own_on zone (step zone held p) ps
    (either_own zone (is_of zone p) (cond (is_kept p) (Some p) None) held
    (λ its. either_own zone (is_kept p) (Some p) None
    (λ keeps. record { own = its; keeps = keeps; readable = fits.0.readable }) tt) own)
    fits.1

pub kept_own : (zone : Name) (list : List Octets) (p : Octets) → ArePayloads reads list → counting zone list ≡ Some p
    → IsOwn zone p
kept_own zone list p fits is = subst (Own zone) is (own_on zone None list tt fits)

abbrev pub same : Name → Name → Bool
same zone k = eq_by_cmp canonical_order zone k

-- the zones so far have what counts for them, and no other has anything
abbrev pub Copied : List Octets → List Name → List Octets → Type 0
Copied list zones made =
    (zone : Name) → counting zone made ≡ cond (list_any (same zone) zones) (counting zone list) None

-- a payload of one zone is of another exactly where the zones are one
of_same : (z zone : Name) (p : Octets) → is_of z p ≡ true → is_of zone p ≡ same zone z
of_same z zone p its = elim_zone (zone_of p) refl
  where
    elim_zone : (o : Option Name) → zone_of p ≡ o → is_of zone p ≡ same zone z
    elim_zone None none = absurd (false≢true (sym (is_of_none z p none) ∙ its))
    elim_zone (Some y) some =
        let one : y ≡ z = (same_decides y z).0 (sym (is_of_at z y p some) ∙ its) in
        is_of_at zone y p some ∙ ap (λ k. same_name k zone) one ∙ same_ties z zone
        ∙ (eq_by_cmp_equiv canonical_total).symm z zone

same_is : (a b : Name) → same a b ≡ true → a ≡ b
same_is a b h = (same_decides a b).0 (same_ties a b ∙ h)

-- one zone more
pub copied_more : (list : List Octets) (zones : List Name) (i : ℕ) (z : Name) (made new : List Octets)
    → ArePayloads reads list → Copied list (take i zones) made → i < length zones → z ≡ get_or zones i z
    → new ≡ made ++ option_to_list (counting z list) → Copied list (take (i + 1) zones) new
copied_more list zones i z made new fits so_far lt is are zone =
    ap (counting zone) are ∙ after (counting z list) refl
    ∙ sym (ap (λ b. cond b (counting zone list) None) (list_any_more (same zone) zones i z lt
    ∙ ap (λ k. list_any (same zone) (take i zones) || same zone k) (sym is)))
  where
    before : counting zone made ≡ cond (list_any (same zone) (take i zones)) (counting zone list) None
    before = so_far zone

    joined : (a b : Bool) (x : Option Octets) → (b ≡ true → x ≡ counting z list) → counting z list ≡ None
        → cond a x None ≡ cond (a || b) x None
    joined true b x h none = refl
    joined false true x h none = sym (h refl ∙ none)
    joined false false x h none = refl

    added : (a b : Bool) (x : Option Octets) (p : Octets) → (b ≡ true → x ≡ Some p)
        → cond b (Some p) (cond a x None) ≡ cond (a || b) x None
    added true true x p h = sym (h refl)
    added true false x p h = refl
    added false true x p h = sym (h refl)
    added false false x p h = refl

    the_zone : same zone z ≡ true → counting zone list ≡ counting z list
    the_zone h = ap (λ k. counting k list) (same_is zone z h)

    after : (held : Option Octets) → counting z list ≡ held → counting zone (made ++ option_to_list held)
        ≡ cond (list_any (same zone) (take i zones) || same zone z) (counting zone list) None
    after None none =
        ap (counting zone) (append-nil made) ∙ before
        ∙ joined (list_any (same zone) (take i zones)) (same zone z) (counting zone list) the_zone none
    after (Some p) some =
        let own = kept_own z list p fits some in
        fold-append (step zone) None made (p ∷ [])
        ∙ ap (λ b. cond (is_of zone p) (cond b (Some p) None) (counting zone made)) own.keeps
        ∙ ap (λ b. cond b (Some p) (counting zone made)) (of_same z zone p own.own)
        ∙ ap (λ x. cond (same zone z) (Some p) x) before
        ∙ added (list_any (same zone) (take i zones)) (same zone z) (counting zone list) p (λ h. the_zone h ∙ some)

-- all zones that have a place
any_key : {K X : Type 0} (test : K → Bool) (entries : List (K × X))
    → is_some (lookup test entries) ≡ list_any test (keys_of entries)
any_key test [] = refl
any_key test (e ∷ es) = first (test e.0) (lookup test es) (list_any test (keys_of es)) e.1 (any_key test es)
  where
    first : {X : Type 0} (b : Bool) (r : Option X) (s : Bool) (x : X) → is_some r ≡ s
        → is_some (cond b (Some x) r) ≡ (b || s)
    first true r s x h = refl
    first false r s x h = h

pub all_copied : (zone : Name) (f : List ℕ) (end : ℕ) (index : BTreeMap Name Place)
    (list : List Octets) (zones : List Name) → Agree f end (places zone list).place (counting zone list)
    → get canonical_order index zone ≡ (places zone list).place → zones ≡ keys index
    → cond (list_any (same zone) zones) (counting zone list) None ≡ counting zone list
all_copied zone f end index list zones agree known are =
    go (list_any (same zone) zones) (places zone list).place (ap (λ (o : Option Place). is_some o) (sym known)
    ∙ any_key (same zone) index.entries ∙ ap (λ l. list_any (same zone) l) (sym are)) agree
  where
    go : (b : Bool) (o : Option Place) → is_some o ≡ b → Agree f end o (counting zone list)
        → cond b (counting zone list) None ≡ counting zone list
    go true o h agree = refl
    go false None h agree = none_counts f end None (counting zone list) agree refl
    go false (Some x) h agree = absurd (false≢true (sym h))
