-- Numbers of catalogs and of groups, which represent names and words.
use Rattle.std.proofs.Common.{map, ◌≡◌, ℕ, ◌<◌, ◌≤◌, zero, suc, Bool, true, false, ◌||◌, ◌&&◌, not, List, [], ◌∷◌}
use Rattle.std.proofs.Common.{length, get_or, refl, sym, ◌∙◌, ap, subst, arith, inl, inr}
use Rattle.std.specs.Prelude.{Option, Some, None, position, slice_get, IfSome, nat_lt, nat_le, nat_eq}
use Rattle.std.specs.Bool.{Decides}
use Rattle.std.specs.Option.{option_map, option_map_or, option_eq, ForSome}
use Rattle.std.specs.List.{list_any, list_all}
use Rattle.std.specs.Str.{bytes_eq}
use Rattle.std.proofs.lemmas.Bool.{cases_Bool}
use Rattle.std.proofs.lemmas.Bool.Decides.{same_from_decides, Decides-eqb, nat_tests}
use Rattle.std.proofs.lemmas.Option.{get_or_from_slice_get, slice_get_read, slice_get-get_or, slice_get-map}
use Rattle.std.proofs.lemmas.Slice.Eq.{bytes_eq-Decides}
use Rattle.std.proofs.lemmas.List.Sums.{position_or_len_is, AllPass-from_list_all}
use Rattle.std.proofs.lemmas.List.Quantifiers.{position-Some}
use Rattle.dz_name.specs.Words.{Name, Octets}
use Rattle.dz_name.specs.Name.{same_name}
use Rattle.dz_name.specs.Order.{same_decides}
use Rattle.dz_settings.specs.declared.key.Key.{Key}
use Rattle.dz_settings.specs.Key.{IsKey}
use Rattle.dz_settings.specs.declared.config.GroupSettings.{GroupSettings}
use Rattle.dz_settings.specs.declared.config.CatalogSettings.{CatalogSettings}
use Rattle.dz_settings.specs.Twice.{has_twice}
use Rattle.dz_member.proofs.SearchLemmas.{place_found}
use Rattle.dz_settings.specs.Config.{is_count, is_catalog, is_within_limits, has_each_once, has_secret, has_secrets}
use Rattle.dz_settings.specs.Config.{has_words_once, same_catalog, same_word, IsAllowed}
use Rattle.dz_member.specs.Membership.{settings_at, group_at, group_of, settings_of, policy_in, primaries_in}
use Rattle.dz_member.specs.Membership.{policy_of, primaries_of, key_of, shown, IsNumbered}
use Rattle.dz_member.specs.declared.membership.Membership.{Membership}
use Rattle.dz_member.specs.Fold.{FoldOf, number_of, listing_of}

pub first_of : (a b : Bool) → (a && b) ≡ true → a ≡ true
first_of true b e = refl
first_of false b e = absurd (cc)

pub second_of : (a b : Bool) → (a && b) ≡ true → b ≡ true
second_of true b e = e
second_of false b e = absurd (cc)

left_false : (a b : Bool) → (a || b) ≡ false → a ≡ false
left_false true b e = absurd (cc)
left_false false b e = refl

right_false : (a b : Bool) → (a || b) ≡ false → b ≡ false
right_false true b e = absurd (cc)
right_false false b e = e

not_true : (a : Bool) → not a ≡ true → a ≡ false
not_true true e = absurd (cc)
not_true false e = refl

-- ---- nothing appears twice: what is at two places is one place
module _ {X : Type 0} (test : X → X → Bool) where
  none_at : (x : X) (xs : List X) (i : ℕ) (d : X) → list_any (λ y. test x y) xs ≡ false → i < length xs
      → test x (get_or xs i d) ≡ false
  none_at x [] i d e lt = absurd (omega arith)
  none_at x (y ∷ ys) zero d e lt = left_false (test x y) (list_any (λ y. test x y) ys) e
  none_at x (y ∷ ys) (suc i) d e lt =
      none_at x ys i d (right_false (test x y) (list_any (λ y. test x y) ys) e) (omega arith)

  pub one_place : ((x y : X) → test x y ≡ true → test y x ≡ true) → (xs : List X) (i j : ℕ) (d : X)
      → has_twice test xs ≡ false → i < length xs → j < length xs
      → test (get_or xs i d) (get_or xs j d) ≡ true → i ≡ j
  one_place flips [] i j d e a b t = absurd (omega arith)
  one_place flips (x ∷ xs) zero zero d e a b t = refl
  one_place flips (x ∷ xs) zero (suc j) d e a b t =
      let f = none_at x xs j d (left_false (list_any (λ y. test x y) xs) (has_twice test xs) e) (omega arith) in
      absurd (let q : true ≡ false = sym t ∙ f in cc)
  one_place flips (x ∷ xs) (suc i) zero d e a b t =
      let f = none_at x xs i d (left_false (list_any (λ y. test x y) xs) (has_twice test xs) e) (omega arith) in
      absurd (let q : true ≡ false = sym (flips (get_or xs i d) x t) ∙ f in cc)
  one_place flips (x ∷ xs) (suc i) (suc j) d e a b t =
      ap suc (one_place flips xs i j d (right_false (list_any (λ y. test x y) xs) (has_twice test xs) e) (omega arith)
      (omega arith) t)

-- ---- catalogs
without_secrets : (catalogs : List CatalogSettings) → IsAllowed catalogs
    → (is_within_limits catalogs && has_each_once catalogs) ≡ true
without_secrets catalogs h = first_of (is_within_limits catalogs && has_each_once catalogs) (has_secrets catalogs) h

pub none_twice : (catalogs : List CatalogSettings) → IsAllowed catalogs → has_twice same_catalog catalogs ≡ false
none_twice catalogs h =
    let e = second_of (is_within_limits catalogs) (has_each_once catalogs) (without_secrets catalogs h) in
    not_true (has_twice same_catalog catalogs)
    (first_of (not (has_twice same_catalog catalogs)) (list_all has_words_once catalogs) e)

catalog_flips : (x y : CatalogSettings) → same_catalog x y ≡ true → same_catalog y x ≡ true
catalog_flips x y t = (same_decides y.name x.name).1 (sym ((same_decides x.name y.name).0 t))

-- two numbers whose names are one are one number
pub one_number : (catalogs : List CatalogSettings) (j k : ℕ) → IsAllowed catalogs → j < length catalogs
    → k < length catalogs
    → Decides (same_name (settings_at catalogs j).name (settings_at catalogs k).name) (j ≡ k)
one_number catalogs j k h a b = (
  λ t. one_place same_catalog catalog_flips catalogs j k _ (none_twice catalogs h) a b t,
  λ e. subst (λ (n : ℕ). same_name (settings_at catalogs j).name (settings_at catalogs n).name ≡ true) e
      ((same_decides (settings_at catalogs j).name (settings_at catalogs j).name).1 refl),
)

pub same_number : (catalogs : List CatalogSettings) (j k : ℕ) → IsAllowed catalogs → j < length catalogs
    → k < length catalogs
    → nat_eq j k ≡ same_name (settings_at catalogs j).name (settings_at catalogs k).name
same_number catalogs j k h a b =
    same_from_decides (nat_eq j k) (same_name (settings_at catalogs j).name (settings_at catalogs k).name)
    (Decides-eqb j k) (one_number catalogs j k h a b)

-- the number of a catalog's name is the catalog's
pub number_back : (catalogs : List CatalogSettings) (k : ℕ) → IsAllowed catalogs → k < length catalogs
    → number_of catalogs (settings_at catalogs k).name ≡ Some k
number_back catalogs k h b =
    let name = (settings_at catalogs k).name in
    let none : CatalogSettings = settings_at [] 0 in
    let e = position_or_len_is (λ c. same_name c.name name) catalogs k none (omega arith)
    (λ j less. elim (cases_Bool (same_name (get_or catalogs j none).name name)) [
      | inl t ↦ absurd (let q : j ≡ k = (one_number catalogs j k h (omega arith) b).0 t in omega arith)
      | inr f ↦ f
    ])
    (λ _. (same_decides name name).1 refl) in
    let t : nat_lt k (length catalogs) ≡ true = grind (arith, nat_tests) in
    rw (e, t) refl

-- the catalog of a name's number has the name
pub record HasNumber (catalogs : List CatalogSettings) (name : Name) (k : ℕ) : Type 0 where
  pub within : k < length catalogs
  pub is : (settings_at catalogs k).name ≡ name

pub number_names : (catalogs : List CatalogSettings) (name : Name) (k : ℕ) → number_of catalogs name ≡ Some k
    → HasNumber catalogs name k
number_names catalogs name k e =
    let none : CatalogSettings = settings_at [] 0 in
    let s = position-Some (λ c. same_name c.name name) catalogs k none e in
    record { within = s.0; is = (same_decides (settings_at catalogs k).name name).0 s.1 }

-- ---- limits
le_from : (a b : ℕ) → nat_le a b ≡ true → a ≤ b
le_from a b t = grind (arith, nat_tests)

pub few_catalogs : (catalogs : List CatalogSettings) → IsAllowed catalogs → length catalogs ≤ 8
few_catalogs catalogs h =
    let w = first_of (is_within_limits catalogs) (has_each_once catalogs) (without_secrets catalogs h) in
    let n = first_of (is_count 8 (length catalogs)) (list_all is_catalog catalogs) w in
    le_from (length catalogs) 8 (second_of (nat_le 1 (length catalogs)) (nat_le (length catalogs) 8) n)

pub catalog_at : (catalogs : List CatalogSettings) (k : ℕ) → IsAllowed catalogs → k < length catalogs
    → is_catalog (settings_at catalogs k) ≡ true
catalog_at catalogs k h b =
    let w = first_of (is_within_limits catalogs) (has_each_once catalogs) (without_secrets catalogs h) in
    AllPass-from_list_all is_catalog catalogs
    (second_of (is_count 8 (length catalogs)) (list_all is_catalog catalogs) w) k _ b

pub words_once : (catalogs : List CatalogSettings) (k : ℕ) → IsAllowed catalogs → k < length catalogs
    → has_twice same_word (settings_at catalogs k).groups ≡ false
words_once catalogs k h b =
    let e = second_of (is_within_limits catalogs) (has_each_once catalogs) (without_secrets catalogs h) in
    let all = second_of (not (has_twice same_catalog catalogs)) (list_all has_words_once catalogs) e in
    not_true (has_twice same_word (settings_at catalogs k).groups)
    (AllPass-from_list_all has_words_once catalogs all k _ b)

-- ---- groups
word_flips : (x y : GroupSettings) → same_word x y ≡ true → same_word y x ≡ true
word_flips x y t = (bytes_eq-Decides y.word x.word).1 (sym ((bytes_eq-Decides x.word y.word).0 t))

one_word : (groups : List GroupSettings) (g h : ℕ) → has_twice same_word groups ≡ false → g < length groups
    → h < length groups → Decides (bytes_eq (group_at groups g).word (group_at groups h).word) (g ≡ h)
one_word groups g h once a b = (
  λ t. one_place same_word word_flips groups g h _ once a b t,
  λ e. subst (λ (n : ℕ). bytes_eq (group_at groups g).word (group_at groups n).word ≡ true) e
      ((bytes_eq-Decides (group_at groups g).word (group_at groups g).word).1 refl),
)

abbrev pub word_at : List GroupSettings → ℕ → Octets
word_at groups g = (group_at groups g).word

pub same_choice : (groups : List GroupSettings) (g h : Option ℕ) → has_twice same_word groups ≡ false
    → ForSome g (λ n. n < length groups) → ForSome h (λ n. n < length groups)
    → option_eq nat_eq g h ≡ option_eq bytes_eq (option_map (word_at groups) g) (option_map (word_at groups) h)
same_choice groups None None once a b = refl
same_choice groups None (Some h) once a b = refl
same_choice groups (Some g) None once a b = refl
same_choice groups (Some g) (Some h) once a b =
    same_from_decides (nat_eq g h) (bytes_eq (word_at groups g) (word_at groups h)) (Decides-eqb g h)
    (one_word groups g h once (a g refl) (b h refl))

-- two members of one catalog have one word exactly where they have one number
pub chose_alike : (catalogs : List CatalogSettings) (j k : ℕ) (g h : Option ℕ) → IsAllowed catalogs
    → j < length catalogs → j ≡ k
    → ForSome g (λ n. n < length (settings_at catalogs j).groups)
    → ForSome h (λ n. n < length (settings_at catalogs k).groups)
    → option_eq nat_eq g h ≡ option_eq bytes_eq (option_map (word_at (settings_at catalogs j).groups) g)
    (option_map (word_at (settings_at catalogs k).groups) h)
chose_alike catalogs j k g h allowed inside e a b =
    subst (λ (n : ℕ). ForSome h (λ m. m < length (settings_at catalogs n).groups)
    → option_eq nat_eq g h ≡ option_eq bytes_eq (option_map (word_at (settings_at catalogs j).groups) g)
    (option_map (word_at (settings_at catalogs n).groups) h)) e
    (λ b'. same_choice (settings_at catalogs j).groups g h (words_once catalogs j allowed inside) a b') b

-- ---- what is read at a number
pub numbered_read : (catalogs : List CatalogSettings) (k : ℕ) (x : CatalogSettings) → IsAllowed catalogs
    → k < length catalogs → x ≡ get_or catalogs k x → number_of catalogs x.name ≡ Some k
numbered_read catalogs k x allowed inside is =
    let same : settings_at catalogs k ≡ x =
    get_or_from_slice_get catalogs k x _ (slice_get_read catalogs (length catalogs) k x refl inside is) in
    subst (λ (y : CatalogSettings). number_of catalogs y.name ≡ Some k) same (number_back catalogs k allowed inside)

usable_of : (o : Option Key) → option_map_or (λ (key : Key). is_count 64 (length key.secret)) o true ≡ true
    → ForSome o IsKey
usable_of None t x e = absurd (cc)
usable_of (Some key) t x e =
    let same : key ≡ x = cc in
    let some =
    le_from 1 (length key.secret) (first_of (nat_le 1 (length key.secret)) (nat_le (length key.secret) 64) t) in
    let short =
    le_from (length key.secret) 64 (second_of (nat_le 1 (length key.secret)) (nat_le (length key.secret) 64) t) in
    subst (λ k. IsKey k) same (record { some = some; short = short })

pub key_usable : (catalogs : List CatalogSettings) (k : ℕ) → IsAllowed catalogs → k < length catalogs
    → ForSome (settings_at catalogs k).key IsKey
key_usable catalogs k h b =
    let all = second_of (is_within_limits catalogs && has_each_once catalogs) (has_secrets catalogs) h in
    usable_of (settings_at catalogs k).key (AllPass-from_list_all has_secret catalogs all k _ b)

pub usable_read : (catalogs : List CatalogSettings) (k : ℕ) (x : CatalogSettings) → IsAllowed catalogs
    → k < length catalogs → x ≡ get_or catalogs k x → ForSome x.key IsKey
usable_read catalogs k x allowed inside is =
    let same : settings_at catalogs k ≡ x =
    get_or_from_slice_get catalogs k x _ (slice_get_read catalogs (length catalogs) k x refl inside is) in
    subst (λ (y : CatalogSettings). ForSome y.key IsKey) same (key_usable catalogs k allowed inside)

pub listing_back : (fold : FoldOf) (k : ℕ) → IsAllowed fold.config → k < length fold.config
    → listing_of fold (settings_at fold.config k).name ≡ get_or fold.listings k None
listing_back fold k allowed inside = rw (number_back fold.config k allowed inside) refl

word_back : (groups : List GroupSettings) (g : ℕ) → has_twice same_word groups ≡ false → g < length groups
    → position (λ x. bytes_eq x.word (word_at groups g)) groups ≡ Some g
word_back groups g once b =
    let word = word_at groups g in
    let none : GroupSettings = group_at [] 0 in
    let e = position_or_len_is (λ x. bytes_eq x.word word) groups g none (omega arith)
    (λ j less. elim (cases_Bool (bytes_eq (get_or groups j none).word word)) [
      | inl t ↦ absurd (let q : j ≡ g = (one_word groups j g once (omega arith) b).0 t in omega arith)
      | inr f ↦ f
    ])
    (λ _. (bytes_eq-Decides word word).1 refl) in
    let t : nat_lt g (length groups) ≡ true = grind (arith, nat_tests) in
    rw (e, t) refl

pub group_back : (catalog : CatalogSettings) (g : Option ℕ) → has_twice same_word catalog.groups ≡ false
    → ForSome g (λ n. n < length catalog.groups) → group_of catalog (option_map (word_at catalog.groups) g) ≡ g
group_back catalog None once there = refl
group_back catalog (Some g) once there = word_back catalog.groups g once (there g refl)

pub settings_back : (catalogs : List CatalogSettings) (k : ℕ) → IsAllowed catalogs → k < length catalogs
    → settings_of catalogs (settings_at catalogs k).name ≡ Some (settings_at catalogs k)
settings_back catalogs k allowed inside =
    sym (place_found (λ c. same_name c.name (settings_at catalogs k).name) catalogs k (settings_at catalogs k)
    (number_back catalogs k allowed inside) (slice_get-get_or catalogs k _ inside))

-- what holds for a member, by its names, is what holds by its numbers
module _ (catalogs : List CatalogSettings) (m : Membership) (allowed : IsAllowed catalogs)
    (numbered : IsNumbered catalogs m) where
  pub policy_back : policy_of catalogs (shown catalogs m) ≡ Some (policy_in (settings_at catalogs m.catalog) m.group)
  policy_back = rw (
    settings_back catalogs m.catalog allowed numbered.catalog,
    group_back (settings_at catalogs
        m.catalog) m.group (words_once catalogs m.catalog allowed numbered.catalog) numbered.group,
  ) refl

  pub primaries_back : primaries_of catalogs (shown catalogs m)
      ≡ Some (primaries_in (settings_at catalogs m.catalog) m.group)
  primaries_back = rw (
    settings_back catalogs m.catalog allowed numbered.catalog,
    group_back (settings_at catalogs
        m.catalog) m.group (words_once catalogs m.catalog allowed numbered.catalog) numbered.group,
  ) refl

  pub key_back : key_of catalogs (shown catalogs m) ≡ (settings_at catalogs m.catalog).key
  key_back = rw (settings_back catalogs m.catalog allowed numbered.catalog) refl

  at_place : (ms : List Membership) (place : ℕ) → slice_get ms place ≡ Some m
      → slice_get (map (shown catalogs) ms) place ≡ Some (shown catalogs m)
  at_place ms place e = slice_get-map (shown catalogs) ms place ∙ ap (λ o. option_map (shown catalogs) o) e

  pub policy_at : (ms : List Membership) (place : ℕ) → slice_get ms place ≡ Some m
      → IfSome (slice_get (map (shown catalogs) ms) place)
      (λ x. policy_of catalogs x ≡ Some (policy_in (settings_at catalogs m.catalog) m.group))
  policy_at ms place e = rw (at_place ms place e) policy_back

  pub primaries_at : (ms : List Membership) (place : ℕ) → slice_get ms place ≡ Some m
      → IfSome (slice_get (map (shown catalogs) ms) place)
      (λ x. primaries_of catalogs x ≡ Some (primaries_in (settings_at catalogs m.catalog) m.group))
  primaries_at ms place e = rw (at_place ms place e) primaries_back

  pub key_at : (ms : List Membership) (place : ℕ) → slice_get ms place ≡ Some m → IfSome
      (slice_get (map (shown catalogs) ms) place) (λ x. key_of catalogs x ≡ (settings_at catalogs m.catalog).key)
  key_at ms place e = rw (at_place ms place e) key_back
