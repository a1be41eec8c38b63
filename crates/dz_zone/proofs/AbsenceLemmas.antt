-- Records none of which is of a type.
use Rattle.std.proofs.Common.{◌≡◌, ◌≢◌, ℕ, ◌+◌, ◌≤◌, Bool, true, false, ◌||◌, List, [], ◌∷◌, refl, sym, ◌∙◌, arith}
use Rattle.std.specs.Prelude.{◌==◌, ◌&&◌, not, cond, nat_lt}
use Rattle.std.specs.List.{list_any, count_by}
use Rattle.std.proofs.lemmas.Bool.{false≢true}
use Rattle.std.proofs.lemmas.Bool.Decides.{nat_tests}
use Rattle.std.specs.Cmp.{first_so, second_so}
use Rattle.std.proofs.lemmas.Bool.{or_parts, or_from, or_left, and_left, and_right, not_from_true, true_from_ne_false}
use Rattle.std.proofs.lemmas.List.Sums.{sum_by-cons}
use Rattle.dz_name.specs.Words.{Name, Kind}
use Rattle.dz_name.specs.Name.{same_name}
use Rattle.dz_name.specs.declared.dns.TheConstants.{TYPE_CNAME, TYPE_DNAME, TYPE_SOA}
use Rattle.dz_record.specs.Record.{Record}
use Rattle.dz_zone.specs.Valid.{some_two, clash, both_are, is_cname_and_other, at_apex, no_soa, soa_twice, soa_below}
use Rattle.dz_zone.specs.inner.Singletons.{is_singleton, has_singletons, has_soa}

-- no element passes a test that only elements pass which pass another
none_passes : {X : Type 0} (p q : X → Bool) (xs : List X) → ((x : X) → p x ≡ false → q x ≡ false)
    → list_any p xs ≡ false → list_any q xs ≡ false
none_passes p q [] h none = refl
none_passes p q (x ∷ xs) h none =
    let parts = or_parts (p x) (list_any p xs) none in
    or_from (q x) (list_any q xs) (h x parts.0) (none_passes p q xs h parts.1)

no_pair : {X : Type 0} (p : X → Bool) (test : X → X → Bool) (xs : List X)
    → ((x y : X) → p x ≡ false → p y ≡ false → test x y ≡ false) → list_any p xs ≡ false → some_two test xs ≡ false
unfolding some_two
no_pair p test [] h none = refl
no_pair p test (x ∷ xs) h none =
    let parts = or_parts (p x) (list_any p xs) none in
    or_from (list_any (test x) xs) (some_two test xs) (none_passes p (test x) xs (λ y f. h x y parts.0 f) parts.1)
    (no_pair p test xs h parts.1)

neither : (r s : Record) → r.kind == TYPE_CNAME ≡ false → s.kind == TYPE_CNAME ≡ false → clash r s ≡ false
unfolding clash
neither r s f g =
    and_right (same_name r.owner s.owner) (is_cname_and_other r s || is_cname_and_other s r)
    (or_from (is_cname_and_other r s) (is_cname_and_other s r) (and_left (r.kind == TYPE_CNAME) _ f)
    (and_left (s.kind == TYPE_CNAME) _ g))

not_both : (kind : Kind) (r s : Record) → r.kind == kind ≡ false → s.kind == kind ≡ false → both_are kind r s ≡ false
unfolding both_are
not_both kind r s f g = and_right (same_name r.owner s.owner) _ (and_left (r.kind == kind) (s.kind == kind) f)

-- without a CNAME there is none beside another type, and no owner has two records of a type that isn't there
pub no_clash : (records : List Record) → list_any (λ r. r.kind == TYPE_CNAME) records ≡ false
    → some_two clash records ≡ false
no_clash records none = no_pair (λ r. r.kind == TYPE_CNAME) clash records neither none

pub none_twice : (kind : Kind) (records : List Record) → list_any (λ r. r.kind == kind) records ≡ false
    → some_two (both_are kind) records ≡ false
none_twice kind records none = no_pair (λ r. r.kind == kind) (both_are kind) records (not_both kind) none

-- what passes a test is counted by each test that it implies
at_most : (p q : Bool) → (p ≡ true → q ≡ true) → cond p 1 0 ≤ cond q 1 0
at_most false false h = omega arith
at_most false true h = omega arith
at_most true false h = absurd (false≢true (h refl))
at_most true true h = omega arith

count_cons : {X : Type 0} (p : X → Bool) (x : X) (xs : List X) → count_by p (x ∷ xs) ≡ cond (p x) 1 0 + count_by p xs
count_cons p x xs = sum_by-cons (λ y. cond (p y) 1 0) x xs

fewer : {X : Type 0} (p q : X → Bool) (xs : List X) → ((x : X) → p x ≡ true → q x ≡ true)
    → count_by p xs ≤ count_by q xs
fewer p q [] h = omega arith
fewer p q (x ∷ xs) h =
    rw (count_cons p x xs, count_cons q x xs) (omega (arith, at_most (p x) (q x) (h x), fewer p q xs h))

some_step : (p r more : Bool) (n : ℕ) → (p ≡ true → r ≡ true) → (more ≡ true → 1 ≤ n) → p || more ≡ true
    → 1 ≤ cond r 1 0 + n
some_step true true more n h k t = omega arith
some_step true false more n h k t = absurd (false≢true (h refl))
some_step false r more n h k t = omega (arith, k t)

some_counted : {X : Type 0} (p r : X → Bool) (xs : List X) → ((x : X) → p x ≡ true → r x ≡ true) → list_any p xs ≡ true
    → 1 ≤ count_by r xs
some_counted p r [] h t = absurd (false≢true t)
some_counted p r (x ∷ xs) h t =
    rw (count_cons r x xs) (some_step (p x) (r x) (list_any p xs) (count_by r xs) (h x) (some_counted p r xs h) t)

two_step : (p q r mores others : Bool) (n : ℕ) → (p ≡ true → q ≡ false) → (p ≡ true → r ≡ true) → (q ≡ true → r ≡ true)
    → (mores ≡ true → 1 ≤ n) → (others ≡ true → 1 ≤ n)
    → (mores ≡ true → others ≡ true → 2 ≤ n) → p || mores ≡ true → q || others ≡ true → 2 ≤ cond r 1 0 + n
two_step true true r mores others n d h k a b i s t = absurd (false≢true (sym (d refl)))
two_step true false true mores others n d h k a b i s t = omega (arith, b t)
two_step true false false mores others n d h k a b i s t = absurd (false≢true (h refl))
two_step false true true mores others n d h k a b i s t = omega (arith, a s)
two_step false true false mores others n d h k a b i s t = absurd (false≢true (k refl))
two_step false false r mores others n d h k a b i s t = omega (arith, i s t)

two_counted : {X : Type 0} (p q r : X → Bool) (xs : List X) → ((x : X) → p x ≡ true → q x ≡ false)
    → ((x : X) → p x ≡ true → r x ≡ true) → ((x : X) → q x ≡ true → r x ≡ true)
    → list_any p xs ≡ true → list_any q xs ≡ true → 2 ≤ count_by r xs
two_counted p q r [] d h k s t = absurd (false≢true s)
two_counted p q r (x ∷ xs) d h k s t =
    rw (count_cons r x xs)
    (two_step (p x) (q x) (r x) (list_any p xs) (list_any q xs) (count_by r xs) (d x) (h x) (k x)
    (some_counted p r xs h) (some_counted q r xs k) (two_counted p q r xs d h k) s t)

none_by : (b : Bool) (n : ℕ) → nat_lt 1 n ≡ false → (b ≡ true → 2 ≤ n) → b ≡ false
none_by false n h k = refl
none_by true n h k =
    let more : nat_lt 1 n ≡ true = (let t = k refl in grind (arith, nat_tests)) in
    absurd (false≢true (sym h ∙ more))

-- where at most one passes a test, and one that passes it passes another, none passes it that doesn't pass the other
no_other : {X : Type 0} (p q r : X → Bool) (xs : List X) → ((x : X) → p x ≡ true → q x ≡ false)
    → ((x : X) → p x ≡ true → r x ≡ true) → ((x : X) → q x ≡ true → r x ≡ true)
    → nat_lt 1 (count_by r xs) ≡ false → list_any p xs ≡ true → list_any q xs ≡ false
no_other p q r xs d h k one some = none_by (list_any q xs) (count_by r xs) one (two_counted p q r xs d h k some)

few : (m n : ℕ) → m ≤ n → nat_lt 1 n ≡ false → nat_lt 1 m ≡ false
few m n le one = grind (arith, nat_tests)

from_not : (b : Bool) → not b ≡ false → b ≡ true
from_not false h = absurd (false≢true (sym h))
from_not true h = refl

single_at : (apex : Name) (r : Record) → at_apex TYPE_SOA apex r ≡ true → is_singleton r.kind ≡ true
single_at apex r h = or_left (r.kind == TYPE_SOA) (r.kind == TYPE_CNAME || r.kind == TYPE_DNAME)
    (first_so (r.kind == TYPE_SOA) (same_name r.owner apex) h)

single_kind : (kind : Kind) (r : Record) → is_singleton kind ≡ true → r.kind == kind ≡ true
    → is_singleton r.kind ≡ true
single_kind kind r single h = let e : r.kind ≡ kind = grind (arith, nat_tests) in rw e single

other_kind : (kind : Kind) (r : Record) → kind ≢ TYPE_SOA → r.kind == TYPE_SOA ≡ true → r.kind == kind ≡ false
other_kind kind r other h = grind (arith, nat_tests)

-- where one record at most is of a type of which an owner has one: the apex doesn't own two SOA
pub one_soa : (apex : Name) (records : List Record) → has_singletons records ≡ false → soa_twice apex records ≡ false
one_soa apex records one = few (count_by (at_apex TYPE_SOA apex) records) (count_by (λ r. is_singleton r.kind) records)
    (fewer (at_apex TYPE_SOA apex) (λ r. is_singleton r.kind) records (single_at apex)) one

-- another owner has none, where the apex has one
pub none_below : (apex : Name) (records : List Record) → has_singletons records ≡ false → no_soa apex records ≡ false
    → soa_below apex records ≡ false
none_below apex records one soa =
    no_other (at_apex TYPE_SOA apex) (λ r. r.kind == TYPE_SOA && not (same_name r.owner apex))
    (λ r. is_singleton r.kind) records
    (λ r h. and_right (r.kind == TYPE_SOA) (not (same_name r.owner apex))
    (not_from_true (same_name r.owner apex) (second_so (r.kind == TYPE_SOA) (same_name r.owner apex) h)))
    (single_at apex)
    (λ r h. or_left (r.kind == TYPE_SOA) (r.kind == TYPE_CNAME || r.kind == TYPE_DNAME)
    (first_so (r.kind == TYPE_SOA) (not (same_name r.owner apex)) h))
    one (from_not (list_any (at_apex TYPE_SOA apex) records) soa)

pub soa_there : (apex : Name) (records : List Record) → no_soa apex records ≡ false → has_soa records ≡ true
soa_there apex records soa =
    true_from_ne_false (has_soa records)
    (λ none. false≢true (sym (none_passes (λ r. r.kind == TYPE_SOA) (at_apex TYPE_SOA apex) records
    (λ r f. and_left (r.kind == TYPE_SOA) (same_name r.owner apex) f) none)
    ∙ from_not (list_any (at_apex TYPE_SOA apex) records) soa))

-- and none is of another such type, where there is an SOA
pub no_alias : (kind : Kind) (records : List Record) → is_singleton kind ≡ true → kind ≢ TYPE_SOA
    → has_singletons records ≡ false → has_soa records ≡ true
    → list_any (λ r. r.kind == kind) records ≡ false
no_alias kind records single other one soa =
    no_other (λ r. r.kind == TYPE_SOA) (λ r. r.kind == kind) (λ r. is_singleton r.kind) records
    (λ r h. other_kind kind r other h)
    (λ r h. or_left (r.kind == TYPE_SOA) (r.kind == TYPE_CNAME || r.kind == TYPE_DNAME) h)
    (λ r h. single_kind kind r single h) one soa

pub no_cname : (records : List Record) → has_singletons records ≡ false → has_soa records ≡ true
    → some_two clash records ≡ false
no_cname records one soa = no_clash records (no_alias TYPE_CNAME records refl (omega arith) one soa)
