-- Counts of records by type: one more record, and what a count tells of all.
use Rattle.std.proofs.Common.{◌≡◌, ℕ, ◌+◌, ◌<◌, Bool, true, false, ◌||◌, List, [], ◌∷◌, length, take, get_or, refl}
use Rattle.std.proofs.Common.{sym, ◌∙◌, ap, arith}
use Rattle.std.specs.Prelude.{◌==◌, ◌&&◌, not, cond, nat_lt}
use Rattle.std.specs.List.{list_any, count_by}
use Rattle.std.proofs.lemmas.Bool.Decides.{nat_tests}
use Rattle.std.proofs.lemmas.List.Sums.{sum_by_more, sum_by-cons, get_or-le-sum_by}
use Rattle.dz_name.specs.Words.{Name}
use Rattle.dz_name.specs.Name.{same_name}
use Rattle.dz_name.specs.declared.dns.TheConstants.{TYPE_DNAME, TYPE_NS}
use Rattle.dz_record.specs.Record.{Record}
use Rattle.dz_zone.specs.Version.{Zone, has_cuts, has_dnames, is_of_dnssec, is_secure}
use Rattle.dz_zone.specs.inner.Kept.{AreNsecs}
use Rattle.dz_zone.specs.inner.Kinds.{counted, kinds_of}
use Rattle.dz_zone.specs.inner.Singletons.{is_singleton}
use Rattle.dz_zone.specs.declared.kinds.Kinds.{Kinds}

-- a count of the first records, and of one more
count_more : (p : Record → Bool) (rs : List Record) (i : ℕ) (r : Record) → i < length rs → r ≡ get_or rs i r
    → count_by p (take i rs) + cond (p r) 1 0 ≡ count_by p (take (i + 1) rs)
count_more p rs i r within is =
    let more = sum_by_more (λ x. cond (p x) 1 0) rs i r within in
    sym (more ∙ ap (λ x. count_by p (take i rs) + cond (p x) 1 0) (sym is))

-- the counts of the first records, and of one more
pub kinds_more : (apex : Name) (rs : List Record) (i : ℕ) (r : Record) (before after : Kinds) → i < length rs
    → r ≡ get_or rs i r → before ≡ kinds_of apex (take i rs)
    → after ≡ counted apex before r → after ≡ kinds_of apex (take (i + 1) rs)
kinds_more apex rs i r before after within is e f =
    let singletons = count_more (λ r. is_singleton r.kind) rs i r within is in
    let cuts = count_more (λ r. r.kind == TYPE_NS && not (same_name r.owner apex)) rs i r within is in
    let dnames = count_more (λ r. r.kind == TYPE_DNAME) rs i r within is in
    let secure = count_more (λ r. is_of_dnssec r.kind) rs i r within is in
    rw (f, e, singletons, cuts, dnames, secure) refl

any_step : (here more : Bool) (n m : ℕ) → m ≡ cond here 1 0 + n → nat_lt 0 n ≡ more → nat_lt 0 m ≡ (here || more)
any_step true more n m e h = grind (arith, nat_tests)
any_step false more n m e h = let f : m ≡ n = omega arith in rw f h

-- a count isn't 0 exactly where some element passes
pub any_counted : {X : Type 0} (p : X → Bool) (xs : List X) → nat_lt 0 (count_by p xs) ≡ list_any p xs
any_counted p [] = refl
any_counted p (x ∷ xs) =
    any_step (p x) (list_any p xs) (count_by p xs) (count_by p (x ∷ xs)) (sum_by-cons (λ y. cond (p y) 1 0) x xs)
    (any_counted p xs)

-- what the counts of a zone tell: whether there is a cut, a DNAME, a record of DNSSEC
pub cuts_counted : (zone : Zone) (kinds : Kinds) → kinds ≡ kinds_of zone.apex zone.records
    → nat_lt 0 kinds.cuts ≡ has_cuts zone
cuts_counted zone kinds e =
    rw e (any_counted (λ r. r.kind == TYPE_NS && not (same_name r.owner zone.apex)) zone.records)

pub dnames_counted : (zone : Zone) (kinds : Kinds) → kinds ≡ kinds_of zone.apex zone.records
    → nat_lt 0 kinds.dnames ≡ has_dnames zone
dnames_counted zone kinds e = rw e (any_counted (λ r. r.kind == TYPE_DNAME) zone.records)

pub secure_counted : (zone : Zone) (kinds : Kinds) → kinds ≡ kinds_of zone.apex zone.records
    → nat_lt 0 kinds.secure ≡ is_secure zone
secure_counted zone kinds e = rw e (any_counted (λ r. is_of_dnssec r.kind) zone.records)

-- without a record of DNSSEC there is no NSEC
pub no_nsecs : (records : List Record) → count_by (λ r. is_of_dnssec r.kind) records ≡ 0 → AreNsecs records []
no_nsecs records none = record {
  sound = λ i d lt. absurd (omega arith);
  complete = λ k d within e. absurd (
      let one = get_or-le-sum_by (λ r. cond (is_of_dnssec r.kind) 1 0) records k d within in
      omega (arith, rw e at one, none)
      );
  rise = λ i j lt within. absurd (omega arith);
}
