-- The catalog's first transfer, message by message, comes to a valid version.
use Rattle.std.proofs.Common.{◌≡◌, ℕ, ◌+◌, ◌*◌, ◌<◌, ◌≤◌, Bool, true, false, List, [], ◌∷◌, ◌++◌, length, refl, sym}
use Rattle.std.proofs.Common.{◌∙◌, ap, subst, arith, append-nil, append_assoc, length-append, inl, inr, Some, None}
use Rattle.std.proofs.Common.{is_gt}
use Rattle.std.specs.Prelude.{codes, flat_map, filter, map, not, ◌==◌, ◌&&◌, ◌||◌, if◌then◌else◌}
use Rattle.std.specs.List.{AllByRecursion, list_any, count_by}
use Rattle.std.proofs.lemmas.Bool.{cases_Bool}
use Rattle.std.proofs.lemmas.Bool.Decides.{nat_tests}
use Rattle.std.proofs.lemmas.List.Sums.{length-filter, count_by-le-length}
use Rattle.std.proofs.lemmas.List.FromFn.{length-range_with_len}
use Rattle.std.proofs.lemmas.Slice.Eq.{bytes_eq-Decides}
use Rattle.dz_name.specs.Name.{IsName, wire_of, same_name, is_within}
use Rattle.dz_name.specs.Order.{same_decides}
use Rattle.dz_name.specs.Text.{items, with_label, labels_from, name_of_text}
use Rattle.dz_name.specs.Words.{Name, Octets}
use Rattle.dz_name.specs.declared.dns.TheConstants.{TYPE_NS, TYPE_AXFR}
use Rattle.dz_name.proofs.PartLemmas.{within_suffix}
use Rattle.dz_record.specs.Record.{Record, same_record, record_order}
use Rattle.dz_record.specs.Records.{distinct, insertion, in_order}
use Rattle.dz_zone.specs.Valid.{some_two, at_apex, no_soa, soa_twice, soa_below, no_ns, out_of_zone, too_many, clash}
use Rattle.dz_zone.specs.Valid.{both_are, fault_of}
use Rattle.dz_zone.specs.Version.{zone_of}
use Rattle.dz_zonemd.specs.Acceptance.{accepts}
use Rattle.dz_zonemd.specs.Standing.{standing, zonemds, is_zonemd}
use Rattle.dz_settings.specs.declared.config.Policy.TheVariants.{Present}
use Rattle.dz_message.specs.Frame.{frame, stream}
use Rattle.dz_message.specs.Writing.{IsAsking, message_octets}
use Rattle.dz_message.proofs.FrameLemmas.{none_there}
use Rattle.dz_xfr.specs.Apex.{is_apex_soa}
use Rattle.dz_xfr.specs.Place.{amid, ended, read, said}
use Rattle.dz_axfr.specs.Reading.{nothing, opened, one}
use Rattle.dz_axfr.proofs.WholeLemmas.{read_body}
use Rattle.dz_take.specs.Form.{form, or_else, checked, decision_of}
use Rattle.dz_take.specs.Outcome.{answers, judge, decided_from, outcome, or_incomplete}
use Rattle.dz_take.specs.Transfer.{Transfer, new}
use Rattle.dz_take.proofs.DistinctLemmas.{distinct_twice}
use Rattle.dz_take.proofs.KindLemmas.{form_behind}
use Rattle.dz_take.proofs.LawLemmas.{messages_tell}
use Rattle.dz_take.proofs.TakingLemmas.{stream_push}
use Rattle.dz_gen.specs.Texts.{named, digits}
use Rattle.dz_gen.specs.Script.{numbers}
use Rattle.dz_gen.specs.Records.{hourly, soa, catalog, version_property, zone, node, group, is_strict, member}
use Rattle.dz_gen.specs.Messages.{question, message, response, catalog_member}
use Rattle.dz_gen.specs.Outcomes.{first_of, Brings, CatalogComes}
use Rattle.dz_gen.proofs.CanonicalLemmas.{Respects, same_parts, not_false, filtered_any, distinct_any}
use Rattle.dz_gen.proofs.MessageLemmas.{IsZone}
use Rattle.dz_gen.proofs.ReadingLemmas.{zones}
use Rattle.dz_gen.proofs.SentLemmas.{IsSmall, fits, judged, answered, frame_size, asks, question_is}
use Rattle.dz_gen.proofs.SmallLemmas.{zone_named, node_named, group_named, catalog_named, version_named, soa_small}
use Rattle.dz_gen.proofs.SmallLemmas.{invalid_small, pointer_small, text_small}
use Rattle.dz_gen.proofs.SpelledLemmas.{IsFour, four_digits, zone_is, node_is, group_is}

-- ---- lists of records
and_no : (a : Bool) → (a && false) ≡ false
and_no true = refl
and_no false = refl

pub or_false : (a b : Bool) → a ≡ false → b ≡ false → (a || b) ≡ false
or_false a b p q = rw (p, q) refl

pub each_more : {X : Type 0} (P Q : X → Type 0) → ((x : X) → P x → Q x) → (xs : List X) → AllByRecursion P xs
    → AllByRecursion Q xs
each_more P Q f [] h = tt
each_more P Q f (x ∷ xs) h = (f x h.0, each_more P Q f xs h.1)

pub all_append : {X : Type 0} (P : X → Type 0) (xs ys : List X) → AllByRecursion P xs → AllByRecursion P ys
    → AllByRecursion P (xs ++ ys)
all_append P [] ys h k = k
all_append P (x ∷ xs) ys h k = (h.0, all_append P xs ys h.1 k)

pub any_no : (p : Record → Bool) (rs : List Record) → AllByRecursion (λ r. p r ≡ false) rs → list_any p rs ≡ false
any_no p [] h = refl
any_no p (r ∷ rs) h = or_false (p r) (list_any p rs) h.0 (any_no p rs h.1)

pub none_kept : (p : Record → Bool) (rs : List Record) → AllByRecursion (λ r. p r ≡ false) rs → filter p rs ≡ []
none_kept p [] h = refl
none_kept p (r ∷ rs) h = rw h.0 (none_kept p rs h.1)

pub all_filter : (P : Record → Type 0) (p : Record → Bool) (rs : List Record) → AllByRecursion P rs
    → AllByRecursion P (filter p rs)
all_filter P p [] h = tt
all_filter P p (r ∷ rs) h = elim (cases_Bool (p r)) [
  | inl t ↦ rw t (h.0, all_filter P p rs h.1)
  | inr f ↦ rw f (all_filter P p rs h.1)
]

all_distinct : (P : Record → Type 0) (rs : List Record) → AllByRecursion P rs → AllByRecursion P (distinct rs)
unfolding distinct
all_distinct P [] h = tt
all_distinct P (r ∷ rs) h = (h.0, all_filter P (λ s. not (same_record r s)) (distinct rs) (all_distinct P rs h.1))

all_insertion : (P : Record → Type 0) (r : Record) (rs : List Record) → P r → AllByRecursion P rs
    → AllByRecursion P (insertion r rs)
unfolding insertion
all_insertion P r [] h all = (h, tt)
all_insertion P r (s ∷ ss) h all = elim (cases_Bool (is_gt (record_order r s))) [
  | inl t ↦ rw t (all.0, all_insertion P r ss h all.1)
  | inr f ↦ rw f (h, all)
]

all_in_order : (P : Record → Type 0) (rs : List Record) → AllByRecursion P rs → AllByRecursion P (in_order rs)
unfolding in_order
all_in_order P [] h = tt
all_in_order P (r ∷ rs) h = all_insertion P r (in_order rs) h.0 (all_in_order P rs h.1)

pub few_filter : (p : Record → Bool) (rs : List Record) → length (filter p rs) ≤ length rs
few_filter p rs = omega (arith, length-filter p rs, count_by-le-length p rs)

few_distinct : (rs : List Record) → length (distinct rs) ≤ length rs
unfolding distinct
few_distinct [] = omega arith
few_distinct (r ∷ rs) = omega (arith, few_filter (λ s. not (same_record r s)) (distinct rs), few_distinct rs)

pub kinds_differ : (r s : Record) → (r.kind == s.kind) ≡ false → same_record r s ≡ false
kinds_differ r s f = rw f (and_no (same_name r.owner s.owner))

two_no : (test : Record → Record → Bool) (P : Record → Type 0) → ((r s : Record) → P r → P s → test r s ≡ false)
    → (rs : List Record) → AllByRecursion P rs → some_two test rs ≡ false
unfolding some_two
two_no test P f [] h = refl
two_no test P f (r ∷ rs) h =
    or_false (list_any (test r) rs) (some_two test rs)
    (any_no (test r) rs (each_more P (λ s. test r s ≡ false) (λ s k. f r s h.0 k) rs h.1)) (two_no test P f rs h.1)

no_clash : (r s : Record) → (r.kind == 5) ≡ false → (s.kind == 5) ≡ false → clash r s ≡ false
unfolding clash
no_clash r s f g = rw (f, g) (and_no (same_name r.owner s.owner))

not_both : (kind : ℕ) (r s : Record) → (r.kind == kind) ≡ false → both_are kind r s ≡ false
unfolding both_are
not_both kind r s f = rw f (and_no (same_name r.owner s.owner))

-- ---- records of the catalog beside its SOA
abbrev pub cat : Name
cat = codes "cat" ∷ codes "test" ∷ []

pub record IsBeside (r : Record) : Type 0 where
  pub soa : (r.kind == 6) ≡ false
  pub cname : (r.kind == 5) ≡ false
  pub dname : (r.kind == 39) ≡ false
  pub zonemd : (r.kind == 63) ≡ false
  pub within : is_within r.owner cat ≡ true

itself : same_name cat cat ≡ true
itself = (same_decides cat cat).1 refl

pub below : (front : Name) → is_within (front ++ cat) cat ≡ true
below front = (within_suffix (front ++ cat) cat).1 (front, refl)

pub catalog_is : catalog ≡ cat
unfolding name_of_text items labels_from with_label wire_of
catalog_is = refl

version_within : is_within (named (codes "version.cat.test.")) cat ≡ true
unfolding name_of_text items labels_from with_label wire_of
version_within = refl

pub ns_respects : Respects (at_apex TYPE_NS cat)
ns_respects r s t = let same = same_parts r s t in rw (same.0, same.1.0) refl

-- an SOA of the catalog, and other records
module _ (first : Record) (opens : first.kind ≡ 6) (owner : first.owner ≡ cat) where
  pub first_is : is_apex_soa cat first ≡ true
  first_is = rw (opens, owner) itself

  pub no_more : (rest : List Record) → AllByRecursion IsBeside rest → AllByRecursion (λ r. is_apex_soa cat r
      ≡ false) rest
  no_more rest beside = each_more IsBeside (λ r. is_apex_soa cat r ≡ false) (λ r k. rw k.soa refl) rest beside

  module _ (rest : List Record) (beside : AllByRecursion IsBeside rest) where
    abbrev all : List Record
    all = first ∷ rest

    some_soa : no_soa cat all ≡ false
    some_soa = rw first_is refl

    once : soa_twice cat all ≡ false
    once =
        let one : filter (is_apex_soa cat) all ≡ first ∷ [] =
        rw (first_is, none_kept (is_apex_soa cat) rest (no_more rest beside)) refl in
        let count : 1 ≡ count_by (is_apex_soa cat) all = sym (ap length one) ∙ length-filter (is_apex_soa cat) all in
        rw (← count) refl

    none_below : soa_below cat all ≡ false
    none_below =
        or_false (first.kind == 6 && not (same_name first.owner cat))
        (list_any (λ r. r.kind == 6 && not (same_name r.owner cat)) rest) (rw owner (and_no (first.kind == 6)))
        (any_no (λ r. r.kind == 6 && not (same_name r.owner cat)) rest
        (each_more IsBeside (λ r. (r.kind == 6 && not (same_name r.owner cat)) ≡ false) (λ r k. rw k.soa refl)
        rest beside))

    none_outside : out_of_zone cat all ≡ false
    none_outside =
        or_false (not (is_within first.owner cat)) (list_any (λ r. not (is_within r.owner cat)) rest) (rw owner refl)
        (any_no (λ r. not (is_within r.owner cat)) rest
        (each_more IsBeside (λ r. not (is_within r.owner cat) ≡ false) (λ r k. rw k.within refl) rest beside))

    no_cname : AllByRecursion (λ r. (r.kind == 5) ≡ false) all
    no_cname = (rw opens refl, each_more IsBeside (λ r. (r.kind == 5) ≡ false) (λ r k. k.cname) rest beside)

    no_dname : AllByRecursion (λ r. (r.kind == 39) ≡ false) all
    no_dname = (rw opens refl, each_more IsBeside (λ r. (r.kind == 39) ≡ false) (λ r k. k.dname) rest beside)

    not_many : length all ≤ 250000 → too_many all ≡ false
    not_many few = grind (arith, nat_tests)

    some_ns : list_any (at_apex TYPE_NS cat) rest ≡ true → no_ns cat all ≡ false
    some_ns serves = rw (opens, serves) refl

    no_fault : list_any (at_apex TYPE_NS cat) rest ≡ true → length all ≤ 250000 → fault_of cat all ≡ None
    unfolding fault_of
    no_fault serves few =
        rw (
          some_soa,
          once,
          none_below,
          some_ns serves,
          none_outside,
          two_no clash (λ r. (r.kind == 5) ≡ false) no_clash all no_cname,
          two_no (both_are 5) (λ r. (r.kind == 5) ≡ false) (λ r s k l. not_both 5 r s k) all no_cname,
          two_no (both_are 39) (λ r. (r.kind == 39) ≡ false) (λ r s k l. not_both 39 r s k) all no_dname,
          not_many few,
        ) refl

  -- of those that are the same the first is kept
  pub distinct_valid : (rest : List Record) → AllByRecursion IsBeside rest → list_any (at_apex TYPE_NS cat) rest
      ≡ true
      → length rest ≤ 20000 → fault_of cat (distinct (first ∷ rest)) ≡ None
  unfolding distinct
  distinct_valid rest beside serves few =
      let kept : List Record = filter (λ s. not (same_record first s)) (distinct rest) in
      let still = all_filter IsBeside (λ s. not (same_record first s)) (distinct rest)
      (all_distinct IsBeside rest beside) in
      let own : at_apex TYPE_NS cat first ≡ false = rw opens refl in
      let served : list_any (at_apex TYPE_NS cat) kept ≡ true =
      filtered_any (at_apex TYPE_NS cat) (λ s. not (same_record first s))
      (λ s gone. ns_respects first s (not_false (same_record first s) gone) ∙ own) (distinct rest)
      ∙ (distinct_any (at_apex TYPE_NS cat) ns_respects rest ∙ serves) in
      let n = few_distinct rest in
      let o = few_filter (λ s. not (same_record first s)) (distinct rest) in
      no_fault kept still served (omega arith)

  no_zonemd : (rest : List Record) → AllByRecursion IsBeside rest
      → zonemds cat (zone_of cat (first ∷ rest)).records ≡ []
  no_zonemd rest beside =
      let each : AllByRecursion (λ r. is_zonemd cat r ≡ false) (first ∷ rest) =
      (rw opens refl, each_more IsBeside (λ r. is_zonemd cat r ≡ false) (λ r k. rw k.zonemd refl) rest beside) in
      none_kept (is_zonemd cat) (in_order (distinct (first ∷ rest)))
      (all_in_order (λ r. is_zonemd cat r ≡ false) (distinct (first ∷ rest))
      (all_distinct (λ r. is_zonemd cat r ≡ false) (first ∷ rest) each))

  pub zone_accepted : (rest : List Record) → AllByRecursion IsBeside rest
      → accepts Present (standing cat (zone_of cat (first ∷ rest)).records) ≡ true
  unfolding standing
  zone_accepted rest beside = rw (no_zonemd rest beside) refl

-- an SOA and an NS of the catalog, and other records
module _ (first server : Record) (opens : first.kind ≡ 6) (owner : first.owner ≡ cat) (serves : server.kind ≡ 2)
    (served : server.owner ≡ cat) where
  pub server_beside : IsBeside server
  server_beside = record {
    soa = rw serves refl;
    cname = rw serves refl;
    dname = rw serves refl;
    zonemd = rw serves refl;
    within = rw served (below []);
  }

  pub server_serves : (rest : List Record) → list_any (at_apex TYPE_NS cat) (server ∷ rest) ≡ true
  server_serves rest = rw (serves, served) refl

  -- ---- what the records come to
  module _ (id : ℕ) where
    form_part : (body : List Record) → AllByRecursion IsBeside body → form (first_of cat id) (first ∷ body) ≡ None
    form_part body beside =
        let inner = each_more IsBeside (λ r. is_apex_soa cat r ≡ false) (λ r k. rw k.soa refl) body beside in
        let starts : one cat nothing first ≡ amid (opened first []) = rw (first_is first opens owner) refl in
        let reads : read (one cat) (amid nothing) (first ∷ body) ≡ amid (opened first body) =
        ap (λ p. read (one cat) p body) starts
        ∙ (ap (λ (xs : List Record). read (one cat) (amid (opened first [])) xs) (sym (append-nil body))
        ∙ read_body cat first [] body [] inner) in
        form_behind (first_of cat id) first body (record { soa = first_is first opens owner; unsettled = refl })
        ∙ ap (λ p. decision_of cat (said p)) reads

    form_all : (rest : List Record) → AllByRecursion IsBeside rest → length rest ≤ 10000
        → form (first_of cat id) (first ∷ ((server ∷ rest) ++ first ∷ []))
        ≡ Some (new (zone_of cat (first ∷ server ∷ rest)))
    form_all rest beside few =
        let inner = no_more first opens owner (server ∷ rest) (server_beside, beside) in
        let starts : one cat nothing first ≡ amid (opened first []) = rw (first_is first opens owner) refl in
        let last : one cat (opened first (server ∷ rest)) first
        ≡ ended (distinct (first ∷ server ∷ rest)) = rw (
          first_is,
          (bytes_eq-Decides first.rdata first.rdata).1 refl,
        ) refl in
        let reads : read (one cat) (amid nothing) (first ∷ ((server ∷ rest) ++ first ∷ []))
        ≡ ended (distinct (first ∷ server ∷ rest)) =
        ap (λ p. read (one cat) p ((server ∷ rest) ++ first ∷ [])) starts
        ∙ (read_body cat first [] (server ∷ rest) (first ∷ []) inner ∙ last) in
        let twice = distinct_twice (first ∷ server ∷ rest) in
        form_behind (first_of cat id) first ((server ∷ rest) ++ first ∷ [])
        (record { soa = first_is first opens owner; unsettled = refl })
        ∙ (ap (λ p. decision_of cat (said p)) reads
        ∙ (ap (λ fault. Some (checked cat (distinct (first ∷ server ∷ rest)) fault)) (ap (fault_of cat) twice
        ∙ distinct_valid first opens owner (server ∷ rest) (server_beside, beside) (server_serves rest) (omega arith))
        ∙ ap (λ (rs : List Record). Some (new (record { apex = cat; records = in_order rs }))) twice))

-- ---- the members
if_group : (P : Record → Type 0) (k : ℕ) (b : Bool) → P (group k) → AllByRecursion P (if b then group k ∷ [] else [])
if_group P k true p = (p, tt)
if_group P k false p = tt

module _ (k : ℕ) (is : IsZone k) where
  four : IsFour (digits k)
  four = four_digits k is.some is.few

  pub node_owner : IsName (node (codes "m") k).owner
  node_owner = subst IsName (sym (node_is k four)) (node_named four.a four.b four.c four.d four.digits)

  group_owner : IsName (group k).owner
  group_owner = subst IsName (sym (group_is k four)) (group_named four.a four.b four.c four.d four.digits)

  pub zone_name : IsName (zone k)
  zone_name = subst IsName (sym (zone_is k four)) (zone_named four.a four.b four.c four.d four.digits)

  pub node_small : IsSmall (node (codes "m") k)
  node_small = pointer_small _ node_owner (zone k) zone_name

  pub group_small : IsSmall (group k)
  group_small = text_small _ group_owner 3600 (6 ∷ codes "strict") (omega arith) (omega arith)

  pub member_small : AllByRecursion IsSmall (member k)
  member_small = (
    pointer_small _ node_owner (zone k) zone_name,
    if_group IsSmall k (is_strict k) (text_small _ group_owner 3600 (6 ∷ codes "strict") (omega arith)
        (omega arith)),
  )

  pub node_beside : IsBeside (node (codes "m") k)
  node_beside = record {
    soa = refl;
    cname = refl;
    dname = refl;
    zonemd = refl;
    within = ap (λ o. is_within o cat) (node_is k four)
        ∙ below ((109 ∷ four.a ∷ four.b ∷ four.c ∷ four.d ∷ []) ∷ codes "zones" ∷ []);
  }

  pub group_beside : IsBeside (group k)
  group_beside = record {
    soa = refl;
    cname = refl;
    dname = refl;
    zonemd = refl;
    within = ap (λ o. is_within o cat) (group_is k four)
        ∙ below (codes "group" ∷ (109 ∷ four.a ∷ four.b ∷ four.c ∷ four.d ∷ []) ∷ codes "zones" ∷ []);
  }

  pub member_beside : AllByRecursion IsBeside (member k)
  member_beside = (node_beside, if_group IsBeside k (is_strict k) group_beside)

few_group : (k : ℕ) (b : Bool) → length (if b then group k ∷ [] else []) ≤ 1
few_group k true = omega arith
few_group k false = omega arith

few_member : (k : ℕ) → length (member k) ≤ 2
few_member k = omega (arith, few_group k (is_strict k))

pub few_members : (ks : List ℕ) → length (flat_map member ks) ≤ 2 * length ks
few_members [] = omega arith
few_members (k ∷ ks) = omega (arith, length-append (member k) (flat_map member ks), few_member k, few_members ks)

-- ---- the messages
abbrev pub first : Record
first = soa cat 1

abbrev pub server : Record
server = hourly cat TYPE_NS (wire_of (named (codes "invalid.")))

abbrev asking : Transfer
asking = first_of cat 1

abbrev begins : Octets
begins = message_octets (message 1 33792 (question cat TYPE_AXFR ∷ []) (first ∷ server ∷ version_property ∷ []))

abbrev member_message : ℕ → Octets
member_message k = message_octets (message 1 33792 [] (member k))

abbrev ends : Octets
ends = message_octets (message 1 33792 [] (first ∷ []))

abbrev behind : List ℕ → List Octets
behind ks = map member_message ks ++ ends ∷ []

pub first_small : IsSmall first
first_small = soa_small cat (subst IsName catalog_is catalog_named) 1

begin_small : AllByRecursion IsSmall (first ∷ server ∷ version_property ∷ [])
begin_small = (
  first_small,
  (
    invalid_small cat (subst IsName catalog_is catalog_named),
    (text_small _ version_named 0 (1 ∷ codes "2") (omega arith) (omega arith), tt),
  ),
)

pub version_beside : IsBeside version_property
version_beside = record { soa = refl; cname = refl; dname = refl; zonemd = refl; within = version_within }

cat_asks : AllByRecursion IsAsking (question cat TYPE_AXFR ∷ [])
cat_asks = asks asking (subst IsName catalog_is catalog_named) (omega arith)
    (first ∷ server ∷ version_property ∷ []) begin_small (omega arith)

begins_fit : length begins ≤ 30000
begins_fit = fits asking (omega arith) (question cat TYPE_AXFR ∷ []) cat_asks (omega arith)
    (first ∷ server ∷ version_property ∷ []) begin_small (omega arith)

member_fits : (k : ℕ) → IsZone k → length (member_message k) ≤ 30000
member_fits k is = fits asking (omega arith) [] tt (omega arith) (member k) (member_small k is) (omega (
  arith,
  few_member k,
))

ends_fit : length ends ≤ 30000
ends_fit = fits asking (omega arith) [] tt (omega arith) (first ∷ []) (first_small, tt) (omega arith)

shorts : (ks : List ℕ) → AllByRecursion IsZone ks → AllByRecursion (λ m. length m ≤ 65535) (behind ks)
shorts [] all = (omega (arith, ends_fit), tt)
shorts (k ∷ ks) all = (omega (arith, member_fits k all.0), shorts ks all.1)

stream_is : (ks : List ℕ) → stream (behind ks) ≡ flat_map catalog_member ks ++ frame ends
stream_is [] = append-nil (frame ends)
stream_is (k ∷ ks) = ap (λ xs. frame (member_message k) ++ xs) (stream_is ks)
    ∙ sym (append_assoc (frame (member_message k)) (flat_map catalog_member ks) (frame ends))

pushed : (front : List Octets) (octets : Octets) → length (stream (front ++ octets ∷ []))
    ≡ length (stream front) + (2 + length octets)
pushed front octets = ap (λ xs. length xs) (stream_push front octets)
    ∙ omega (arith, length-append (stream front) (frame octets), frame_size octets)

not_first : (front : List Octets) → 0 < length front → (length front == 0) ≡ false
not_first front some = grind (arith, nat_tests)

members_decide : (ks : List ℕ) (front : List Octets) (body : List Record) → AllByRecursion IsZone ks
    → answers front ≡ first ∷ server ∷ body → AllByRecursion IsBeside body → 0 < length front
    → length (stream front) + 31000 * (length ks + 1) ≤ 67108864 → length body + 2 * length ks ≤ 10000
    → decided_from asking front (behind ks) ≡ Some (new (zone_of cat (first ∷ server ∷ (body ++ flat_map member ks))))
unfolding decided_from
members_decide [] front body all so_far beside some room few =
    let size : length (stream (front ++ ends ∷ [])) ≤ 67108864 = omega (arith, pushed front ends, ends_fit) in
    let is : judge asking front ends ≡ form asking (answers front ++ first ∷ []) =
    judged asking (omega arith) [] tt (omega arith) (first ∷ []) (
      first_small,
      tt,
    ) (omega arith) front size (ap not (not_first front some)) in
    ap (λ o. or_else o (decided_from asking (front ++ ends ∷ []) []))
    (is ∙ (ap (λ (rs : List Record). form asking (rs ++ first ∷ [])) so_far
    ∙ form_all first server refl refl refl refl 1 body beside (omega arith)))
    ∙ ap (λ (rs : List Record). Some (new (zone_of cat (first ∷ server ∷ rs)))) (sym (append-nil body))
members_decide (k ∷ ks) front body all so_far beside some room few =
    let n = member_fits k all.0 in
    let size : length (stream (front ++ member_message k ∷ [])) ≤ 67108864 = omega (
      arith,
      pushed front (member_message k),
      n,
    ) in
    let own = member_small k all.0 in
    let is : judge asking front (member_message k) ≡ form asking (answers front ++ member k) =
    judged asking (omega arith) [] tt (omega arith) (member k) own (omega (
      arith,
      few_member k,
    )) front size (ap not (not_first front some)) in
    let more : AllByRecursion IsBeside (body ++ member k) = all_append IsBeside body (member k) beside
    (member_beside k all.0) in
    let server_is = server_beside first server refl refl refl refl in
    let undecided : judge asking front (member_message k) ≡ None =
    is ∙ (ap (λ (rs : List Record). form asking (rs ++ member k)) so_far
    ∙ form_part first server refl refl refl refl 1 (server ∷ (body ++ member k)) (server_is, more)) in
    let next : answers (front ++ member_message k ∷ []) ≡ first ∷ server ∷ (body ++ member k) =
    answered asking (omega arith) [] tt (omega arith) (member k) own (omega (arith, few_member k)) front
    ∙ ap (λ (rs : List Record). rs ++ member k) so_far in
    ap (λ o. or_else o (decided_from asking (front ++ member_message k ∷ []) (behind ks))) undecided
    ∙ (members_decide ks (front ++ member_message k ∷ []) (body ++ member k) all.1 next more
    (omega (arith, length-append front (member_message k ∷ [])))
    (omega (arith, pushed front (member_message k), n))
    (omega (arith, length-append body (member k), few_member k))
    ∙ ap (λ (rs : List Record). Some (new (zone_of cat (first ∷ server ∷ rs)))) (append_assoc body (member k)
    (flat_map member ks)))

pub members_beside : (ks : List ℕ) → AllByRecursion IsZone ks → AllByRecursion IsBeside (flat_map member ks)
members_beside [] are = tt
members_beside (k ∷ ks) are = all_append IsBeside (member k) (flat_map member ks) (member_beside k are.0)
    (members_beside ks are.1)

module _ (ks : List ℕ) (all : AllByRecursion IsZone ks) (few : length ks ≤ 1000) where
  begin_judged : judge asking [] begins ≡ None
  unfolding answers
  begin_judged =
      judged asking (omega arith) (question cat TYPE_AXFR ∷ []) cat_asks (omega arith)
      (first ∷ server ∷ version_property ∷ []) begin_small (omega arith) []
      (omega (
        arith,
        pushed [] begins,
        begins_fit,
      )) (question_is asking (subst IsName catalog_is catalog_named) (omega arith)
      (first ∷ server ∷ version_property ∷ []) begin_small (omega arith))
      ∙ form_part first server refl refl refl refl 1 (server ∷ version_property ∷ [])
      (server_beside first server refl refl refl refl, (version_beside, tt))

  begin_answers : answers (begins ∷ []) ≡ first ∷ server ∷ version_property ∷ []
  unfolding answers
  begin_answers = answered asking (omega arith) (question cat TYPE_AXFR ∷ []) cat_asks (omega arith)
      (first ∷ server ∷ version_property ∷ []) begin_small (omega arith) []

  all_decide : decided_from asking [] (begins ∷ behind ks)
      ≡ Some (new (zone_of cat (first ∷ server ∷ version_property ∷ flat_map member ks)))
  unfolding decided_from
  all_decide =
      ap (λ o. or_else o (decided_from asking (begins ∷ []) (behind ks))) begin_judged
      ∙ members_decide ks (begins ∷ []) (version_property ∷ []) all begin_answers (version_beside, tt) (omega arith)
      (omega (arith, length-append (frame begins) [], frame_size begins, begins_fit)) (omega arith)

  octets_are : (frame begins ++ flat_map catalog_member ks) ++ frame ends ≡ stream (begins ∷ behind ks) ++ []
  octets_are = append_assoc (frame begins) (flat_map catalog_member ks) (frame ends)
      ∙ (ap (λ xs. frame begins ++ xs) (sym (stream_is ks)) ∙ sym (append-nil (stream (begins ∷ behind ks))))

  cat_comes : Brings Present asking ((frame begins ++ flat_map catalog_member ks) ++ frame ends) (zone_of cat
      (first ∷ server ∷ version_property ∷ flat_map member ks))
  cat_comes = record {
    comes =
        ap (outcome asking) octets_are
        ∙ (messages_tell asking (begins ∷ behind ks) [] (omega (arith, begins_fit), shorts ks all) none_there
        ∙ ap or_incomplete all_decide);
    accepted = zone_accepted first refl refl (server ∷ version_property ∷ flat_map member ks)
        (server_beside first server refl refl refl refl, (version_beside, members_beside ks all));
  }

pub catalog_comes : (n : ℕ) → CatalogComes n
catalog_comes n few =
    subst (λ (c : Name). Brings Present (first_of c 1)
    ((response 1 (question c TYPE_AXFR ∷ []) (soa c 1 ∷ hourly c TYPE_NS (wire_of (named
    (codes "invalid."))) ∷ version_property ∷ []) ++ flat_map catalog_member (numbers n)) ++ response 1 []
    (soa c 1 ∷ []))
    (zone_of c (soa c 1 ∷ hourly c TYPE_NS (wire_of (named
    (codes "invalid."))) ∷ version_property ∷ flat_map member (numbers n))))
    (sym catalog_is) (cat_comes (numbers n) (zones n few) (omega (arith, length-range_with_len 1 n)))
