-- Names and records that are made.
use Rattle.std.proofs.Common.{◌≡◌, ℕ, ◌+◌, ◌<◌, ◌≤◌, Bool, true, false, List, [], ◌∷◌, ◌++◌, length, get_or, zero, suc}
use Rattle.std.proofs.Common.{refl, sym, ◌∙◌, ap, arith, length-append, Some, Ok, Err, Result}
use Rattle.std.specs.Prelude.{nat_lt, ◌==◌, IfOk, not}
use Rattle.std.specs.List.{All, list_any, list_all}
use Rattle.std.proofs.lemmas.Bool.{or_parts, and_parts}
use Rattle.std.proofs.lemmas.Bool.Decides.{nat_tests}
use Rattle.std.proofs.lemmas.List.Folds.{list_any-append}
use Rattle.sha2.specs.Sha512.{sha384}
use Rattle.sha2.proofs.Facts512.{length-sha384}
use Rattle.dz_name.specs.Label.{label_of}
use Rattle.dz_name.specs.Name.{wire_of, IsLabel, IsName, child_of}
use Rattle.dz_name.specs.Numbers.{four}
use Rattle.dz_name.proofs.NumberLemmas.{length_four}
use Rattle.dz_member.specs.declared.listing.Node.{Node}
use Rattle.dz_record.specs.Fields.{is_rdata, fields_of}
use Rattle.dz_record.specs.Record.{Record}
use Rattle.dz_catalog.specs.Member.{coo_name, group_name}
use Rattle.dz_producer.specs.Faults.{is_long, is_string, has_bad_group}
use Rattle.dz_settings.specs.Twice.{has_twice}
use Rattle.std.specs.Str.{bytes_eq}
use Rattle.dz_record.specs.Records.{distinct, in_order}
use Rattle.dz_zonemd.specs.Digested.{digested}
use Rattle.dz_producer.proofs.StandingLemmas.{digested_canonical}
use Rattle.dz_producer.specs.Records.{hourly, digest, invalid, times, owner_of, coo_records, group_records}
use Rattle.dz_producer.specs.Records.{node_records}
use Rattle.dz_producer.proofs.RdataLemmas.{name_rdata, rest_rdata, soa_rdata}
use Rattle.dz_producer.proofs.SizeLemmas.{size_child}

-- ---- names
pub is_room : (label : List ℕ) (name : List (List ℕ)) → is_long (label ∷ name) ≡ false
    → length (wire_of name) + length label < 255
is_room label name h =
    let size = size_child label name in
    grind (arith, nat_tests)

pub child_made : (label : List ℕ) (name : List (List ℕ)) → is_long (label ∷ name) ≡ false
    → child_of name label ≡ Ok (label ∷ name)
child_made label name h =
    let room : nat_lt (length (wire_of name) + length label) 255 ≡ true =
    let w = is_room label name h in
    grind (arith, nat_tests) in
    rw room refl

pub label_made : (word : List ℕ) → IsLabel word → label_of word ≡ Some word
label_made word is =
    let some : nat_lt 0 (length word) ≡ true = let w = is.some in grind (arith, nat_tests) in
    let short : nat_lt (length word) 64 ≡ true = let w = is.short in grind (arith, nat_tests) in
    rw (some, short, is.lower_case) refl

-- the words before names
pub zones_label : IsLabel (122 ∷ 111 ∷ 110 ∷ 101 ∷ 115 ∷ [])
zones_label = record { some = omega arith; short = omega arith; lower_case = refl }

pub coo_label : IsLabel (99 ∷ 111 ∷ 111 ∷ [])
coo_label = record { some = omega arith; short = omega arith; lower_case = refl }

pub group_label : IsLabel (103 ∷ 114 ∷ 111 ∷ 117 ∷ 112 ∷ [])
group_label = record { some = omega arith; short = omega arith; lower_case = refl }

pub version_label : IsLabel (118 ∷ 101 ∷ 114 ∷ 115 ∷ 105 ∷ 111 ∷ 110 ∷ [])
version_label = record { some = omega arith; short = omega arith; lower_case = refl }

-- what has room below a name leaves room for the name
pub above_room : (label : List ℕ) (name : List (List ℕ)) → is_long (label ∷ name) ≡ false → is_long name ≡ false
above_room label name h =
    let size = size_child label name in
    grind (arith, nat_tests)

-- ---- the names of a node
pub node_room : (apex : List (List ℕ)) (node : Node) → list_any (λ r. is_long r.owner) (node_records apex node) ≡ false
    → (is_long (owner_of apex node) ≡ false)
    × ((list_any (λ r. is_long r.owner) (coo_records (owner_of apex node) node.coo) ≡ false)
    × (list_any (λ r. is_long r.owner) (group_records (owner_of apex node) node.groups) ≡ false))
unfolding node_records
node_room apex node h =
    let owner : List (List ℕ) = owner_of apex node in
    let long = λ (r : Record). is_long r.owner in
    let first =
    or_parts (is_long owner) (list_any long (coo_records owner node.coo ++ group_records owner node.groups)) h in (
      first.0,
      or_parts (list_any long (coo_records owner node.coo)) (list_any long (group_records owner node.groups))
          (sym (list_any-append long (coo_records owner node.coo) (group_records owner node.groups)) ∙ first.1),
    )

pub coo_room : (owner catalog : List (List ℕ))
    → list_any (λ r. is_long r.owner) (coo_records owner (Some catalog)) ≡ false → is_long (coo_name owner) ≡ false
coo_room owner catalog h = (or_parts (is_long (coo_name owner)) false h).0

pub group_room : (owner : List (List ℕ)) (groups : List (List ℕ)) → 0 < length groups
    → list_any (λ r. is_long r.owner) (group_records owner groups) ≡ false → is_long (group_name owner) ≡ false
group_room owner [] some h = absurd (omega arith)
group_room owner (g ∷ gs) some h =
    (or_parts (is_long (group_name owner)) (list_any (λ r. is_long r.owner) (group_records owner gs)) h).0

-- ---- RDATA
invalid_name : IsName invalid
unfolding wire_of
invalid_name =
    record { each = (record { some = omega arith; short = omega arith; lower_case = refl }, tt); short = omega arith }

pub soa_is : (serial : ℕ) → is_rdata 6 (wire_of invalid ++ (wire_of invalid ++ (four serial ++ times))) ≡ true
soa_is serial =
    let n : length (four serial ++ times) ≡ 20 =
    omega (
      arith,
      length-append (four serial) times,
      length_four serial,
      length-append (four 3600) (four 600
          ++ (four 2147483646 ++ four 0)),
      length_four 3600,
      length-append (four 600) (four 2147483646 ++ four 0),
      length_four 600,
      length-append (four 2147483646) (four 0),
      length_four 2147483646,
      length_four 0,
    ) in
    soa_rdata invalid invalid (four serial ++ times) invalid_name invalid_name n

pub server_is : is_rdata 2 (wire_of invalid) ≡ true
unfolding fields_of
server_is = name_rdata 2 invalid refl invalid_name

pub pointer_is : (target : List (List ℕ)) → IsName target → is_rdata 12 (wire_of target) ≡ true
unfolding fields_of
pointer_is target is = name_rdata 12 target refl is

pub version_is : is_rdata 16 (1 ∷ 50 ∷ []) ≡ true
unfolding fields_of
version_is = rest_rdata 16 (1 ∷ 50 ∷ []) refl (omega arith)

pub text_is : (text : List ℕ) → length text ≤ 256 → is_rdata 16 text ≡ true
unfolding fields_of
text_is text short = rest_rdata 16 text refl (omega arith)

pub digest_is : (serial : ℕ) (octets : List ℕ) → is_rdata 63 (four serial ++ (1 ∷ 1 ∷ sha384 octets)) ≡ true
unfolding fields_of
digest_is serial octets = rest_rdata 63 (four serial ++ (1 ∷ 1 ∷ sha384 octets)) refl
    (omega (arith, length-append (four serial) (1 ∷ 1 ∷ sha384 octets), length_four serial, length-sha384 octets))

-- a string has at most 256 octets, where its octets are octets
pub string_short : (text : List ℕ) → is_string text ≡ true → All (λ octet. octet < 256) text → length text ≤ 256
string_short [] h small = omega arith
string_short (size ∷ text) h small =
    let parts = and_parts (nat_lt 0 (length text)) (size == length text) h in
    let same : (size == length text) ≡ true = parts.1 in
    let below : size < 256 = small 0 0 (omega arith) in
    grind (arith, nat_tests)

pub item_passes : {X : Type 0} (p : X → Bool) (xs : List X) (i : ℕ) (x : X) → list_all p xs ≡ true → i < length xs
    → x ≡ get_or xs i x → p x ≡ true
item_passes p [] i x all within is = absurd (omega arith)
item_passes p (y ∷ ys) zero x all within is =
    let parts = and_parts (p y) (list_all p ys) all in
    let e : x ≡ y = is in
    rw e parts.0
item_passes p (y ∷ ys) (suc i) x all within is =
    let parts = and_parts (p y) (list_all p ys) all in
    item_passes p ys i x parts.1 (omega arith) is

-- a digest is of records in whatever order
pub digest_made : {E : Type 0} (apex : List (List ℕ)) (serial : ℕ) (records : List Record) (rdata : List ℕ)
    (result : Result Record E) → rdata ≡ four serial ++ (1 ∷ 1 ∷ sha384 (digested apex (in_order (distinct records))))
    → IfOk result (λ r. r ≡ hourly apex 63 rdata) → IfOk result (λ r. r ≡ digest apex serial records)
digest_made apex serial records rdata (Ok r) is made =
    made ∙ ap (hourly apex 63)
    (is ∙ ap (λ (octets : List ℕ). four serial ++ (1 ∷ 1 ∷ sha384 octets)) (digested_canonical apex records))
digest_made apex serial records rdata (Err e) is made = tt

-- ---- what holds of none holds of no item
pub item_fails : {X : Type 0} (p : X → Bool) (xs : List X) (i : ℕ) (x : X) → list_any p xs ≡ false → i < length xs
    → x ≡ get_or xs i x → p x ≡ false
item_fails p [] i x none within is = absurd (omega arith)
item_fails p (y ∷ ys) zero x none within is =
    let parts = or_parts (p y) (list_any p ys) none in
    let e : x ≡ y = is in
    rw e parts.0
item_fails p (y ∷ ys) (suc i) x none within is =
    let parts = or_parts (p y) (list_any p ys) none in
    item_fails p ys i x parts.1 (omega arith) is

pub good_groups : (node : Node) → has_bad_group node ≡ false → list_all is_string node.groups ≡ true
good_groups node h = turned (list_all is_string node.groups)
    (or_parts (not (list_all is_string node.groups)) (has_twice bytes_eq node.groups) h).0
  where
    turned : (b : Bool) → not b ≡ false → b ≡ true
    turned true h = refl
    turned false h = absurd (cc)
