-- Payloads are read as what was written, and only so.
use Rattle.std.proofs.Common.{◌≡◌, ℕ, zero, suc, ◌+◌, ◌<◌, ◌≤◌, ◌^◌, Bool, true, false, cond, List, [], ◌∷◌, ◌++◌}
use Rattle.std.proofs.Common.{length, take, drop, get_or, Option, Some, None, refl, sym, ap, subst, ◌∙◌, arith}
use Rattle.std.proofs.Common.{append_assoc, length-append, length-drop}
use Rattle.std.specs.Prelude.{◌==◌, ◌&&◌, ◌||◌, nat_le, nat_lt, is_some, slice_index, option_map, option_and_then}
use Rattle.std.specs.Prelude.{IfSome, Ok, Err}
use Rattle.std.specs.List.{list_all}
use Rattle.std.specs.Str.{bytes_eq}
use Rattle.std.specs.Int.{w64, to_be_bytes, from_be_bytes}
use Rattle.std.proofs.lemmas.Bool.{and_parts, and_from, leb-true, le-leb, false≢true, cond-true, cond-false, eq-eqb}
use Rattle.std.proofs.lemmas.Bool.Decides.{nat_tests}
use Rattle.std.proofs.lemmas.List.{take_at, drop_at, drop-drop, append-nil}
use Rattle.std.proofs.lemmas.Nat.{from_be_bytes-to_be_bytes_8}
use Rattle.std.proofs.lemmas.Option.{same_Some}
use Rattle.std.proofs.lemmas.Slice.Eq.{bytes_eq-Decides}
use Rattle.dz_name.specs.Words.{Name, Octets}
use Rattle.dz_name.specs.Label.{label_of}
use Rattle.dz_name.specs.Name.{lower, wire_of, IsLabel, IsName}
use Rattle.dz_name.specs.Reading.{Reading, name_at, name_from, element_at}
use Rattle.dz_name.proofs.CanonicalLemmas.{between_split, name_at_between}
use Rattle.dz_name.proofs.ReadingLemmas.{name_at_name}
use Rattle.dz_message.specs.Frame.{stream}
use Rattle.dz_message.specs.Piece.{written}
use Rattle.dz_zone.specs.Version.{Zone}
use Rattle.dz_take.specs.Outcome.{outcome}
use Rattle.dz_take.specs.Transfer.{Transfer, Decision, up_to_date, new, refused}
use Rattle.dz_outward.specs.Stream.{messages_of, fits_alone, is_fit}
use Rattle.dz_outward.proofs.RoundLemmas.{back}
use Rattle.dz_store.specs.Kept.{KeptZone, CanBeKept, eight, number_of_eight, label_octets, head_octets, sent}
use Rattle.dz_store.specs.Kept.{payload_of, forgotten}
use Rattle.dz_store.specs.Payload.{name_and_rest, first_name, Head, after_names, names_of, head_of, transfer_of}
use Rattle.dz_store.specs.Payload.{new_version, version_in, kept_with, is_written_of, if_written, kept_of, if_whole}
use Rattle.dz_store.specs.Payload.{whole_name, forgotten_of, reads, zone_or, zone_of}
use Rattle.dz_store.specs.Store.{is_kept}
use Rattle.dz_store.specs.declared.places.TheConstants.{MOST}

same_octets : (a b : Octets) → bytes_eq a b ≡ true → a ≡ b
same_octets a b h = (bytes_eq-Decides a b).0 h

itself : (a : Octets) → bytes_eq a a ≡ true
itself a = (bytes_eq-Decides a a).1 refl

-- ---- a name
pub name_first : (labels : Name) (more : Octets) → IsName labels
    → first_name (wire_of labels ++ more) ≡ Some (labels, more)
unfolding first_name
name_first labels more is =
    let here : name_at (wire_of labels ++ more) 0 ≡ Ok (labels, 0 + length (wire_of labels)) = name_at_between
    (wire_of labels ++ more) 0 (0 + length (wire_of labels)) labels (between_split [] labels more is) in
    ap (name_and_rest (wire_of labels ++ more)) here
    ∙ ap (λ rest. Some (labels, rest)) (drop_at (wire_of labels) more (0 + length (wire_of labels)) (omega arith))

first_from : (octets : Octets) (r : Reading) (z : Name × Octets) → name_at octets 0 ≡ r
    → name_and_rest octets r ≡ Some z → IsName z.0
first_from octets (Ok r) z is same =
    subst IsName (ap (λ (x : Name × Octets). x.0) (same_Some _ _ same)) (name_at_name octets 0 r.1 r.0 is)
first_from octets (Err fault) z is same = absurd cc

pub first_is_name : (octets : Octets) (z : Name × Octets) → first_name octets ≡ Some z → IsName z.0
unfolding first_name
first_is_name octets z is = first_from octets (name_at octets 0) z refl is

-- ---- what follows both names
eight_back : (n : ℕ) (more : Octets) → n < 2 ^ 64 → number_of_eight (eight n ++ more) ≡ n
unfolding number_of_eight eight
eight_back n more small = from_be_bytes-to_be_bytes_8 n small

length-eight : (n : ℕ) (more : Octets) → length (eight n ++ more) ≡ 8 + length more
unfolding eight
length-eight n more = length-append (to_be_bytes w64 n) more

after_eight : (n : ℕ) (more : Octets) → drop 8 (eight n ++ more) ≡ more
unfolding eight
after_eight n more = drop_at (to_be_bytes w64 n) more 8 refl

label_back : (label : Octets) → IsLabel label → label_of label ≡ Some label
label_back label is =
    let some : nat_lt 0 (length label) ≡ true = let h = is.some in grind (arith, nat_tests) in
    let short : nat_lt (length label) 64 ≡ true = let h = is.short in grind (arith, nat_tests) in
    cond-true _ _ _ (and_from _ _ some short) ∙ ap (λ l. Some l) is.lower_case

take_none : (xs : Octets) → take 0 xs ≡ []
take_none [] = refl
take_none (x ∷ xs) = refl

-- after the length octet of a label
module _ (zone catalog : Name) (label : Option Octets) (refreshed : ℕ) (front more : Octets)
    (small : refreshed < 2 ^ 64) where
  abbrev octets : Octets
  octets = length front ∷ (front ++ (eight refreshed ++ more))

  long : length octets ≡ length front + 9 + length more
  long = omega (arith, length-append front (eight refreshed ++ more), length-eight refreshed more)

  its_label : take (length front) (drop 1 octets) ≡ front
  its_label = take_at front (eight refreshed ++ more) (length front) refl

  its_moment : drop (length front + 1) octets ≡ eight refreshed ++ more
  its_moment = drop_at (length front ∷ front) (eight refreshed ++ more) (length front + 1) (omega arith)

  its_stream : drop (length front + 9) octets ≡ more
  its_stream =
      let sum : length front + 9 ≡ (length front + 1) + 8 = omega arith in
      ap (λ n. drop n octets) sum ∙ sym (drop-drop 8 (length front + 1) octets) ∙ ap (λ l. drop 8 l) its_moment
      ∙ after_eight refreshed more

  pub after_label : label_of front ≡ label → after_names zone catalog octets
      ≡ Some (record { zone = zone; catalog = catalog; label = label; refreshed = refreshed; stream = more })
  unfolding after_names
  after_label is =
      let enough : nat_lt (length octets) (length front + 9) ≡ false = let h = long in grind (arith, nat_tests) in
      cond-false _ _ _ enough
      ∙ ap (λ l. Some (record {
        zone = zone;
        catalog = catalog;
        label = label_of l;
        refreshed =
            number_of_eight (drop (length front + 1) octets);
        stream = drop (length front + 9) octets;
      })) its_label
      ∙ ap (λ l. Some (record {
        zone = zone;
        catalog = catalog;
        label = l;
        refreshed =
            number_of_eight (drop (length front + 1) octets);
        stream = drop (length front + 9) octets;
      })) is
      ∙ ap (λ l. Some (record {
        zone = zone;
        catalog = catalog;
        label = label;
        refreshed = number_of_eight l;
        stream = drop (length front + 9) octets;
      })) its_moment
      ∙ ap (λ n. Some (record {
        zone = zone;
        catalog = catalog;
        label = label;
        refreshed = n;
        stream = drop (length front + 9) octets;
      })) (eight_back refreshed more small)
      ∙ ap (λ l. Some (record { zone = zone; catalog = catalog; label = label; refreshed = refreshed; stream = l }))
      its_stream

pub after_back : (k : KeptZone) (more : Octets) (label : Option Octets) → k.label ≡ label
    → IfSome label (λ l. IsLabel l) → k.refreshed < 2 ^ 64
    → after_names k.zone k.catalog (label_octets label ++ (eight k.refreshed ++ more))
    ≡ Some (record { zone = k.zone; catalog = k.catalog; label = k.label; refreshed = k.refreshed; stream = more })
after_back k more None is fits small = after_label k.zone k.catalog k.label k.refreshed [] more small (sym is)
after_back k more (Some label) is fits small =
    after_label k.zone k.catalog k.label k.refreshed label more small (label_back label fits ∙ sym is)

-- ---- a head
its_names : (k : KeptZone) → payload_of k ≡ 1
    ∷ (wire_of k.zone ++ (wire_of k.catalog ++ (label_octets k.label ++ (eight k.refreshed ++ sent k.version))))
unfolding payload_of head_octets
its_names k =
    ap (λ l. 1 ∷ l) (append_assoc (wire_of k.zone) (wire_of k.catalog ++ (label_octets k.label ++ eight k.refreshed))
    (sent k.version)
    ∙ ap (λ l. wire_of k.zone ++ l)
    (append_assoc (wire_of k.catalog) (label_octets k.label ++ eight k.refreshed) (sent k.version)
    ∙ ap (λ l. wire_of k.catalog ++ l) (append_assoc (label_octets k.label) (eight k.refreshed) (sent k.version))))

abbrev head_for : KeptZone → Head
head_for k =
    record { zone = k.zone; catalog = k.catalog; label = k.label; refreshed = k.refreshed; stream = sent k.version }

head_back : (k : KeptZone) → CanBeKept k → head_of (payload_of k) ≡ Some (head_for k)
unfolding head_of names_of
head_back k can =
    let more = label_octets k.label ++ (eight k.refreshed ++ sent k.version) in
    let small : k.refreshed < 2 ^ 64 = let h = can.refreshed in omega (arith, h) in
    ap head_of (its_names k)
    ∙ ap (λ o. option_and_then (λ (zone : Name × Octets).
    option_and_then (λ (catalog : Name × Octets). after_names zone.0 catalog.0 catalog.1) (first_name zone.1)) o)
    (name_first k.zone (wire_of k.catalog ++ more) can.zone)
    ∙ ap (λ o. option_and_then (λ (catalog : Name × Octets). after_names k.zone catalog.0 catalog.1) o)
    (name_first k.catalog more can.catalog)
    ∙ after_back k (sent k.version) k.label refl can.label small

-- ---- a version
version_back : (k : KeptZone) → CanBeKept k → version_in k.zone (sent k.version) ≡ Some k.version
unfolding version_in sent
version_back k can = subst (λ zone.
    new_version (outcome (transfer_of zone) (stream (written (messages_of 0 k.version)))) ≡ Some k.version) can.apex
    (ap new_version (back 0 k.version (omega arith) can.version can.fit))

-- ---- how long it is
length-label : (label : Option Octets) → IfSome label (λ l. IsLabel l) → length (label_octets label) ≤ 64
length-label None fits = omega arith
length-label (Some label) fits = let h = fits.short in omega (arith, h)

length-sent : (version : Zone) → is_fit version ≡ true → length (sent version) ≤ 67108864
unfolding sent
length-sent version fit = leb-true (length (stream (written (messages_of 0 version)))) 67108864
    (and_parts (list_all fits_alone version.records) _ fit).1

length-payload : (k : KeptZone) → CanBeKept k → length (payload_of k) ≤ MOST
length-payload k can =
    let a = can.zone.short in
    let b = can.catalog.short in
    let l = length-label k.label can.label in
    let e = length-eight k.refreshed (sent k.version) in
    let v = length-sent k.version can.fit in
    omega (
      arith,
      a,
      b,
      l,
      e,
      v,
      ap length (its_names k),
      length-append (wire_of k.zone)
          (wire_of k.catalog ++ (label_octets k.label ++ (eight k.refreshed ++ sent k.version))),
      length-append (wire_of k.catalog) (label_octets k.label ++ (eight k.refreshed ++ sent k.version)),
      length-append (label_octets k.label) (eight k.refreshed ++ sent k.version),
    )

-- ---- what was written reads
written_of : (k : KeptZone) → CanBeKept k → is_written_of k (payload_of k) ≡ true
unfolding is_written_of
written_of k can =
    let small : nat_lt k.refreshed (2 ^ 40) ≡ true = let h = can.refreshed in grind (arith, nat_tests) in
    and_from _ _ small (and_from _ _ can.fit (itself (payload_of k)))

pub kept_back : (k : KeptZone) → CanBeKept k → kept_of (payload_of k) ≡ Some k
unfolding kept_of
kept_back k can =
    ap (λ o. option_and_then (λ (head : Head). option_and_then
    (λ version. if_written (payload_of k) (kept_with head version)) (version_in head.zone head.stream)) o)
    (head_back k can)
    ∙ ap (λ o. option_and_then (λ version. if_written (payload_of k) (kept_with (head_for k) version)) o)
    (version_back k can)
    ∙ cond-true _ _ _ (written_of k can)

or_true : (b : Bool) → (b || true) ≡ true
or_true true = refl
or_true false = refl

pub kept_reads : (k : KeptZone) → CanBeKept k → reads (payload_of k) ≡ true
unfolding reads
kept_reads k can =
    and_from _ _ (le-leb _ _ (length-payload k can))
    (ap (λ (o : Option KeptZone). is_some (forgotten_of (payload_of k)) || is_some o) (kept_back k can)
    ∙ or_true (is_some (forgotten_of (payload_of k))))

pub kept_zone : (k : KeptZone) → CanBeKept k → zone_of (payload_of k) ≡ Some k.zone
unfolding zone_of
kept_zone k can = ap (λ o. zone_or o (forgotten_of (payload_of k))) (kept_back k can)

pub forgotten_back : (zone : Name) → IsName zone → forgotten_of (forgotten zone) ≡ Some zone
unfolding forgotten_of forgotten whole_name
forgotten_back zone is =
    let wire : wire_of zone ++ [] ≡ wire_of zone = append-nil (wire_of zone) in
    let first : first_name (wire_of zone) ≡ Some (zone, []) =
    subst (λ l. first_name l ≡ Some (zone, [])) wire (name_first zone [] is) in
    ap (λ o. option_and_then (if_whole (wire_of zone)) o) first ∙ cond-true _ _ _ (itself (wire_of zone))

length-forgotten : (zone : Name) → length (forgotten zone) ≡ 1 + length (wire_of zone)
unfolding forgotten
length-forgotten zone = omega arith

pub forgotten_reads : (zone : Name) → IsName zone → reads (forgotten zone) ≡ true
unfolding reads
forgotten_reads zone is =
    let long : length (forgotten zone) ≤ MOST = let h = is.short in omega (arith, h, length-forgotten zone) in
    and_from _ _ (le-leb _ _ long)
    (ap (λ (o : Option Name). is_some o || is_some (kept_of (forgotten zone))) (forgotten_back zone is))

pub not_kept : (payload : Octets) → (slice_index payload 0 == 1) ≡ false → kept_of payload ≡ None
unfolding kept_of head_of
not_kept payload other =
    ap (λ o. option_and_then (λ (head : Head). option_and_then (λ version. if_written payload (kept_with head version))
    (version_in head.zone head.stream)) o) (cond-false _ _ _ other)

forgotten_first : (zone : Name) → (slice_index (forgotten zone) 0 == 1) ≡ false
unfolding forgotten
forgotten_first zone = refl

pub forgotten_not_kept : (zone : Name) → kept_of (forgotten zone) ≡ None
forgotten_not_kept zone = not_kept (forgotten zone) (forgotten_first zone)

pub forgotten_zone : (zone : Name) → IsName zone → zone_of (forgotten zone) ≡ Some zone
unfolding zone_of
forgotten_zone zone is = ap (λ o. zone_or o (forgotten_of (forgotten zone))) (forgotten_not_kept zone)
    ∙ forgotten_back zone is

-- ---- what reads was written
pub record IsRead (payload : Octets) (k : KeptZone) : Type 0 where
  pub head : Head
  pub head_is : head_of payload ≡ Some head
  pub zone_is : head.zone ≡ k.zone
  pub written : is_written_of k payload ≡ true

tested : (payload : Octets) (k : KeptZone) (head : Head) (version : Zone) (b : Bool) → head_of payload ≡ Some head
    → is_written_of (kept_with head version) payload ≡ b
    → cond b (Some (kept_with head version)) None ≡ Some k → IsRead payload k
tested payload k head version true here is same = subst (λ x. IsRead payload x) (same_Some _ _ same)
    (record { head = head; head_is = here; zone_is = refl; written = is })
tested payload k head version false here is same = absurd cc

with_version : (payload : Octets) (k : KeptZone) (head : Head) (v : Option Zone) → head_of payload ≡ Some head
    → option_and_then (λ version. if_written payload (kept_with head version)) v ≡ Some k → IsRead payload k
with_version payload k head None here same = absurd cc
with_version payload k head (Some version) here same =
    tested payload k head version (is_written_of (kept_with head version) payload) here refl same

with_head : (payload : Octets) (k : KeptZone) (h : Option Head) → head_of payload ≡ h
    → option_and_then (λ (head : Head). option_and_then (λ version. if_written payload (kept_with head version))
    (version_in head.zone head.stream)) h ≡ Some k → IsRead payload k
with_head payload k None here same = absurd cc
with_head payload k (Some head) here same = with_version payload k head (version_in head.zone head.stream) here same

pub is_read : (payload : Octets) (k : KeptZone) → kept_of payload ≡ Some k → IsRead payload k
unfolding kept_of
is_read payload k is = with_head payload k (head_of payload) refl is

written_whole : (payload : Octets) (k : KeptZone) → is_written_of k payload ≡ true → payload ≡ payload_of k
unfolding is_written_of
written_whole payload k is =
    let both = and_parts (nat_lt k.refreshed (2 ^ 40)) (is_fit k.version && bytes_eq payload (payload_of k)) is in
    same_octets payload (payload_of k) (and_parts (is_fit k.version) (bytes_eq payload (payload_of k)) both.1).1

pub strictly_kept : (payload : Octets) (k : KeptZone) → kept_of payload ≡ Some k → payload ≡ payload_of k
strictly_kept payload k is = written_whole payload k (is_read payload k is).written

-- ---- a forgotten zone
pub record IsWholeName (octets : Octets) (zone : Name) : Type 0 where
  pub rest : Octets
  pub first : first_name octets ≡ Some (zone, rest)
  pub whole : octets ≡ wire_of zone

whole_test : (octets : Octets) (zone : Name) (z : Name × Octets) (b : Bool) → first_name octets ≡ Some z
    → bytes_eq octets (wire_of z.0) ≡ b → cond b (Some z.0) None ≡ Some zone → IsWholeName octets zone
whole_test octets zone z true first is same =
    let one : z.0 ≡ zone = same_Some _ _ same in
    subst (λ x. IsWholeName octets x) one
    (record { rest = z.1; first = first; whole = same_octets octets (wire_of z.0) is })
whole_test octets zone z false first is same = absurd cc

whole_from : (octets : Octets) (zone : Name) (o : Option (Name × Octets)) → first_name octets ≡ o
    → option_and_then (if_whole octets) o ≡ Some zone → IsWholeName octets zone
whole_from octets zone None first same = absurd cc
whole_from octets zone (Some z) first same = whole_test octets zone z (bytes_eq octets (wire_of z.0)) first refl same

is_whole : (octets : Octets) (zone : Name) → whole_name octets ≡ Some zone → IsWholeName octets zone
unfolding whole_name
is_whole octets zone is = whole_from octets zone (first_name octets) refl is

pub record IsGone (payload : Octets) (zone : Name) : Type 0 where
  pub kind : slice_index payload 0 ≡ 2
  pub name : IsWholeName (drop 1 payload) zone

gone_from : (payload : Octets) (zone : Name) (b : Bool) → (slice_index payload 0 == 2) ≡ b
    → cond b (whole_name (drop 1 payload)) None ≡ Some zone → IsGone payload zone
gone_from payload zone true is same =
    record { kind = grind (arith, nat_tests); name = is_whole (drop 1 payload) zone same }
gone_from payload zone false is same = absurd cc

pub is_gone : (payload : Octets) (zone : Name) → forgotten_of payload ≡ Some zone → IsGone payload zone
unfolding forgotten_of
is_gone payload zone is = gone_from payload zone (slice_index payload 0 == 2) refl is

gone_whole : (payload : Octets) (zone : Name) → slice_index payload 0 ≡ 2 → drop 1 payload ≡ wire_of zone
    → payload ≡ forgotten zone
unfolding forgotten
gone_whole [] zone kind rest = absurd (omega (arith, kind))
gone_whole (x ∷ xs) zone kind rest = ap (λ n. n ∷ xs) kind ∙ ap (λ l. 2 ∷ l) rest

pub strictly_forgotten : (payload : Octets) (zone : Name) → forgotten_of payload ≡ Some zone → payload ≡ forgotten zone
strictly_forgotten payload zone is =
    let gone = is_gone payload zone is in
    gone_whole payload zone gone.kind gone.name.whole

-- ---- the first name tells the zone, and the first octet whether it is kept
names_first : (zone catalog : Name) (octets : Octets) (head : Head) (b : Bool)
    → nat_lt (length octets) (slice_index octets 0 + 9) ≡ b → after_names zone catalog octets ≡ Some head
    → head.zone ≡ zone
unfolding after_names
names_first zone catalog octets head true less is =
    absurd (let e : None ≡ Some head = sym (cond-true _ _ _ less) ∙ is in cc)
names_first zone catalog octets head false less is =
    ap (λ (h : Head). h.zone) (sym (same_Some _ _ (sym (cond-false _ _ _ less) ∙ is)))

catalog_from : (zone : Name × Octets) (head : Head) (o : Option (Name × Octets))
    → option_and_then (λ (catalog : Name × Octets). after_names zone.0 catalog.0 catalog.1) o ≡ Some head
    → head.zone ≡ zone.0
catalog_from zone head None is = absurd cc
catalog_from zone head (Some catalog) is =
    names_first zone.0 catalog.0 catalog.1 head (nat_lt (length catalog.1) (slice_index catalog.1 0 + 9)) refl is

zone_from : (octets : Octets) (head : Head) (o : Option (Name × Octets)) → first_name octets ≡ o
    → option_and_then (λ (zone : Name × Octets). option_and_then
    (λ (catalog : Name × Octets). after_names zone.0 catalog.0 catalog.1) (first_name zone.1)) o ≡ Some head
    → (rest : Octets) × (first_name octets ≡ Some (head.zone, rest))
zone_from octets head None here is = absurd cc
zone_from octets head (Some zone) here is =
    let same = catalog_from zone head (first_name zone.1) is in
    (zone.1, here ∙ ap (λ z. Some (z, zone.1)) (sym same))

first_of_names : (octets : Octets) (head : Head) → names_of octets ≡ Some head
    → (rest : Octets) × (first_name octets ≡ Some (head.zone, rest))
unfolding names_of
first_of_names octets head is = zone_from octets head (first_name octets) refl is

head_from : (payload : Octets) (head : Head) (b : Bool) → (slice_index payload 0 == 1) ≡ b
    → cond b (names_of (drop 1 payload)) None ≡ Some head
    → ((slice_index payload 0 == 1) ≡ true) × (rest : Octets) × (first_name (drop 1 payload) ≡ Some (head.zone, rest))
head_from payload head true kind is = let first = first_of_names (drop 1 payload) head is in (kind, first.0, first.1)
head_from payload head false kind is = absurd cc

first_of_head : (payload : Octets) (head : Head) → head_of payload ≡ Some head
    → ((slice_index payload 0 == 1) ≡ true) × (rest : Octets) × (first_name (drop 1 payload) ≡ Some (head.zone, rest))
unfolding head_of
first_of_head payload head is = head_from payload head (slice_index payload 0 == 1) refl is

pub record IsTold (payload : Octets) (zone : Name) : Type 0 where
  pub zone_is : zone_of payload ≡ Some zone
  pub kept_is : is_kept payload ≡ (slice_index payload 0 == 1)

told_kept : (payload : Octets) (k : KeptZone) (z : Name × Octets) → kept_of payload ≡ Some k
    → first_name (drop 1 payload) ≡ Some z → IsTold payload z.0
unfolding zone_of is_kept
told_kept payload k z is first =
    let read = is_read payload k is in
    let head = first_of_head payload read.head read.head_is in
    let same : k.zone ≡ z.0 =
    sym read.zone_is ∙ ap (λ (x : Name × Octets). x.0) (same_Some _ _ (sym head.2 ∙ first)) in
    record {
      zone_is = ap (λ o. zone_or o (forgotten_of payload)) is ∙ ap (λ x. Some x) same;
      kept_is = ap (λ (o : Option KeptZone). is_some o) is ∙ sym head.0;
    }

told_gone : (payload : Octets) (zone : Name) (z : Name × Octets) → forgotten_of payload ≡ Some zone
    → first_name (drop 1 payload) ≡ Some z → IsTold payload z.0
unfolding zone_of is_kept
told_gone payload zone z is first =
    let gone = is_gone payload zone is in
    let other : (slice_index payload 0 == 1) ≡ false = let h = gone.kind in rw h refl in
    let none = not_kept payload other in
    let same : zone ≡ z.0 = ap (λ (x : Name × Octets). x.0) (same_Some _ _ (sym gone.name.first ∙ first)) in
    record {
      zone_is = ap (λ o. zone_or o (forgotten_of payload)) none ∙ is ∙ ap (λ x. Some x) same;
      kept_is = ap (λ (o : Option KeptZone). is_some o) none ∙ sym other;
    }

by_cases : (payload : Octets) (z : Name × Octets) (g : Option Name) (k : Option KeptZone) → forgotten_of payload ≡ g
    → kept_of payload ≡ k → (is_some g || is_some k) ≡ true → first_name (drop 1 payload) ≡ Some z → IsTold payload z.0
by_cases payload z (Some zone) k gone kept some first = told_gone payload zone z gone first
by_cases payload z None (Some k) gone kept some first = told_kept payload k z kept first
by_cases payload z None None gone kept some first = absurd cc

pub told_by_first : (payload : Octets) (z : Name × Octets) → reads payload ≡ true
    → first_name (drop 1 payload) ≡ Some z → IsTold payload z.0
unfolding reads
told_by_first payload z some first =
    by_cases payload z (forgotten_of payload) (kept_of payload) refl refl (and_parts (nat_le (length payload) MOST)
    (is_some (forgotten_of payload) || is_some (kept_of payload)) some).1 first

-- a payload that reads has a first name
named_by : (payload : Octets) (g : Option Name) (k : Option KeptZone) → forgotten_of payload ≡ g → kept_of payload ≡ k
    → (is_some g || is_some k) ≡ true → (z : Name × Octets) × (first_name (drop 1 payload) ≡ Some z)
named_by payload (Some zone) k gone kept some =
    let is = is_gone payload zone gone in
    ((zone, is.name.rest), is.name.first)
named_by payload None (Some k) gone kept some =
    let read = is_read payload k kept in
    let head = first_of_head payload read.head read.head_is in
    ((read.head.zone, head.1), head.2)
named_by payload None None gone kept some = absurd cc

pub named : (payload : Octets) → reads payload ≡ true → (z : Name × Octets) × (first_name (drop 1 payload) ≡ Some z)
unfolding reads
named payload some =
    named_by payload (forgotten_of payload) (kept_of payload) refl refl
    (and_parts (nat_le (length payload) MOST) (is_some (forgotten_of payload) || is_some (kept_of payload)) some).1

pub zone_by_first : (payload : Octets) → reads payload ≡ true
    → option_map {T = Name × Octets} {U = Name} (λ z. z.0) (first_name (drop 1 payload)) ≡ zone_of payload
zone_by_first payload some =
    let first = named payload some in
    ap (option_map {T = Name × Octets} {U = Name} (λ z. z.0)) first.1
    ∙ sym (told_by_first payload first.0 some first.1).zone_is

pub kept_by_first : (payload : Octets) → reads payload ≡ true → (slice_index payload 0 == 1) ≡ is_kept payload
kept_by_first payload some =
    let first = named payload some in
    sym (told_by_first payload first.0 some first.1).kept_is

-- a payload that reads is of a zone
pub read_zone : (payload : Octets) → reads payload ≡ true → zone_of payload ≡ None → ⊥
read_zone payload some none =
    let first = named payload some in
    false≢true (ap (λ (o : Option Name). is_some o) (sym none ∙ (told_by_first payload first.0 some first.1).zone_is))

-- no octets are no payload
no_name : first_name [] ≡ None
unfolding first_name name_at name_from element_at
no_name = refl

pub nothing_read : (payload : Octets) → reads payload ≡ true → length payload ≡ 0 → ⊥
nothing_read [] some none =
    let first = named [] some in
    absurd (let e : None ≡ Some first.0 = sym no_name ∙ first.1 in cc)
nothing_read (x ∷ xs) some none = absurd (omega (arith, none))
