-- All octets of the catalog's transfers are used, and how many they are.
use Rattle.std.proofs.Common.{◌≡◌, ℕ, suc, ◌+◌, ◌*◌, ◌<◌, ◌≤◌, ◌^◌, false, List, [], ◌∷◌, ◌++◌, map, length, take}
use Rattle.std.proofs.Common.{refl, sym, ◌∙◌, ap, subst, arith, append-nil, append_assoc, length-append, Option, Some}
use Rattle.std.proofs.Common.{None}
use Rattle.std.specs.Prelude.{codes, flat_map, is_some, not, ◌==◌, if◌then◌else◌}
use Rattle.std.specs.List.{AllByRecursion}
use Rattle.std.proofs.lemmas.Bool.Decides.{nat_tests}
use Rattle.std.proofs.lemmas.List.{take_all}
use Rattle.std.proofs.lemmas.List.FromFn.{length-range_with_len}
use Rattle.dz_name.specs.Name.{IsName, wire_of}
use Rattle.dz_name.specs.Words.{Name, Octets}
use Rattle.dz_name.specs.declared.dns.TheConstants.{TYPE_NS, TYPE_AXFR, TYPE_IXFR}
use Rattle.dz_record.specs.Record.{Record}
use Rattle.dz_message.specs.Frame.{frame, stream, AreShort}
use Rattle.dz_message.specs.Writing.{IsAsking, message_octets}
use Rattle.dz_xfr.specs.Apex.{is_apex_soa}
use Rattle.dz_xfr.specs.Place.{amid, read, said}
use Rattle.dz_axfr.specs.Reading.{nothing, opened, one}
use Rattle.dz_axfr.proofs.WholeLemmas.{read_body}
use Rattle.dz_take.specs.Form.{form, or_else, decision_of}
use Rattle.dz_take.specs.Outcome.{answers, judge, decided_from, decided, read_from, octets_used}
use Rattle.dz_take.specs.Transfer.{Transfer, Decision}
use Rattle.dz_take.proofs.KindLemmas.{form_behind}
use Rattle.dz_take.proofs.TakingLemmas.{messages_back, stream_push}
use Rattle.dz_gen.specs.Texts.{named}
use Rattle.dz_gen.specs.Script.{numbers}
use Rattle.dz_gen.specs.Records.{hourly, soa, catalog, zone, version_property, node, group, member}
use Rattle.dz_gen.specs.Messages.{question, message, response, catalog_begins, catalog_member, catalog_ends}
use Rattle.dz_gen.specs.Messages.{catalog_changes}
use Rattle.dz_gen.specs.Outcomes.{first_of}
use Rattle.dz_gen.proofs.MessageLemmas.{IsZone}
use Rattle.dz_gen.proofs.ReadingLemmas.{zones}
use Rattle.dz_gen.proofs.SentLemmas.{IsSmall, fits, judged, answered, frame_size, asks, question_is}
use Rattle.dz_gen.proofs.SmallLemmas.{catalog_named, version_named, moved_named, soa_small, invalid_small}
use Rattle.dz_gen.proofs.SmallLemmas.{pointer_small, text_small}
use Rattle.dz_gen.proofs.SpelledLemmas.{four_digits, moved_is}
use Rattle.dz_gen.proofs.CatalogLemmas.{each_more, all_append, cat, IsBeside, catalog_is, first_is, first, server}
use Rattle.dz_gen.proofs.CatalogLemmas.{first_small, version_beside, server_beside, node_small, group_small, zone_name}
use Rattle.dz_gen.proofs.CatalogLemmas.{member_small, member_beside, few_members}
use Rattle.dz_gen.proofs.ChangedLemmas.{one_zone}
use Rattle.dz_rehearsal.proofs.LifeLemmas.{either}

-- ---- the last of messages alone decides, or none does
nothing_else : (d : Decision) (o : Option Decision) → or_else (Some d) o ≡ None → ⊥
nothing_else d o e = cc

one_further : (n : ℕ) → suc (n + 1) ≡ suc n + 1
one_further n = omega arith

-- the messages are read to the last one
read_all : (t : Transfer) (before front : List Octets) (last : Octets) → decided_from t before front ≡ None
    → read_from t before (front ++ last ∷ []) ≡ length front + 1
unfolding decided_from read_from
read_all t before [] last none = either (λ m. m ≡ 1) (is_some (judge t before last)) 1 1 refl refl
read_all t before (m ∷ ms) last none =
    (elim (judge t before m) as (λ j. or_else j (decided_from t (before ++ m ∷ []) ms) ≡ None
    → (if is_some j then 1 else suc (read_from t (before ++ m ∷ []) (ms ++ last ∷ []))) ≡ length (m ∷ ms) + 1) [
      | Some d ↦ λ e. absurd (nothing_else d (decided_from t (before ++ m ∷ []) ms) e)
      | None ↦ λ e. ap (λ n. suc n) (read_all t (before ++ m ∷ []) ms last e) ∙ one_further (length ms)
    ]) none

-- all octets of a stream are used where no message but the last decides anything
stream_used : (t : Transfer) (front : List Octets) (last : Octets) → AreShort (front ++ last ∷ [])
    → decided t front ≡ None
    → octets_used t (stream (front ++ last ∷ [])) ≡ length (stream (front ++ last ∷ []))
stream_used t front last short none =
    let ms = front ++ last ∷ [] in
    let size : read_from t [] ms ≡ length ms = read_all t [] front last none
    ∙ sym (length-append front (last ∷ [])) in
    ap (λ m. if is_some (decided t m) then length (stream (take (read_from t [] m) m)) else length (stream ms))
    (messages_back ms short)
    ∙ either (λ m. m ≡ length (stream ms)) (is_some (decided t ms)) (length (stream (take (read_from t [] ms) ms)))
    (length (stream ms)) (ap (λ m. length (stream m)) (take_all (read_from t [] ms) ms (omega (arith, size)))) refl

-- all octets of one message are used
none_decided : (t : Transfer) → decided t [] ≡ None
unfolding decided_from
none_decided t = refl

one_used : (t : Transfer) (octets : Octets) → length octets ≤ 65535
    → octets_used t (frame octets) ≡ length (frame octets)
one_used t octets short =
    subst (λ o. octets_used t o ≡ length o) (append-nil (frame octets))
    (stream_used t [] octets (short, tt) (none_decided t))

-- so are those of a response of small records, which isn't long
pub record IsOne (octets : Octets) : Type 0 where
  pub used : (t : Transfer) → octets_used t octets ≡ length octets
  pub size : length octets ≤ 30002

pub response_is : (apex : Name) (id kind : ℕ) (rs : List Record) → IsName apex → id < 2 ^ 16 → kind < 2 ^ 16
    → AllByRecursion IsSmall rs → length rs ≤ 20 → IsOne (response id (question apex kind ∷ []) rs)
response_is apex id kind rs name small known held few =
    let asking : AllByRecursion IsAsking (question apex kind ∷ []) =
    (record { name = name; kind = known; class = omega arith }, tt) in
    let octets = message_octets (message id 33792 (question apex kind ∷ []) rs) in
    let fit : length octets ≤ 30000 =
    fits (first_of apex id) small (question apex kind ∷ []) asking (omega arith) rs held few in
    record {
      used = λ t. one_used t octets (omega (arith, fit));
      size = omega (arith, fit, frame_size octets);
    }

-- ---- the catalog's change
moved_small : IsSmall (node (codes "r") 1)
moved_small =
    let g = four_digits 1 one_zone.some one_zone.few in
    pointer_small (node (codes "r") 1).owner
    (subst IsName (sym (moved_is 1 g)) (moved_named g.a g.b g.c g.d g.digits)) (zone 1) (zone_name 1 one_zone)

abbrev change_records : List Record
change_records =
    soa catalog 2 ∷ soa catalog 1 ∷ node (codes "m") 1 ∷ group 1 ∷ soa catalog 2 ∷ node (codes "r") 1 ∷ soa catalog 2
    ∷ []

change_small : AllByRecursion IsSmall change_records
change_small =
    let one = soa_small catalog catalog_named 1 in
    let two = soa_small catalog catalog_named 2 in
    (two, (one, (node_small 1 one_zone, (group_small 1 one_zone, (two, (moved_small, (two, tt)))))))

-- the change is one message
pub change_is : (id : ℕ) → id < 2 ^ 16 → IsOne (catalog_changes id)
change_is id small =
    response_is catalog id TYPE_IXFR change_records catalog_named small (omega arith) change_small (omega arith)

-- ---- the catalog's first transfer
-- the messages of the transfer: one with the first records, one for each zone, and one with the last SOA
abbrev pub catalog_octets : ℕ → Octets
catalog_octets n = (catalog_begins ++ flat_map catalog_member (numbers n)) ++ catalog_ends

abbrev asking : Transfer
asking = first_of cat 1

abbrev begins : Octets
begins = message_octets (message 1 33792 (question cat TYPE_AXFR ∷ []) (first ∷ server ∷ version_property ∷ []))

abbrev member_message : ℕ → Octets
member_message k = message_octets (message 1 33792 [] (member k))

abbrev ends : Octets
ends = message_octets (message 1 33792 [] (first ∷ []))

begin_small : AllByRecursion IsSmall (first ∷ server ∷ version_property ∷ [])
begin_small = (
  first_small,
  (
    invalid_small cat (subst IsName catalog_is catalog_named),
    (text_small _ version_named 0 (1 ∷ codes "2") (omega arith) (omega arith), tt),
  ),
)

cat_asks : AllByRecursion IsAsking (question cat TYPE_AXFR ∷ [])
cat_asks =
    asks asking (subst IsName catalog_is catalog_named) (omega arith)
    (first ∷ server ∷ version_property ∷ []) begin_small (omega arith)

begins_fit : length begins ≤ 30000
begins_fit =
    fits asking (omega arith) (question cat TYPE_AXFR ∷ []) cat_asks (omega arith)
    (first ∷ server ∷ version_property ∷ []) begin_small (omega arith)

few_member : (k : ℕ) → length (member k) ≤ 2
few_member k = omega (arith, few_members (k ∷ []), length-append (member k) [])

member_fits : (k : ℕ) → IsZone k → length (member_message k) ≤ 30000
member_fits k is =
    fits asking (omega arith) [] tt (omega arith) (member k) (member_small k is) (omega (arith, few_member k))

ends_fit : length ends ≤ 30000
ends_fit = fits asking (omega arith) [] tt (omega arith) (first ∷ []) (first_small, tt) (omega arith)

shorts : (ks : List ℕ) → AllByRecursion IsZone ks → AreShort (map member_message ks ++ ends ∷ [])
shorts [] all = (omega (arith, ends_fit), tt)
shorts (k ∷ ks) all = (omega (arith, member_fits k all.0), shorts ks all.1)

stream_is : (ks : List ℕ) → stream (map member_message ks ++ ends ∷ []) ≡ flat_map catalog_member ks ++ frame ends
stream_is [] = append-nil (frame ends)
stream_is (k ∷ ks) = ap (λ xs. frame (member_message k) ++ xs) (stream_is ks)
    ∙ sym (append_assoc (frame (member_message k)) (flat_map catalog_member ks) (frame ends))

octets_are : (ks : List ℕ)
    → (frame begins ++ flat_map catalog_member ks) ++ frame ends ≡ stream
    ((begins ∷ map member_message ks) ++ ends ∷ [])
octets_are ks = append_assoc (frame begins) (flat_map catalog_member ks) (frame ends)
    ∙ ap (λ xs. frame begins ++ xs) (sym (stream_is ks))

-- one more message in a stream
pushed : (front : List Octets) (octets : Octets)
    → length (stream (front ++ octets ∷ [])) ≡ length (stream front) + (2 + length octets)
pushed front octets = ap (λ xs. length xs) (stream_push front octets)
    ∙ omega (arith, length-append (stream front) (frame octets), frame_size octets)

not_first : (front : List Octets) → 0 < length front → (length front == 0) ≡ false
not_first front some = grind (arith, nat_tests)

-- an SOA and other records decide nothing
form_part : (body : List Record) → AllByRecursion IsBeside body → form asking (first ∷ body) ≡ None
form_part body beside =
    let inner = each_more IsBeside (λ r. is_apex_soa cat r ≡ false) (λ r k. rw k.soa refl) body beside in
    let starts : one cat nothing first ≡ amid (opened first []) = refl in
    let reads : read (one cat) (amid nothing) (first ∷ body) ≡ amid (opened first body) =
    ap (λ p. read (one cat) p body) starts
    ∙ (ap (λ (xs : List Record). read (one cat) (amid (opened first [])) xs) (sym (append-nil body))
    ∙ read_body cat first [] body [] inner) in
    form_behind asking first body (record { soa = first_is first refl refl; unsettled = refl })
    ∙ ap (λ p. decision_of cat (said p)) reads

-- the first message decides nothing
begin_judged : judge asking [] begins ≡ None
unfolding answers
begin_judged =
    judged asking (omega arith) (question cat TYPE_AXFR ∷ []) cat_asks (omega arith)
    (first ∷ server ∷ version_property ∷ []) begin_small (omega arith) []
    (omega (arith, pushed [] begins, begins_fit))
    (question_is asking (subst IsName catalog_is catalog_named) (omega arith)
    (first ∷ server ∷ version_property ∷ []) begin_small (omega arith))
    ∙ form_part (server ∷ version_property ∷ []) (server_beside first server refl refl refl refl, (version_beside, tt))

begin_answers : answers (begins ∷ []) ≡ first ∷ server ∷ version_property ∷ []
unfolding answers
begin_answers =
    answered asking (omega arith) (question cat TYPE_AXFR ∷ []) cat_asks (omega arith)
    (first ∷ server ∷ version_property ∷ []) begin_small (omega arith) []

-- nor do those of the members
members_undecided : (ks : List ℕ) (front : List Octets) (body : List Record) → AllByRecursion IsZone ks
    → answers front ≡ first ∷ body → AllByRecursion IsBeside body → 0 < length front
    → length (stream front) + 31000 * length ks ≤ 67108864
    → decided_from asking front (map member_message ks) ≡ None
unfolding decided_from
members_undecided [] front body all so_far beside some room = refl
members_undecided (k ∷ ks) front body all so_far beside some room =
    let n = member_fits k all.0 in
    let size : length (stream (front ++ member_message k ∷ [])) ≤ 67108864 =
    omega (arith, pushed front (member_message k), n, room) in
    let own = member_small k all.0 in
    let few : length (member k) ≤ 20 = omega (arith, few_member k) in
    let is : judge asking front (member_message k) ≡ form asking (answers front ++ member k) =
    judged asking (omega arith) [] tt (omega arith) (member k) own few front size (ap not (not_first front some)) in
    let more : AllByRecursion IsBeside (body ++ member k) = all_append IsBeside body (member k) beside
    (member_beside k all.0) in
    let undecided : judge asking front (member_message k) ≡ None = is
    ∙ (ap (λ (rs : List Record). form asking (rs ++ member k)) so_far ∙ form_part (body ++ member k) more) in
    let next : answers (front ++ member_message k ∷ []) ≡ first ∷ (body ++ member k) =
    answered asking (omega arith) [] tt (omega arith) (member k) own few front
    ∙ ap (λ (rs : List Record). rs ++ member k) so_far in
    ap (λ o. or_else o (decided_from asking (front ++ member_message k ∷ []) (map member_message ks))) undecided
    ∙ members_undecided ks (front ++ member_message k ∷ []) (body ++ member k) all.1 next more
    (omega (arith, length-append front (member_message k ∷ [])))
    (omega (arith, pushed front (member_message k), n, room))

module _ (ks : List ℕ) (all : AllByRecursion IsZone ks) (few : length ks ≤ 1000) where
  all_undecided : decided asking (begins ∷ map member_message ks) ≡ None
  unfolding decided_from
  all_undecided =
      ap (λ o. or_else o (decided_from asking (begins ∷ []) (map member_message ks))) begin_judged
      ∙ members_undecided ks (begins ∷ []) (server ∷ version_property ∷ []) all begin_answers
      (server_beside first server refl refl refl refl, (version_beside, tt)) (omega arith)
      (omega (arith, length-append (frame begins) [], frame_size begins, begins_fit, few))

  cat_used : octets_used asking ((frame begins ++ flat_map catalog_member ks) ++ frame ends) ≡
      length ((frame begins ++ flat_map catalog_member ks) ++ frame ends)
  cat_used =
      subst (λ o. octets_used asking o ≡ length o) (sym (octets_are ks))
      (stream_used asking (begins ∷ map member_message ks) ends
      (omega (arith, begins_fit), shorts ks all) all_undecided)

-- all octets of the first transfer are used
pub catalog_used : (n : ℕ) → n ≤ 1000
    → octets_used (first_of catalog 1) (catalog_octets n) ≡ length (catalog_octets n)
catalog_used n few =
    subst (λ (c : Name).
    let octets = (response 1 (question c TYPE_AXFR ∷ [])
    (soa c 1 ∷ hourly c TYPE_NS (wire_of (named (codes "invalid."))) ∷ version_property ∷ [])
    ++ flat_map catalog_member (numbers n)) ++ response 1 [] (soa c 1 ∷ []) in
    octets_used (first_of c 1) octets ≡ length octets)
    (sym catalog_is) (cat_used (numbers n) (zones n few) (omega (arith, length-range_with_len 1 n)))

-- it has as many messages as zones and two more
members_size : (ks : List ℕ) → AllByRecursion IsZone ks → length (flat_map catalog_member ks) ≤ 30002 * length ks
members_size [] all = omega arith
members_size (k ∷ ks) all =
    omega (
      arith,
      length-append (frame (member_message k)) (flat_map catalog_member ks),
      frame_size (member_message k),
      member_fits k all.0,
      members_size ks all.1,
    )

cat_size : (ks : List ℕ) → AllByRecursion IsZone ks
    → length ((frame begins ++ flat_map catalog_member ks) ++ frame ends) ≤ 30002 * (length ks + 2)
cat_size ks all =
    omega (
      arith,
      length-append (frame begins ++ flat_map catalog_member ks) (frame ends),
      length-append (frame begins) (flat_map catalog_member ks),
      frame_size begins,
      frame_size ends,
      begins_fit,
      ends_fit,
      members_size ks all,
    )

pub catalog_size : (n : ℕ) → n ≤ 1000 → length (catalog_octets n) ≤ 30002 * (n + 2)
catalog_size n few =
    subst (λ (c : Name). length ((response 1 (question c TYPE_AXFR ∷ [])
    (soa c 1 ∷ hourly c TYPE_NS (wire_of (named (codes "invalid."))) ∷ version_property ∷ [])
    ++ flat_map catalog_member (numbers n)) ++ response 1 [] (soa c 1 ∷ [])) ≤ 30002 * (n + 2))
    (sym catalog_is) (omega (arith, cat_size (numbers n) (zones n few), length-range_with_len 1 n))
