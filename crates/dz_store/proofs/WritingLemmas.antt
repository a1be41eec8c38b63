-- Messages that are written or compared one by one.
use Rattle.std.proofs.Common.{◌≡◌, ◌≢◌, inl, inr, Bool, true, false, List, [], ◌∷◌, ◌++◌, length, take, drop, refl}
use Rattle.std.proofs.Common.{sym, ap, subst, ◌∙◌, append_assoc}
use Rattle.std.proofs.Common.{ℕ, ◌<◌, ◌≤◌, ◌^◌, Option, Some, None, take_at, take-append-drop, arith}
use Rattle.std.specs.Prelude.{◌&&◌, nat_lt, MatchOption}
use Rattle.std.specs.Str.{bytes_eq}
use Rattle.std.proofs.lemmas.Bool.{false≢true, cases_Bool, and_left, and_right}
use Rattle.std.proofs.lemmas.Bool.Decides.{nat_tests}
use Rattle.std.proofs.lemmas.List.{append-nil, drop_at}
use Rattle.std.proofs.lemmas.Slice.Eq.{bytes_eq-Decides}
use Rattle.dz_name.specs.Words.{Octets}
use Rattle.dz_message.specs.Frame.{frame, stream}
use Rattle.dz_message.specs.Message.{Content}
use Rattle.dz_message.specs.Piece.{written}
use Rattle.dz_message.specs.Writing.{message_octets}
use Rattle.dz_outward.specs.Stream.{messages_of, is_fit}
use Rattle.dz_store.specs.Kept.{KeptZone, head_octets, sent, payload_of}
use Rattle.dz_store.specs.Payload.{is_written_of}
use Rattle.dz_store.specs.inner.Matching.{IsMatching, IsWriting}

pub written_more : (before now after message : Octets) (all left rest : List Content) (m : Content)
    → IsWriting before now all left → left ≡ m ∷ rest → message ≡ message_octets m → after ≡ now ++ frame message
    → IsWriting before after all rest
written_more before now after message all left rest m writing are is one =
    ap (λ l. l ++ stream (written rest)) one ∙ append_assoc now (frame message) (stream (written rest))
    ∙ ap (λ l. now ++ (frame l ++ stream (written rest))) is
    ∙ ap (λ ms. now ++ stream (written ms)) (sym are) ∙ writing

pub written_all : (before now : Octets) (all left : List Content) → IsWriting before now all left → left ≡ []
    → now ≡ before ++ stream (written all)
written_all before now all left writing none =
    sym (append-nil now) ∙ ap (λ ms. now ++ stream (written ms)) (sym none) ∙ writing

-- the same prefix is taken from both
pub cancel : (front a b : Octets) → front ++ a ≡ front ++ b → a ≡ b
cancel front a b same = sym (drop_at front a (length front) refl) ∙ ap (λ l. drop (length front) l) same
    ∙ drop_at front b (length front) refl

pub matched_more : (octets rest after message : Octets) (all left next : List Content) (m : Content)
    → IsMatching octets rest all left → left ≡ m ∷ next → message ≡ message_octets m → rest ≡ frame message ++ after
    → IsMatching octets after all next
matched_more octets rest after message all left next m so_far are is one = record {
  front = so_far.front ++ frame message;
  octets_are = so_far.octets_are ∙ ap (λ l. so_far.front ++ l) one
      ∙ sym (append_assoc so_far.front (frame message) after);
  messages_are = so_far.messages_are ∙ ap (λ ms. so_far.front ++ stream (written ms)) are
      ∙ ap (λ l. so_far.front ++ (frame l ++ stream (written next))) (sym is)
      ∙ sym (append_assoc so_far.front (frame message) (stream (written next)));
}

pub matched_not : (octets rest message : Octets) (all left next : List Content) (m : Content)
    → IsMatching octets rest all left → left ≡ m ∷ next → message ≡ message_octets m
    → ((after : Octets) → rest ≢ frame message ++ after) → octets ≡ stream (written all) → ⊥
matched_not octets rest message all left next m so_far are is never same =
    never (stream (written next))
    (cancel so_far.front rest (frame message ++ stream (written next))
    (sym so_far.octets_are ∙ same ∙ so_far.messages_are ∙ ap (λ ms. so_far.front ++ stream (written ms)) are
    ∙ ap (λ l. so_far.front ++ (frame l ++ stream (written next))) (sym is)))

pub matched_all : (octets rest : Octets) (all left : List Content) → IsMatching octets rest all left → left ≡ []
    → (rest ≡ [] → octets ≡ stream (written all)) × (octets ≡ stream (written all) → rest ≡ [])
matched_all octets rest all left so_far none =
    let whole : stream (written all) ≡ so_far.front ++ [] =
    so_far.messages_are ∙ ap (λ ms. so_far.front ++ stream (written ms)) none in (
      λ empty. so_far.octets_are ∙ ap (λ l. so_far.front ++ l) empty ∙ sym whole,
      λ same. cancel so_far.front rest [] (sym so_far.octets_are ∙ same ∙ whole),
    )

-- a test of what follows a prefix tells of the whole
pub test_whole : (b : Bool) (payload head rest tail : Octets) → payload ≡ head ++ rest → (b ≡ true → rest ≡ tail)
    → (rest ≡ tail → b ≡ true) → b ≡ bytes_eq payload (head ++ tail)
test_whole true payload head rest tail are so back =
    sym ((bytes_eq-Decides payload (head ++ tail)).1 (are ∙ ap (λ l. head ++ l) (so refl)))
test_whole false payload head rest tail are so back = elim (cases_Bool (bytes_eq payload (head ++ tail))) [
  | inl same ↦
      absurd (false≢true (back (cancel head rest tail (sym are ∙ (bytes_eq-Decides payload (head ++ tail)).0 same))))
  | inr other ↦ sym other
]

-- ---- a prefix that is taken off
pub match_weaker : {A : Type 0} (o : Option A) (N M : Type 0) (S T : A → Type 0) → (N → M) → ((x : A) → S x → T x)
    → MatchOption o N S → MatchOption o M T
match_weaker None N M S T none some is = none is
match_weaker (Some x) N M S T none some is = some x is

pub split_front : (octets prefix rest : Octets) → bytes_eq (take (length prefix) octets) prefix ≡ true
    → rest ≡ drop (length prefix) octets → octets ≡ prefix ++ rest
split_front octets prefix rest same is =
    sym (take-append-drop (length prefix) octets)
    ∙ ap (λ l. l ++ drop (length prefix) octets) ((bytes_eq-Decides (take (length prefix) octets) prefix).0 same)
    ∙ ap (λ l. prefix ++ l) (sym is)

pub no_front : (octets prefix rest : Octets) → bytes_eq (take (length prefix) octets) prefix ≡ false
    → octets ≡ prefix ++ rest → ⊥
no_front octets prefix rest other are =
    false≢true (sym other ∙ (bytes_eq-Decides (take (length prefix) octets) prefix).1
    (ap (λ l. take (length prefix) l) are ∙ take_at prefix rest (length prefix) refl))

-- ---- whether a payload is what is written
pub not_small : (k : KeptZone) (payload : Octets) → 2 ^ 40 ≤ k.refreshed → false ≡ is_written_of k payload
unfolding is_written_of
not_small k payload late =
    let other : nat_lt k.refreshed (2 ^ 40) ≡ false = grind (arith, nat_tests) in
    sym (and_left (nat_lt k.refreshed (2 ^ 40)) _ other)

pub not_fit : (k : KeptZone) (payload : Octets) → is_fit k.version ≡ false → false ≡ is_written_of k payload
unfolding is_written_of
not_fit k payload other = sym (and_right (nat_lt k.refreshed (2 ^ 40)) _ (and_left (is_fit k.version) _ other))

pub written_test : (k : KeptZone) (payload : Octets) (b : Bool) → k.refreshed < 2 ^ 40 → is_fit k.version ≡ true
    → b ≡ bytes_eq payload (payload_of k) → b ≡ is_written_of k payload
unfolding is_written_of
written_test k payload b small fit is =
    let early : nat_lt k.refreshed (2 ^ 40) ≡ true = grind (arith, nat_tests) in
    is ∙ sym (ap (λ t. t && (is_fit k.version && bytes_eq payload (payload_of k))) early
    ∙ ap (λ t. t && bytes_eq payload (payload_of k)) fit)

pub other_head : (k : KeptZone) (payload head : Octets) → head ≡ head_octets k
    → bytes_eq (take (length head) payload) head ≡ false → false ≡ bytes_eq payload (payload_of k)
unfolding payload_of
other_head k payload head is other = elim (cases_Bool (bytes_eq payload (head_octets k ++ sent k.version))) [
  | inl same ↦ absurd (no_front payload head (sent k.version) other
      ((bytes_eq-Decides payload (head_octets k ++ sent k.version)).0 same ∙ ap (λ l. l ++ sent k.version) (sym is)))
  | inr differs ↦ sym differs
]

pub test_sent : (k : KeptZone) (payload head rest : Octets) (left : List Content) (b : Bool)
    → head ≡ head_octets k → bytes_eq (take (length head) payload) head ≡ true → rest ≡ drop (length head) payload
    → left ≡ messages_of 0 k.version
    → (b ≡ true → rest ≡ stream (written left)) → (rest ≡ stream (written left) → b ≡ true)
    → b ≡ bytes_eq payload (payload_of k)
unfolding payload_of sent
test_sent k payload head rest left b is same rest_is left_is so back =
    let tail : stream (written left) ≡ stream (written (messages_of 0 k.version)) =
    ap (λ ms. stream (written ms)) left_is in
    test_whole b payload head rest (stream (written left)) (split_front payload head rest same rest_is) so back
    ∙ ap (λ l. bytes_eq payload l) (ap (λ l. l ++ stream (written left)) is ∙ ap (λ l. head_octets k ++ l) tail)

pub written_payload : (k : KeptZone) (head out : Octets) (left : List Content) → head ≡ head_octets k
    → out ≡ head ++ stream (written left) → left ≡ messages_of 0 k.version → out ≡ payload_of k
unfolding payload_of sent
written_payload k head out left is out_is left_is =
    out_is ∙ ap (λ l. l ++ stream (written left)) is ∙ ap (λ ms. head_octets k ++ stream (written ms)) left_is
