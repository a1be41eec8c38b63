-- Streams that are signed message by message.
use Rattle.std.proofs.Common.{◌≡◌, ℕ, ◌+◌, ◌-◌, ◌<◌, ◌≤◌, ◌^◌, Bool, true, false, List, [], ◌∷◌, ◌++◌, length, take}
use Rattle.std.proofs.Common.{drop, refl, sym, subst, ◌∙◌, ap, arith, append_assoc, length-append, length-drop, Option}
use Rattle.std.proofs.Common.{Some, None, Ok, Err}
use Rattle.std.specs.Prelude.{⊤, ◌==◌, ◌&&◌, is_ok, option_map, slice_index}
use Rattle.std.specs.List.{All, list_all}
use Rattle.std.specs.Bool.{Decides}
use Rattle.std.specs.Str.{bytes_eq}
use Rattle.std.proofs.lemmas.Bool.Decides.{same_from_decides, Decides-eqb, Decides-like}
use Rattle.std.proofs.lemmas.List.{append-nil, length-take-le}
use Rattle.std.proofs.lemmas.Slice.Eq.{bytes_eq-Decides}
use Rattle.dz_name.specs.Words.{Octets}
use Rattle.dz_name.specs.Numbers.{two, number_of_two}
use Rattle.dz_name.proofs.NumberLemmas.{length_two}
use Rattle.dz_header.specs.Header.{header_in}
use Rattle.dz_header.specs.declared.header.Header.{Header}
use Rattle.dz_message.specs.Frame.{frame, stream, messages_in, frame_at, first_size, AreShort}
use Rattle.dz_message.specs.Message.{Content}
use Rattle.dz_message.specs.Reading.{message_of}
use Rattle.dz_message.proofs.FrameLemmas.{is_cut}
use Rattle.dz_message.proofs.SpellingLemmas.{spelled}
use Rattle.dz_tsig.specs.Signing.{with_tsig}
use Rattle.dz_tsig.specs.Streams.{IsSignedSo, are_messages, is_message, next_mac, signed_from, signed_messages}
use Rattle.dz_tsig.specs.Answers.{IsSigned}
use Rattle.dz_tsig.specs.inner.Streams.{AreLeft, Appends, IsAppended, ReadsOn, SignsOn}
use Rattle.dz_tsig.specs.declared.streams.SignError.{SignError}
use Rattle.dz_tsig.specs.declared.streams.SignError.TheVariants as errors
use Rattle.dz_settings.specs.declared.key.Key.{Key}
use Rattle.dz_tsig.proofs.SignatureLemmas.{records_long}

-- ---- what reads has a header, and room for one more record
pub record HasRoom (m : Octets) : Type 0 where
  pub header : 12 ≤ length m
  pub room : number_of_two (drop 10 m) < 65535

spelled_room : (m : Octets) (c : Content) → length m ≤ 65535 → message_of m ≡ Ok c → HasRoom m
unfolding header_in
spelled_room m c short e =
    let s = spelled m c e in
    let long = records_long _ (drop s.others_at m) [] s.others in
    let count : slice_index c.header.counts 3 ≡ number_of_two (drop 10 m) =
    ap (λ (h : Header). slice_index h.counts 3) s.header in
    record { header = s.long; room = omega (arith, long, count, length-drop s.others_at m, short) }

pub has_room : (m : Octets) → length m ≤ 65535 → is_message m ≡ true → HasRoom m
unfolding is_message
has_room m short h = elim (message_of m) as (λ r. message_of m ≡ r → is_ok r ≡ true → HasRoom m) [
  | Ok c ↦ λ e t. spelled_room m c short e
  | Err f ↦ λ e t. absurd (cc)
] refl h

-- ---- frames
size_begins : (at : ℕ) (size : Option ℕ) (place : ℕ × ℕ) → option_map (λ n. (at + 2, at + 2 + n)) size ≡ Some place
    → place.0 ≡ at + 2
size_begins at None place e = absurd (cc)
size_begins at (Some n) place e =
    let same : (at + 2, at + 2 + n) ≡ place = cc in
    subst (λ (p : ℕ × ℕ). p.0 ≡ at + 2) same refl

frame_begins : (octets : Octets) (at : ℕ) (place : ℕ × ℕ) → frame_at octets at ≡ Some place → place.0 ≡ at + 2
unfolding frame_at
frame_begins octets at place e = size_begins at (first_size (drop at octets)) place e

and_false : (a b : Bool) → b ≡ false → (a && b) ≡ false
and_false true b e = e
and_false false b e = refl

and_second : (a b : Bool) → (a && b) ≡ true → b ≡ true
and_second true b e = e
and_second false b e = absurd (cc)

and_true : (a b : Bool) → b ≡ true → (a && b) ≡ a
and_true true b e = e
and_true false b e = refl

-- ---- are octets messages?
pub reads_begin : (octets : Octets) → ReadsOn octets 0
reads_begin octets = record { read = refl; long = omega arith }

module _ (octets : Octets) (at begin end : ℕ) (on : ReadsOn octets at) (place : Some (begin, end) ≡ frame_at octets at)
    (within : (begin ≤ end) × (end ≤ length octets))
    (first : messages_in (drop at octets)
    ≡ take (end - begin) (drop begin octets) ∷ messages_in (drop end octets)) where
  abbrev message : Octets
  message = take (end - begin) (drop begin octets)

  pub not_messages : is_message message ≡ false → are_messages octets ≡ false
  not_messages h =
      let all : list_all is_message (messages_in octets) ≡ false =
      on.read ∙ (ap (list_all is_message) first ∙ (rw h refl)) in
      and_false (bytes_eq (stream (messages_in octets)) octets) (list_all is_message (messages_in octets)) all

  pub reads_more : is_message message ≡ true → ReadsOn octets end
  reads_more h =
      let begins = frame_begins octets at (begin, end) (sym place) in
      let size : length message ≡ end - begin = length-take-le (end - begin) (drop begin octets)
      (omega (arith, within.0, within.1, length-drop begin octets)) in
      let whole : length (stream (messages_in (drop at octets)))
      ≡ 2 + length message + length (stream (messages_in (drop end octets))) =
      ap (λ ms. length (stream ms)) first
      ∙ omega (
        arith,
        length-append (frame message) (stream (messages_in (drop end octets))),
        length-append (two (length message)) message,
        length_two (length message),
      ) in
      record {
        read = on.read ∙ (ap (list_all is_message) first ∙ (rw h refl));
        long = omega (arith, on.long, whole, size, begins, within.0);
      }

no_part : (part : Octets) → length part ≡ 0 → part ≡ []
no_part [] e = refl
no_part (o ∷ os) e = absurd (omega arith)

pub all_messages : (octets : Octets) (at : ℕ) → All (λ octet. octet < 2 ^ 8) octets
    → ReadsOn octets at → messages_in (drop at octets) ≡ [] → (at == length octets) ≡ are_messages octets
all_messages octets at below on none =
    let cut = is_cut octets below in
    let read : list_all is_message (messages_in octets) ≡ true = on.read ∙ ap (list_all is_message) none in
    let long : length (stream (messages_in octets)) ≡ at =
    on.long ∙ (ap (λ ms. at + length (stream ms)) none ∙ omega arith) in
    let there : Decides (at == length octets) (stream (messages_in octets) ≡ octets) =
    Decides-like (at == length octets)
    (λ e. let p : cut.part ≡ [] = no_part cut.part
    (omega (arith, e, long, ap length cut.are, length-append (stream (messages_in octets)) cut.part)) in
    sym (cut.are ∙ (ap (λ p. stream (messages_in octets) ++ p) p ∙ append-nil (stream (messages_in octets)))))
    (λ e. sym long ∙ ap length e)
    (Decides-eqb at (length octets)) in
    same_from_decides (at == length octets) (bytes_eq (stream (messages_in octets)) octets) there
    (bytes_eq-Decides (stream (messages_in octets)) octets)
    ∙ sym (and_true (bytes_eq (stream (messages_in octets)) octets) (list_all is_message (messages_in octets)) read)

-- ---- the frame of a message is appended
pub appended : (m old first new : Octets) (size : ℕ) → size ≡ length m → size ≤ 65535 → first ≡ old ++ two size
    → new ≡ first ++ m → IsAppended m old new
appended m old first new size is short a b = record {
  short = subst (λ n. n ≤ 65535) is short;
  out = b ∙ (ap (λ o. o ++ m) a ∙ (append_assoc old (two size) m ∙ ap (λ n. old ++ (two n ++ m)) is));
}

-- ---- messages are signed one by one
pub left_begin : (octets : Octets) → All (λ octet. octet < 2 ^ 8) octets → are_messages octets ≡ true
    → AreLeft (messages_in octets)
left_begin octets below h = record {
  read = and_second (bytes_eq (stream (messages_in octets)) octets)
      (list_all is_message (messages_in octets)) h;
  short = (is_cut octets below).short;
}

and_first : (a b : Bool) → (a && b) ≡ true → a ≡ true
and_first true b e = refl
and_first false b e = absurd (cc)

pub record IsLeft (m : Octets) (ms : List Octets) : Type 0 where
  pub read : is_message m ≡ true
  pub short : length m ≤ 65535
  pub rest : AreLeft ms

pub left_first : (m : Octets) (rest ms : List Octets) → AreLeft rest → rest ≡ m ∷ ms → IsLeft m ms
left_first m rest ms left first =
    let l = subst AreLeft first left in
    record {
      read = and_first (is_message m) (list_all is_message ms) l.read;
      short = l.short.0;
      rest = record { read = and_second (is_message m) (list_all is_message ms) l.read; short = l.short.1 };
    }

pub signs_begin : (key : Key) (moment : ℕ) (mac : Octets) (ms : List Octets)
    → SignsOn key moment (signed_messages key moment mac ms) true mac ms []
signs_begin key moment mac ms = record { out = refl; short = λ h. h; back = λ h. h }

signed_first : (key : Key) (moment : ℕ) (is_first : Bool) (prior m : Octets) (rest ms : List Octets) → rest ≡ m ∷ ms
    → signed_from key moment is_first prior rest ≡ with_tsig key.name moment (next_mac key moment is_first prior m) m
    ∷ signed_from key moment false (next_mac key moment is_first prior m) ms
unfolding signed_from
signed_first key moment is_first prior m rest ms first = rw first refl

module _ (key : Key) (moment : ℕ) (all rest ms : List Octets) (is_first : Bool) (prior m out : Octets)
    (on : SignsOn key moment all is_first prior rest out) (first : rest ≡ m ∷ ms) where
  pub signs_more : (new mac : Octets) → mac ≡ next_mac key moment is_first prior m
      → IsAppended (with_tsig key.name moment mac m) out new → SignsOn key moment all false mac ms new
  signs_more new mac is next =
      let there = signed_first key moment is_first prior m rest ms first in
      let same : signed_from key moment is_first prior rest
      ≡ with_tsig key.name moment mac m ∷ signed_from key moment false mac ms = rw is there in
      record {
        out = ap (λ o. o ++ stream (signed_from key moment false mac ms)) next.out
            ∙ (append_assoc out (frame (with_tsig key.name moment mac m))
            (stream (signed_from key moment false mac ms))
            ∙ (ap (λ xs. out ++ stream xs) (sym same) ∙ on.out));
        short = λ h. on.short (subst AreShort (sym same) (next.short, h));
        back = λ h. (subst AreShort same (on.back h)).1;
      }

  pub signs_too_long : 65535 < length (with_tsig key.name moment (next_mac key moment is_first prior m) m)
      → ¬ (AreShort all)
  signs_too_long long h =
      let there = subst AreShort (signed_first key moment is_first prior m rest ms first) (on.back h) in
      absurd (omega (arith, long, there.0))

signed_none : (key : Key) (moment : ℕ) (is_first : Bool) (prior : Octets) (rest : List Octets) → rest ≡ []
    → signed_from key moment is_first prior rest ≡ []
unfolding signed_from
signed_none key moment is_first prior rest none = rw none refl

pub record IsDone (all : List Octets) (written : Octets) : Type 0 where
  pub out : written ≡ stream all
  pub short : AreShort all

pub signs_all : (key : Key) (moment : ℕ) (all rest : List Octets) (is_first : Bool) (prior out : Octets)
    → SignsOn key moment all is_first prior rest out → rest ≡ [] → IsDone all out
signs_all key moment all rest is_first prior out on none =
    let nothing = signed_none key moment is_first prior rest none in
    record {
      out = sym (append-nil out) ∙ (ap (λ xs. out ++ stream xs) (sym nothing) ∙ on.out);
      short = on.short (subst AreShort (sym nothing) tt);
    }

-- ---- what signing gives
pub signed_so : (key : Key) (moment : ℕ) (mac octets : Octets)
    (rest : List Octets) (is_first : Bool) (prior out result : Octets)
    → SignsOn key moment (signed_messages key moment mac (messages_in octets)) is_first prior rest out → rest ≡ []
    → are_messages octets ≡ true → result ≡ out → IsSignedSo key moment mac octets result
signed_so key moment mac octets rest is_first prior out result on none messages same =
    let done =
    signs_all key moment (signed_messages key moment mac (messages_in octets)) rest is_first prior out on none in
    record { messages = messages; short = done.short; out = same ∙ done.out }

pub refused : (key : Key) (moment : ℕ) (mac octets : Octets)
    (rest ms : List Octets) (is_first : Bool) (prior m out new : Octets)
    → SignsOn key moment (signed_messages key moment mac (messages_in octets)) is_first prior rest out → rest ≡ m ∷ ms
    → are_messages octets ≡ true → (own : Octets) → own ≡ next_mac key moment is_first prior m → (e : SignError)
    → Appends {A = ⊤} (with_tsig key.name moment own m) out new (Err e) → IsSigned key moment mac octets (Err e)
refused key moment mac octets rest ms is_first prior m out new on first messages own is errors.BadFrames next =
    absurd next
refused key moment mac octets rest ms is_first prior m out new on first messages own is errors.TooLong next =
    record {
      messages = messages;
      long = signs_too_long key moment (signed_messages key moment mac (messages_in octets)) rest ms is_first prior m
          out on first (subst (λ o. 65535 < length (with_tsig key.name moment o m)) is next);
    }
refused key moment mac octets rest ms is_first prior m out new on first messages own is errors.OutOfMemory next = tt
