-- The messages of a stream are read one by one.
use Rattle.std.proofs.Common.{◌≡◌, ℕ, suc, true, false, length-drop, get_or, subst, ◌+◌, ◌-◌, ◌<◌, ◌≤◌, List, [], ◌∷◌}
use Rattle.std.proofs.Common.{◌++◌, length, take, drop, refl, sym, ◌∙◌, ap, append_assoc, take_at, arith}
use Rattle.std.proofs.Common.{length-append, Option, None, Some, IsSome, inl, inr}
use Rattle.std.specs.Prelude.{is_some, if◌then◌else◌, option_map}
use Rattle.std.specs.List.{All}
use Rattle.std.proofs.lemmas.List.{append-nil, take-append-drop, length-take-le, get_or_default}
use Rattle.std.proofs.lemmas.List.Elements.{All-drop}
use Rattle.dz_name.specs.Words.{Octets}
use Rattle.dz_name.specs.Numbers.{two}
use Rattle.dz_name.proofs.NumberLemmas.{length_two}
use Rattle.dz_message.specs.Frame.{frame, stream, first_size, frame_at, first_messages, messages_in, IsFirst, IsWithin}
use Rattle.dz_message.proofs.FrameLemmas.{is_cut}
use Rattle.dz_take.specs.Form.{or_else}
use Rattle.dz_take.specs.Outcome.{judge, decided_from, decided, or_incomplete, read_from, octets_used}
use Rattle.dz_take.specs.Transfer.{Transfer, Decision}
use Rattle.dz_take.proofs.DecidingLemmas.{decided_more}
use Rattle.dz_job.specs.Stream.{IsReadOf, IsFront, HasRead}

-- ---- a frame
frame_length : (message : Octets) → length (frame message) ≡ 2 + length message
frame_length message = length-append (two (length message)) message
    ∙ ap (λ n. n + length message) (length_two (length message))

begins_at : (octets : List ℕ) (at begin end : ℕ) (size : Option ℕ)
    → option_map {U = ℕ × ℕ} (λ size. (at + 2, at + 2 + size)) size ≡ Some (begin, end) → begin ≡ at + 2
begins_at octets at begin end None is = absurd (cc)
begins_at octets at begin end (Some size) is =
    let same : ◌≡◌ {A = ℕ × ℕ} (begin, end) (at + 2, at + 2 + size) = cc in
    ap (λ (place : ℕ × ℕ). place.0) same

pub frame_begins : (octets : List ℕ) (at begin end : ℕ) → frame_at octets at ≡ Some (begin, end) → begin ≡ at + 2
unfolding frame_at
frame_begins octets at begin end is = begins_at octets at begin end (first_size (drop at octets)) is

-- octets of a slice
pub octets_fit : (octets : List ℕ) → ((i : ℕ) → get_or octets i 0 < 256) → All (λ octet. octet < 256) octets
octets_fit octets fits k d inside = subst (λ (n : ℕ). n < 256) (get_or_default octets k 0 d inside) (fits k)

-- the message between these places, preceded by its length, is at the first of them
pub record IsFrameAt (octets : List ℕ) (at begin end : ℕ) : Type 0 where
  pub joined : take at octets ++ frame (take (end - begin) (drop begin octets)) ≡ take end octets
  pub short : length (take (end - begin) (drop begin octets)) ≤ 65535
  pub further : at < end

pub frame_is : (octets : List ℕ) (at begin end : ℕ) → All (λ octet. octet < 256) octets → at ≤ length octets
    → frame_at octets at ≡ Some (begin, end) → IsWithin octets (begin, end) → IsFirst octets at (Some (begin, end))
    → IsFrameAt octets at begin end
frame_is octets at begin end below inside place within first =
    let message = take (end - begin) (drop begin octets) in
    let cut = is_cut (drop at octets) (All-drop (λ octet. octet < 256) at octets below) in
    let rest = stream (messages_in (drop end octets)) ++ cut.part in
    let split : drop at octets ≡ frame message ++ rest = cut.are ∙ ap (λ ms. stream ms ++ cut.part) first
    ∙ append_assoc (frame message) (stream (messages_in (drop end octets))) cut.part in
    let whole : octets ≡ (take at octets ++ frame message) ++ rest = sym (take-append-drop at octets)
    ∙ ap (λ o. take at octets ++ o) split ∙ sym (append_assoc (take at octets) (frame message) rest) in
    let begun = frame_begins octets at begin end place in
    let here : length (drop begin octets) ≡ length octets - begin = length-drop begin octets in
    let long : length message ≡ end - begin =
    length-take-le (end - begin) (drop begin octets) (omega (arith, here, within.0, within.1)) in
    let front : length (take at octets) ≡ at = length-take-le at octets inside in
    let size : length (take at octets ++ frame message) ≡ end = omega
    (arith, length-append (take at octets) (frame message), frame_length message, front, long, begun, within.0) in
    record {
      joined = sym (ap (take end) whole ∙ take_at (take at octets ++ frame message) rest end size);
      short = (rw first at cut.short).0;
      further = omega (arith, begun, within.0);
    }

-- ---- a step
pub front_more : (octets read new : List ℕ) (at begin end : ℕ) → IsFront octets read at → IsFrameAt octets at begin end
    → IsWithin octets (begin, end) → IsFirst octets at (Some (begin, end))
    → new ≡ read ++ frame (take (end - begin) (drop begin octets))
    → messages_in new ≡ messages_in read ++ take (end - begin) (drop begin octets) ∷ [] → IsFront octets new end
front_more octets read new at begin end front here within first is messages =
    let message = take (end - begin) (drop begin octets) in
    record {
      within = within.1;
      are = is ∙ ap (λ o. o ++ frame message) front.are ∙ here.joined;
      messages = front.messages ∙ ap (λ ms. messages_in read ++ ms) first
          ∙ sym (append_assoc (messages_in read) (message ∷ []) (messages_in (drop end octets)))
          ∙ ap (λ ms. ms ++ messages_in (drop end octets)) (sym messages);
    }

-- ---- the end
-- messages after the one that decides are not read
taken_same : (transfer : Transfer) (front messages more : List Octets) (decision : Decision)
    → decided_from transfer front messages ≡ Some decision
    → take (read_from transfer front (messages ++ more)) (messages ++ more)
    ≡ take (read_from transfer front messages) messages
unfolding decided_from read_from
taken_same transfer front [] more decision is = absurd (cc)
taken_same transfer front (m ∷ messages) more decision is =
    (elim
    (judge transfer front m) as (λ j. or_else j (decided_from transfer (front ++ m ∷ []) messages) ≡ Some decision
    → take (if is_some j then 1 else suc (read_from transfer (front ++ m ∷ []) (messages ++ more)))
    (m ∷ (messages ++ more))
    ≡ take (if is_some j then 1 else suc (read_from transfer (front ++ m ∷ []) messages)) (m ∷ messages)) [
      | Some other ↦ λ e. refl
      | None ↦ λ e. ap (λ ms. m ∷ ms) (taken_same transfer (front ++ m ∷ []) messages more decision e)
    ]) is

used_where : (transfer : Transfer) (octets : Octets) (decision : Decision)
    → decided transfer (messages_in octets) ≡ Some decision
    → octets_used transfer octets
    ≡ length (stream (take (read_from transfer [] (messages_in octets)) (messages_in octets)))
used_where transfer octets decision is = rw is refl

decided_still : (transfer : Transfer) (messages more : List Octets) (decision : Decision)
    → decided transfer messages ≡ Some decision → decided transfer (messages ++ more) ≡ Some decision
decided_still transfer messages more decision is =
    decided_more transfer [] messages more ∙ ap (λ d. or_else d (decided_from transfer messages more)) is

decided_is : (transfer : Transfer) (octets read : Octets) (place : ℕ) (decision : Decision) → IsFront octets read place
    → octets_used transfer read ≡ length read → decided transfer (messages_in read) ≡ Some decision
    → IsReadOf transfer octets read
decided_is transfer octets read place decision front used is =
    let more = messages_in (drop place octets) in
    let whole : decided transfer (messages_in octets) ≡ Some decision =
    ap (decided transfer) front.messages ∙ decided_still transfer (messages_in read) more decision is in
    let same : octets_used transfer octets ≡ length read =
    used_where transfer octets decision whole
    ∙ ap (λ ms. length (stream (take (read_from transfer [] ms) ms))) front.messages
    ∙ ap (λ ms. length (stream ms)) (taken_same transfer [] (messages_in read) more decision is)
    ∙ sym (used_where transfer read decision is) ∙ used in
    let long : length read ≡ place = ap length front.are ∙ length-take-le place octets front.within in
    record {
      outcome = ap or_incomplete (is ∙ sym whole);
      all = used;
      used = λ some. front.are ∙ ap (λ n. take n octets) (sym (same ∙ long));
    }

undecided_is : (transfer : Transfer) (octets read : Octets) (place : ℕ) → IsFront octets read place
    → octets_used transfer read ≡ length read → messages_in (drop place octets) ≡ []
    → decided transfer (messages_in read) ≡ None → IsReadOf transfer octets read
undecided_is transfer octets read place front used none is =
    let same : messages_in octets ≡ messages_in read =
    front.messages ∙ ap (λ ms. messages_in read ++ ms) none ∙ append-nil (messages_in read) in
    let whole : decided transfer (messages_in octets) ≡ None = ap (decided transfer) same ∙ is in
    record {
      outcome = ap or_incomplete (is ∙ sym whole);
      all = used;
      used = λ some. let e : false ≡ true = rw whole at some in cc;
    }

pub read_is : (transfer : Transfer) (octets read : Octets) → HasRead transfer octets read
    → octets_used transfer read ≡ length read → IsReadOf transfer octets read
read_is transfer octets read h used =
    elim (decided transfer (messages_in read)) as (λ d. decided transfer (messages_in read) ≡ d
    → IsReadOf transfer octets read) [
      | Some decision ↦ λ is. decided_is transfer octets read h.place decision h.front used is
      | None ↦ λ is. elim h.ended [
        | inl none ↦ undecided_is transfer octets read h.place h.front used none is
        | inr some ↦ absurd (let e : false ≡ true = rw is at some in cc)
      ]
    ] refl

-- before the first message nothing was read
pub nothing_front : (octets read : Octets) → read ≡ [] → IsFront octets read 0
unfolding first_messages
nothing_front octets read none = record { within = omega arith; are = none; messages = rw none refl }
