-- Messages that are read one by one, and the transfer that they make.
use Rattle.std.proofs.Common.{◌≡◌, ℕ, ◌≤◌, Bool, true, false, List, [], ◌∷◌, ◌++◌, length, drop, take_at, drop_at}
use Rattle.std.proofs.Common.{Option, None, Some, IsSome, refl, sym, ap, ◌∙◌, arith, length-append, inl, inr}
use Rattle.std.specs.Prelude.{nat_lt, if◌then◌else◌}
use Rattle.std.proofs.lemmas.Bool.Decides.{nat_tests}
use Rattle.std.proofs.lemmas.List.{append-nil}
use Rattle.std.proofs.lemmas.Grind.{flat_map-append}
use Rattle.dz_name.specs.Words.{Octets}
use Rattle.dz_name.specs.declared.dns.TheConstants.{TRANSFER_OCTETS}
use Rattle.dz_io.specs.Device.{Gains}
use Rattle.dz_message.specs.Frame.{frame, stream, first_size, messages_in, AreShort}
use Rattle.dz_message.proofs.FrameLemmas.{no_message, none_there, come_back}
use Rattle.dz_take.specs.Outcome.{judge, decided, octets_used}
use Rattle.dz_take.specs.Taken.{Taken}
use Rattle.dz_take.specs.Transfer.{Transfer, Decision, refused}
use Rattle.dz_take.specs.declared.outcome.TakeFault.TheVariants.{TooLong}
use Rattle.dz_take.proofs.DecidingLemmas.{decided_push}
use Rattle.dz_job.specs.Job.{JobOf, transfer_for}
use Rattle.dz_job.specs.Stream.{IsReadOf}
use Rattle.dz_job.proofs.StreamLemmas.{read_is}
use Rattle.dz_fetch.specs.Fetching.{IsTakenFrom}
use Rattle.dz_fetch.specs.inner.Frames.{IsFrame, IsPart, AreFrames, HasTaken}
use Rattle.dz_fetch.proofs.GainLemmas.{gains_more}

-- ---- a step
short_more : (messages : List Octets) (message : Octets) → AreShort messages → length message ≤ 65535
    → AreShort (messages ++ message ∷ [])
short_more [] message short here = (here, tt)
short_more (first ∷ messages) message short here = (short.0, short_more messages message short.1 here)

pub no_frames : (octets : Octets) → octets ≡ [] → AreFrames octets
no_frames octets none =
    let nothing : messages_in octets ≡ [] = rw none (no_message 0 [] none_there) in
    record { are = rw (nothing) none; short = rw nothing tt }

pub frames_more : (octets new next : Octets) → AreFrames octets → IsFrame next → new ≡ octets ++ frame (drop 2 next)
    → messages_in new ≡ messages_in octets ++ drop 2 next ∷ [] → AreFrames new
frames_more octets new next frames here is messages =
    let message = drop 2 next in
    let joined : stream (messages_in octets ++ message ∷ []) ≡ stream (messages_in octets) ++ frame message =
    flat_map-append frame (messages_in octets) (message ∷ [])
    ∙ ap (λ o. stream (messages_in octets) ++ o) (append-nil (frame message)) in
    record {
      are = is ∙ ap (λ o. o ++ frame message) frames.are ∙ sym joined ∙ ap stream (sym messages);
      short = rw messages (short_more (messages_in octets) message frames.short here.short);
    }

-- messages that decide nothing are within the limit of a transfer
within : (size : ℕ) (long : Bool) (rest : Option Decision) → nat_lt TRANSFER_OCTETS size ≡ long
    → (if long then Some (refused TooLong) else rest) ≡ None → size ≤ TRANSFER_OCTETS
within size true rest is none = absurd (cc)
within size false rest is none = grind (arith, nat_tests)

judged_short : (transfer : Transfer) (front : List Octets) (message : Octets) → judge transfer front message ≡ None
    → length (stream (front ++ message ∷ [])) ≤ TRANSFER_OCTETS
unfolding judge
judged_short transfer front message none = within (length (stream (front ++ message ∷ [])))
    (nat_lt TRANSFER_OCTETS (length (stream (front ++ message ∷ [])))) _ refl none

pub undecided_fits : (transfer : Transfer) (octets new next : Octets) → AreFrames new
    → decided transfer (messages_in octets) ≡ None → messages_in new ≡ messages_in octets ++ drop 2 next ∷ []
    → decided transfer (messages_in new) ≡ None → length new ≤ TRANSFER_OCTETS
undecided_fits transfer octets new next frames before messages after =
    let judged : judge transfer (messages_in octets) (drop 2 next) ≡ None =
    sym (decided_push transfer (messages_in octets) (drop 2 next) before)
    ∙ ap (decided transfer) (sym messages) ∙ after in
    let fits = judged_short transfer (messages_in octets) (drop 2 next) judged in
    rw (frames.are, messages) fits

-- ---- the end
pub ends_decided : (transfer : Transfer) (read : Octets) (before after left : Option Octets) → AreFrames read
    → Gains read before after → IsSome (decided transfer (messages_in read)) → HasTaken transfer read before after left
ends_decided transfer read before after left frames gains some = record {
  frames = frames;
  part = [];
  gains = rw (append-nil read) gains;
  rest = none_there;
  ends = inl (refl, some);
}

pub ends_open : (transfer : Transfer) (read part : Octets) (before between after left : Option Octets)
    → AreFrames read → Gains read before between → Gains part between after → IsPart part left
    → decided transfer (messages_in read) ≡ None → HasTaken transfer read before after left
ends_open transfer read part before between after left frames one two here none = record {
  frames = frames;
  part = part;
  gains = gains_more read part before between after one two;
  rest = here.part;
  ends = inr (none, here.ended);
}

-- ---- the transfer
-- a part of a frame after whole frames has no message
messages_same : (read part : Octets) → AreFrames read → first_size part ≡ None
    → messages_in (read ++ part) ≡ messages_in read
messages_same read part frames rest =
    let same : read ++ part ≡ stream (messages_in read) ++ part = ap (λ o. o ++ part) frames.are in
    ap messages_in same
    ∙ come_back (length (stream (messages_in read) ++ part)) (messages_in read) part (omega arith) frames.short rest

read_of : (transfer : Transfer) (read part : Octets) → AreFrames read → first_size part ≡ None
    → octets_used transfer read ≡ length read → IsReadOf transfer (read ++ part) read
read_of transfer read part frames rest used =
    let behind : drop (length read) (read ++ part) ≡ part = drop_at read part (length read) refl in
    let none : messages_in part ≡ [] = no_message (length part) part rest in
    read_is transfer (read ++ part) read (record {
      place = length read;
      front = record {
        within = omega (arith, length-append read part);
        are = sym (take_at read part (length read) refl);
        messages = messages_same read part frames rest ∙ sym (append-nil (messages_in read))
            ∙ ap (λ ms. messages_in read ++ ms) (sym (ap messages_in behind ∙ none));
      };
      ended = inl (ap messages_in behind ∙ none);
    }) used

-- what was read is the job's transfer
pub taken_is : (job : JobOf) (taken : Taken) (before after left : Option Octets)
    → taken.transfer ≡ transfer_for job → HasTaken (transfer_for job) taken.octets before after left
    → octets_used (transfer_for job) taken.octets ≡ length taken.octets → IsTakenFrom job before after left taken
taken_is job taken before after left transfer has used =
    let same = messages_same taken.octets has.part has.frames has.rest in
    record {
      given = taken.octets ++ has.part;
      gains = has.gains;
      is = record {
        transfer = transfer;
        frames = has.frames.are ∙ ap stream (sym same);
        all = read_of (transfer_for job) taken.octets has.part has.frames has.rest used;
        nothing_behind = λ some. elim has.ends [
          | inl whole ↦ rw (whole.0) (append-nil taken.octets)
          | inr rest ↦ absurd (let e : false ≡ true = rw (same, rest.0) at some in cc)
        ];
        ended = λ none. elim has.ends [
          | inl whole ↦
              absurd (let e : false ≡ true = rw (ap (decided (transfer_for job)) (sym same) ∙ none) at (whole.1) in cc)
          | inr rest ↦ rest.1
        ];
      };
    }
