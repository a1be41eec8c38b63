-- A taking, one message after another.
use Rattle.std.proofs.Common.{◌≡◌, ℕ, ◌+◌, ◌≤◌, Bool, true, false, List, [], ◌∷◌, ◌++◌, length, take, refl, sym, ◌∙◌}
use Rattle.std.proofs.Common.{ap, subst, append_assoc, Option, None, Result, Ok, Err, arith, length-append}
use Rattle.std.specs.Prelude.{◌==◌, is_some, if◌then◌else◌}
use Rattle.std.specs.List.{flat_map}
use Rattle.std.proofs.lemmas.List.{append-nil, take_all}
use Rattle.std.proofs.lemmas.Bool.Decides.{nat_tests}
use Rattle.dz_name.specs.Words.{Octets}
use Rattle.dz_name.specs.Numbers.{two}
use Rattle.dz_name.proofs.NumberLemmas.{length_two}
use Rattle.dz_record.specs.Record.{Record}
use Rattle.dz_xfr.specs.declared.fault.Progress.{Progress}
use Rattle.dz_message.specs.Frame.{frame, stream, first_messages, messages_in, AreShort}
use Rattle.dz_message.specs.Message.{Content}
use Rattle.dz_message.specs.Reading.{message_of}
use Rattle.dz_message.specs.declared.fault.MessageFault.{MessageFault}
use Rattle.dz_message.proofs.FrameLemmas.{come_back, none_there}
use Rattle.dz_take.specs.declared.outcome.Outcome.{Outcome}
use Rattle.dz_take.specs.declared.state.State.{State}
use Rattle.dz_take.specs.declared.state.State.TheVariants.{Waiting, First, Whole, Differences, Ended}
use Rattle.dz_take.specs.Outcome.{answers, answers_in, judge, judge_content, decided_from, decided, or_incomplete}
use Rattle.dz_take.specs.Outcome.{outcome, read_from, octets_used}
use Rattle.dz_take.specs.Taken.{meaning_of, Shows}
use Rattle.dz_take.specs.Transfer.{Transfer, Decision}
use Rattle.dz_take.specs.inner.Following.{Follows, records_in, IsUndecided, AtWhole, AtDifferences, read_decides}
use Rattle.dz_take.specs.inner.Following.{octets_decide, IsTaking, IsProgress, IsOutcome}
use Rattle.dz_take.proofs.DecidingLemmas.{decided_push, read_push}

pub messages_back : (messages : List Octets) → AreShort messages → messages_in (stream messages) ≡ messages
messages_back messages short = ap messages_in (sym (append-nil (stream messages)))
    ∙ come_back _ messages [] (omega arith) short none_there

frame_length : (message : Octets) → length (frame message) ≡ 2 + length message
frame_length message = length-append (two (length message)) message
    ∙ ap (λ n. n + length message) (length_two (length message))

pub stream_push : (front : List Octets) (message : Octets)
    → stream (front ++ message ∷ []) ≡ stream front ++ frame message
stream_push [] message = append-nil (frame message)
stream_push (first ∷ front) message = ap (λ octets. frame first ++ octets) (stream_push front message)
    ∙ sym (append_assoc (frame first) (stream front) (frame message))

stream_length : (front : List Octets) (message : Octets)
    → length (stream (front ++ message ∷ [])) ≡ length (stream front) + 2 + length message
stream_length front message =
    let n = length-append (stream front) (frame message) in
    let m = frame_length message in
    rw (stream_push front message) (omega arith)

is_first : (front : List Octets) → (length (stream front) == 0) ≡ (length front == 0)
is_first [] = refl
is_first (message ∷ front) =
    let a = length-append (frame message) (stream front) in
    let b = frame_length message in
    let c : (length (stream (message ∷ front)) == 0) ≡ false = grind (arith, nat_tests) in
    let d : (length (message ∷ front) == 0) ≡ false = grind (arith, nat_tests) in
    c ∙ sym d

-- a message is judged by the number of octets and by the answer records before it
content_judged : (transfer : Transfer) (front : List Octets) (read : Result Content MessageFault)
    → judge_content transfer front read ≡ read_decides transfer (length front == 0) (answers front) read
content_judged transfer front (Err fault) = refl
content_judged transfer front (Ok m) = refl

judged : (transfer : Transfer) (front : List Octets) (message : Octets)
    → judge transfer front message ≡ octets_decide transfer (length (stream front)) (answers front) message
unfolding judge
judged transfer front message =
    rw (stream_length front message, content_judged transfer front (message_of message), is_first front) refl

answers_push : (front : List Octets) (message : Octets)
    → answers (front ++ message ∷ []) ≡ answers front ++ answers_in message
unfolding answers
answers_push [] message = append-nil (answers_in message)
answers_push (first ∷ front) message = ap (λ rs. answers_in first ++ rs) (answers_push front message)
    ∙ sym (append_assoc (answers_in first) (flat_map answers_in front) (answers_in message))

-- a state in which nothing is decided represents its records
pub record StandsFor (transfer : Transfer) (records : List Record) (state : State) : Type 0 where
  pub undecided : IsUndecided transfer state
  pub are : records ≡ records_in state

stands_for : (transfer : Transfer) (decision : Option Decision) (records : List Record) (state : State)
    → decision ≡ None → Follows transfer decision records state → StandsFor transfer records state
stands_for transfer decision records Waiting none follows = record { undecided = (refl, refl); are = follows.1 }
stands_for transfer decision records (First first) none follows =
    record { undecided = (refl, refl, follows.2); are = follows.1 }
stands_for transfer decision records (Whole w) none follows =
    let fed : w.fed ≡ records = ap (λ w. w.fed) follows.1.is in
    record { undecided = (refl, subst (λ rs. AtWhole transfer rs w) (sym fed) follows.1); are = sym fed }
stands_for transfer decision records (Differences d) none follows =
    record {
      undecided = (refl, subst (λ rs. AtDifferences transfer rs d) (sym follows.1.fed) follows.1);
      are = sym follows.1.fed;
    }
stands_for transfer decision records (Ended outcome) none follows = absurd (cc)

short_push : (front : List Octets) (message : Octets) → AreShort front → length message ≤ 65535
    → AreShort (front ++ message ∷ [])
short_push [] message short fits = (fits, tt)
short_push (first ∷ front) message short fits = (short.0, short_push front message short.1 fits)

pub nothing_read : (transfer : Transfer) (octets : Octets) → octets ≡ [] → IsTaking transfer octets Waiting
unfolding decided_from answers read_from
nothing_read transfer octets is = record { messages = []; are = is; short = tt; follows = (refl, refl); all = refl }

pub nothing_decided : (transfer : Transfer) (octets : Octets) → octets ≡ []
    → decided transfer (messages_in octets) ≡ None
unfolding decided_from first_messages
nothing_decided transfer octets is = rw is refl

shown_by : (transfer : Transfer) (decision : Option Decision) (records : List Record) (state : State) (p : Progress)
    → Follows transfer decision records state → IsProgress state p → Shows p decision
shown_by transfer decision records Waiting p follows is = rw (is, follows.0) refl
shown_by transfer decision records (First first) p follows is = rw (is, follows.0) refl
shown_by transfer decision records (Whole w) p follows is = rw (is, follows.0) refl
shown_by transfer decision records (Differences d) p follows is = rw (is, follows.0) refl
shown_by transfer decision records (Ended outcome) p follows is = rw (is, follows) refl

ends_by : (transfer : Transfer) (decision : Option Decision) (records : List Record) (state : State) (result : Outcome)
    → Follows transfer decision records state → IsOutcome state result → meaning_of result ≡ or_incomplete decision
ends_by transfer decision records Waiting result follows is = is ∙ ap or_incomplete (sym follows.0)
ends_by transfer decision records (First first) result follows is = is ∙ ap or_incomplete (sym follows.0)
ends_by transfer decision records (Whole w) result follows is = is ∙ ap or_incomplete (sym follows.0)
ends_by transfer decision records (Differences d) result follows is = is ∙ ap or_incomplete (sym follows.0)
ends_by transfer decision records (Ended outcome) result follows is = ap meaning_of is ∙ ap or_incomplete (sym follows)

either_way : (b : Bool) (n m : ℕ) → n ≡ m → (if b then n else m) ≡ m
either_way true n m e = e
either_way false n m e = refl

module _ (transfer : Transfer) (octets : Octets) (state : State) (t : IsTaking transfer octets state) where
  pub messages_known : messages_in octets ≡ t.messages
  messages_known = ap messages_in t.are ∙ messages_back t.messages t.short

  none_decides : decided transfer (messages_in octets) ≡ None → decided transfer t.messages ≡ None
  none_decides none = ap (decided transfer) (sym messages_known) ∙ none

  pub stands : decided transfer (messages_in octets) ≡ None → StandsFor transfer (answers t.messages) state
  stands none =
      stands_for transfer (decided transfer t.messages) (answers t.messages) state (none_decides none) t.follows

  pub next_taking : (message new : Octets) (used : ℕ) (s : State) → decided transfer (messages_in octets) ≡ None
      → new ≡ octets ++ frame message → used ≡ length octets → length message ≤ 65535
      → Follows transfer (octets_decide transfer used (records_in state) message)
      (records_in state ++ answers_in message) s → IsTaking transfer new s
  next_taking message new used s none is count fits follows =
      let records = (stands none).are in
      let size : used ≡ length (stream t.messages) = count ∙ ap length t.are in
      let decides : octets_decide transfer used (records_in state) message
      ≡ decided transfer (t.messages ++ message ∷ []) =
      ap (λ n. octets_decide transfer n (records_in state) message) size
      ∙ ap (λ rs. octets_decide transfer (length (stream t.messages)) rs message) (sym records)
      ∙ sym (judged transfer t.messages message)
      ∙ sym (decided_push transfer t.messages message (none_decides none)) in
      let joined : records_in state ++ answers_in message ≡ answers (t.messages ++ message ∷ []) =
      ap (λ rs. rs ++ answers_in message) (sym records) ∙ sym (answers_push t.messages message) in
      record {
        messages = t.messages ++ message ∷ [];
        are = is ∙ ap (λ o. o ++ frame message) t.are ∙ sym (stream_push t.messages message);
        short = short_push t.messages message t.short fits;
        follows = subst (λ rs. Follows transfer (decided transfer (t.messages ++ message ∷ [])) rs s) joined
            (subst (λ d. Follows transfer d (records_in state ++ answers_in message) s) decides follows);
        all = read_push transfer [] t.messages message (none_decides none);
      }

  pub messages_next : (message new : Octets) → new ≡ octets ++ frame message → length message ≤ 65535
      → messages_in new ≡ messages_in octets ++ message ∷ []
  messages_next message new is fits =
      ap messages_in (is ∙ ap (λ o. o ++ frame message) t.are ∙ sym (stream_push t.messages message))
      ∙ messages_back (t.messages ++ message ∷ []) (short_push t.messages message t.short fits)
      ∙ ap (λ ms. ms ++ message ∷ []) (sym messages_known)

  pub shown : (p : Progress) → IsProgress state p → Shows p (decided transfer (messages_in octets))
  shown p is =
      rw messages_known (shown_by transfer (decided transfer t.messages) (answers t.messages) state p t.follows is)

  pub ends_so : (result : Outcome) → IsOutcome state result → meaning_of result ≡ outcome transfer octets
  ends_so result is = ends_by transfer (decided transfer t.messages) (answers t.messages) state result t.follows is
      ∙ ap (λ ms. or_incomplete (decided transfer ms)) (sym messages_known)

  pub all_used : octets_used transfer octets ≡ length octets
  all_used =
      let n : take (read_from transfer [] t.messages) t.messages ≡ t.messages =
      take_all (read_from transfer [] t.messages) t.messages (omega (arith, t.all)) in
      rw messages_known (either_way (is_some (decided transfer t.messages))
      (length (stream (take (read_from transfer [] t.messages) t.messages))) (length octets)
      (ap (λ ms. length (stream ms)) n ∙ ap length (sym t.are)))
