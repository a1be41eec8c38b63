-- Octets are cut where the messages in them end.
use Rattle.std.proofs.Common.{◌≡◌, ℕ, zero, suc, ◌+◌, ◌-◌, ◌<◌, ◌≤◌, true, false, List, [], ◌∷◌, ◌++◌, length, get_or}
use Rattle.std.proofs.Common.{take, drop, refl, sym, ◌∙◌, ap, append_assoc, take_at, drop_at, arith, length-append}
use Rattle.std.proofs.Common.{length-drop, Option, None, Some}
use Rattle.std.specs.Prelude.{nat_lt, option_map}
use Rattle.std.specs.List.{All}
use Rattle.std.proofs.lemmas.List.{take-append-drop, drop-drop, length-take-le}
use Rattle.std.proofs.lemmas.List.Elements.{All-drop}
use Rattle.std.proofs.lemmas.Bool.Decides.{nat_tests}
use Rattle.std.specs.Int.{from_be_bytes, w16}
use Rattle.std.proofs.lemmas.Nat.{be_bytes_2}
use Rattle.dz_name.specs.Numbers.{two, number_of_two}
use Rattle.dz_name.proofs.NumberLemmas.{length_two, number-two}
use Rattle.dz_message.specs.Frame.{frame, stream, first_size, frame_at, first_messages, messages_in, AreShort, IsFirst}
use Rattle.dz_message.specs.Frame.{IsCut}

-- the whole frames at the beginning of octets, one by one
pub no_message : (n : ℕ) (octets : List ℕ) → first_size octets ≡ None → first_messages n octets ≡ []
unfolding first_messages
no_message zero octets none = refl
no_message (suc n) octets none = rw none refl

pub one_message : (n : ℕ) (octets : List ℕ) (size : ℕ) → first_size octets ≡ Some size
    → first_messages (suc n) octets ≡ take size (drop 2 octets) ∷ first_messages n (drop size (drop 2 octets))
unfolding first_messages
one_message n octets size some = rw some refl

pub record IsSize (octets : List ℕ) (size : ℕ) : Type 0 where
  pub is : size ≡ number_of_two octets
  pub long : 2 + size ≤ length octets

pub size_is : (octets : List ℕ) (size : ℕ) → first_size octets ≡ Some size → IsSize octets size
unfolding first_size
size_is octets size some =
    let long : (nat_lt (length octets) 2 ≡ false) × (nat_lt (length octets) (2 + number_of_two octets) ≡ false)
    × (number_of_two octets ≡ size) =
    grind (arith, nat_tests) in
    record { is = sym long.2; long = grind (arith, nat_tests, long.1, long.2) }

none_short : (octets : List ℕ) → length octets < 2 → first_size octets ≡ None
unfolding first_size
none_short octets short = let t : nat_lt (length octets) 2 ≡ true = grind (arith, nat_tests) in rw t refl

-- what follows the first message is shorter
rest_short : (octets : List ℕ) (size n : ℕ) → first_size octets ≡ Some size → length octets ≤ suc n
    → length (drop size (drop 2 octets)) ≤ n
rest_short octets size n some enough =
    let is = size_is octets size some in
    omega (arith, is.long, length-drop size (drop 2 octets), length-drop 2 octets)

-- more turns than there are octets find no more
enough : (n m : ℕ) (octets : List ℕ) → length octets ≤ n → length octets ≤ m
    → first_messages n octets ≡ first_messages m octets
enough zero m octets first second =
    let e = none_short octets (omega arith) in
    no_message zero octets e ∙ sym (no_message m octets e)
enough (suc n) zero octets first second =
    let e = none_short octets (omega arith) in
    no_message (suc n) octets e ∙ sym (no_message zero octets e)
enough (suc n) (suc m) octets first second =
    elim (first_size octets) as (λ size. first_size octets ≡ size
    → first_messages (suc n) octets ≡ first_messages (suc m) octets) [
      | None ↦ λ e. no_message (suc n) octets e ∙ sym (no_message (suc m) octets e)
      | Some size ↦ λ e.
          one_message n octets size e
          ∙ ap (λ others. take size (drop 2 octets) ∷ others) (enough n m (drop size (drop 2 octets))
          (rest_short octets size n e first) (rest_short octets size m e second))
          ∙ sym (one_message m octets size e)
    ] refl

-- the first message and those after it
pub messages_more : (octets : List ℕ) (size : ℕ) → first_size octets ≡ Some size
    → messages_in octets ≡ take size (drop 2 octets) ∷ messages_in (drop size (drop 2 octets))
messages_more octets size some =
    let is = size_is octets size some in
    let n : length octets ≡ suc (length octets - 1) = omega (arith, is.long) in
    ap (λ n. first_messages n octets) n ∙ one_message (length octets - 1) octets size some
    ∙ ap (λ others. take size (drop 2 octets) ∷ others)
    (enough (length octets - 1) (length (drop size (drop 2 octets))) (drop size (drop 2 octets))
    (rest_short octets size (length octets - 1) some (omega arith)) (omega arith))

-- what is at an offset
at_size : (octets : List ℕ) (at : ℕ) (size : Option ℕ) → first_size (drop at octets) ≡ size
    → IsFirst octets at (option_map (λ size. (at + 2, at + 2 + size)) size)
at_size octets at None e = no_message _ (drop at octets) e
at_size octets at (Some size) e =
    let n : at + 2 + size - (at + 2) ≡ size = omega arith in
    let first : drop 2 (drop at octets) ≡ drop (at + 2) octets = drop-drop 2 at octets in
    let rest : drop size (drop (at + 2) octets) ≡ drop (at + 2 + size) octets = drop-drop size (at + 2) octets in
    messages_more (drop at octets) size e ∙ (rw (first, rest, n) refl)

pub first_there : (octets : List ℕ) (at : ℕ) (result : Option (ℕ × ℕ))
    → result ≡ frame_at octets at → IsFirst octets at result
unfolding frame_at
first_there octets at result is = rw is (at_size octets at (first_size (drop at octets)) refl)

short_bytes : (a b : ℕ) → a < 256 → b < 256 → (i : ℕ) → get_or (a ∷ b ∷ []) i 0 < 256
short_bytes a b first second zero = first
short_bytes a b first second (suc zero) = second
short_bytes a b first second (suc (suc i)) = omega arith

two_back : (a b : ℕ) (rest : List ℕ) → a < 256 → b < 256 → two (number_of_two (a ∷ b ∷ rest)) ≡ a ∷ b ∷ []
unfolding two number_of_two
two_back a b rest first second =
    be_bytes_2 (a ∷ b ∷ []) (from_be_bytes w16 (a ∷ b ∷ rest)) refl (short_bytes a b first second) refl

two_small : (a b : ℕ) (rest : List ℕ) → a < 256 → b < 256 → number_of_two (a ∷ b ∷ rest) ≤ 65535
unfolding number_of_two
two_small a b rest first second = omega arith

front_size : (message rest : List ℕ) → length message ≤ 65535
    → first_size (two (length message) ++ (message ++ rest)) ≡ Some (length message)
unfolding first_size
front_size message rest short =
    let is = number-two (length message) (message ++ rest) (omega arith) in
    let size : length (two (length message) ++ (message ++ rest)) ≡ 2 + length message + length rest =
    omega (
      arith,
      length-append (two (length message)) (message ++ rest),
      length-append message rest,
      length_two (length message),
    ) in
    let long : nat_lt (length (two (length message) ++ (message ++ rest))) 2 ≡ false =
    grind (arith, nat_tests, size) in
    let there : nat_lt (length (two (length message) ++ (message ++ rest))) (2 + length message) ≡ false =
    grind (arith, nat_tests, size) in
    rw (long, is, there) refl

-- what was put into frames comes back
pub come_back : (n : ℕ) (messages : List (List ℕ)) (part : List ℕ) → length (stream messages ++ part) ≤ n
    → AreShort messages → first_size part ≡ None
    → first_messages n (stream messages ++ part) ≡ messages
come_back n [] part enough short ends = no_message n part ends
come_back zero (message ∷ messages) part enough short ends =
    absurd (omega (
      arith,
      length-append (stream (message ∷ messages)) part,
      length-append (frame message)
          (stream messages),
      length-append (two (length message)) message,
      length_two (length message),
    ))
come_back (suc n) (message ∷ messages) part enough short ends =
    let rest = stream messages ++ part in
    let split : stream (message ∷ messages) ++ part ≡ two (length message) ++ (message ++ rest) =
    append_assoc (frame message) (stream messages) part ∙ append_assoc (two (length message)) message rest in
    let behind : drop 2 (two (length message) ++ (message ++ rest)) ≡ message ++ rest =
    drop_at (two (length message)) (message ++ rest) 2 (length_two (length message)) in
    let others = come_back n messages part (omega (
      arith,
      ap length split,
      length-append (two (length message))
          (message ++ rest),
      length-append message rest,
      length_two (length message),
    )) short.1 ends in
    ap (first_messages (suc n)) split
    ∙ one_message n (two (length message) ++ (message ++ rest)) (length message) (front_size message rest short.0)
    ∙ rw (behind, take_at message rest (length message) refl, drop_at message rest (length message) refl, others) refl

-- the first messages, of the given number, and what follows them
pub record CutAt (n : ℕ) (octets : List ℕ) : Type 0 where
  pub part : List ℕ
  pub are : octets ≡ stream (first_messages n octets) ++ part
  pub ends : first_size part ≡ None
  pub short : AreShort (first_messages n octets)

no_cut : (n : ℕ) (octets : List ℕ) → first_size octets ≡ None → CutAt n octets
no_cut n octets none =
    let e = no_message n octets none in
    record { part = octets; are = rw e refl; ends = none; short = rw e tt }

-- the length and the message that it precedes
frame_there : (octets : List ℕ) (size : ℕ) → All (λ octet. octet < 256) octets → first_size octets ≡ Some size
    → (octets ≡ frame (take size (drop 2 octets)) ++ drop size (drop 2 octets))
    × (length (take size (drop 2 octets)) ≤ 65535)
frame_there [] size below some = absurd (omega (arith, (size_is [] size some).long))
frame_there (a ∷ []) size below some = absurd (omega (arith, (size_is (a ∷ []) size some).long))
frame_there (a ∷ b ∷ rest) size below some =
    let is = size_is (a ∷ b ∷ rest) size some in
    let first : a < 256 = below 0 0 (omega arith) in
    let second : b < 256 = below 1 0 (omega arith) in
    let length_is : length (take size rest) ≡ size = length-take-le size rest (omega (arith, is.long)) in
    let number : two (length (take size rest)) ≡ a ∷ b ∷ [] =
    ap two (length_is ∙ is.is) ∙ two_back a b rest first second in (
      sym (append_assoc (two (length (take size rest))) (take size rest) (drop size rest)
          ∙ (rw (number, take-append-drop size rest) refl)),
      omega (arith, length_is, is.is, two_small a b rest first second),
    )

pub cut_at : (n : ℕ) (octets : List ℕ) → length octets ≤ n → All (λ octet. octet < 256) octets → CutAt n octets
cut_at zero octets enough below = no_cut zero octets (none_short octets (omega arith))
cut_at (suc n) octets enough below =
    elim (first_size octets) as (λ size. first_size octets ≡ size → CutAt (suc n) octets) [
      | None ↦ λ e. no_cut (suc n) octets e
      | Some size ↦ λ e.
          let message = take size (drop 2 octets) in
          let rest = drop size (drop 2 octets) in
          let there = frame_there octets size below e in
          let others = cut_at n rest (rest_short octets size n e enough)
          (All-drop (λ octet. octet < 256) size (drop 2 octets) (All-drop (λ octet. octet < 256) 2 octets below)) in
          let step = one_message n octets size e in
          record {
            part = others.part;
            are = there.0 ∙ ap (λ xs. frame message ++ xs) others.are
                ∙ sym (append_assoc (frame message) (stream (first_messages n rest)) others.part)
                ∙ ap (λ ms. stream ms ++ others.part) (sym step);
            ends = others.ends;
            short = rw step (there.1, others.short);
          }
    ] refl

pub is_cut : (octets : List ℕ) → All (λ octet. octet < 256) octets → IsCut octets
is_cut octets below =
    let at = cut_at (length octets) octets (omega arith) below in
    record { part = at.part; are = at.are; ends = at.ends; short = at.short }

pub none_there : first_size [] ≡ None
unfolding first_size
none_there = refl
