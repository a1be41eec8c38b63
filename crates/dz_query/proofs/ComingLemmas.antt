-- Octets that are read until a message is whole.
use Rattle.std.proofs.Common.{◌≡◌, ℕ, zero, suc, ◌+◌, ◌<◌, true, false, [], ◌∷◌, ◌++◌, length, take, drop, take_at}
use Rattle.std.proofs.Common.{append_assoc, get_or, Option, None, refl, sym, ap, ◌∙◌, arith, length-append}
use Rattle.std.specs.Prelude.{nat_lt}
use Rattle.std.specs.Int.{from_be_bytes, w16}
use Rattle.std.proofs.Math.Seq.{take-append-add}
use Rattle.std.proofs.lemmas.Bool.Decides.{nat_tests}
use Rattle.std.proofs.lemmas.Nat.{be_bytes_2}
use Rattle.dz_name.specs.Words.{Octets}
use Rattle.dz_name.specs.Numbers.{two, number_of_two}
use Rattle.dz_name.proofs.NumberLemmas.{length_two}
use Rattle.dz_io.specs.Device.{Gains}
use Rattle.dz_message.specs.Frame.{frame, first_size}
use Rattle.dz_query.specs.inner.Coming.{FallsShort, IsPart}
use Rattle.dz_query.proofs.GainLemmas.{gains_more}

-- some more octets of a buffer were filled
pub fills_more : (at n : ℕ) (buffer rest : Octets) (before middle now : Option Octets)
    → length (take at buffer) ≡ at → Gains (take at buffer) before middle → Gains (take n rest) middle now
    → Gains (take (at + n) (take at buffer ++ rest)) before now
fills_more at n buffer rest before middle now whole was gained =
    let split : take (at + n) (take at buffer ++ rest) ≡ take at buffer ++ take n rest =
    ap (λ k. take (k + n) (take at buffer ++ rest)) (sym whole) ∙ take-append-add (take at buffer) rest n in
    rw split (gains_more (take at buffer) (take n rest) before middle now was gained)

-- ---- a message after its length
short_octets : (a b : ℕ) → a < 256 → b < 256 → (i : ℕ) → get_or (a ∷ b ∷ []) i 0 < 256
short_octets a b first second zero = first
short_octets a b first second (suc zero) = second
short_octets a b first second (suc (suc i)) = omega arith

pub two_back : (front : Octets) → length front ≡ 2 → ((i : ℕ) → get_or front i 0 < 256)
    → two (number_of_two front) ≡ front
unfolding two number_of_two
two_back [] whole below = absurd (omega (arith, whole))
two_back (a ∷ []) whole below = absurd (omega (arith, whole))
two_back (a ∷ b ∷ c ∷ rest) whole below = absurd (omega (arith, whole))
two_back (a ∷ b ∷ []) whole below =
    be_bytes_2 (a ∷ b ∷ []) (from_be_bytes w16 (a ∷ b ∷ [])) refl (short_octets a b (below 0) (below 1)) refl

pub frame_came : (front message : Octets) (size : ℕ) (before middle now : Option Octets) → two size ≡ front
    → length message ≡ size
    → Gains front before middle → Gains message middle now → Gains (frame message) before now
frame_came front message size before middle now is whole read came =
    let same : frame message ≡ front ++ message = ap (λ octets. octets ++ message) (ap two whole ∙ is) in
    rw same (gains_more front message before middle now read came)

-- ---- a part of one
few_octets : (octets : Octets) → length octets < 2 → first_size octets ≡ None
unfolding first_size
few_octets octets few = let t : nat_lt (length octets) 2 ≡ true = grind (arith, nat_tests) in rw t refl

front_number : (front more : Octets) → length front ≡ 2 → number_of_two (front ++ more) ≡ number_of_two front
unfolding number_of_two
front_number [] more whole = absurd (omega (arith, whole))
front_number (a ∷ []) more whole = absurd (omega (arith, whole))
front_number (a ∷ b ∷ []) more whole = refl
front_number (a ∷ b ∷ c ∷ rest) more whole = absurd (omega (arith, whole))

cut_octets : (front part : Octets) → length front ≡ 2 → length part < number_of_two front
    → first_size (front ++ part) ≡ None
unfolding first_size
cut_octets front part whole few =
    let same = front_number front part whole in
    let all = length-append front part in
    let there : nat_lt (length (front ++ part)) 2 ≡ false = grind (arith, nat_tests, whole, all) in
    let short : nat_lt (length (front ++ part)) (2 + number_of_two (front ++ part)) ≡ true =
    grind (arith, nat_tests, whole, all, same, few) in
    rw (there, short) refl

pub part_of_front : (room : ℕ) (before now : Option Octets) → room ≡ 2 → FallsShort room before now → IsPart before now
part_of_front room before now two falls =
    record { part = falls.part; none = few_octets falls.part (omega (arith, two, falls.short)); gains = falls.gains }

pub part_of_message : (front : Octets) (size room : ℕ) (before middle now : Option Octets) → length front ≡ 2
    → size ≡ number_of_two front → room ≡ size → Gains front before middle → FallsShort room middle now
    → IsPart before now
part_of_message front size room before middle now whole is fits gained falls = record {
  part = front ++ falls.part;
  none = cut_octets front falls.part whole (omega (arith, is, fits, falls.short));
  gains = gains_more front falls.part before middle now gained falls.gains;
}

-- ---- a frame that is put together
pub frame_put : (first second third message : Octets)
    → second ≡ take 0 first ++ (two (length message) ++ drop (0 + length (two (length message))) first)
    → third ≡ take 2 second ++ (message ++ drop (2 + length message) second)
    → take (2 + length message) third ≡ frame message
frame_put first second third message one more =
    let size = two (length message) in
    let front : take 2 second ≡ size = ap (λ octets. take 2 octets) one
    ∙ take_at size (drop (0 + length size) first) 2 (length_two (length message)) in
    let rest = drop (2 + length message) second in
    let all : third ≡ (size ++ message) ++ rest = more ∙ (rw front (sym (append_assoc size message rest))) in
    ap (λ octets. take (2 + length message) octets) all ∙ take_at (size ++ message) rest (2 + length message)
    (omega (arith, length-append size message, length_two (length message)))
