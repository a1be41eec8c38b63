-- A frame that is read piece by piece.
use Rattle.std.proofs.Common.{◌≡◌, ℕ, ◌+◌, ◌<◌, ◌≤◌, Bool, true, false, [], ◌∷◌, ◌++◌, length, take, drop, get_or}
use Rattle.std.proofs.Common.{Option, None, Some, refl, sym, ap, ◌∙◌, subst, append_assoc, arith, length-append}
use Rattle.std.proofs.Common.{length-drop}
use Rattle.std.specs.Prelude.{nat_lt, nat_eq}
use Rattle.std.specs.List.{All}
use Rattle.std.proofs.lemmas.Bool.Decides.{nat_tests}
use Rattle.std.proofs.lemmas.List.{append-nil, take_all, drop_all, nil_from_length, get_or_default}
use Rattle.dz_name.specs.Words.{Octets}
use Rattle.std.proofs.lemmas.Bool.{eqb-true}
use Rattle.dz_name.specs.Numbers.{two, number_of_two}
use Rattle.dz_name.proofs.NumberLemmas.{length_two}
use Rattle.dz_io.specs.Device.{Gains}
use Rattle.dz_message.specs.Frame.{frame, first_size, messages_in}
use Rattle.dz_message.proofs.FrameLemmas.{is_cut, messages_more, no_message, none_there}
use Rattle.dz_fetch.specs.inner.Frames.{Joins, ReadsOn, IsFrame, IsPart, IsNext}
use Rattle.dz_fetch.proofs.GainLemmas.{gains_none, gains_more}

-- ---- pieces
pub nothing_joined : (octets : Octets) (given : Option Octets) → Joins octets octets given given
nothing_joined octets given = record { more = []; joined = sym (append-nil octets); gains = gains_none given }

pub joins_more : (old middle new piece : Octets) (before between after : Option Octets)
    → Joins old middle before between → new ≡ middle ++ piece → Gains piece between after → Joins old new before after
joins_more old middle new piece before between after joins is gains = record {
  more = joins.more ++ piece;
  joined = is ∙ ap (λ o. o ++ piece) joins.joined ∙ append_assoc old joins.more piece;
  gains = gains_more joins.more piece before between after joins.gains gains;
}

-- ---- a frame
few_octets : (octets : Octets) → length octets < 2 → first_size octets ≡ None
unfolding first_size
few_octets octets few = let t : nat_lt (length octets) 2 ≡ true = grind (arith, nat_tests) in rw t refl

cut_octets : (octets : Octets) → 2 ≤ length octets → length octets < 2 + number_of_two octets
    → first_size octets ≡ None
unfolding first_size
cut_octets octets some cut =
    let there : nat_lt (length octets) 2 ≡ false = grind (arith, nat_tests) in
    let short : nat_lt (length octets) (2 + number_of_two octets) ≡ true = grind (arith, nat_tests) in
    rw (there, short) refl

whole_octets : (octets : Octets) → length octets ≡ 2 + number_of_two octets
    → first_size octets ≡ Some (number_of_two octets)
unfolding first_size
whole_octets octets whole =
    let there : nat_lt (length octets) 2 ≡ false = grind (arith, nat_tests) in
    let long : nat_lt (length octets) (2 + number_of_two octets) ≡ false = grind (arith, nat_tests) in
    rw (there, long) refl

-- the leading number is read from the first two octets
front_number : (front more : Octets) → length front ≡ 2 → number_of_two (front ++ more) ≡ number_of_two front
unfolding number_of_two
front_number [] more two = absurd (omega arith)
front_number (a ∷ []) more two = absurd (omega arith)
front_number (a ∷ b ∷ []) more two = refl
front_number (a ∷ b ∷ c ∷ rest) more two = absurd (omega arith)

-- octets that are as long as the leading number says are a frame
frame_is : (octets : Octets) → All (λ octet. octet < 256) octets → length octets ≡ 2 + number_of_two octets
    → IsFrame octets
frame_is octets below whole =
    let size = number_of_two octets in
    let cut = is_cut octets below in
    let first = messages_more octets size (whole_octets octets whole) in
    let there : length (drop 2 octets) ≡ size = omega (arith, whole, length-drop 2 octets) in
    let message : take size (drop 2 octets) ≡ drop 2 octets = take_all size (drop 2 octets) (omega arith) in
    let behind : drop size (drop 2 octets) ≡ [] = drop_all size (drop 2 octets) (omega arith) in
    let none : messages_in [] ≡ [] = no_message 0 [] none_there in
    let one : messages_in octets ≡ drop 2 octets ∷ [] = first ∙ (rw (message, behind, none) refl) in
    let are : octets ≡ frame (drop 2 octets) ++ cut.part =
    cut.are ∙ (rw (one, append-nil (frame (drop 2 octets))) refl) in
    let long = ap length are ∙ length-append (frame (drop 2 octets)) cut.part in
    let size_is = length-append (two (length (drop 2 octets))) (drop 2 octets) in
    let none_behind : cut.part ≡ [] =
    nil_from_length cut.part (omega (arith, long, size_is, length_two (length (drop 2 octets)), there, whole)) in
    record {
      long = omega arith;
      is = are ∙ (rw (none_behind, append-nil (frame (drop 2 octets))) refl);
      short = (rw one at cut.short).0;
    }

-- octets of a vector
pub octets_below : (octets : Octets) → ((i : ℕ) → i < length octets → get_or octets i 0 < 256)
    → All (λ octet. octet < 256) octets
octets_below octets fits k d inside = subst (λ (n : ℕ). n < 256) (get_or_default octets k 0 d inside) (fits k inside)

-- ---- what was read on
-- fewer octets than the length has
pub short_part : (old octets : Octets) (before after left : Option Octets) → ReadsOn 2 old octets before after left
    → length octets < 2 → IsPart octets left
short_part old octets before after left reads few = record { part = few_octets octets few; ended = reads.ends few }

-- the octets after a length of two octets: they are a frame, or a part of one
pub next_is : (front octets : Octets) (size count : ℕ) (before after left : Option Octets) (whole : Bool)
    → All (λ octet. octet < 256) octets → length front ≡ 2 → size ≡ number_of_two front → count ≡ length octets
    → ReadsOn (2 + size) front octets before after left → nat_eq count (2 + size) ≡ whole → IsNext whole octets left
next_is front octets size count before after left true below two is counts reads test =
    let same : number_of_two octets ≡ number_of_two front =
    ap number_of_two reads.joins.joined ∙ front_number front reads.joins.more two in
    let whole : count ≡ 2 + size = eqb-true count (2 + size) test in
    frame_is octets below (omega (arith, same, whole, is, counts))
next_is front octets size count before after left false below two is counts reads test =
    let same : number_of_two octets ≡ number_of_two front =
    ap number_of_two reads.joins.joined ∙ front_number front reads.joins.more two in
    let other : ¬ (count ≡ 2 + size) = grind (arith, nat_tests) in
    let fewer : length octets < 2 + size = omega (arith, reads.fits, other, counts) in
    let some : 2 ≤ length octets =
    omega (arith, ap length reads.joins.joined, length-append front reads.joins.more, two) in
    record { part = cut_octets octets some (omega (arith, same, is, fewer)); ended = reads.ends fewer }
