-- A stream whose messages are signed passes.
use Rattle.std.proofs.Common.{◌≡◌, ℕ, ◌-◌, ◌^◌, ◌<◌, ◌≤◌, Bool, true, false, List, [], ◌∷◌, ◌++◌, length, drop, refl}
use Rattle.std.proofs.Common.{sym, ◌∙◌, ap, arith, length-drop, Option, Some, None, Ok}
use Rattle.std.specs.Prelude.{nat_le, if◌then◌else◌}
use Rattle.std.specs.List.{AllByRecursion}
use Rattle.std.specs.Str.{bytes_eq}
use Rattle.std.proofs.lemmas.Bool.Decides.{nat_tests}
use Rattle.std.proofs.lemmas.List.{append-nil}
use Rattle.std.proofs.lemmas.List.Elements.{All-drop}
use Rattle.std.proofs.lemmas.Slice.Eq.{bytes_eq-Decides}
use Rattle.dz_tsig.proofs.NumberLemmas.{hmac_long}
use Rattle.dz_name.specs.Words.{Octets}
use Rattle.dz_name.specs.Name.{IsName}
use Rattle.dz_name.specs.Order.{same_decides}
use Rattle.dz_name.specs.Numbers.{number_of_two}
use Rattle.dz_message.specs.Frame.{stream, messages_in, AreShort}
use Rattle.dz_message.proofs.FrameLemmas.{come_back, none_there}
use Rattle.dz_tsig.specs.Checking.{State, first_state, is_timely, is_of_key, step, steps, mac_input, then_steps}
use Rattle.dz_tsig.specs.Checking.{none_follows, tsig_fault}
use Rattle.dz_tsig.specs.Hmac.{hmac}
use Rattle.dz_tsig.specs.Laws.{IsPlain}
use Rattle.dz_tsig.specs.Signing.{mac_octets, with_tsig, variables_or_timers}
use Rattle.dz_tsig.specs.Streams.{next_mac, own_variables_or_timers, signed_from, signed_messages}
use Rattle.dz_tsig.specs.Tsig.{Tsig, hmac_sha256}
use Rattle.dz_settings.specs.declared.key.Key.{Key}
use Rattle.dz_tsig.proofs.ChainLemmas.{no_fault, steps_more}
use Rattle.dz_tsig.proofs.LawLemmas.{step_is}
use Rattle.dz_tsig.proofs.WithTsigLemmas.{header_there, with_tsig_signature, with_tsig_without, two_octets, two_small}

-- ---- what is known before a message of a signed stream
abbrev time_of : ℕ → Bool → Option ℕ
time_of moment is_first = if is_first then None else Some moment

abbrev state_at : ℕ → Bool → Octets → State
state_at moment is_first prior = record { digested = mac_octets prior; unsigned = 0; time = time_of moment is_first }

abbrev shown_tsig : Key → ℕ → Octets → Octets → Tsig
shown_tsig key moment mac m = record {
  at = length m;
  key = key.name;
  algorithm = hmac_sha256;
  time = moment;
  fudge = 300;
  mac = mac;
  id = number_of_two m;
  error = 0;
  other = [];
}

same_variables : (key : Key) (moment : ℕ) (is_first : Bool) (mac m : Octets) → variables_or_timers key.name
    (time_of moment is_first) (shown_tsig key moment mac m) ≡ own_variables_or_timers key moment is_first
same_variables key moment true mac m = refl
same_variables key moment false mac m = refl

timely : (key : Key) (moment : ℕ) (is_first : Bool) (mac m : Octets)
    → is_timely moment (time_of moment is_first) (shown_tsig key moment mac m) ≡ true
timely key moment true mac m = let t : nat_le (moment - moment) 300 ≡ true = grind (arith, nat_tests) in rw t refl
timely key moment false mac m = grind (arith, nat_tests)

by_key : (key : Key) (moment : ℕ) (mac m : Octets) → is_of_key key (shown_tsig key moment mac m) ≡ true
by_key key moment mac m =
    rw ((same_decides key.name key.name).1 refl, (same_decides hmac_sha256 hmac_sha256).1 refl) refl

module _ (key : Key) (is : IsName key.name) (moment : ℕ) (small : moment < 2 ^ 48) where
  -- ---- one message
  module _ (is_first : Bool) (prior m : Octets) (plain : IsPlain m) where
    abbrev mac : Octets
    mac = next_mac key moment is_first prior m

    mac_long : length mac ≡ 32
    unfolding next_mac
    mac_long = hmac_long key.secret _

    header : 12 ≤ length m
    header = header_there m plain.unsigned

    id_small : number_of_two m < 2 ^ 16
    id_small = two_small m plain.below (omega (arith, header))

    text_same : mac_input key (state_at moment is_first prior) (with_tsig key.name moment mac m)
        (shown_tsig key moment mac m) ≡ mac_octets prior ++ m ++ own_variables_or_timers key moment is_first
    text_same =
        let ends : 2 ≤ length (drop 10 m) = omega (arith, header, length-drop 10 m) in
        let own = with_tsig_without key.name is moment small mac mac_long m header id_small plain.room
        (two_octets m plain.below (omega (arith, header)))
        (two_octets (drop 10 m) (All-drop (λ o. o < 2 ^ 8) 10 m plain.below) ends) in
        ap (λ o. mac_octets prior ++ o
        ++ variables_or_timers key.name (time_of moment is_first) (shown_tsig key moment mac m)) own
        ∙ ap (λ o. mac_octets prior ++ m ++ o) (same_variables key moment is_first mac m)

    mac_same : hmac key.secret (mac_input key (state_at moment is_first prior) (with_tsig key.name moment mac m)
        (shown_tsig key moment mac m)) ≡ mac
    unfolding next_mac
    mac_same = ap (hmac key.secret) text_same

    step_passes : (is_last : Bool) → step key moment is_last (state_at moment is_first prior)
        (with_tsig key.name moment mac m) ≡ Ok (state_at moment false mac)
    step_passes is_last =
        let marked =
        with_tsig_signature key.name is moment small mac mac_long m header id_small plain.room plain.unsigned in
        let code : bytes_eq mac (hmac key.secret (mac_input key (state_at moment is_first prior)
        (with_tsig key.name moment mac m) (shown_tsig key moment mac m))) ≡ true =
        (bytes_eq-Decides mac _).1 (sym mac_same) in
        step_is key moment is_last (state_at moment is_first prior) (with_tsig key.name moment mac m)
        (shown_tsig key moment mac m) marked
        ∙ (rw (by_key key moment mac m, code, timely key moment is_first mac m) refl)

  -- ---- all messages
  record Passes (state : State) (ms : List Octets) : Type 0 where
    last : State
    is_ok : steps key moment state ms ≡ Ok last

  passes_one : (is_first : Bool) (prior m : Octets) (ms : List Octets) (plain : IsPlain m)
      → Passes (state_at moment false (next_mac key moment is_first prior m)) ms
      → Passes (state_at moment is_first prior)
      (with_tsig key.name moment (next_mac key moment is_first prior m) m ∷ ms)
  passes_one is_first prior m ms plain more = record {
    last = more.last;
    is_ok = steps_more key moment (state_at moment is_first prior)
        (with_tsig key.name moment (next_mac key moment is_first prior m) m) ms
        ∙ (ap (then_steps (λ next. steps key moment next ms)) (step_passes is_first prior m plain (none_follows ms))
        ∙ more.is_ok);
  }

  pass_all : (ms : List Octets) (is_first : Bool) (prior : Octets) → AllByRecursion IsPlain ms
      → Passes (state_at moment is_first prior) (signed_from key moment is_first prior ms)
  unfolding signed_from steps
  pass_all [] is_first prior plain = record { last = state_at moment is_first prior; is_ok = refl }
  pass_all (m ∷ ms) is_first prior plain =
      passes_one is_first prior m (signed_from key moment false (next_mac key moment is_first prior m) ms) plain.0
      (pass_all ms false (next_mac key moment is_first prior m) plain.1)

  pub signed_have_none : (request : Octets) (ms : List Octets)
      → AllByRecursion IsPlain ms → AreShort (signed_messages key moment request ms)
      → tsig_fault key request (stream (signed_messages key moment request ms)) moment ≡ None
  signed_have_none request ms plain short =
      let signed = signed_messages key moment request ms in
      let passes = pass_all ms true request plain in
      let back : messages_in (stream signed) ≡ signed =
      ap messages_in (sym (append-nil (stream signed))) ∙ come_back _ signed [] (omega arith) short none_there in
      no_fault key request (stream signed) moment passes.last
      (ap (steps key moment (first_state request)) back ∙ passes.is_ok)
