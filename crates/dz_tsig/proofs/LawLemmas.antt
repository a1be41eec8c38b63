-- A message that passes doesn't with another MAC.
use Rattle.std.proofs.Common.{◌≡◌, ◌≢◌, ℕ, Bool, true, false, List, [], ◌∷◌, ◌++◌, arith, refl, sym, ◌∙◌, ap, Option}
use Rattle.std.proofs.Common.{Some, None, Ok, Err}
use Rattle.std.specs.Prelude.{Result, not, ◌==◌, if◌then◌else◌}
use Rattle.std.specs.Str.{bytes_eq}
use Rattle.std.proofs.lemmas.Slice.Eq.{bytes_eq-Decides}
use Rattle.dz_name.specs.Words.{Name, Octets}
use Rattle.dz_tsig.specs.Checking.{State, first_state, fault_in, is_of_key, is_timely, none_follows, signed_step, step}
use Rattle.dz_tsig.specs.Checking.{steps, mac_input, then_steps, tsig_fault}
use Rattle.dz_message.specs.Frame.{AreShort, messages_in, stream}
use Rattle.dz_message.proofs.FrameLemmas.{come_back, none_there}
use Rattle.std.proofs.lemmas.List.{append-nil}
use Rattle.dz_tsig.proofs.ChainLemmas.{steps_more}
use Rattle.dz_tsig.specs.Hmac.{hmac}
use Rattle.dz_tsig.specs.Signature.{signature_of}
use Rattle.dz_tsig.specs.Signing.{variables_or_timers, without_tsig}
use Rattle.dz_tsig.specs.Tsig.{Tsig}
use Rattle.dz_tsig.specs.declared.fault.TsigFault.{TsigFault}
use Rattle.dz_tsig.specs.declared.fault.TsigFault.TheVariants as faults
use Rattle.dz_settings.specs.declared.key.Key.{Key}
use Rattle.dz_tsig.specs.declared.signature.Signature.TheVariants.{Present}

pub step_is : (key : Key) (moment : ℕ) (is_last : Bool) (state : State) (m : Octets) (tsig : Tsig)
    → signature_of m ≡ Present tsig → step key moment is_last state m ≡ signed_step key moment state m tsig
unfolding step
step_is key moment is_last state m tsig e = rw e refl

passes : (a b c d : Bool) (next : State) (r : Result State TsigFault)
    → (if not a then Err faults.Name else if not b then Err faults.Mac else if not c then Err faults.Time else if not d
    then Err faults.Error else r) ≡ Ok next → (a ≡ true) × (b ≡ true)
passes false b c d next r e = absurd (cc)
passes true false c d next r e = absurd (cc)
passes true true c d next r e = (refl, refl)

same_variables : (key : Name) (time : Option ℕ) (tsig : Tsig) (mac : Octets)
    → variables_or_timers key time (record tsig { mac = mac }) ≡ variables_or_timers key time tsig
same_variables key None tsig mac = refl
same_variables key (Some before) tsig mac = refl

differs : (a b : Octets) → a ≢ b → bytes_eq a b ≡ false
differs a b ne = elim (bytes_eq a b) as (λ t. bytes_eq a b ≡ t → bytes_eq a b ≡ false) [
  | true ↦ λ e. absurd (ne ((bytes_eq-Decides a b).0 e))
  | false ↦ λ e. e
] refl

pub changed_step : (key : Key) (moment : ℕ) (is_last was_last : Bool) (state next : State) (m other : Octets)
    (tsig : Tsig) (mac : Octets) → signature_of m ≡ Present tsig → step key moment was_last state m ≡ Ok next
    → signature_of other ≡ Present (record tsig { mac = mac }) → without_tsig other (record tsig { mac = mac })
    ≡ without_tsig m tsig → mac ≢ tsig.mac → step key moment is_last state other ≡ Err faults.Mac
changed_step key moment is_last was_last state next m other tsig mac e s f same ne =
    let own : signed_step key moment state m tsig ≡ Ok next = sym (step_is key moment was_last state m tsig e) ∙ s in
    let p = passes (is_of_key key tsig) (bytes_eq tsig.mac (hmac key.secret (mac_input key state m tsig)))
    (is_timely moment state.time tsig) (tsig.error == 0) next _ own in
    let is : tsig.mac ≡ hmac key.secret (mac_input key state m tsig) =
    (bytes_eq-Decides tsig.mac (hmac key.secret (mac_input key state m tsig))).0 p.1 in
    let text : mac_input key state other (record tsig { mac = mac }) ≡ mac_input key state m tsig =
    ap (λ o. state.digested ++ o ++ variables_or_timers key.name state.time (record tsig { mac = mac })) same
    ∙ ap (λ o. state.digested ++ without_tsig m tsig ++ o) (same_variables key.name state.time tsig mac) in
    let code : hmac key.secret (mac_input key state other (record tsig { mac = mac })) ≡ tsig.mac =
    ap (hmac key.secret) text ∙ sym is in
    let wrong : bytes_eq mac (hmac key.secret (mac_input key state other (record tsig { mac = mac }))) ≡ false =
    ap (bytes_eq mac) code ∙ differs mac tsig.mac ne in
    step_is key moment is_last state other (record tsig { mac = mac }) f ∙ (rw (p.0, wrong) refl)

-- ---- in a stream
none_mid : (fs : List Octets) (x : Octets) (xs : List Octets) → none_follows (fs ++ x ∷ xs) ≡ false
none_mid [] x xs = refl
none_mid (f ∷ fs) x xs = refl

record Goes (key : Key) (moment : ℕ) (ms : List Octets) (r : Result State TsigFault) (last : State) : Type 0 where
  next : State
  is : r ≡ Ok next
  on : steps key moment next ms ≡ Ok last

goes : (key : Key) (moment : ℕ) (ms : List Octets) (r : Result State TsigFault) (last : State)
    → then_steps (λ next. steps key moment next ms) r ≡ Ok last → Goes key moment ms r last
goes key moment ms (Ok next) last e = record { next = next; is = refl; on = e }
goes key moment ms (Err fault) last e = absurd (cc)

module _ (key : Key) (moment : ℕ) (later others : List Octets) (m other : Octets) (tsig : Tsig) (mac : Octets)
    (own : signature_of m ≡ Present tsig) (its : signature_of other ≡ Present (record tsig { mac = mac }))
    (same : without_tsig other (record tsig { mac = mac }) ≡ without_tsig m tsig) (ne : mac ≢ tsig.mac) where
  found_from : (earlier : List Octets) (state last : State) → steps key moment state (earlier ++ m ∷ later) ≡ Ok last
      → steps key moment state (earlier ++ other ∷ others) ≡ Err faults.Mac
  found_from [] state last e =
      let g = goes key moment later (step key moment (none_follows later) state m) last
      (sym (steps_more key moment state m later) ∙ e) in
      let f = changed_step key moment (none_follows others)
      (none_follows later) state g.next m other tsig mac own g.is its same ne in
      steps_more key moment state other others ∙ ap (then_steps (λ next. steps key moment next others)) f
  found_from (f ∷ fs) state last e =
      let g = goes key moment (fs ++ m ∷ later) (step key moment (none_follows (fs ++ m ∷ later)) state f) last
      (sym (steps_more key moment state f (fs ++ m ∷ later)) ∙ e) in
      let is_last : none_follows (fs ++ other ∷ others) ≡ none_follows (fs ++ m ∷ later) =
      none_mid fs other others ∙ sym (none_mid fs m later) in
      let s : step key moment (none_follows (fs ++ other ∷ others)) state f ≡ Ok g.next =
      ap (λ b. step key moment b state f) is_last ∙ g.is in
      steps_more key moment state f (fs ++ other ∷ others)
      ∙ (ap (then_steps (λ next. steps key moment next (fs ++ other ∷ others))) s ∙ found_from fs g.next last g.on)

fault_none : (r : Result State TsigFault) → fault_in r ≡ None → (last : State) × (r ≡ Ok last)
fault_none (Ok last) e = (last, refl)
fault_none (Err f) e = absurd (cc)

back : (ms : List Octets) → AreShort ms → messages_in (stream ms) ≡ ms
back ms short = ap messages_in (sym (append-nil (stream ms))) ∙ come_back _ ms [] (omega arith) short none_there

pub changed_mac : (key : Key) (request : Octets) (moment : ℕ) (earlier later others : List Octets) (m other : Octets)
    (tsig : Tsig) (mac : Octets) → AreShort (earlier ++ m ∷ later) → AreShort (earlier ++ other ∷ others)
    → tsig_fault key request (stream (earlier ++ m ∷ later)) moment ≡ None
    → signature_of m ≡ Present tsig → signature_of other ≡ Present (record tsig { mac = mac })
    → without_tsig other (record tsig { mac = mac }) ≡ without_tsig m tsig → mac ≢ tsig.mac
    → tsig_fault key request (stream (earlier ++ other ∷ others)) moment ≡ Some faults.Mac
unfolding tsig_fault
changed_mac key request moment earlier later others m other tsig mac short shorter none own its same ne =
    let was = fault_none (steps key moment (first_state request) (earlier ++ m ∷ later))
    (ap (λ ms. fault_in (steps key moment (first_state request) ms)) (sym (back (earlier ++ m ∷ later) short))
    ∙ none) in
    let found = found_from key moment later others m other tsig mac own its same ne earlier
    (first_state request) was.0 was.1 in
    ap fault_in (ap (steps key moment (first_state request)) (back (earlier ++ other ∷ others) shorter) ∙ found)
