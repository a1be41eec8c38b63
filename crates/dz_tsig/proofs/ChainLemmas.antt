-- What is known before a message of a signed stream, message by message.
use Rattle.std.proofs.Common.{◌≡◌, ℕ, ◌+◌, ◌<◌, Bool, List, [], ◌∷◌, drop, refl, sym, subst, ◌∙◌, ap, arith, Option}
use Rattle.std.proofs.Common.{Some, None, Ok, Err}
use Rattle.std.specs.Prelude.{Result, option_map}
use Rattle.dz_name.specs.Words.{Octets}
use Rattle.dz_message.specs.Frame.{messages_in, frame_at, first_size}
use Rattle.dz_tsig.specs.Checking.{State, first_state, fault_in, step, steps, then_steps, none_follows, tsig_fault}
use Rattle.dz_tsig.specs.Signing.{mac_octets}
use Rattle.dz_tsig.specs.inner.Chains.{Leads, IsAt, IsOn, state_of}
use Rattle.dz_tsig.specs.inner.Hashing.{IsOf}
use Rattle.dz_tsig.specs.declared.check.Chain.{Chain}
use Rattle.dz_tsig.specs.declared.fault.TsigFault.{TsigFault}
use Rattle.dz_settings.specs.declared.key.Key.{Key}

-- ---- what a step gave
pub record Leads_to (secret : Octets) (r : Result State TsigFault) (chain : Chain) : Type 0 where
  pub digested : Octets
  pub mac : IsOf chain.mac secret digested
  pub is : r ≡ Ok (state_of chain digested)

same_state : (state : State) (unsigned : ℕ) (time : Option ℕ) → unsigned ≡ state.unsigned → time ≡ state.time
    → state ≡ record { digested = state.digested; unsigned = unsigned; time = time }
same_state state unsigned time a b = rw (a, b) refl

pub leads_ok : (secret : Octets) (r : Result State TsigFault) (chain : Chain) → Leads secret r (Ok chain)
    → Leads_to secret r chain
leads_ok secret (Ok state) chain at = record {
  digested = state.digested;
  mac = at.mac;
  is = ap Ok (same_state state chain.unsigned chain.time at.unsigned at.time);
}
leads_ok secret (Err fault) chain at = absurd at

pub leads_err : (secret : Octets) (r : Result State TsigFault) (e : TsigFault) → Leads secret r (Err e) → r ≡ Err e
leads_err secret (Ok state) e at = absurd at
leads_err secret (Err fault) e at = ap Err at

-- ---- a frame follows its offset
size_follows : (at : ℕ) (size : Option ℕ) (place : ℕ × ℕ) → option_map (λ n. (at + 2, at + 2 + n)) size ≡ Some place
    → at < place.1
size_follows at None place e = absurd (cc)
size_follows at (Some n) place e =
    let same : (at + 2, at + 2 + n) ≡ place = cc in
    subst (λ (p : ℕ × ℕ). at < p.1) same (omega arith)

pub frame_follows : (octets : Octets) (at : ℕ) (place : ℕ × ℕ) → frame_at octets at ≡ Some place → at < place.1
unfolding frame_at
frame_follows octets at place e = size_follows at (first_size (drop at octets)) place e

-- ---- one message more
pub steps_more : (key : Key) (moment : ℕ) (state : State) (m : Octets) (ms : List Octets) → steps key moment state
    (m ∷ ms) ≡ then_steps (λ next. steps key moment next ms) (step key moment (none_follows ms) state m)
unfolding steps
steps_more key moment state m ms = refl

steps_none : (key : Key) (moment : ℕ) (state : State) → steps key moment state [] ≡ Ok state
unfolding steps
steps_none key moment state = refl

module _ (key : Key) (moment : ℕ) (all rest ms : List Octets) (begin : State) (m : Octets) (chain : Chain)
    (is_last : Bool) (on : IsOn key moment all rest begin chain) (first : rest ≡ m ∷ ms)
    (last : is_last ≡ none_follows ms) where
  step_in : (r : Result State TsigFault) → step key moment is_last (state_of chain on.digested) m ≡ r
      → then_steps (λ next. steps key moment next ms) r ≡ steps key moment begin all
  step_in r e =
      let more : Result State TsigFault → Result State TsigFault = then_steps (λ next. steps key moment next ms) in
      ap more (sym e) ∙ (ap (λ b. more (step key moment b (state_of chain on.digested) m)) last
      ∙ (sym (steps_more key moment (state_of chain on.digested) m ms)
      ∙ (ap (steps key moment (state_of chain on.digested)) (sym first) ∙ on.leads)))

  pub fails : (e : TsigFault) → step key moment is_last (state_of chain on.digested) m ≡ Err e
      → steps key moment begin all ≡ Err e
  fails e s = sym (step_in (Err e) s)

  pub goes_on : (next : Chain) → Leads_to key.secret (step key moment is_last (state_of chain on.digested) m) next
      → IsOn key moment all ms begin next
  goes_on next to =
      record { digested = to.digested; mac = to.mac; leads = step_in (Ok (state_of next to.digested)) to.is }

-- ---- the end
pub ends : (key : Key) (moment : ℕ) (all rest : List Octets) (begin : State)
    (chain : Chain) (on : IsOn key moment all rest begin chain) → rest ≡ []
    → steps key moment begin all ≡ Ok (state_of chain on.digested)
ends key moment all rest begin chain on none = sym on.leads
    ∙ (ap (steps key moment (state_of chain on.digested)) none ∙ steps_none key moment (state_of chain on.digested))

pub fault_there : (key : Key) (mac octets : Octets) (moment : ℕ) (e : TsigFault)
    → steps key moment (first_state mac) (messages_in octets) ≡ Err e → tsig_fault key mac octets moment ≡ Some e
unfolding tsig_fault
fault_there key mac octets moment e is = ap fault_in is

pub no_fault : (key : Key) (mac octets : Octets) (moment : ℕ) (state : State)
    → steps key moment (first_state mac) (messages_in octets) ≡ Ok state → tsig_fault key mac octets moment ≡ None
unfolding tsig_fault
no_fault key mac octets moment state is = ap fault_in is

pub begins : (key : Key) (moment : ℕ) (octets mac : Octets) (chain : Chain) → IsAt key.secret (first_state mac) chain
    → IsOn key moment (messages_in octets) (messages_in (drop 0 octets)) (first_state mac) chain
begins key moment octets mac chain at = record {
  digested = mac_octets mac;
  mac = at.mac;
  leads = ap (λ s. steps key moment s (messages_in octets))
      (sym (same_state (first_state mac) chain.unsigned chain.time at.unsigned at.time));
}
