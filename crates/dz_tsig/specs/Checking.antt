-- Meaning: which streams of messages are signed with a key (RFC 8945 sections 5.2, 5.3.1 and 5.4).
use Rattle.std.specs.Prelude.{◌≡◌, ℕ, ◌+◌, ◌-◌, Bool, true, false, ◌==◌, ◌&&◌, ◌||◌, not, nat_le, is_none, List, []}
use Rattle.std.specs.Prelude.{◌∷◌, ◌++◌, Option, Some, None, Result, Ok, Err, if◌then◌else◌}
use Rattle.std.specs.Str.{bytes_eq}
use Rattle.dz_name.specs.Words.{Octets}
use Rattle.dz_name.specs.Name.{same_name}
use Rattle.dz_message.specs.Frame.{messages_in}
use Rattle.dz_tsig.specs.Hmac.{hmac}
use Rattle.dz_tsig.specs.Signature.{signature_of}
use Rattle.dz_tsig.specs.Signing.{without_tsig, variables_or_timers, mac_octets}
use Rattle.dz_tsig.specs.Tsig.{Tsig, hmac_sha256}
use Rattle.dz_tsig.specs.declared.check.TheConstants.{UNSIGNED_MOST}
use Rattle.dz_tsig.specs.declared.fault.TsigFault.{TsigFault}
use Rattle.dz_tsig.specs.declared.fault.TsigFault.TheVariants as faults
use Rattle.dz_settings.specs.declared.key.Key.{Key}
use Rattle.dz_tsig.specs.declared.signature.Signature.{Signature}
use Rattle.dz_tsig.specs.declared.signature.Signature.TheVariants.{Absent, Malformed, Present}

-- what is known before a message: what the next MAC covers so far, which begins with the previous MAC and its length;
-- how many unsigned messages are in it; and the previous TSIG's time, none before the first message
pub record State : Type 0 where
  pub digested : Octets
  pub unsigned : ℕ
  pub time : Option ℕ

-- the state before the first message: the MAC before it is that of the request (RFC 8945 section 4.3.1)
abbrev pub first_state : Octets → State
first_state request_mac = record { digested = mac_octets request_mac; unsigned = 0; time = None }

-- a message without a TSIG may be neither the first nor the last, nor follow 99 others in a row (RFC 8945 section
-- 5.3.1)
abbrev pub unsigned_step : Bool → State → Octets → Result State TsigFault
unsigned_step is_last state m =
    if is_none state.time || (is_last || nat_le UNSIGNED_MOST state.unsigned) then Err faults.Missing
    else Ok (record { digested = state.digested ++ m; unsigned = state.unsigned + 1; time = state.time })

-- a TSIG names the key, and HMAC-SHA-256
abbrev pub is_of_key : Key → Tsig → Bool
is_of_key key tsig = same_name tsig.key key.name && same_name tsig.algorithm hmac_sha256

-- the octets that the MAC of a message covers
abbrev pub mac_input : Key → State → Octets → Tsig → Octets
mac_input key state m tsig = state.digested ++ without_tsig m tsig ++ variables_or_timers key.name state.time tsig

-- in the first message the time differs from the moment by at most the fudge; in a later one it isn't less than the
-- previous time
abbrev pub is_timely : ℕ → Option ℕ → Tsig → Bool
is_timely moment None tsig = nat_le (moment - tsig.time) tsig.fudge && nat_le (tsig.time - moment) tsig.fudge
is_timely moment (Some before) tsig = nat_le before tsig.time

-- a message with a TSIG: key, MAC, time and error are judged in this order
abbrev pub signed_step : Key → ℕ → State → Octets → Tsig → Result State TsigFault
signed_step key moment state m tsig =
    if not (is_of_key key tsig) then Err faults.Name
    else if not (bytes_eq tsig.mac (hmac key.secret (mac_input key state m tsig))) then Err faults.Mac
    else if not (is_timely moment state.time tsig) then Err faults.Time
    else if not (tsig.error == 0) then Err faults.Error
    else Ok (record { digested = mac_octets tsig.mac; unsigned = 0; time = Some tsig.time })

-- one message, by its TSIG; one that is malformed is a fault
abbrev pub signature_step : Key → ℕ → Bool → State → Octets → Signature → Result State TsigFault
signature_step key moment is_last state m Absent = unsigned_step is_last state m
signature_step key moment is_last state m Malformed = Err faults.Form
signature_step key moment is_last state m (Present tsig) = signed_step key moment state m tsig

-- one message, and whether it is the last one
unfoldable pub step : Key → ℕ → Bool → State → Octets → Result State TsigFault
step key moment is_last state m = signature_step key moment is_last state m (signature_of m)

-- the steps that follow another one: a fault ends them
abbrev pub then_steps : (State → Result State TsigFault) → Result State TsigFault → Result State TsigFault
then_steps more (Ok state) = more state
then_steps more (Err fault) = Err fault

-- no message follows
abbrev pub none_follows : List Octets → Bool
none_follows [] = true
none_follows (m ∷ ms) = false

-- messages in a row; the fault is that of the first message that has one
unfoldable pub steps : Key → ℕ → State → List Octets → Result State TsigFault
steps key moment state [] = Ok state
steps key moment state (m ∷ ms) =
    then_steps (λ next. steps key moment next ms) (step key moment (none_follows ms) state m)

-- the fault that a step led to, if it led to one
abbrev pub fault_in : Result State TsigFault → Option TsigFault
fault_in (Ok state) = None
fault_in (Err fault) = Some fault

-- the fault of the whole frames of a stream that answers a request with this MAC, none where they are signed with the
-- key. Octets that follow the last whole frame don't count, and without a message there is no fault
unfoldable pub tsig_fault : Key → Octets → Octets → ℕ → Option TsigFault
tsig_fault key mac octets moment = fault_in (steps key moment (first_state mac) (messages_in octets))

-- a call gave exactly this fault, or found none
abbrev pub Tells : {A : Type 0} → Result A TsigFault → Option TsigFault → Type 0
Tells (Ok x) fault = fault ≡ None
Tells (Err e) fault = fault ≡ Some e
