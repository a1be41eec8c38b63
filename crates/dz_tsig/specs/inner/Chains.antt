-- Inner: how the code keeps what is known before a message of a signed stream.
use Rattle.std.specs.Prelude.{◌≡◌, ℕ, List, Result, Ok, Err}
use Rattle.dz_name.specs.Words.{Octets}
use Rattle.dz_tsig.specs.Checking.{State, steps}
use Rattle.dz_tsig.specs.inner.Hashing.{IsOf}
use Rattle.dz_tsig.specs.declared.check.Chain.{Chain}
use Rattle.dz_settings.specs.declared.key.Key.{Key}
use Rattle.dz_tsig.specs.declared.fault.TsigFault.{TsigFault}

-- the state of a chain whose MAC is of these octets so far
abbrev pub state_of : Chain → Octets → State
state_of chain digested = record { digested = digested; unsigned = chain.unsigned; time = chain.time }

-- the MAC so far is of the state's octets, and the other numbers are the state's
pub record IsAt (secret : Octets) (state : State) (chain : Chain) : Type 0 where
  pub mac : IsOf chain.mac secret state.digested
  pub unsigned : chain.unsigned ≡ state.unsigned
  pub time : chain.time ≡ state.time

-- what a step gave is what it has to give
abbrev pub Leads : Octets → Result State TsigFault → Result Chain TsigFault → Type 0
Leads secret (Ok state) (Ok chain) = IsAt secret state chain
Leads secret (Ok state) (Err e) = ⊥
Leads secret (Err fault) (Ok chain) = ⊥
Leads secret (Err fault) (Err e) = fault ≡ e

-- from this chain, what is left of a stream leads to what all of it leads to
pub record IsOn (key : Key) (moment : ℕ) (all rest : List Octets) (begin : State) (chain : Chain) : Type 0 where
  pub digested : Octets
  pub mac : IsOf chain.mac key.secret digested
  pub leads : steps key moment (state_of chain digested) rest ≡ steps key moment begin all
