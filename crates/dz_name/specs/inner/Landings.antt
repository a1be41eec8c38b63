-- Inner: where chains of pointers end, each of which leads to another (RFC 1035 section 4.1.4).
use Rattle.std.specs.Prelude.{◌≡◌, ℕ, ◌+◌, ◌<◌, ◌≤◌, List, length, slice_index, nat_lt, if◌then◌else◌}
use Rattle.dz_name.specs.Reading.{target_at}
use Rattle.dz_name.specs.Words.{Octets}

-- the pointer at an offset leads to this earlier offset
pub record LeadsTo (m : Octets) (at target : ℕ) : Type 0 where
  pub within : at + 1 < length m
  pub pointer : 192 ≤ slice_index m at
  pub target_is : target_at m at ≡ target
  pub before : target < at

-- there is a pointer at an offset that leads to an earlier one
abbrev pub LeadsOn : Octets → ℕ → Type 0
LeadsOn m at = (target : ℕ) × LeadsTo m at target

-- pointers lead from one offset to the other, in zero or more steps
pub data Lands (m : Octets) : ℕ → ℕ → Type 0 where
  stays : {at : ℕ} → Lands m at at
  goes_on : {at target end : ℕ} → LeadsTo m at target → Lands m target end → Lands m at end

-- a table of where the chains of pointers end: pointers lead there, and no further
pub record AreLandings (m : Octets) (landings : List ℕ) : Type 0 where
  pub led : (at : ℕ) → at < length landings → Lands m at (slice_index landings at)
  pub ended : (at : ℕ) → at < length landings → ¬ LeadsOn m (slice_index landings at)

-- where a pointer leads in the end, according to the table
abbrev pub landing_in : List ℕ → ℕ → ℕ
landing_in landings target = if nat_lt target (length landings) then slice_index landings target else target

-- no pointer leads to a pointer that leads on
abbrev pub HasNoChain : Octets → Type 0
HasNoChain m = (at target : ℕ) → LeadsTo m at target → ¬ LeadsOn m target

-- where pointers lead according to the table, no pointer leads on
abbrev pub EndsChains : Octets → List ℕ → Type 0
EndsChains m landings = (at target : ℕ) → LeadsTo m at target → ¬ LeadsOn m (landing_in landings target)

-- a table that tells of each pointer where its chain ends
pub record IsTable (m : Octets) (landings : List ℕ) : Type 0 where
  pub are : AreLandings m landings
  pub ends : EndsChains m landings
