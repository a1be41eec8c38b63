-- Meaning: what a call does to what a device reports, its octets or its packets and links, and how its count of faults
-- shows a failed call. A device that doesn't report them has None.
use Rattle.std.specs.Prelude.{◌≡◌, ◌≤◌, ℕ, List, [], ◌++◌, length, take, Option, option_map, IfSome, Result, OnOk}
use Rattle.std.specs.Prelude.{IsErr, IsErrOf}
use Rattle.dz_io.specs.Counts.{HasRisen}

-- these octets were taken from the beginning of what was left
abbrev pub Gives : List ℕ → Option (List ℕ) → Option (List ℕ) → Type 0
Gives octets before after = before ≡ option_map (λ rest. octets ++ rest) after

-- these octets were appended to what was held; likewise for packets, links and moments
abbrev pub Gains : {A : Type 0} → List A → Option (List A) → Option (List A) → Type 0
Gains octets before after = after ≡ option_map (λ held. held ++ octets) before

-- a prefix of these octets was appended to what was held
abbrev pub GainsPrefix : List ℕ → Option (List ℕ) → Option (List ℕ) → Type 0
GainsPrefix octets before after = (n : ℕ) × (n ≤ length octets) × Gains (take n octets) before after

-- where it is reported, it is this
abbrev pub Tells : {A : Type 0} → A → Option A → Type 0
Tells what told = IfSome told (λ held. held ≡ what)

-- nothing is left
abbrev pub IsAtEnd : Option (List ℕ) → Type 0
IsAtEnd left = IfSome left (λ rest. rest ≡ [])

-- the half of a device that is read from: the octets that it gave, and those that are left
pub record Reads : Type 0 where
  pub given : Option (List ℕ)
  pub left : Option (List ℕ)

-- the count of faults didn't fall in a call, it is the same where the call is Ok, and it rose where the call failed
pub record HasCause {T E : Type 0} (before now : ℕ) (result : Result T E) : Type 0 where
  pub later : before ≤ now
  pub kept : OnOk result (now ≡ before)
  pub failed : IsErr result → HasRisen before now

-- the same for a call with several errors: the count rose where the result is this one of them
pub record HasCauseOf {T E : Type 0} (before now : ℕ) (result : Result T E) (error : E) : Type 0 where
  pub later : before ≤ now
  pub kept : OnOk result (now ≡ before)
  pub failed : IsErrOf result error → HasRisen before now
