-- Judge: laws of signed streams.
use Rattle.std.specs.Prelude.{◌++◌, ◌∷◌, ◌≡◌, ◌≢◌, ℕ, ◌<◌, ◌^◌, List, drop, None, Some}
use Rattle.std.specs.List.{All, AllByRecursion}
use Rattle.dz_name.specs.Words.{Octets}
use Rattle.dz_name.specs.Name.{IsName}
use Rattle.dz_name.specs.Numbers.{number_of_two}
use Rattle.dz_message.specs.Frame.{stream, AreShort}
use Rattle.dz_tsig.specs.Checking.{tsig_fault}
use Rattle.dz_tsig.specs.Signature.{signature_of}
use Rattle.dz_tsig.specs.Signing.{without_tsig}
use Rattle.dz_tsig.specs.Streams.{signed_messages}
use Rattle.dz_tsig.specs.Tsig.{Tsig}
use Rattle.dz_tsig.specs.declared.fault.TsigFault.TheVariants as faults
use Rattle.dz_settings.specs.declared.key.Key.{Key}
use Rattle.dz_tsig.specs.declared.signature.Signature.TheVariants.{Absent, Present}

-- a message without a TSIG whose count of additional records can grow by one
pub record IsPlain (m : Octets) : Type 0 where
  pub below : All (λ octet. octet < 2 ^ 8) m
  pub unsigned : signature_of m ≡ Absent
  pub room : number_of_two (drop 10 m) < 65535

-- what is signed has no fault at its moment
abbrev pub SignedHasNoFault : Type 0
SignedHasNoFault = (key : Key) (mac : Octets) (moment : ℕ) (ms : List Octets) → IsName key.name → moment < 2 ^ 48
    → AllByRecursion IsPlain ms
    → AreShort (signed_messages key moment mac ms)
    → tsig_fault key mac (stream (signed_messages key moment mac ms)) moment ≡ None

-- a stream without a fault has the fault Mac once the TSIG of a message has another MAC, whatever messages follow it
abbrev pub ChangedMacIsFound : Type 0
ChangedMacIsFound = (key : Key) (request : Octets) (moment : ℕ) (earlier later others : List Octets) (m other : Octets)
    (tsig : Tsig) (mac : Octets)
    → AreShort (earlier ++ m ∷ later) → AreShort (earlier ++ other ∷ others)
    → tsig_fault key request (stream (earlier ++ m ∷ later)) moment ≡ None
    → signature_of m ≡ Present tsig → signature_of other ≡ Present (record tsig { mac = mac })
    → without_tsig other (record tsig { mac = mac }) ≡ without_tsig m tsig → mac ≢ tsig.mac
    → tsig_fault key request (stream (earlier ++ other ∷ others)) moment ≡ Some faults.Mac
