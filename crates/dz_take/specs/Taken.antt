-- Meaning: a transfer, the octets that were read of it, and what an outcome in memory says.
use Rattle.std.specs.Prelude.{⊤, ◌≡◌, ℕ, [], length, Option, Some, None, IsSome}
use Rattle.std.specs.Option.{ForSome}
use Rattle.std.specs.Arc.{arc_value}
use Rattle.dz_name.specs.Words.{Name, Octets}
use Rattle.dz_zone.specs.Version.{Zone}
use Rattle.dz_xfr.specs.declared.fault.Progress.{Progress}
use Rattle.dz_xfr.specs.declared.fault.Progress.TheVariants as progress
use Rattle.dz_zonemd.specs.Standing.{standing}
use Rattle.dz_zonemd.specs.declared.acceptance.Standing.{Standing}
use Rattle.dz_take.specs.declared.ask.Ask.{Ask}
use Rattle.dz_take.specs.declared.ask.Ask.TheVariants.{Axfr, Ixfr}
use Rattle.dz_take.specs.declared.outcome.Outcome.{Outcome}
use Rattle.dz_take.specs.declared.outcome.Outcome.TheVariants.{UpToDate, New, Refused}
use Rattle.dz_take.specs.Outcome.{outcome, octets_used}
use Rattle.dz_take.specs.Transfer.{Transfer, Decision, up_to_date, new, refused}

-- a transfer, and its octets so far: the messages that were read, each preceded by its length
pub record Taken : Type 0 where
  pub transfer : Transfer
  pub octets : Octets

-- a transfer of which nothing was read
abbrev pub nothing_read : Name → Ask → ℕ → Option Zone → Taken
nothing_read apex ask id held =
    record { transfer = record { apex = apex; ask = ask; id = id; held = held }; octets = [] }

-- a held version is of the zone
abbrev pub IsOfZone : Name → Option Zone → Type 0
IsOfZone apex None = ⊤
IsOfZone apex (Some zone) = zone.apex ≡ apex

-- differences are asked for only where a version is held
abbrev pub CanAsk : Ask → Option Zone → Type 0
CanAsk Axfr held = ⊤
CanAsk Ixfr held = IsSome held

-- a transfer that can be asked for
pub record IsTransfer (transfer : Transfer) : Type 0 where
  pub held : IsOfZone transfer.apex transfer.held
  pub asks : CanAsk transfer.ask transfer.held

-- an outcome, without where its version is in memory
abbrev pub meaning_of : Outcome → Decision
meaning_of UpToDate = up_to_date
meaning_of (New version) = new (arc_value version)
meaning_of (Refused fault) = refused fault

-- a progress says whether something is decided
abbrev pub Shows : Progress → Option Decision → Type 0
Shows progress.More decision = decision ≡ None
Shows progress.Ended decision = IsSome decision

-- what the ZONEMD records of a new version say of it; nothing where there is no new version
abbrev pub standing_of : Decision → Option Standing
standing_of up_to_date = None
standing_of (new zone) = Some (standing zone.apex zone.records)
standing_of (refused fault) = None

-- what came of a transfer is the outcome of its octets, and all of them are used; what is kept of the ZONEMD records
-- is what they say
pub record IsFinished (transfer : Transfer) (octets : Octets) (result : Outcome)
    (shown : Option Standing) : Type 0 where
  pub outcome : meaning_of result ≡ outcome transfer octets
  pub used : octets_used transfer octets ≡ length octets
  pub standing : ForSome shown (λ s. standing_of (meaning_of result) ≡ Some s)
