-- Judge: what can come of a transfer.
use Rattle.std.specs.Prelude.{◌≡◌, ⊤, IsSome}
use Rattle.dz_name.specs.Words.{Octets}
use Rattle.dz_take.specs.Outcome.{outcome}
use Rattle.dz_take.specs.Transfer.{Transfer, Decision, up_to_date, new, refused}

-- the held version can be the primary's only where one is held, and a new one is of the zone that was asked for
abbrev pub Fits : Transfer → Decision → Type 0
Fits transfer up_to_date = IsSome transfer.held
Fits transfer (new zone) = zone.apex ≡ transfer.apex
Fits transfer (refused fault) = ⊤

-- the outcome of any octets fits the transfer
abbrev pub OutcomesFit : Type 0
OutcomesFit = (transfer : Transfer) (octets : Octets) → Fits transfer (outcome transfer octets)
