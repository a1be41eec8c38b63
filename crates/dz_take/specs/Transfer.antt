-- Meaning: a transfer that was asked for, and what can come of it.
use Rattle.std.specs.Prelude.{ℕ, Option}
use Rattle.dz_name.specs.Words.{Name, Kind}
use Rattle.dz_name.specs.declared.dns.TheConstants.{TYPE_AXFR, TYPE_IXFR}
use Rattle.dz_zone.specs.Version.{Zone}
use Rattle.dz_take.specs.declared.ask.Ask.{Ask}
use Rattle.dz_take.specs.declared.ask.Ask.TheVariants.{Axfr, Ixfr}
use Rattle.dz_take.specs.declared.outcome.TakeFault.{TakeFault}

-- a transfer: the zone, the form that was asked for, the ID of the query, and the version that is held
pub record Transfer : Type 0 where
  pub apex : Name
  pub ask : Ask
  pub id : ℕ
  pub held : Option Zone

-- what comes of a transfer: the held version is the primary's; a new one; none, and why
pub data Decision : Type 0 where
  up_to_date : Decision
  new : Zone → Decision
  refused : TakeFault → Decision

-- the type of the query's question (RFC 5936 section 2.1, RFC 1995 section 3)
abbrev pub kind_of : Ask → Kind
kind_of Axfr = TYPE_AXFR
kind_of Ixfr = TYPE_IXFR
