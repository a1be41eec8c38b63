-- Meaning: what is held of a zone, and how long it answers (RFC 1035 section 3.3.13).
use Rattle.std.specs.Prelude.{◌≡◌, ℕ, ◌<◌, ◌^◌, Bool, false, Option}
use Rattle.std.specs.Option.{option_and_then, option_map_or, ForSome}
use Rattle.dz_name.specs.Words.{Name}
use Rattle.dz_record.specs.Record.{soa_of}
use Rattle.dz_record.specs.declared.rr.Soa.{Soa}
use Rattle.dz_timer.specs.Timing as timing
use Rattle.dz_zone.specs.Version.{Zone, apex_soa}

-- what is held of a zone: its name, the moment in seconds of its last refresh, and its version, if there is one
pub record SlotOf : Type 0 where
  pub zone : Name
  pub refreshed : ℕ
  pub version : Option Zone

-- the version has the zone as its apex, and the moment is below 2^40
pub record IsSlot (slot : SlotOf) : Type 0 where
  pub moment : slot.refreshed < 2 ^ 40
  pub apex : ForSome slot.version (λ v. v.apex ≡ slot.zone)

-- the SOA fields of the version that is held
abbrev pub soa_held : SlotOf → Option Soa
soa_held slot = option_and_then soa_of (option_and_then apex_soa slot.version)

-- a version answers until EXPIRE seconds have passed since its last refresh (RFC 1035 section 3.3.13)
abbrev pub is_live : SlotOf → ℕ → Bool
is_live slot moment = option_map_or (λ soa. timing.is_live slot.refreshed soa.expire moment) (soa_held slot) false
