-- Meaning: jobs of a secondary, each the transfer of a zone from one of its primaries.
use Rattle.std.specs.Prelude.{ℕ, ◌<◌, ◌^◌, Option}
use Rattle.std.specs.Option.{ForSome, option_map, option_map_or, option_and_then}
use Rattle.dz_name.specs.Words.{Octets}
use Rattle.dz_record.specs.Record.{soa_of}
use Rattle.dz_record.specs.declared.rr.Soa.{Soa}
use Rattle.dz_zone.specs.Version.{Zone, apex_soa}
use Rattle.dz_take.specs.Taken.{IsOfZone, CanAsk}
use Rattle.dz_take.specs.Transfer.{Transfer}
use Rattle.dz_settings.specs.Key.{IsKey}
use Rattle.dz_settings.specs.declared.key.Key.{Key}
use Rattle.dz_history.specs.declared.entry.Taken.{Taken}
use Rattle.dz_job.specs.declared.flight.Flight.{Flight}

-- a job: what is asked of which primary at which moment, the version that was held then, and the key of its catalog
pub record JobOf : Type 0 where
  pub flight : Flight
  pub held : Option Zone
  pub key : Option Key

-- differences are asked for only where a version is held, which is of the job's zone, and the moment is below 2^40
pub record IsJob (job : JobOf) : Type 0 where
  pub own : IsOfZone job.flight.zone job.held
  pub asks : CanAsk job.flight.ask job.held
  pub moment : job.flight.moment < 2 ^ 40

-- a job as it is kept: its key can be used
pub record IsReady (job : JobOf) : Type 0 where
  pub valid : IsJob job
  pub usable : ForSome job.key IsKey

-- the transfer that a job asks for
abbrev pub transfer_for : JobOf → Transfer
transfer_for job = record { apex = job.flight.zone; ask = job.flight.ask; id = job.flight.id; held = job.held }

-- the entry in the history that records the transfer, where these octets are taken
abbrev pub taken_for : JobOf → Octets → Taken
taken_for job octets = record {
  zone = job.flight.zone;
  incarnation = job.flight.incarnation;
  ask = job.flight.ask;
  id = job.flight.id;
  octets = octets;
  moment = job.flight.moment;
}

-- the SOA of a version that is held
abbrev pub soa_in : Option Zone → Option Soa
soa_in held = option_and_then (λ zone. option_and_then soa_of (apex_soa zone)) held

-- its serial; 0 where no version is held
abbrev pub serial_in : Option Zone → ℕ
serial_in held = option_map_or (λ soa. soa.serial) (soa_in held) 0

-- its REFRESH, in seconds; 0 where no version is held
abbrev pub refresh_in : Option Zone → ℕ
refresh_in held = option_map_or (λ soa. soa.refresh) (soa_in held) 0

-- its RETRY, in seconds
abbrev pub retry_in : Option Zone → Option ℕ
retry_in held = option_map (λ soa. soa.retry) (soa_in held)
