-- Meaning: what the answer records of a transfer come to (RFC 5936 section 2.2, RFC 1995 section 4).
use Rattle.std.specs.Prelude.{Bool, ◌==◌, ◌&&◌, not, List, [], ◌∷◌, Option, Some, None, if◌then◌else◌}
use Rattle.dz_name.specs.Words.{Name}
use Rattle.dz_record.specs.Record.{Record}
use Rattle.dz_record.specs.Records.{distinct}
use Rattle.dz_serial.specs.Serial.{is_newer}
use Rattle.dz_zone.specs.Valid.{fault_of}
use Rattle.dz_zone.specs.Version.{Zone, zone_of}
use Rattle.dz_zone.specs.declared.fault.ZoneFault.{ZoneFault}
use Rattle.dz_xfr.specs.Apex.{is_apex_soa, serial_of, held_serial}
use Rattle.dz_xfr.specs.Stands.{Reading, more, complete, misfit}
use Rattle.dz_xfr.specs.declared.fault.ShapeFault.TheVariants.{NotSoaFirst}
use Rattle.dz_axfr.specs.Reading as whole
use Rattle.dz_ixfr.specs.Reading as incremental
use Rattle.dz_take.specs.declared.ask.Ask.{Ask}
use Rattle.dz_take.specs.declared.ask.Ask.TheVariants.{Axfr, Ixfr}
use Rattle.dz_take.specs.declared.outcome.TakeFault.TheVariants.{Shape, OldSerial}
use Rattle.dz_take.specs.declared.outcome.TakeFault.TheVariants as faults
use Rattle.dz_take.specs.Transfer.{Transfer, Decision, up_to_date, new, refused}

-- what the serial of the first SOA decides against a held version (RFC 1982 section 3.2): the same is no new version,
-- and one that isn't newer is refused
abbrev pub settled : Option Zone → Record → Option Decision
settled None first = None
settled (Some zone) first =
    if serial_of first == held_serial zone then Some up_to_date
    else if is_newer (held_serial zone) (serial_of first) then None
    else Some (refused (OldSerial (serial_of first)))

-- the version that differences lead on from, where they were asked for
abbrev pub base_of : Ask → Option Zone → Option Zone
base_of Axfr held = None
base_of Ixfr held = held

-- an SOA of the apex with another serial than the first: as the second record it begins the incremental form
abbrev pub is_old_soa : Name → Record → Record → Bool
is_old_soa apex first second = is_apex_soa apex second && not (serial_of second == serial_of first)

-- what holds of the records by the form of their kind: the incremental form where it was asked for and the second
-- record begins it, and else the whole form
abbrev pub reading_of : Name → Option Zone → List Record → Reading
reading_of apex None records = whole.reading_of apex records
reading_of apex (Some zone) [] = whole.reading_of apex []
reading_of apex (Some zone) (first ∷ []) = whole.reading_of apex (first ∷ [])
reading_of apex (Some zone) (first ∷ second ∷ rest) =
    if is_old_soa apex first second then incremental.reading_of zone (first ∷ second ∷ rest)
    else whole.reading_of apex (first ∷ second ∷ rest)

-- the records of a complete form make a zone, or there is a first fault
abbrev pub checked : Name → List Record → Option ZoneFault → Decision
checked apex records None = new (zone_of apex records)
checked apex records (Some fault) = refused (faults.Zone fault)

-- what a reading decides; none: more is to come
abbrev pub decision_of : Name → Reading → Option Decision
decision_of apex more = None
decision_of apex (complete zone) = Some (checked apex zone (fault_of apex (distinct zone)))
decision_of apex (misfit fault) = Some (refused (Shape fault))

-- a decision, or another one where there is none
abbrev pub or_else : Option Decision → Option Decision → Option Decision
or_else (Some decision) other = Some decision
or_else None other = other

-- what all answer records so far decide; none: more is to come
unfoldable pub form : Transfer → List Record → Option Decision
form transfer [] = Some (refused (Shape NotSoaFirst))
form transfer (first ∷ rest) =
    if is_apex_soa transfer.apex first
    then or_else (settled transfer.held first)
    (decision_of transfer.apex (reading_of transfer.apex (base_of transfer.ask transfer.held) (first ∷ rest)))
    else Some (refused (Shape NotSoaFirst))
