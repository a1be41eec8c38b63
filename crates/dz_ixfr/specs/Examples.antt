-- Judge: lists of records as the incremental form reads them, computed by the checker.
use Rattle.std.specs.Prelude.{◌≡◌, refl, [], ◌∷◌, codes, ℕ}
use Rattle.dz_name.specs.Numbers.{number_of_four}
use Rattle.dz_name.specs.Words.{Name, Kind, Octets}
use Rattle.dz_name.specs.declared.dns.TheConstants.{TYPE_A, TYPE_NS, TYPE_SOA}
use Rattle.dz_record.specs.Record.{Record}
use Rattle.dz_record.specs.Records.{insertion}
use Rattle.dz_zone.specs.Version.{Zone}
use Rattle.dz_xfr.specs.Stands.{more, complete, misfit}
use Rattle.dz_xfr.specs.declared.fault.ShapeFault.TheVariants.{NotSoaFirst, AfterEnd, SerialGap, DeleteMissing}
use Rattle.dz_xfr.specs.declared.fault.ShapeFault.TheVariants.{AddPresent}
use Rattle.dz_ixfr.specs.Reading.{reading_of}

-- the apex zone.
abbrev apex : Name
apex = codes "zone" ∷ []

-- a record of this type, owner name and RDATA, with a TTL of 3600
abbrev record_of : Kind → Name → Octets → Record
record_of kind owner rdata = record { owner = owner; kind = kind; ttl = 3600; rdata = rdata }

-- an SOA of this serial, below 256, whose last number is `minimum`
abbrev soa_with : ℕ → ℕ → Record
soa_with serial minimum = record_of TYPE_SOA apex
    (0 ∷ 0 ∷ 0 ∷ 0 ∷ serial ∷ 0 ∷ 0 ∷ 0 ∷ 0 ∷ 0 ∷ 0 ∷ 0 ∷ 0 ∷ 0 ∷ 0 ∷ 0 ∷ 0 ∷ 0 ∷ 0 ∷ 0 ∷ 0 ∷ minimum ∷ [])

-- an SOA of this serial, below 256
abbrev soa : ℕ → Record
soa serial = soa_with serial 0

-- an NS record of the apex
abbrev ns : Record
ns = record_of TYPE_NS apex []

-- an A record of www.zone.
abbrev www : Record
www = record_of TYPE_A (codes "www" ∷ apex) (192 ∷ 0 ∷ 2 ∷ 80 ∷ [])

-- an A record of mail.zone., which the held zone doesn't have
abbrev mail : Record
mail = record_of TYPE_A (codes "mail" ∷ apex) (192 ∷ 0 ∷ 2 ∷ 25 ∷ [])

-- the held zone, of serial 5
abbrev held : Zone
held = record { apex = apex; records = ns ∷ soa 5 ∷ www ∷ [] }

pub nothing_came : reading_of held [] ≡ more
nothing_came = refl

-- the TTL of a deleted record isn't looked at, an added one brings its own, and the added records are in canonical
-- order
pub two_differences : reading_of held (soa 7 ∷ soa 5 ∷ record www { ttl = 1 } ∷ soa 6 ∷ record www { ttl = 60 } ∷ soa 6
    ∷ soa 7 ∷ mail ∷ soa 7 ∷ []) ≡ complete (ns ∷ soa 7 ∷ mail ∷ record www { ttl = 60 } ∷ [])
unfolding number_of_four insertion
two_differences = refl

pub before_the_closing_soa : reading_of held (soa 7 ∷ soa 5 ∷ www ∷ soa 7 ∷ mail ∷ []) ≡ more
unfolding number_of_four insertion
before_the_closing_soa = refl

-- a difference that changes nothing but the SOA
pub new_soa_alone : reading_of held (soa 6 ∷ soa 5 ∷ soa 6 ∷ soa 6 ∷ []) ≡ complete (ns ∷ soa 6 ∷ www ∷ [])
unfolding number_of_four insertion
new_soa_alone = refl

pub no_soa_first : reading_of held (ns ∷ soa 5 ∷ []) ≡ misfit NotSoaFirst
no_soa_first = refl

pub no_difference : reading_of held (soa 6 ∷ www ∷ []) ≡ misfit SerialGap
no_difference = refl

-- the first difference begins at the held serial
pub another_old_serial : reading_of held (soa 6 ∷ soa 4 ∷ []) ≡ misfit SerialGap
unfolding number_of_four
another_old_serial = refl

-- and each later one at the serial that the one before it led to
pub another_second_serial : reading_of held (soa 7 ∷ soa 5 ∷ soa 6 ∷ soa 5 ∷ []) ≡ misfit SerialGap
unfolding number_of_four
another_second_serial = refl

-- the closing SOA has the RDATA of the first
pub another_closing_soa : reading_of held (soa 6 ∷ soa 5 ∷ soa 6 ∷ soa_with 6 1 ∷ []) ≡ misfit SerialGap
unfolding number_of_four
another_closing_soa = refl

pub absent_deleted : reading_of held (soa 6 ∷ soa 5 ∷ mail ∷ soa 6 ∷ soa 6 ∷ []) ≡ misfit DeleteMissing
unfolding number_of_four
absent_deleted = refl

pub deleted_twice : reading_of held (soa 6 ∷ soa 5 ∷ www ∷ www ∷ []) ≡ misfit DeleteMissing
unfolding number_of_four
deleted_twice = refl

pub present_added : reading_of held (soa 6 ∷ soa 5 ∷ soa 6 ∷ record www { ttl = 60 } ∷ []) ≡ misfit AddPresent
unfolding number_of_four
present_added = refl

pub behind_the_end : reading_of held (soa 6 ∷ soa 5 ∷ soa 6 ∷ soa 6 ∷ mail ∷ []) ≡ misfit AfterEnd
unfolding number_of_four insertion
behind_the_end = refl

-- the first record that doesn't fit decides
pub gap_before_absent : reading_of held (soa 7 ∷ soa 5 ∷ soa 6 ∷ soa 5 ∷ mail ∷ []) ≡ misfit SerialGap
unfolding number_of_four
gap_before_absent = refl
