-- Judge: lists of records as the whole form reads them, computed by the checker.
use Rattle.std.specs.Prelude.{◌≡◌, refl, [], ◌∷◌, codes}
use Rattle.dz_name.specs.Words.{Name, Kind, Octets}
use Rattle.dz_name.specs.declared.dns.TheConstants.{TYPE_A, TYPE_NS, TYPE_SOA}
use Rattle.dz_record.specs.Record.{Record}
use Rattle.dz_record.specs.Records.{distinct}
use Rattle.dz_xfr.specs.Stands.{more, complete, misfit}
use Rattle.dz_xfr.specs.declared.fault.ShapeFault.TheVariants.{NotSoaFirst, AfterEnd, SerialGap}
use Rattle.dz_axfr.specs.Reading.{reading_of}

-- the apex zone.
abbrev apex : Name
apex = codes "zone" ∷ []

-- a record of this type, owner name and RDATA, with a TTL of 3600
abbrev record_of : Kind → Name → Octets → Record
record_of kind owner rdata = record { owner = owner; kind = kind; ttl = 3600; rdata = rdata }

-- an SOA of the apex, of shortened RDATA
abbrev soa : Record
soa = record_of TYPE_SOA apex (7 ∷ [])

-- an NS record of the apex
abbrev ns : Record
ns = record_of TYPE_NS apex []

-- an A record below the apex
abbrev address : Record
address = record_of TYPE_A (codes "a" ∷ apex) (192 ∷ 0 ∷ 2 ∷ 1 ∷ [])

pub nothing_came : reading_of apex [] ≡ more
nothing_came = refl

pub before_the_closing_soa : reading_of apex (soa ∷ ns ∷ address ∷ []) ≡ more
before_the_closing_soa = refl

pub closed : reading_of apex (soa ∷ ns ∷ address ∷ soa ∷ []) ≡ complete (soa ∷ ns ∷ address ∷ [])
unfolding distinct
closed = refl

-- the TTL of the closing SOA isn't looked at
pub closed_with_another_ttl : reading_of apex (soa ∷ ns ∷ record soa { ttl = 60 } ∷ []) ≡ complete (soa ∷ ns ∷ [])
unfolding distinct
closed_with_another_ttl = refl

-- of records that are the same the first is kept
pub twice : reading_of apex (soa ∷ address ∷ record address { ttl = 60 } ∷ soa ∷ []) ≡ complete (soa ∷ address ∷ [])
unfolding distinct
twice = refl

-- an SOA below the apex is a record like another
pub soa_below : reading_of apex (soa ∷ record_of TYPE_SOA (codes "b" ∷ apex) (7 ∷ []) ∷ []) ≡ more
soa_below = refl

pub no_soa_first : reading_of apex (ns ∷ soa ∷ []) ≡ misfit NotSoaFirst
no_soa_first = refl

pub another_soa : reading_of apex (soa ∷ ns ∷ record_of TYPE_SOA apex (8 ∷ []) ∷ []) ≡ misfit SerialGap
another_soa = refl

pub behind_the_end : reading_of apex (soa ∷ ns ∷ soa ∷ address ∷ []) ≡ misfit AfterEnd
unfolding distinct
behind_the_end = refl

-- the first record that doesn't fit decides
pub gap_before_the_end : reading_of apex (soa ∷ record_of TYPE_SOA apex (8 ∷ []) ∷ soa ∷ address ∷ [])
    ≡ misfit SerialGap
gap_before_the_end = refl
