-- Meaning: the whole form of a transfer (RFC 5936 section 2.2), of whole lists of records.
use Rattle.std.specs.Prelude.{◌≡◌, true, false, List, [], ◌∷◌, ◌++◌}
use Rattle.std.specs.List.{AllByRecursion}
use Rattle.dz_name.specs.Words.{Name}
use Rattle.dz_record.specs.Record.{Record}
use Rattle.dz_record.specs.Records.{distinct}
use Rattle.dz_xfr.specs.declared.fault.ShapeFault.{ShapeFault}
use Rattle.dz_xfr.specs.declared.fault.ShapeFault.TheVariants.{NotSoaFirst, SerialGap}
use Rattle.dz_xfr.specs.Apex.{is_apex_soa}

-- an SOA of the apex, a body without one, and an SOA of the apex with the first one's RDATA. The zone has the first
-- SOA and the body; of records that are the same the first is kept (RFC 2181 section 5)
pub record IsWhole (apex : Name) (records zone : List Record) : Type 0 where
  pub first : Record
  pub body : List Record
  pub last : Record
  pub are : records ≡ first ∷ (body ++ last ∷ [])
  pub opens : is_apex_soa apex first ≡ true
  pub inner : AllByRecursion (λ r. is_apex_soa apex r ≡ false) body
  pub closes : is_apex_soa apex last ≡ true
  pub same : last.rdata ≡ first.rdata
  pub zone_is : zone ≡ distinct (first ∷ body)

-- the fault of the first record with which no whole form goes on: at the beginning it isn't an SOA of the apex, and
-- elsewhere it is one with other RDATA
abbrev pub Blames : List Record → Record → ShapeFault → Type 0
Blames [] r fault = fault ≡ NotSoaFirst
Blames (first ∷ front) r fault = fault ≡ SerialGap
