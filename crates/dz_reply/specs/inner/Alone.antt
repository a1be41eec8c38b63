-- Inner: an answer without an authority section.
use Rattle.std.specs.Prelude.{◌≡◌, List, []}
use Rattle.dz_name.specs.Words.{Name}
use Rattle.dz_record.specs.Record.{Record}
use Rattle.dz_lookup.specs.Found.{Found, here}
use Rattle.dz_lookup.specs.Chain.{Trail}
use Rattle.dz_reply.specs.Secure.{authority_sets}

-- these records are found, and the authority section has no RRset, whatever the zone
abbrev pub IsAlone : Trail → Found → Name → List Record → Type 0
IsAlone trail found name rs = (found ≡ here rs) × ((zone : List Record) → [] ≡ authority_sets zone trail found name)
