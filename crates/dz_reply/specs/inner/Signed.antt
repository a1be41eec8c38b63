-- Inner: records beside their RRSIG records.
use Rattle.std.specs.Prelude.{Bool, List, [], ◌∷◌, ◌++◌, if◌then◌else◌}
use Rattle.dz_record.specs.Record.{Record}
use Rattle.dz_secure.specs.Secure.{signatures}
use Rattle.dz_reply.specs.Layout.{entries}
use Rattle.dz_reply.specs.declared.authority.SignedSet.{SignedSet}

-- the RRSIG records that follow the records of the last name
abbrev pub answer_signatures : List Record → Bool → List Record → List Record
answer_signatures zone bare [] = []
answer_signatures zone bare (r ∷ rs) = if bare then [] else signatures zone r.owner r.kind

-- an RRset of the authority section, and what signs it
unfoldable pub own_with : List Record → List Record → List Record
own_with [] signed = []
own_with (r ∷ rs) signed = entries r.owner (r ∷ rs) ++ entries r.owner signed

-- an RRset with its RRSIG records, as the authority section has it
abbrev pub set_shown : SignedSet → List Record
set_shown s = own_with s.records.now s.signed.now
