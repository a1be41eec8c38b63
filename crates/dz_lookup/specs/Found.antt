-- Meaning: what a zone says of a name and a type (RFC 1034 section 4.3.2, RFC 4592 sections 2.2 and 3.3, RFC 6672). A
-- zone is a list of records in any order.
use Rattle.std.specs.Prelude.{◌<◌, Bool, ◌==◌, ◌&&◌, not, nat_lt, List, [], ◌∷◌, find, Option, Some, None}
use Rattle.std.specs.Prelude.{if◌then◌else◌, length, ⊤}
use Rattle.std.specs.Option.{option_or}
use Rattle.dz_name.specs.Words.{Name, Kind}
use Rattle.dz_name.specs.Name.{same_name, upward, wildcard_of}
use Rattle.dz_name.specs.declared.dns.TheConstants.{TYPE_ANY, TYPE_CNAME, TYPE_DNAME, TYPE_DS, TYPE_NS}
use Rattle.dz_record.specs.Record.{Record}
use Rattle.dz_runs.specs.Runs.{of_type, records_of, owns, exists}
use Rattle.dz_lookup.specs.declared.found.Found as code
use Rattle.dz_lookup.specs.declared.found.Found.TheVariants as code_found

-- the closest encloser: the longest existing name that the name is within (RFC 4592 section 3.3.1)
abbrev pub encloser : List Record → Name → Option Name
encloser zone name = find (exists zone) (upward name)

-- the wildcard directly below an encloser, if it exists: the source of synthesis (RFC 4592 section 3.3.1)
abbrev pub wildcard_under : List Record → Option Name → Option Name
wildcard_under zone None = None
wildcard_under zone (Some above) = if exists zone (wildcard_of above) then Some (wildcard_of above) else None

-- where the answer comes from: the name itself, or else the wildcard below its closest encloser
abbrev pub source : List Record → Name → Option Name
source zone name = if exists zone name then Some name else wildcard_under zone (encloser zone name)

-- a zone cut: an owner of NS records below the apex (RFC 1034 section 4.2)
abbrev pub is_cut : Name → List Record → Name → Bool
is_cut apex zone name = not (same_name name apex) && owns zone TYPE_NS name

-- of a name and those above it, the topmost one that passes a test
unfoldable pub topmost : (Name → Bool) → Name → Option Name
topmost test [] = if test [] then Some [] else None
topmost test (label ∷ labels) =
    option_or (topmost test labels) (if test (label ∷ labels) then Some (label ∷ labels) else None)

-- the topmost zone cut at a name or above it
abbrev pub cut : Name → List Record → Name → Option Name
cut apex zone name = topmost (is_cut apex zone) name

-- the cut that counts for a type: a DS belongs to the zone above its owner, so that a cut at the name itself doesn't
-- count for it (RFC 4035 section 3.1.4.1)
abbrev pub cut_for : Name → List Record → Kind → Name → Option Name
cut_for apex zone kind [] = cut apex zone []
cut_for apex zone kind (label ∷ labels) =
    if kind == TYPE_DS then cut apex zone labels else cut apex zone (label ∷ labels)

-- of the names above a name, the topmost one that owns a DNAME (RFC 6672 sections 2.2 and 3.2)
abbrev pub dname : List Record → Name → Option Name
dname zone [] = None
dname zone (label ∷ labels) = topmost (owns zone TYPE_DNAME) labels

-- what is found for a name and a type
pub data Found : Type 0 where
  here : List Record → Found  -- the records that answer
  alias : Record → Found  -- a CNAME leads on
  no_data : Found  -- the name exists without such records
  no_name : Found  -- no name and no wildcard is there
  referral : List Record → Found  -- the NS records of the cut above the name
  rename : Record → Found  -- a DNAME above the name gives it another name

-- what a node gives: the records that answer, or its CNAME, or no data
abbrev pub here_or : List Record → List Record → Found
here_or (r ∷ rs) aliases = here (r ∷ rs)
here_or [] (r ∷ rs) = alias r
here_or [] [] = no_data

-- what a node gives to a type; ANY asks for all its records (RFC 1035 section 3.2.3, RFC 8482)
abbrev pub at_node : Kind → List Record → Found
at_node kind rs = here_or (if kind == TYPE_ANY then rs else of_type kind rs) (of_type TYPE_CNAME rs)

-- what the node that the answer comes from gives; without one the name doesn't exist
abbrev pub at_source : List Record → Kind → Option Name → Found
at_source zone kind None = no_name
at_source zone kind (Some node) = at_node kind (records_of zone node)

-- the DNAME of a name that owns one
abbrev pub renaming : List Record → Found
renaming [] = no_data
renaming (r ∷ rs) = rename r

-- what keeps a name from being looked at: a cut above it or at it, or a DNAME above it. Of both the one with fewer
-- labels counts, and the cut where one name owns both.
abbrev pub barrier : List Record → Option Name → Option Name → Option Found
barrier zone None None = None
barrier zone None (Some above) = Some (renaming (of_type TYPE_DNAME (records_of zone above)))
barrier zone (Some at) None = Some (referral (of_type TYPE_NS (records_of zone at)))
barrier zone (Some at) (Some above) =
    if nat_lt (length above) (length at) then Some (renaming (of_type TYPE_DNAME (records_of zone above)))
    else Some (referral (of_type TYPE_NS (records_of zone at)))

-- what stops at a barrier, or else what is found at the name
abbrev pub behind_barrier : List Record → Name → Kind → Option Found → Found
behind_barrier zone name kind None = at_source zone kind (source zone name)
behind_barrier zone name kind (Some f) = f

-- what is found for a name within the apex and a type (RFC 1034 section 4.3.2, RFC 4592 section 3.3, RFC 6672 section
-- 3.2)
unfoldable pub found : Name → List Record → Name → Kind → Found
found apex zone name kind =
    behind_barrier zone name kind (barrier zone (cut_for apex zone kind name) (dname zone name))

-- an answer and a referral have at least one record
abbrev pub HasRecords : Found → Type 0
HasRecords (here rs) = 0 < length rs
HasRecords (alias r) = ⊤
HasRecords no_data = ⊤
HasRecords no_name = ⊤
HasRecords (referral rs) = 0 < length rs
HasRecords (rename r) = ⊤

-- what the code's answer means
abbrev pub meaning : code.Found → Found
meaning (code_found.Here records) = here records.now
meaning (code_found.Alias alias_found) = alias alias_found.now
meaning code_found.NoData = no_data
meaning code_found.NoName = no_name
meaning (code_found.Referral servers) = referral servers.now
meaning (code_found.Rename renamer) = rename renamer.now

-- the CNAME or the DNAME that leads on, if one does
abbrev pub leading : Found → Option Record
leading (here rs) = None
leading (alias r) = Some r
leading no_data = None
leading no_name = None
leading (referral rs) = None
leading (rename r) = Some r
