-- Meaning: records of DNSSEC beside an answer (RFC 4035 section 3.1). A zone is a list of records in any order.
use Rattle.std.specs.Prelude.{take, Bool, ◌==◌, ◌&&◌, List, [], ◌∷◌, filter, Option, Some, None, option_map}
use Rattle.std.specs.Prelude.{if◌then◌else◌}
use Rattle.std.specs.Ordering.{is_lt}
use Rattle.dz_name.specs.Words.{Name, Kind}
use Rattle.dz_name.specs.Name.{same_name, same_label, canonical_order, wildcard_of}
use Rattle.dz_name.specs.Numbers.{two}
use Rattle.dz_name.specs.declared.dns.TheConstants.{TYPE_DS, TYPE_NSEC, TYPE_RRSIG}
use Rattle.dz_record.specs.Record.{Record}
use Rattle.dz_record.specs.Records.{in_order}
use Rattle.dz_runs.specs.Runs.{of_type, records_of}
use Rattle.dz_lookup.specs.Found.{Found, here, alias, no_data, no_name, referral, rename, source, encloser}

-- the type that an RRSIG covers is in the first two octets of its RDATA (RFC 4034 section 3.1.1)
abbrev pub covers : Kind → Record → Bool
covers kind r = same_label (take 2 r.rdata) (two kind)

-- the RRSIG records of an owner that cover a type, in order (RFC 4035 section 3.1.1)
abbrev pub signatures : List Record → Name → Kind → List Record
signatures zone owner kind = filter (covers kind) (of_type TYPE_RRSIG (records_of zone owner))

-- the NSEC RRset of a name (RFC 4034 section 4)
abbrev pub nsec_of : List Record → Name → List Record
nsec_of zone name = of_type TYPE_NSEC (records_of zone name)

-- the owner of the last of some records
unfoldable pub last_owner : List Record → Option Name
last_owner [] = None
last_owner (r ∷ []) = Some r.owner
last_owner (r ∷ s ∷ rs) = last_owner (s ∷ rs)

-- the last owner of an NSEC that comes before a name in canonical order
abbrev pub owner_before : List Record → Name → Option Name
owner_before zone name =
    last_owner (in_order (filter (λ r. r.kind == TYPE_NSEC && is_lt (canonical_order r.owner name)) zone))

-- the NSEC RRset of a name, if there is such a name
abbrev pub nsec_at : List Record → Option Name → List Record
nsec_at zone None = []
nsec_at zone (Some owner) = nsec_of zone owner

-- the NSEC RRset that covers a name (RFC 4034 section 4.1.1)
abbrev pub covering : List Record → Name → List Record
covering zone name = nsec_at zone (owner_before zone name)

-- records, or others where there are none
abbrev pub own_or : List Record → List Record → List Record
own_or [] other = other
own_or (r ∷ rs) other = r ∷ rs

-- proves that a type isn't there: at the name itself, or at the wildcard that matches it (RFC 4035 sections 3.1.3.1
-- and
-- 3.1.3.4). A proof has two RRsets at most; one without records counts as none.
abbrev pub no_data_proof : List Record → Name → Option Name → List Record × List Record
no_data_proof zone name None = ([], [])
no_data_proof zone name (Some node) =
    if same_name node name then (own_or (nsec_of zone name) (covering zone name), [])
    else (nsec_of zone node, covering zone name)

-- proves that a name isn't there, nor a wildcard for it (RFC 4035 section 3.1.3.2)
abbrev pub no_name_proof : List Record → Name → Option Name → List Record × List Record
no_name_proof zone name None = (covering zone name, [])
no_name_proof zone name (Some wildcard) = (covering zone name, covering zone wildcard)

-- goes with a referral: the DS of the cut, or an NSEC that proves that it has none (RFC 4035 section 3.1.4)
abbrev pub referral_proof : List Record → List Record → List Record × List Record
referral_proof zone [] = ([], [])
referral_proof zone (server ∷ servers) =
    (own_or (of_type TYPE_DS (records_of zone server.owner)) (nsec_of zone server.owner), [])

-- what proves the last case of a lookup; an answer, a CNAME and a DNAME need none
unfoldable pub proof : List Record → Name → Found → List Record × List Record
proof zone name no_data = no_data_proof zone name (source zone name)
proof zone name no_name = no_name_proof zone name (option_map wildcard_of (encloser zone name))
proof zone name (referral servers) = referral_proof zone servers
proof zone name (here rs) = ([], [])
proof zone name (alias r) = ([], [])
proof zone name (rename r) = ([], [])
