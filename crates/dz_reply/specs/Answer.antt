-- Meaning: what a reply says of a question (RFC 1034 section 4.3.2, RFC 2308 sections 2 and 3, RFC 6604 section 3, RFC
-- 6672 section 3), and its octets.
use Rattle.std.specs.Prelude.{◌≡◌, ℕ, ◌+◌, Bool, true, false, ◌==◌, min, not, List, [], ◌∷◌, ◌++◌, length, Option}
use Rattle.std.specs.Prelude.{Some, None, if◌then◌else◌}
use Rattle.std.specs.List.{flat_map, list_any}
use Rattle.std.specs.Option.{option_map_or}
use Rattle.dz_name.specs.Words.{Name, Octets, Kind}
use Rattle.dz_name.specs.Name.{is_within, wire_of}
use Rattle.dz_name.specs.declared.dns.TheConstants.{TYPE_A, TYPE_AAAA, TYPE_CNAME, TYPE_DNAME}
use Rattle.dz_header.specs.Code.{number_of}
use Rattle.dz_header.specs.Edns.{opt_count, opt_octets}
use Rattle.dz_header.specs.Writing.{Writing, writing_of}
use Rattle.dz_header.specs.declared.code.ResponseCode.TheVariants.{NoError, NxDomain, YxDomain}
use Rattle.dz_record.specs.Record.{Record, soa_of, target_of, same_record}
use Rattle.dz_request.specs.Frame.{Query, is_tcp, query_of, limit_of, head_octets, within_limit}
use Rattle.dz_request.specs.declared.frame.Frame.{Frame}
use Rattle.dz_zone.specs.Version.{Zone, apex_soa}
use Rattle.dz_runs.specs.Runs.{of_type, records_of}
use Rattle.dz_lookup.specs.Found.{Found, here, alias, no_data, no_name, referral, rename}
use Rattle.dz_lookup.specs.Chain.{Trail, Chased, Ending, ended, stopped, too_long, led_to, chain_of}
use Rattle.dz_reply.specs.Layout.{entries_octets, entry, entries}

-- what a reply says: response code, AA, and the records of its three sections
pub record Sections : Type 0 where
  pub code : ℕ
  pub authoritative : Bool
  pub answer : List Record
  pub authority : List Record
  pub additional : List Record

-- a response code without AA and without records
abbrev pub bare : ℕ → Sections
bare code = record { code = code; authoritative = false; answer = []; authority = []; additional = [] }

-- the CNAME that is made of a DNAME: it leads from a name to the name that the DNAME gives it, and has its TTL (RFC
-- 6672 section 3.1)
abbrev pub cname_to : Name → ℕ → Option Name → Record
cname_to name ttl target =
    record { owner = name; kind = TYPE_CNAME; ttl = ttl; rdata = wire_of (option_map_or (λ n. n) target []) }

-- a DNAME under the name of its owner, unless the chain has it already
abbrev pub dname_entries : Trail → Record → List Record
dname_entries before r = if list_any (λ a. same_record a.1 r) before then [] else entry r.owner r.ttl r ∷ []

-- what a step of a chain shows after those before it: a CNAME under the name that was looked up, or a DNAME and the
-- CNAME that is made of it
unfoldable pub step_entries : Trail → Name × Record → List Record
step_entries before a =
    if a.1.kind == TYPE_DNAME then dname_entries before a.1 ++ cname_to a.0 a.1.ttl (led_to a.0 a.1) ∷ []
    else entry a.0 a.1.ttl a.1 ∷ []

-- what the further steps of a chain show after those before them
unfoldable pub entries_behind : Trail → Trail → List Record
entries_behind before [] = []
entries_behind before (a ∷ rest) = step_entries before a ++ entries_behind (before ++ a ∷ []) rest

-- the records that a chain shows in the answer section
unfoldable pub trail_entries : Trail → List Record
trail_entries trail = entries_behind [] trail

-- an RRset under the name of its owner
unfoldable pub own_entries : List Record → List Record
own_entries [] = []
own_entries (r ∷ rs) = entries r.owner (r ∷ rs)

-- the TTL that the SOA of a negative answer has: the lesser of its TTL and MINIMUM (RFC 2308 section 3)
abbrev pub negative_ttl : Record → ℕ
negative_ttl r = option_map_or (λ soa. min r.ttl soa.minimum) (soa_of r) r.ttl

-- the SOA of a negative answer, under the name of the apex
abbrev pub soa_under : Name → Option Record → List Record
soa_under apex None = []
soa_under apex (Some soa) = entry apex (negative_ttl soa) soa ∷ []

-- the SOA that a zone's negative answers have in the authority section (RFC 2308 section 3)
unfoldable pub soa_entries : Zone → List Record
soa_entries zone = soa_under zone.apex (apex_soa zone)

-- the name server that an NS record names, where it is within the zone
abbrev pub inner_target : Zone → Record → Option Name
inner_target zone server =
    elim (target_of server) [ None ↦ None | Some name ↦ if is_within name zone.apex then Some name else None ]

-- the addresses of a name: A records and then AAAA records
unfoldable pub addresses_of : Zone → Option Name → List Record
addresses_of zone None = []
addresses_of zone (Some name) =
    entries name (of_type TYPE_A (records_of zone.records name))
    ++ entries name (of_type TYPE_AAAA (records_of zone.records name))

-- the addresses of one name server, where its name is within the zone
unfoldable pub glue_of : Zone → Record → List Record
glue_of zone server = addresses_of zone (inner_target zone server)

-- the glue of a referral: the addresses of each name server within the zone, in the order of the servers (RFC 1034
-- section 4.2.1)
unfoldable pub glue : Zone → List Record → List Record
glue zone servers = flat_map (glue_of zone) servers

-- a chain that leads no further: its records alone
abbrev pub only_trail : Trail → Sections
only_trail trail =
    record {
      code = number_of NoError;
      authoritative = true;
      answer = trail_entries trail;
      authority = [];
      additional = [];
    }

-- a DNAME that would give the last name more than 255 octets: YXDOMAIN (RFC 6672 section 3.2)
abbrev pub with_renamer : Trail → Record → Sections
with_renamer trail r =
    record {
      code = number_of YxDomain;
      authoritative = true;
      answer = trail_entries trail ++ dname_entries trail r;
      authority = [];
      additional = [];
    }

-- a chain, and the records that answer for its last name
abbrev pub with_records : Trail → Name → List Record → Sections
with_records trail name rs =
    record {
      code = number_of NoError;
      authoritative = true;
      answer = trail_entries trail ++ entries name rs;
      authority = [];
      additional = [];
    }

-- a chain whose last name has a negative answer: NODATA or NXDOMAIN (RFC 2308 section 2)
abbrev pub with_soa : Zone → Trail → ℕ → Sections
with_soa zone trail code =
    record {
      code = code;
      authoritative = true;
      answer = trail_entries trail;
      authority = soa_entries zone;
      additional = [];
    }

-- a referral after a chain (RFC 1034 section 4.3.2); it is authoritative where a chain led to it, since its answer
-- section isn't empty then
abbrev pub with_servers : Zone → Trail → List Record → Sections
with_servers zone trail servers = record {
  code = number_of NoError;
  authoritative = not (length trail == 0);
  answer = trail_entries trail;
  authority = own_entries servers;
  additional = glue zone servers;
}

-- what a chain and what is found for its last name say; the response code is that of the last name (RFC 6604 section
-- 3)
unfoldable pub at_end : Zone → Trail → Found → Name → Sections
at_end zone trail (here rs) name = with_records trail name rs
at_end zone trail no_data name = with_soa zone trail (number_of NoError)
at_end zone trail no_name name = with_soa zone trail (number_of NxDomain)
at_end zone trail (referral servers) name = with_servers zone trail servers
at_end zone trail (alias r) name = only_trail trail
at_end zone trail (rename r) name = only_trail trail

-- what a chain says, by how it ends
unfoldable pub of_ending : Zone → Trail → Ending → Sections
of_ending zone trail (ended found name) = at_end zone trail found name
of_ending zone trail stopped = only_trail trail
of_ending zone trail (too_long r) = with_renamer trail r

-- what a zone says by the chain of a question
unfoldable pub of_chain : Zone → Chased → Sections
of_chain zone chased = of_ending zone chased.trail chased.ending

-- the answer of a zone to a name and a type, without records of DNSSEC
unfoldable pub sections_of : Zone → Name → Kind → Sections
sections_of zone name kind = of_chain zone (chain_of zone.apex zone.records name kind)

-- the whole reply: header, question, the three sections and OPT (RFC 1035 section 4.1, RFC 6891 section 6.1.1)
unfoldable pub whole_octets : Query → Sections → Octets
whole_octets query s =
    head_octets query s.code s.authoritative false (length s.answer) (length s.authority)
    (length s.additional + opt_count query.edns)
    ++ (entries_octets query.name s.answer
    ++ (entries_octets query.name s.authority
    ++ (entries_octets query.name s.additional ++ opt_octets s.code query.edns)))

-- the reply within its limit, truncated where it is longer
unfoldable pub octets_of : Bool → Query → Sections → Octets
octets_of tcp query s = within_limit tcp query s.code s.authoritative (whole_octets query s)

-- what is written is the reply that says this
abbrev pub Replies : Frame → Sections → Writing → Type 0
Replies frame s w =
    let query = query_of frame.request.now frame.asked.now in
    let tcp = is_tcp frame.transport in
    w ≡ writing_of (limit_of tcp query.edns) (octets_of tcp query s)
