-- Meaning: the sections of a reply with records of DNSSEC, where the request has DO (RFC 3225, RFC 4035 section 3.1).
use Rattle.std.specs.Prelude.{ℕ, Bool, true, false, ◌==◌, ◌||◌, not, List, [], ◌∷◌, ◌++◌, map, length, Option, Some}
use Rattle.std.specs.Prelude.{None, if◌then◌else◌}
use Rattle.std.specs.List.{flat_map, list_any}
use Rattle.dz_name.specs.Words.{Name, Kind}
use Rattle.dz_name.specs.Name.{same_name}
use Rattle.dz_name.specs.declared.dns.TheConstants.{TYPE_ANY, TYPE_DNAME, TYPE_RRSIG, TYPE_SOA}
use Rattle.dz_record.specs.Record.{Record, same_record}
use Rattle.dz_zone.specs.Version.{Zone}
use Rattle.dz_lookup.specs.Found.{Found, here, alias, no_data, no_name, referral, rename}
use Rattle.dz_lookup.specs.Chain.{Trail, Chased, Ending, ended, stopped, too_long, led_to, chain_of}
use Rattle.dz_secure.specs.Secure.{signatures, covering, proof}
use Rattle.dz_reply.specs.Layout.{entry, entries}
use Rattle.dz_header.specs.Code.{number_of}
use Rattle.dz_header.specs.declared.edns.Edns.{Edns}
use Rattle.dz_header.specs.declared.code.ResponseCode.TheVariants.{NoError}
use Rattle.dz_reply.specs.Answer.{Sections, own_entries, soa_entries, cname_to, glue, sections_of}

-- questions for RRSIG and for ANY, to whose RRsets the answer section adds no RRSIG records
abbrev pub is_bare : Kind → Bool
is_bare kind = kind == TYPE_RRSIG || kind == TYPE_ANY

-- the RRSIG records that follow an RRset of the answer section, by one of its records: those of its owner that cover
-- its type, under the owner shown
abbrev pub beside : List Record → Bool → Name → Record → List Record
beside zone bare owner r = if bare then [] else entries owner (signatures zone r.owner r.kind)

-- an RRset of the answer section under an owner, and its RRSIG records
unfoldable pub answer_set : List Record → Bool → Name → List Record → List Record
answer_set zone bare owner [] = []
answer_set zone bare owner (r ∷ rs) = entries owner (r ∷ rs) ++ beside zone bare owner r

-- a DNAME with its signatures, unless the chain has it already
abbrev pub renamer_set : List Record → Bool → Trail → Record → List Record
renamer_set zone bare before r =
    if list_any (λ a. same_record a.1 r) before then [] else entry r.owner r.ttl r ∷ beside zone false r.owner r

-- a step of a chain: a CNAME and its signatures; a DNAME with its signatures, once, and the CNAME that is made of it
unfoldable pub secure_step : List Record → Bool → Trail → Name × Record → List Record
secure_step zone bare before a =
    if a.1.kind == TYPE_DNAME then renamer_set zone bare before a.1 ++ cname_to a.0 a.1.ttl (led_to a.0 a.1) ∷ []
    else entry a.0 a.1.ttl a.1 ∷ beside zone bare a.0 a.1

-- the steps of a chain with their signatures, after those before them
unfoldable pub secure_trail : List Record → Bool → Trail → Trail → List Record
secure_trail zone bare before [] = []
secure_trail zone bare before (a ∷ rest) =
    secure_step zone bare before a ++ secure_trail zone bare (before ++ a ∷ []) rest

-- the RRset begins with this record
abbrev pub begins_with : Record → List Record → Bool
begins_with r [] = false
begins_with r (s ∷ ss) = same_record s r

-- one of the RRsets begins with this record
abbrev pub stands : List (List Record) → Record → Bool
stands sets r = list_any (begins_with r) sets

-- RRsets and one more: one without records, or one that is there already, adds nothing
unfoldable pub gain : List (List Record) → List Record → List (List Record)
gain sets [] = sets
gain sets (r ∷ rs) = if stands sets r then sets else sets ++ (r ∷ rs) ∷ []

-- RRsets and more of them, one after the other
unfoldable pub gain_all : List (List Record) → List (List Record) → List (List Record)
gain_all sets [] = sets
gain_all sets (rs ∷ more) = gain_all (gain sets rs) more

-- the proof that a name of a chain isn't there, where its CNAME came from a wildcard (RFC 4035 section 3.1.3.3)
abbrev pub wildcard_set : List Record → Name × Record → List Record
wildcard_set zone a = if a.1.kind == TYPE_DNAME || same_name a.1.owner a.0 then [] else covering zone a.0

-- such proofs for the names of a chain
abbrev pub wildcard_proofs : List Record → Trail → List (List Record)
wildcard_proofs zone trail = map (wildcard_set zone) trail

-- such a proof for a name, by the records that answer
abbrev pub first_wildcard : List Record → Name → List Record → List Record
first_wildcard zone name [] = []
first_wildcard zone name (r ∷ rs) = if same_name r.owner name then [] else covering zone name

-- such a proof for the last name of a chain
abbrev pub last_wildcard : List Record → Found → Name → List Record
last_wildcard zone (here rs) name = first_wildcard zone name rs
last_wildcard zone (alias r) name = []
last_wildcard zone no_data name = []
last_wildcard zone no_name name = []
last_wildcard zone (referral rs) name = []
last_wildcard zone (rename r) name = []

-- the NS records of a referral, which come before the proofs in the authority section
abbrev pub servers_of : Found → List Record
servers_of (referral rs) = rs
servers_of (here rs) = []
servers_of (alias r) = []
servers_of no_data = []
servers_of no_name = []
servers_of (rename r) = []

-- the SOA of a negative answer, and its RRSIG records
abbrev pub signed_soa : Zone → List Record
signed_soa zone = soa_entries zone ++ own_entries (signatures zone.records zone.apex TYPE_SOA)

-- the signed SOA where the last name has a negative answer
abbrev pub soa_of_found : Zone → Found → List Record
soa_of_found zone no_data = signed_soa zone
soa_of_found zone no_name = signed_soa zone
soa_of_found zone (here rs) = []
soa_of_found zone (alias r) = []
soa_of_found zone (referral rs) = []
soa_of_found zone (rename r) = []

-- the proofs for the last name: that it came from a wildcard, and what proves the last case
abbrev pub last_sets : List Record → Found → Name → List (List Record)
last_sets zone found name = last_wildcard zone found name ∷ (proof zone name found).0 ∷ (proof zone name found).1 ∷ []

-- the RRsets of the authority section but for the SOA, each once
abbrev pub authority_sets : List Record → Trail → Found → Name → List (List Record)
authority_sets zone trail found name =
    gain_all (gain_all (gain [] (servers_of found)) (wildcard_proofs zone trail)) (last_sets zone found name)

-- an RRset of the authority section under its owner, and its RRSIG records
unfoldable pub own_signed : List Record → List Record → List Record
own_signed zone [] = []
own_signed zone (r ∷ rs) = entries r.owner (r ∷ rs) ++ entries r.owner (signatures zone r.owner r.kind)

-- the records that answer, if there are any
abbrev pub records_here : Found → List Record
records_here (here rs) = rs
records_here (alias r) = []
records_here no_data = []
records_here no_name = []
records_here (referral rs) = []
records_here (rename r) = []

-- the RRsets of the authority section, each with its RRSIG records
abbrev pub sets_of : Zone → List (List Record) → List Record
sets_of zone sets = flat_map (own_signed zone.records) sets

-- a chain and the records that answer, where the RRsets of the authority section are at hand
abbrev pub here_with : Zone → Kind → Trail → Name → List Record → List (List Record) → Sections
here_with zone kind trail name rs sets = record {
  code = number_of NoError;
  authoritative = true;
  answer = secure_trail zone.records (is_bare kind) [] trail ++ answer_set zone.records (is_bare kind) name rs;
  authority = sets_of zone sets;
  additional = [];
}

-- a chain and a negative answer, where the RRsets of the authority section are at hand
abbrev pub soa_with : Zone → Kind → Trail → ℕ → List (List Record) → Sections
soa_with zone kind trail code sets = record {
  code = code;
  authoritative = true;
  answer = secure_trail zone.records (is_bare kind) [] trail;
  authority = signed_soa zone ++ sets_of zone sets;
  additional = [];
}

-- a chain and a referral, where the RRsets of the authority section are at hand
abbrev pub servers_with : Zone → Kind → Trail → List Record → List (List Record) → Sections
servers_with zone kind trail servers sets = record {
  code = number_of NoError;
  authoritative = not (length trail == 0);
  answer = secure_trail zone.records (is_bare kind) [] trail;
  authority = sets_of zone sets;
  additional = glue zone servers;
}

-- the sections with records of DNSSEC, by how a chain ends; code, AA and additional section are those of the reply
-- without DO
unfoldable pub secure_of_ending : Zone → Kind → Trail → Ending → Sections → Sections
secure_of_ending zone kind trail (ended found name) plain = record plain {
  answer = secure_trail zone.records (is_bare kind) [] trail
      ++ answer_set zone.records (is_bare kind) name (records_here found);
  authority =
      soa_of_found zone found ++ flat_map (own_signed zone.records) (authority_sets zone.records trail found name);
}
secure_of_ending zone kind trail stopped plain = record plain {
  answer = secure_trail zone.records (is_bare kind) [] trail;
  authority = flat_map (own_signed zone.records) (gain_all [] (wildcard_proofs zone.records trail));
}
secure_of_ending zone kind trail (too_long r) plain = record plain {
  answer = secure_trail zone.records (is_bare kind) [] trail ++ renamer_set zone.records (is_bare kind) trail r;
  authority = flat_map (own_signed zone.records) (gain_all [] (wildcard_proofs zone.records trail));
}

-- the sections with records of DNSSEC by the chain of a question
abbrev pub secure_of_chain : Zone → Kind → Chased → Sections → Sections
secure_of_chain zone kind chased plain = secure_of_ending zone kind chased.trail chased.ending plain

-- whether a request has the DO bit (RFC 3225)
abbrev pub asks_dnssec : Option Edns → Bool
asks_dnssec None = false
asks_dnssec (Some edns) = edns.dnssec_ok

-- the answer of a zone to a name and a type, with DO or without it
unfoldable pub sections_for : Bool → Zone → Name → Kind → Sections
sections_for false zone name kind = sections_of zone name kind
sections_for true zone name kind =
    secure_of_chain zone kind (chain_of zone.apex zone.records name kind) (sections_of zone name kind)
