-- Meaning: the records of a reply as octets (RFC 1035 sections 4.1.3 and 4.1.4), with the TTL that a reply shows (RFC
-- 2181 section 5.2, RFC 4035 section 2.2). A record as a reply has it, under an owner and with a TTL that may differ
-- from its own, is called an entry.
use Rattle.std.specs.Prelude.{ℕ, ◌+◌, ◌-◌, ◌==◌, min, List, [], ◌∷◌, ◌++◌, length, map, filter, fold, if◌then◌else◌}
use Rattle.std.specs.List.{flat_map}
use Rattle.dz_name.specs.Words.{Name, Octets, Kind}
use Rattle.dz_name.specs.Name.{wire_of, is_within}
use Rattle.dz_name.specs.Numbers.{two}
use Rattle.dz_name.specs.declared.dns.TheConstants.{HEADER_OCTETS, TYPE_RRSIG}
use Rattle.dz_record.specs.Record.{Record, octets_behind_owner}
use Rattle.dz_reply.specs.declared.layout.TheConstants.{POINTER, LONGEST_TTL}

-- a pointer to a suffix of the question's name, which follows the header (RFC 1035 section 4.1.4)
abbrev pub pointer_to : Name → Name → Octets
pointer_to question suffix = two (POINTER + (HEADER_OCTETS + (length (wire_of question) - length (wire_of suffix))))

-- an owner: its labels up to the longest suffix that it shares with the question's name, other than the root, and then
-- a pointer to that suffix
unfoldable pub owner_octets : Name → Name → Octets
owner_octets question [] = 0 ∷ []
owner_octets question (label ∷ labels) =
    if is_within question (label ∷ labels) then pointer_to question (label ∷ labels)
    else length label ∷ (label ++ owner_octets question labels)

-- the octets of an entry, whose RDATA has no pointers (RFC 1035 section 4.1.3)
unfoldable pub entry_octets : Name → Record → Octets
entry_octets question r = owner_octets question r.owner ++ octets_behind_owner r

-- the octets of entries, one after the other
unfoldable pub entries_octets : Name → List Record → Octets
entries_octets question rs = flat_map (entry_octets question) rs

-- the least TTL of the records of a type; a TTL is below 2^31
abbrev pub least_ttl : Kind → List Record → ℕ
least_ttl kind rs = fold (λ least r. min least r.ttl) LONGEST_TTL (filter (λ r. r.kind == kind) rs)

-- the TTL that a record of an RRset is shown with: the least of its type, but for an RRSIG its own
abbrev pub entry_ttl : List Record → Record → ℕ
entry_ttl rs r = if r.kind == TYPE_RRSIG then r.ttl else least_ttl r.kind rs

-- an entry: a record under an owner and with a TTL
unfoldable pub entry : Name → ℕ → Record → Record
entry owner ttl r = record { owner = owner; kind = r.kind; ttl = ttl; rdata = r.rdata }

-- the entries of records under one owner
unfoldable pub entries : Name → List Record → List Record
entries owner rs = map (λ r. entry owner (entry_ttl rs r) r) rs
