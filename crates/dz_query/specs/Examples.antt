-- Judge: what a listed address gets that asks for a zone, computed by the checker.
use Rattle.std.specs.Prelude.{◌≡◌, ℕ, true, ◌+◌, ◌-◌, ◌*◌, nat_le, List, [], ◌∷◌, flat_map, Some, None, if◌then◌else◌}
use Rattle.std.specs.Prelude.{refl, codes}
use Prim.Native.String.{String}
use Rattle.dz_name.specs.Words.{Name, Octets, Kind}
use Rattle.dz_name.specs.Name.{wire_of}
use Rattle.dz_name.specs.Numbers.{two, four}
use Rattle.dz_name.specs.declared.dns.TheConstants.{CLASS_IN, TYPE_A, TYPE_AXFR, TYPE_NS, TYPE_SOA}
use Rattle.dz_record.specs.Record.{Record}
use Rattle.dz_header.specs.Edns.{opt_octets}
use Rattle.dz_header.specs.Flags.{flags_number}
use Rattle.dz_header.specs.Header.{header_octets}
use Rattle.dz_request.specs.Frame.{bare_octets, head_octets}
use Rattle.dz_request.specs.declared.request.Asked.{Asked}
use Rattle.dz_message.specs.Frame.{stream}
use Rattle.dz_message.specs.Piece.{packed, size_of}
use Rattle.dz_message.specs.Writing.{question_octets, message_octets}
use Rattle.dz_zone.specs.Version.{Zone}
use Rattle.dz_history.specs.declared.entry.Entry.{Entry}
use Rattle.dz_query.specs.Sent.{is_for_zone, sent_of_name}
use Rattle.dz_query.specs.Served.{Served, sent_for, framed}

-- the number of a hexadecimal digit, whose letters are in lower case
abbrev digit : ℕ → ℕ
digit c = if nat_le 97 c then c - 87 else c - 48

-- an octet for each two digits
abbrev pairs : List ℕ → Octets
pairs [] = []
pairs (c ∷ []) = []
pairs (c ∷ d ∷ rest) = (digit c * 16 + digit d) ∷ pairs rest

-- octets in hex
abbrev hex : String → Octets
hex text = pairs (codes text)

-- the apex example.
abbrev example : Name
example = codes "example" ∷ []

-- a record with a TTL of an hour
abbrev rr : Name → Kind → Octets → Record
rr owner kind rdata = record { owner = owner; kind = kind; ttl = 3600; rdata = rdata }

-- SOA, NS and an address, in canonical order
abbrev zone : Zone
zone = record {
  apex = example;
  records =
      rr example TYPE_NS (hex "026e7307696e76616c696400")
      ∷ rr example TYPE_SOA
      (hex "026e7307696e76616c69640004686f737407696e76616c69640000000005000000640000003c000002580000001e")
      ∷ rr (codes "www" ∷ example) TYPE_A (hex "c0000250") ∷ [];
}

-- a request for a zone, with ID 90 in hex
abbrev asked : Asked
asked = record {
  header = record { id = 144; flags = 0; counts = 1 ∷ 0 ∷ 0 ∷ 0 ∷ [] };
  question = record { name = example; kind = TYPE_AXFR; class = CLASS_IN };
  size = 13;
  edns = None;
}

-- the octets of that request
abbrev octets : Octets
octets = hex "009000000001000000000000076578616d706c650000fc0001"

pub is_one : is_for_zone asked ≡ true
is_one = refl

-- one message: SOA, NS, A and SOA
pub a_whole_zone : stream (sent_of_name octets asked (Some (Some zone))) ≡
    hex
    "00d5009084000001000400000000076578616d706c650000fc0001076578616d706c65000006000100000e10002e026e7307696e76616c69640004686f737407696e76616c69640000000005000000640000003c000002580000001e076578616d706c65000002000100000e10000c026e7307696e76616c69640003777777076578616d706c65000001000100000e100004c0000250076578616d706c65000006000100000e10002e026e7307696e76616c69640004686f737407696e76616c69640000000005000000640000003c000002580000001e"
unfolding wire_of packed size_of question_octets message_octets header_octets two four
a_whole_zone = refl

-- NOTAUTH for a name that isn't a member, SERVFAIL for a member that isn't live
pub no_member : stream (sent_of_name octets asked None) ≡ hex "0019009080090001000000000000076578616d706c650000fc0001"
unfolding bare_octets head_octets header_octets opt_octets flags_number two
no_member = refl

pub not_live : stream (sent_of_name octets asked (Some None))
    ≡ hex "0019009080020001000000000000076578616d706c650000fc0001"
unfolding bare_octets head_octets header_octets opt_octets flags_number two
not_live = refl

-- where no address is listed, each request gets what is due
pub none_listed : (list : List Entry) (served : List Served)
    → framed [] list served ≡ stream (flat_map (sent_for list true) served)
none_listed list served = refl
