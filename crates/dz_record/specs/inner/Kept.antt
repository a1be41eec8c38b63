-- Inner: how a record is kept, as its octets, the length of its owner's wire form, and its type.
use Rattle.std.specs.Prelude.{◌≡◌, ℕ, ◌+◌, length, drop, ◌++◌}
use Rattle.dz_name.specs.Name.{wire_of, labels_in}
use Rattle.dz_name.specs.Numbers.{two, four, number_of_four}
use Rattle.dz_record.specs.Record.{Record, IsRecord, record_octets}
use Rattle.dz_name.specs.Words.{Octets, Kind}
use Rattle.dz_name.specs.declared.dns.TheConstants.{CLASS_IN}

-- the record that is read from its octets: the owner name at the beginning, TTL and RDATA after it
abbrev pub record_in : Octets → ℕ → Kind → Record
record_in octets owner_len kind = record {
  owner = labels_in owner_len octets;
  kind = kind;
  ttl = number_of_four (drop (owner_len + 4) octets);
  rdata = drop (owner_len + 10) octets;
}

-- these are the octets of a record, with this length of the owner name and this type
pub record IsKept (octets : Octets) (owner_len kind : ℕ) : Type 0 where
  pub is : IsRecord (record_in octets owner_len kind)
  pub octets_are : octets ≡ record_octets (record_in octets owner_len kind)
  pub owner_len_is : owner_len ≡ length (wire_of (labels_in owner_len octets))

-- the octets of a record with these fields, given the wire form of the owner name
abbrev pub octets_of : Octets → Kind → ℕ → Octets → Octets
octets_of owner kind ttl rdata = owner ++ (two kind ++ (two CLASS_IN ++ (four ttl ++ (two (length rdata) ++ rdata))))
