-- Judge: the sections of replies with records of DNSSEC, by owner and type, computed by the checker.
use Rattle.std.specs.Prelude.{◌≡◌, true, List, [], ◌∷◌, ◌++◌, map, codes, refl}
use Rattle.dz_name.specs.Words.{Name, Kind, Octets}
use Rattle.dz_name.specs.Name.{wire_of, labels_in, upward}
use Rattle.dz_name.specs.Numbers.{two, four, number_of_four}
use Rattle.dz_name.specs.declared.dns.TheConstants.{TYPE_A, TYPE_AAAA, TYPE_DS, TYPE_NS, TYPE_NSEC, TYPE_RRSIG}
use Rattle.dz_name.specs.declared.dns.TheConstants.{TYPE_ANY, TYPE_CNAME, TYPE_DNAME, TYPE_SOA}
use Rattle.dz_record.specs.Record.{Record}
use Rattle.dz_record.specs.Records.{in_order, insertion}
use Rattle.dz_zone.specs.Version.{Zone}
use Rattle.dz_lookup.specs.Found.{found, topmost}
use Rattle.dz_lookup.specs.Chain.{chain_of, chain_from}
use Rattle.dz_secure.specs.Secure.{last_owner, proof}
use Rattle.dz_reply.specs.Layout.{entries, entry}
use Rattle.dz_reply.specs.Answer.{Sections, step_entries, entries_behind, trail_entries, own_entries, soa_entries}
use Rattle.dz_reply.specs.Answer.{addresses_of, glue_of, glue, at_end, of_ending, of_chain, sections_of}
use Rattle.dz_reply.specs.Secure.{own_signed, answer_set, gain, secure_step, secure_trail, gain_all, secure_of_ending}
use Rattle.dz_reply.specs.Secure.{sections_for}

-- `example.`
abbrev pub example : Name
example = codes "example" ∷ []

-- a name one label below `example.`
abbrev pub below : Octets → Name
below label = label ∷ example

-- a record by its owner, type and RDATA
abbrev pub rr : Name → Kind → Octets → Record
rr owner kind rdata = record { owner = owner; kind = kind; ttl = 3600; rdata = rdata }

-- an RRSIG, of which only the type that it covers matters
abbrev pub sig : Name → Kind → Record
sig owner kind = rr owner TYPE_RRSIG (two kind)

-- a signed zone
abbrev pub zone : Zone
zone = record {
  apex = example;
  records =
      rr example TYPE_SOA (wire_of (codes "ns" ∷ [])
      ++ (wire_of (codes "host" ∷ []) ++ (four 5 ++ (four 100 ++ (four 60 ++ (four 600 ++ four 30))))))
      ∷ rr example TYPE_NS (wire_of (codes "ns" ∷ []))
      ∷ sig example TYPE_SOA
      ∷ rr example TYPE_NSEC []
      ∷ sig example TYPE_NSEC
      ∷ rr (below (codes "www")) TYPE_A (192 ∷ 0 ∷ 2 ∷ 80 ∷ [])
      ∷ sig (below (codes "www")) TYPE_A
      ∷ rr (below (codes "www")) TYPE_NSEC []
      ∷ sig (below (codes "www")) TYPE_NSEC
      ∷ rr (below (codes "sub")) TYPE_NS (wire_of (codes "ns" ∷ codes "other" ∷ []))
      ∷ rr (below (codes "sub")) TYPE_DS []
      ∷ rr (below (codes "d")) TYPE_DNAME (wire_of (below (codes "www")))
      ∷ sig (below (codes "d")) TYPE_DNAME
      ∷ rr (below (codes "d")) TYPE_NSEC []
      ∷ sig (below (codes "d")) TYPE_NSEC
      ∷ rr (below (codes "plain")) TYPE_NS (wire_of (codes "ns" ∷ codes "other" ∷ []))
      ∷ rr (below (codes "plain")) TYPE_NSEC []
      ∷ sig (below (codes "plain")) TYPE_NSEC
      ∷ rr (codes "x" ∷ below (codes "empty")) TYPE_A (192 ∷ 0 ∷ 2 ∷ 81 ∷ [])
      ∷ [];
}

-- owners and types of records
abbrev pub shown : List Record → List (Name × Kind)
shown rs = map (λ r. (r.owner, r.kind)) rs

-- under this one name all that computes the sections
computed : Name → Kind → Sections
unfolding sections_for sections_of of_chain of_ending at_end chain_of chain_from found topmost upward in_order
    insertion labels_in wire_of two four number_of_four entries entry step_entries entries_behind trail_entries
    own_entries soa_entries addresses_of glue_of glue own_signed gain answer_set secure_step secure_trail gain_all
    secure_of_ending last_owner proof
computed name kind = sections_for true zone name kind

pub address : shown (sections_for true zone (below (codes "www")) TYPE_A).answer
    ≡ (below (codes "www"), TYPE_A) ∷ (below (codes "www"), TYPE_RRSIG) ∷ []
unfolding computed
address = refl

pub no_data : shown (sections_for true zone (below (codes "www")) TYPE_AAAA).authority
    ≡ (example, TYPE_SOA) ∷ (example, TYPE_RRSIG) ∷ (below (codes "www"), TYPE_NSEC)
    ∷ (below (codes "www"), TYPE_RRSIG) ∷ []
unfolding computed
no_data = refl

pub no_name : shown (sections_for true zone (below (codes "b")) TYPE_A).authority
    ≡ (example, TYPE_SOA) ∷ (example, TYPE_RRSIG) ∷ (example, TYPE_NSEC) ∷ (example, TYPE_RRSIG) ∷ []
unfolding computed
no_name = refl

pub referred : shown (sections_for true zone (codes "x" ∷ below (codes "sub")) TYPE_A).authority
    ≡ (below (codes "sub"), TYPE_NS) ∷ (below (codes "sub"), TYPE_DS) ∷ []
unfolding computed
referred = refl

pub digest : shown (sections_for true zone (below (codes "sub")) TYPE_DS).answer ≡ (below (codes "sub"), TYPE_DS) ∷ []
unfolding computed
digest = refl

pub digest_authoritative : (sections_for true zone (below (codes "sub")) TYPE_DS).authoritative ≡ true
unfolding computed
digest_authoritative = refl

-- a DNAME that gives the name another one has its signatures whatever is asked for
abbrev pub renamed_shown : List (Name × Kind)
renamed_shown = (below (codes "d"), TYPE_DNAME) ∷ (below (codes "d"), TYPE_RRSIG)
    ∷ (codes "x" ∷ below (codes "d"), TYPE_CNAME) ∷ []

pub renamed_for_all_types : shown (sections_for true zone (codes "x" ∷ below (codes "d")) TYPE_ANY).answer
    ≡ renamed_shown
unfolding computed
renamed_for_all_types = refl

pub renamed_for_signatures : shown (sections_for true zone (codes "x" ∷ below (codes "d")) TYPE_RRSIG).answer
    ≡ renamed_shown
unfolding computed
renamed_for_signatures = refl

-- the NSEC of a cut without a DS says that there is none
pub referred_unsigned : shown (sections_for true zone (codes "x" ∷ below (codes "plain")) TYPE_A).authority
    ≡ (below (codes "plain"), TYPE_NS) ∷ (below (codes "plain"), TYPE_NSEC) ∷ (below (codes "plain"), TYPE_RRSIG) ∷ []
unfolding computed
referred_unsigned = refl

-- no data at an empty non-terminal: the NSEC that covers it, which is that of the owner before it
pub no_data_at_empty : shown (sections_for true zone (below (codes "empty")) TYPE_A).authority
    ≡ (example, TYPE_SOA) ∷ (example, TYPE_RRSIG) ∷ (below (codes "d"), TYPE_NSEC) ∷ (below (codes "d"), TYPE_RRSIG) ∷ []
unfolding computed
no_data_at_empty = refl
