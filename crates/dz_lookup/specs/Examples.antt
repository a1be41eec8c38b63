-- Judge: what is found in the zone of RFC 4592 section 2.2.1 and in others, computed by the checker.
use Rattle.std.specs.Prelude.{◌≡◌, refl, List, [], ◌∷◌, codes}
use Rattle.dz_name.specs.Words.{Name, Kind, Octets}
use Rattle.dz_name.specs.Name.{upward, wire_of, labels_in}
use Rattle.dz_name.specs.declared.dns.TheConstants.{TYPE_A, TYPE_ANY, TYPE_CNAME, TYPE_DNAME, TYPE_DS, TYPE_MX}
use Rattle.dz_name.specs.declared.dns.TheConstants.{TYPE_NS, TYPE_SOA, TYPE_SRV, TYPE_TXT}
use Rattle.dz_record.specs.Record.{Record}
use Rattle.dz_record.specs.Records.{insertion, in_order}
use Rattle.dz_lookup.specs.Found.{here, no_data, no_name, referral, rename, found, topmost}
use Rattle.dz_lookup.specs.Chain.{chain_of, chain_from, ended, stopped, too_long}

-- a record whose RDATA doesn't matter
abbrev record_of : Kind → Name → Record
record_of kind owner = record { owner = owner; kind = kind; ttl = 3600; rdata = [] }

-- a CNAME, whose RDATA is the wire form of its target
abbrev cname : Name → Name → Record
cname owner target = record { owner = owner; kind = TYPE_CNAME; ttl = 3600; rdata = wire_of target }

-- `example.`
abbrev example : Name
example = codes "example" ∷ []

-- a name one label below `example.`
abbrev below : Octets → Name
below label = label ∷ example

-- the zone of RFC 4592 section 2.2.1
abbrev zone : List Record
zone =
    record_of TYPE_SOA example
    ∷ record_of TYPE_NS example
    ∷ record_of TYPE_TXT (below (codes "*"))
    ∷ record_of TYPE_MX (below (codes "*"))
    ∷ record_of TYPE_TXT (codes "sub" ∷ below (codes "*"))
    ∷ record_of TYPE_A (below (codes "host1"))
    ∷ record_of TYPE_SRV (codes "_ssh" ∷ codes "_tcp" ∷ below (codes "host1"))
    ∷ record_of TYPE_SRV (codes "_ssh" ∷ codes "_tcp" ∷ below (codes "host2"))
    ∷ record_of TYPE_NS (below (codes "subdel"))
    ∷ []

-- the responses that are synthesized from a wildcard
pub host3_mx : found example zone (below (codes "host3")) TYPE_MX ≡ here (record_of TYPE_MX (below (codes "*")) ∷ [])
unfolding found upward topmost in_order insertion
host3_mx = refl

pub host3_a : found example zone (below (codes "host3")) TYPE_A ≡ no_data
unfolding found upward topmost in_order insertion
host3_a = refl

pub foo_bar_txt : found example zone (codes "foo" ∷ below (codes "bar")) TYPE_TXT
    ≡ here (record_of TYPE_TXT (below (codes "*")) ∷ [])
unfolding found upward topmost in_order insertion
foo_bar_txt = refl

-- the responses that are not: host1 exists, sub.*.example exists, _tcp.host1 and host2 exist below which names own
-- records, and subdel is a zone cut
pub host1_mx : found example zone (below (codes "host1")) TYPE_MX ≡ no_data
unfolding found upward topmost in_order insertion
host1_mx = refl

pub sub_wildcard_mx : found example zone (codes "sub" ∷ below (codes "*")) TYPE_MX ≡ no_data
unfolding found upward topmost in_order insertion
sub_wildcard_mx = refl

pub telnet_srv : found example zone (codes "_telnet" ∷ codes "_tcp" ∷ below (codes "host1")) TYPE_SRV ≡ no_name
unfolding found upward topmost in_order insertion
telnet_srv = refl

pub host_subdel_a : found example zone (codes "host" ∷ below (codes "subdel")) TYPE_A
    ≡ referral (record_of TYPE_NS (below (codes "subdel")) ∷ [])
unfolding found upward topmost in_order insertion
host_subdel_a = refl

pub subdel_ds : found example zone (below (codes "subdel")) TYPE_DS ≡ no_data
unfolding found upward topmost in_order insertion
subdel_ds = refl

pub host_subdel_ds : found example zone (codes "host" ∷ below (codes "subdel")) TYPE_DS
    ≡ referral (record_of TYPE_NS (below (codes "subdel")) ∷ [])
unfolding found upward topmost in_order insertion
host_subdel_ds = refl

pub ghost_wildcard_mx : found example zone (codes "ghost" ∷ below (codes "*")) TYPE_MX ≡ no_name
unfolding found upward topmost in_order insertion
ghost_wildcard_mx = refl

-- a name that exists only because names below it own records shadows the wildcard, and has no data, ANY included
pub host2_any : found example zone (below (codes "host2")) TYPE_ANY ≡ no_data
unfolding found upward topmost in_order insertion
host2_any = refl

-- ANY at a name gives its records by ascending type
pub wildcard_any : found example zone (below (codes "host3")) TYPE_ANY
    ≡ here (record_of TYPE_MX (below (codes "*")) ∷ record_of TYPE_TXT (below (codes "*")) ∷ [])
unfolding found upward topmost in_order insertion
wildcard_any = refl

-- a zone with two cuts above a name: the one nearest the apex counts, and what is below it is no answer
abbrev cuts : List Record
cuts =
    record_of TYPE_SOA example
    ∷ record_of TYPE_NS (below (codes "a"))
    ∷ record_of TYPE_NS (codes "b" ∷ below (codes "a"))
    ∷ record_of TYPE_A (codes "ns" ∷ codes "b" ∷ below (codes "a"))
    ∷ []

pub nearest_cut : found example cuts (codes "ns" ∷ codes "b" ∷ below (codes "a")) TYPE_A
    ≡ referral (record_of TYPE_NS (below (codes "a")) ∷ [])
unfolding found upward topmost in_order insertion
nearest_cut = refl

-- a zone with aliases: a wildcard's CNAME is noted with the asked name, and its target is looked up next
abbrev aliases : List Record
aliases =
    record_of TYPE_SOA example
    ∷ cname (codes "*" ∷ below (codes "w")) (below (codes "nope"))
    ∷ cname (below (codes "a")) (below (codes "b"))
    ∷ cname (below (codes "b")) (below (codes "a"))
    ∷ cname (below (codes "out")) (codes "org" ∷ [])
    ∷ []

pub wildcard_alias : chain_of example aliases (codes "q" ∷ below (codes "w")) TYPE_A
    ≡ record {
      trail = (codes "q" ∷ below (codes "w"), cname (codes "*" ∷ below (codes "w")) (below (codes "nope")))
          ∷ [];
      ending = ended no_name (below (codes "nope"));
    }
unfolding chain_of chain_from found upward topmost in_order insertion wire_of labels_in
wildcard_alias = refl

-- a chain stops at a name that was looked up, and at one outside the zone
pub circle : chain_of example aliases (below (codes "a")) TYPE_A
    ≡ record {
      trail = (below (codes "a"), cname (below (codes "a")) (below (codes "b")))
          ∷ (below (codes "b"), cname (below (codes "b")) (below (codes "a"))) ∷ [];
      ending = stopped;
    }
unfolding chain_of chain_from found upward topmost in_order insertion wire_of labels_in
circle = refl

pub leads_out : chain_of example aliases (below (codes "out")) TYPE_A
    ≡ record { trail = (below (codes "out"), cname (below (codes "out")) (codes "org" ∷ [])) ∷ []; ending = stopped }
unfolding chain_of chain_from found upward topmost in_order insertion wire_of labels_in
leads_out = refl

-- a DNAME, whose RDATA is the wire form of its target
abbrev dname : Name → Name → Record
dname owner target = record { owner = owner; kind = TYPE_DNAME; ttl = 3600; rdata = wire_of target }

-- a zone with DNAMEs: each gives the names below it other names, but not its owner, and of two the one nearest the
-- apex counts
abbrev renamers : List Record
renamers =
    record_of TYPE_SOA example
    ∷ dname (below (codes "d")) (below (codes "t"))
    ∷ dname (codes "e" ∷ below (codes "d")) example
    ∷ record_of TYPE_NS (codes "c" ∷ below (codes "d"))
    ∷ record_of TYPE_A (codes "w" ∷ below (codes "t"))
    ∷ record_of TYPE_NS (below (codes "u"))
    ∷ dname (codes "f" ∷ below (codes "u")) example
    ∷ []

pub renamed_below : found example renamers (codes "w" ∷ below (codes "d")) TYPE_A
    ≡ rename (dname (below (codes "d")) (below (codes "t")))
unfolding found upward topmost in_order insertion wire_of
renamed_below = refl

pub renamer_itself : found example renamers (below (codes "d")) TYPE_A ≡ no_data
unfolding found upward topmost in_order insertion wire_of
renamer_itself = refl

pub nearest_renamer : found example renamers (codes "x" ∷ codes "e" ∷ below (codes "d")) TYPE_A
    ≡ rename (dname (below (codes "d")) (below (codes "t")))
unfolding found upward topmost in_order insertion wire_of
nearest_renamer = refl

pub cut_below_renamer : found example renamers (codes "c" ∷ below (codes "d")) TYPE_A
    ≡ rename (dname (below (codes "d")) (below (codes "t")))
unfolding found upward topmost in_order insertion wire_of
cut_below_renamer = refl

pub renamer_below_cut : found example renamers (codes "x" ∷ codes "f" ∷ below (codes "u")) TYPE_A
    ≡ referral (record_of TYPE_NS (below (codes "u")) ∷ [])
unfolding found upward topmost in_order insertion wire_of
renamer_below_cut = refl

-- the new name is looked up next, but not where the question is for CNAME
pub renamed_chain : chain_of example renamers (codes "w" ∷ below (codes "d")) TYPE_A
    ≡ record {
      trail = (codes "w" ∷ below (codes "d"), dname (below (codes "d")) (below (codes "t"))) ∷ [];
      ending = ended (here (record_of TYPE_A (codes "w" ∷ below (codes "t")) ∷ [])) (codes "w" ∷ below (codes "t"));
    }
unfolding chain_of chain_from found upward topmost in_order insertion wire_of labels_in
renamed_chain = refl

pub answered_by_renaming : chain_of example renamers (codes "w" ∷ below (codes "d")) TYPE_CNAME
    ≡ record {
      trail = (codes "w" ∷ below (codes "d"), dname (below (codes "d")) (below (codes "t"))) ∷ [];
      ending = stopped;
    }
unfolding chain_of chain_from found upward topmost in_order insertion wire_of labels_in
answered_by_renaming = refl

pub renamed_for_all_types : chain_of example renamers (codes "w" ∷ below (codes "d")) TYPE_ANY
    ≡ record {
      trail = (codes "w" ∷ below (codes "d"), dname (below (codes "d")) (below (codes "t"))) ∷ [];
      ending = stopped;
    }
unfolding chain_of chain_from found upward topmost in_order insertion wire_of labels_in
renamed_for_all_types = refl

-- a zone with DNAMEs whose new names aren't looked up: outside the zone, as with the root as the target, or looked up
-- before
abbrev leaving : List Record
leaving =
    record_of TYPE_SOA example
    ∷ dname (below (codes "d")) []
    ∷ dname (below (codes "e")) (below (codes "e"))
    ∷ []

pub renamed_to_the_root : chain_of example leaving (codes "w" ∷ below (codes "d")) TYPE_A
    ≡ record { trail = (codes "w" ∷ below (codes "d"), dname (below (codes "d")) []) ∷ []; ending = stopped }
unfolding chain_of chain_from found upward topmost in_order insertion wire_of labels_in
renamed_to_the_root = refl

pub renamed_to_itself : chain_of example leaving (codes "w" ∷ below (codes "e")) TYPE_A
    ≡ record {
      trail = (codes "w" ∷ below (codes "e"), dname (below (codes "e")) (below (codes "e"))) ∷ [];
      ending = stopped;
    }
unfolding chain_of chain_from found upward topmost in_order insertion wire_of labels_in
renamed_to_itself = refl

-- a DNAME of the apex renames all names below it
pub renamed_by_the_apex : found example (record_of TYPE_SOA example ∷ dname example (codes "org" ∷ []) ∷ [])
    (below (codes "w")) TYPE_A ≡ rename (dname example (codes "org" ∷ []))
unfolding found upward topmost in_order insertion wire_of
renamed_by_the_apex = refl

-- a label of 63 octets: a name that would have more than 255 octets ends the chain
abbrev long : Octets
long = codes "aaaaaaaaaaaaaaaaaaaaaaaaaaaaaaaaaaaaaaaaaaaaaaaaaaaaaaaaaaaaaaa"

-- a DNAME with a target that leaves no room for another such label
abbrev far : Record
far = dname (below (codes "d")) (long ∷ long ∷ long ∷ example)

pub name_too_long : chain_of example (far ∷ []) (long ∷ below (codes "d")) TYPE_A
    ≡ record { trail = []; ending = too_long far }
unfolding chain_of chain_from found upward topmost in_order insertion wire_of labels_in
name_too_long = refl
