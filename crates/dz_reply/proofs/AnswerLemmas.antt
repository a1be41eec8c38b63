-- The octets of a chain's records, piece by piece.
use Rattle.std.proofs.Common.{◌≡◌, ℕ, ◌+◌, ◌%◌, ◌/◌, List, [], ◌∷◌, ◌++◌, length, refl, sym, ◌∙◌, ap, arith}
use Rattle.std.proofs.Common.{append_assoc, Some, None, Bool, false}
use Rattle.std.specs.Prelude.{slice_get}
use Rattle.std.proofs.lemmas.Grind.{flat_map-append}
use Rattle.std.proofs.lemmas.List.{length-map, append-nil}
use Rattle.dz_name.specs.Numbers.{two}
use Rattle.dz_record.specs.Record.{Record}
use Rattle.dz_zone.specs.Version.{Zone, apex_soa}
use Rattle.dz_lookup.specs.Found.{Found}
use Rattle.dz_lookup.specs.Chain.{Trail, ended, stopped, too_long, chain_of}
use Rattle.dz_header.specs.Edns.{opt_count, opt_octets}
use Rattle.dz_header.specs.Header.{header_octets}
use Rattle.dz_request.specs.Frame.{Query, limit_of, head_octets, within_limit, bare_octets}
use Rattle.dz_reply.specs.Layout.{entry_octets, entries_octets}
use Rattle.dz_reply.specs.Layout.{entries, entry}
use Rattle.dz_header.specs.Writing.{writing_of}
use Rattle.dz_reply.specs.Answer.{Sections, bare, whole_octets, octets_of, negative_ttl, own_entries, soa_under}
use Rattle.dz_reply.specs.Answer.{soa_entries, only_trail, with_renamer, at_end, of_ending, of_chain, sections_of}
use Rattle.dz_header.specs.Writing.{Writing, also, empty}
use Rattle.dz_header.proofs.WriterLemmas.{also_append, also_nil}

pub all_append : (q : List (List ℕ)) (a b : List Record)
    → entries_octets q (a ++ b) ≡ entries_octets q a ++ entries_octets q b
unfolding entries_octets
all_append q a b = flat_map-append (entry_octets q) a b

pub both_written : (q : List (List ℕ)) (a b : List Record) (w w1 w2 : Writing) → w1 ≡ also w (entries_octets q a)
    → w2 ≡ also w1 (entries_octets q b) → w2 ≡ also w (entries_octets q (a ++ b))
both_written q a b w w1 w2 e f = f ∙ ap (λ x. also x (entries_octets q b)) e
    ∙ sym (also_append w (entries_octets q a) (entries_octets q b)) ∙ ap (λ x. also w x) (sym (all_append q a b))

pub none_written : (q : List (List ℕ)) (w : Writing) → w ≡ also w (entries_octets q [])
unfolding entries_octets
none_written q w = sym (also_nil w)

pub one_written : (q : List (List ℕ)) (r : Record) (w w1 : Writing) → w1 ≡ also w (entry_octets q r)
    → w1 ≡ also w (entries_octets q (r ∷ []))
unfolding entries_octets
one_written q r w w1 e = e ∙ ap (λ x. also w x) (sym (append-nil (entry_octets q r)))

pub length-entries : (name : List (List ℕ)) (rs : List Record) → length (entries name rs) ≡ length rs
unfolding entries
length-entries name rs = length-map rs _

pub entries_none : (name : List (List ℕ)) → entries name [] ≡ []
unfolding entries
entries_none name = refl

-- the SOA
pub soa_written : (q : List (List ℕ)) (zone : Zone) (soa : Record) (w w1 : Writing)
    → Some soa ≡ apex_soa zone → w1 ≡ also w (entry_octets q (entry zone.apex (negative_ttl soa) soa))
    → w1 ≡ also w (entries_octets q (soa_entries zone))
unfolding soa_entries
soa_written q zone soa w w1 is e = one_written q (entry zone.apex (negative_ttl soa) soa) w w1 e
    ∙ ap (λ o. also w (entries_octets q (soa_under zone.apex o))) is

pub length-soa_entries : (zone : Zone) (soa : Record) → Some soa ≡ apex_soa zone → length (soa_entries zone) ≡ 1
unfolding soa_entries
length-soa_entries zone soa is = ap (λ o. length (soa_under zone.apex o)) (sym is)

-- an RRset under its owner
pub own_some : (rs : List Record) (r : Record) → Some r ≡ slice_get rs 0 → entries r.owner rs ≡ own_entries rs
unfolding own_entries
own_some [] r e = absurd (cc)
own_some (x ∷ xs) r e = let f : r ≡ x = cc in ap (λ y. entries y.owner (x ∷ xs)) f

pub own_none : (rs : List Record) → None ≡ slice_get rs 0 → own_entries rs ≡ []
unfolding own_entries
own_none [] e = refl
own_none (x ∷ xs) e = absurd (cc)

pub length-own_entries : (rs : List Record) → length (own_entries rs) ≡ length rs
unfolding own_entries
length-own_entries [] = refl
length-own_entries (r ∷ rs) = length-entries r.owner (r ∷ rs)

-- the header of many records
two_low : (n o : ℕ) → two (n % 65536 + o) ≡ two (n + o)
unfolding two
two_low n o =
    let high : (n % 65536 + o) / 256 % 256 ≡ (n + o) / 256 % 256 = omega arith in
    let low : (n % 65536 + o) % 256 ≡ (n + o) % 256 = omega arith in
    cc

pub head_low : (query : Query) (code : ℕ) (aa tc : Bool) (a b n o : ℕ)
    → head_octets query code aa tc a b (n % 65536 + o) ≡ head_octets query code aa tc a b (n + o)
unfolding head_octets header_octets
head_low query code aa tc a b n o = rw (two_low n o) refl

-- a reply without its OPT record
abbrev pub front_octets : Query → Sections → List ℕ
front_octets query s =
    head_octets query s.code s.authoritative false (length s.answer) (length s.authority)
    (length s.additional + opt_count query.edns)
    ++ (entries_octets query.name s.answer
    ++ (entries_octets query.name s.authority ++ entries_octets query.name s.additional))

-- a reply that is laid out section by section
pub laid : (tcp : Bool) (query : Query) (s : Sections) (a b c : ℕ) (w0 w1 w2 w3 : Writing) → a ≡ length s.answer
    → b ≡ length s.authority → c ≡ length s.additional
    → w0 ≡ also (empty (limit_of tcp query.edns))
    (head_octets query s.code s.authoritative false a b (c + opt_count query.edns))
    → w1 ≡ also w0 (entries_octets query.name s.answer) → w2 ≡ also w1 (entries_octets query.name s.authority)
    → w3 ≡ also w2 (entries_octets query.name s.additional)
    → w3 ≡ also (empty (limit_of tcp query.edns)) (front_octets query s)
laid tcp query s a b c w0 w1 w2 w3 ea eb ec e0 e1 e2 e3 =
    let f0 = rw (ea, eb, ec) at e0 in
    let limit : ℕ = limit_of tcp query.edns in
    let head : List ℕ = head_octets query s.code s.authoritative false (length s.answer) (length s.authority)
    (length s.additional + opt_count query.edns) in
    let x : List ℕ = entries_octets query.name s.answer in
    let y : List ℕ = entries_octets query.name s.authority in
    let z : List ℕ = entries_octets query.name s.additional in
    let steps : w3 ≡ also (also (also (also (empty limit) head) x) y) z =
    e3 ∙ ap (λ w. also w z) (e2 ∙ ap (λ w. also w y) (e1 ∙ ap (λ w. also w x) f0)) in
    let joins : also (empty limit) (head ++ (x ++ (y ++ z))) ≡ also (also (also (also (empty limit) head) x) y) z =
    also_append (empty limit) head (x ++ (y ++ z)) ∙ also_append (also (empty limit) head) x (y ++ z)
    ∙ also_append (also (also (empty limit) head) x) y z in
    steps ∙ sym joins

whole_is : (query : Query) (s : Sections) → front_octets query s ++ opt_octets s.code query.edns ≡ whole_octets query s
unfolding whole_octets
whole_is query s =
    let head : List ℕ = head_octets query s.code s.authoritative false (length s.answer) (length s.authority)
    (length s.additional + opt_count query.edns) in
    let x : List ℕ = entries_octets query.name s.answer in
    let y : List ℕ = entries_octets query.name s.authority in
    let z : List ℕ = entries_octets query.name s.additional in
    let opt : List ℕ = opt_octets s.code query.edns in
    append_assoc head (x ++ (y ++ z)) opt
    ∙ ap (λ xs. head ++ xs) (append_assoc x (y ++ z) opt ∙ ap (λ xs. x ++ xs) (append_assoc y z opt))

-- a reply that was ended says what was laid out
pub ended_so : (tcp : Bool) (query : Query) (s : Sections) (w : Writing)
    → w ≡ writing_of (limit_of tcp query.edns)
    (within_limit tcp query s.code s.authoritative (front_octets query s ++ opt_octets s.code query.edns))
    → w ≡ writing_of (limit_of tcp query.edns) (octets_of tcp query s)
unfolding octets_of
ended_so tcp query s w is =
    is ∙ ap (λ octets. writing_of (limit_of tcp query.edns) (within_limit tcp query s.code s.authoritative octets))
    (whole_is query s)

-- a reply without records
pub bare_so : (tcp : Bool) (query : Query) (code : ℕ) (w : Writing)
    → w ≡ writing_of (limit_of tcp query.edns) (within_limit tcp query code false (bare_octets query code))
    → w ≡ writing_of (limit_of tcp query.edns) (octets_of tcp query (bare code))
unfolding octets_of whole_octets bare_octets entries_octets
bare_so tcp query code w is =
    let zero : 0 + opt_count query.edns ≡ opt_count query.edns = omega arith in
    is ∙ ap (λ n. writing_of (limit_of tcp query.edns) (within_limit tcp query code false
    (head_octets query code false false 0 0 n ++ opt_octets code query.edns))) (sym zero)

-- what a chain ends with decides the sections
pub zone_stopped : (zone : Zone) (name : List (List ℕ)) (kind : ℕ) (chain : Trail) → chain
    ≡ (chain_of zone.apex zone.records name kind).trail → stopped ≡ (chain_of zone.apex zone.records name kind).ending
    → only_trail chain ≡ sections_of zone name kind
unfolding sections_of of_chain of_ending
zone_stopped zone name kind chain e f = ap (λ a. of_ending zone a stopped) e
    ∙ ap (λ x. of_ending zone (chain_of zone.apex zone.records name kind).trail x) f

pub zone_too_long : (zone : Zone) (name : List (List ℕ)) (kind : ℕ) (chain : Trail) (r : Record)
    → chain ≡ (chain_of zone.apex zone.records name kind).trail
    → too_long r ≡ (chain_of zone.apex zone.records name kind).ending
    → with_renamer chain r ≡ sections_of zone name kind
unfolding sections_of of_chain of_ending
zone_too_long zone name kind chain r e f = ap (λ a. of_ending zone a (too_long r)) e
    ∙ ap (λ x. of_ending zone (chain_of zone.apex zone.records name kind).trail x) f

pub zone_ended : (zone : Zone) (name : List (List ℕ)) (kind : ℕ) (chain : Trail) (found : Found) (last : List (List ℕ))
    → chain ≡ (chain_of zone.apex zone.records name kind).trail
    → ended found last ≡ (chain_of zone.apex zone.records name kind).ending
    → at_end zone chain found last ≡ sections_of zone name kind
unfolding sections_of of_chain of_ending
zone_ended zone name kind chain found last e f = ap (λ a. of_ending zone a (ended found last)) e
    ∙ ap (λ x. of_ending zone (chain_of zone.apex zone.records name kind).trail x) f
